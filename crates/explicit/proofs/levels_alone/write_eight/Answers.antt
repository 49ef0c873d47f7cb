use Rattle.std.proofs.Common.{◌≡◌, ◌+◌, arith, ap, ◌∙◌}
use Rattle.explicit.specs.LevelsAlone.{with_level}
use Rattle.explicit.proofs.LevelsComputed.Alone.{alone-joined}
use Rattle.explicit.proofs.levels_alone.write_eight.Goals as goal

pub returns : goal.returns
returns c =
    let end : c.args.p + 4 + 4 ≡ c.args.p + 8 = omega arith in
    alone-joined c.args.level c.args.p (c.args.p + 4) (c.args.p + 8) c.args.levels.now c.write_four.new.levels
    c.write_four-2.new.levels (omega arith) (omega arith) c.write_four.ensures
    (c.write_four-2.ensures ∙ ap (λ q. with_level c.args.level (c.args.p + 4) q c.write_four.new.levels) end)
