use Rattle.std.proofs.Common.{◌≡◌, ◌+◌, arith, ap, ◌∙◌}
use Rattle.explicit.specs.LevelsAlone.{with_level}
use Rattle.explicit.proofs.LevelsComputed.Alone.{alone-joined}
use Rattle.explicit.proofs.levels_alone.write_four.Goals as goal

pub returns : goal.returns
returns c =
    let end : c.args.p + 2 + 2 ≡ c.args.p + 4 = omega arith in
    alone-joined c.args.level c.args.p (c.args.p + 2) (c.args.p + 4) c.args.levels.now c.write_two.new.levels
    c.write_two-2.new.levels (omega arith) (omega arith) c.write_two.ensures
    (c.write_two-2.ensures ∙ ap (λ q. with_level c.args.level (c.args.p + 2) q c.write_two.new.levels) end)
