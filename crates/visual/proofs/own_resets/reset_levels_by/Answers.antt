use Rattle.std.proofs.Common.{◌-◌, ◌+◌, ◌≡◌, ◌<◌, ◌∙◌, ℕ, length, set, arith, ap, sym, subst}
use Rattle.visual.proofs.GivenResets.{IsResetFrom, reset_all, reset_one}
use Rattle.visual.proofs.own_resets.reset_levels_by.Goals as goal

pub loop-position-preserved : goal.loop-position-preserved
loop-position-preserved g c =
    let l = c.loop-position in
    let p : ℕ = l.position - 1 in
    let there : p + 1 ≡ l.position = omega arith in
    let inside : p < length c.args.items.now = omega (arith, c.requires.len, l.invariant.within) in
    record {
      callable = l.invariant.callable;
      within = omega (arith, l.invariant.within);
      so_far = λ classes by.
          let same : length classes ≡ length c.args.levels.now = by.len ∙ c.requires.len in
          let class = by.each p c.index-items-position.result c.class_of.result inside c.index-items-position.is
          c.class_of.ensures in
          reset_one classes c.args.para_level c.args.levels.now p l.reset c.resets_spaces_before-reset.result l.levels _
          same (omega (arith, l.invariant.within)) (rw (← class) c.resets_spaces_before-reset.ensures)
          (ap (set l.levels p) c.level_after.ensures)
          (subst (λ n. IsResetFrom classes c.args.para_level c.args.levels.now n l.reset l.levels) (sym there)
          (l.invariant.so_far classes by));
    }

pub returns : goal.returns
returns g c classes by = reset_all classes c.args.para_level c.args.levels.now c.loop-position.position
    c.loop-position.reset c.loop-position.levels (omega arith) (c.loop-position.invariant.so_far classes by)
