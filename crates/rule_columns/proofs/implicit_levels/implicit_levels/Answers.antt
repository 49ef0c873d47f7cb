use Rattle.std.specs.Prelude.{Option, ℕ, ◌+◌, List, length, take}
use Rattle.std.proofs.Common.{arith, ap, sym, ◌∙◌, subst}
use Rattle.std.proofs.lemmas.List.{with_items_is}
use Rattle.rule_columns.proofs.EachLevel.{AreRaised, raised_next, raised_end}
use Rattle.rule_columns.proofs.implicit_levels.implicit_levels.Goals as goal

pub loop-k-preserved : goal.loop-k-preserved
loop-k-preserved g c =
    let next : List (Option ℕ) = c.implicit.new.levels in
    let whole = with_items_is c.loop-k.levels next (omega arith) in
    let Before : List (Option ℕ) → Type 0 = AreRaised c.args.classes.now (take c.loop-k.k c.args.sequences.now.all) in
    let Done : List (Option ℕ) → Type 0 =
    AreRaised c.args.classes.now (take (c.loop-k.k + 1) c.args.sequences.now.all) in
    let before = subst Before (sym c.deref_mut.ensures.value) c.loop-k.invariant.1 in
    let done = raised_next c.requires.apart c.get.ensures.value (omega arith) c.args.classes.now c.deref_mut.result.now
    next before c.implicit.ensures.levels in (
      ap length whole ∙ omega (arith, ap length c.deref_mut.ensures.value, c.loop-k.invariant.0),
      subst Done (sym whole) done,
    )

pub returns-clause-levels : goal.returns-clause-levels
returns-clause-levels g c =
    raised_end c.args.sequences.now.all c.loop-k.k c.args.classes.now c.loop-k.levels.items (omega arith)
    (c.loop-k.invariant.0 ∙ sym c.requires.classes) c.loop-k.invariant.1

pub returns-clause-length : goal.returns-clause-length
returns-clause-length g c = c.loop-k.invariant.0
