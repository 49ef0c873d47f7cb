use Rattle.std.specs.Prelude.{◌+◌, List, length, take}
use Rattle.std.proofs.Common.{arith, ap, sym, ◌∙◌, subst}
use Rattle.std.proofs.lemmas.List.{with_items_is}
use Rattle.units.specs.declared.class.Class.{Class}
use Rattle.rule_columns.specs.Passes.{by_pass}
use Rattle.rule_columns.proofs.EachSequence.{IsRewritten, rewritten_next, rewritten_end}
use Rattle.rule_columns.proofs.rewriting.rewritten.Goals as goal

pub apply-requires : goal.apply-requires
apply-requires g c = ap length c.deref_mut.ensures.value ∙ c.loop-k.invariant.0 ∙ sym c.get.ensures.extent

pub loop-k-preserved : goal.loop-k-preserved
loop-k-preserved g c =
    let next : List Class = c.apply.new.classes in
    let whole = with_items_is c.loop-k.classes next (omega arith) in
    let Done : List Class → Type 0 =
    IsRewritten (by_pass c.args.pass) (take (c.loop-k.k + 1) c.args.sequences.now.all) c.args.before.now in
    let Before : List Class → Type 0 =
    IsRewritten (by_pass c.args.pass) (take c.loop-k.k c.args.sequences.now.all) c.args.before.now in
    let before = subst Before (sym c.deref_mut.ensures.value) c.loop-k.invariant.1 in
    let done = rewritten_next c.requires.apart c.get.ensures.value (omega arith)
    (by_pass c.args.pass) c.args.before.now c.deref_mut.result.now next before c.apply.ensures in (
      ap length whole ∙ omega (arith, ap length c.deref_mut.ensures.value, c.loop-k.invariant.0),
      subst Done (sym whole) done,
    )

pub returns-clause-classes : goal.returns-clause-classes
returns-clause-classes g c =
    rewritten_end (by_pass c.args.pass) c.args.sequences.now.all c.loop-k.k c.args.before.now c.loop-k.classes.items
    (omega arith) (c.loop-k.invariant.0 ∙ sym c.requires.length) c.loop-k.invariant.1

pub returns-clause-length : goal.returns-clause-length
returns-clause-length g c = c.loop-k.invariant.0
