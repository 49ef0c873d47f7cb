use Rattle.std.proofs.Common.{◌∷◌, [], length, arith, length-append, ap, ◌∙◌}
use Rattle.bidtests.specs.ClassesFile.{unit_of_class}
use Rattle.bidtests.proofs.NamesRead.{name_inside, name_then_end, name_then_space}
use Rattle.bidtests.proofs.names.read_names.Goals as goal

pub returns-then-line-end-eq59-clause-names : goal.returns-then-line-end-eq59-clause-names
returns-then-line-end-eq59-clause-names c =
    rw c.push_reserved.ensures.items
    (name_then_end c.args.line.now c.loop-class.at c.in-Some.field-0.length c.loop-class.text.items
    c.in-Some.field-0.class c.loop-class.invariant.within c.loop-class.invariant.names c.in-Some.ensures)

pub loop-class-preserved : goal.loop-class-preserved
loop-class-preserved c =
    let inside = name_inside c.args.line.now c.loop-class.at c.in-Some.field-0.length c.loop-class.text.items
    c.in-Some.field-0.class c.loop-class.invariant.within c.loop-class.invariant.names c.in-Some.ensures in
    record {
      within = omega (arith, inside);
      names = rw c.push_reserved.ensures.items
          (name_then_space c.args.line.now c.loop-class.at c.in-Some.field-0.length c.loop-class.text.items
          c.in-Some.field-0.class c.loop-class.invariant.within c.loop-class.invariant.names c.in-Some.ensures
          c.if-line-end-eq59.false);
      count = omega (
        arith,
        c.loop-class.invariant.count,
        c.in-Some.ensures.some,
        ap length c.push_reserved.ensures.items,
        length-append c.loop-class.text.items (unit_of_class c.in-Some.field-0.class ∷ []),
      );
      capacity = c.push_reserved.ensures.capacity ∙ c.loop-class.invariant.capacity;
    }
