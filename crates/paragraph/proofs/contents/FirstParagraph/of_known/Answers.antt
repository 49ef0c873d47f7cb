use Rattle.std.proofs.Common.{arith, List, Option, length, subst, sym, take, ◌∙◌, IfSome}
use Rattle.std.proofs.lemmas.List.{take_all}
use Rattle.units.specs.declared.bracket.Unit.{Unit as BidiUnit}
use Rattle.units.specs.Classes.{classes_of}
use Rattle.paragraph.specs.ClassSets.{IsSetOf}
use Rattle.paragraph.specs.Contents.{Describes}
use Rattle.paragraph.specs.declared.class_set.ClassSet.{ClassSet}
use Rattle.paragraph.specs.declared.contents.Contents.{Contents}
use Rattle.paragraph.proofs.KnownSets.{one_paragraph}
use Rattle.paragraph.proofs.contents.FirstParagraph.of_known.Goals as goal

-- contents of a text, as those of all its units
of_all : (contents : Contents) (us : List BidiUnit) → Describes contents (classes_of us) →
    Describes contents (classes_of (take (length us) us))
of_all contents us is =
    subst (λ (seen : List BidiUnit). Describes contents (classes_of seen)) (sym (take_all (length us) us (omega arith)))
    is

pub returns-in-Some-clause-first : goal.returns-in-Some-clause-first
returns-in-Some-clause-first g c =
    let text = c.args.text.now in
    let P : Option ClassSet → Type 0 = λ o. IfSome o (λ set. IsSetOf set (classes_of text)) in
    let set : IsSetOf c.in-Some.set (classes_of text) = subst P c.in-Some.is c.requires.classes in
    record {
      length = sym (one_paragraph text (sym (c.has.ensures _ set) ∙ c.if-not-has.true));
      contents = of_all _ text (record { classes = set; side = c.side_known.ensures.side });
    }
