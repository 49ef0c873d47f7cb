use Rattle.std.proofs.Common.{◌≡◌, arith, length, subst, sym}
use Rattle.std.proofs.lemmas.List.{length-map}
use Rattle.units.specs.Classes.{classes_of}
use Rattle.lines.specs.LineEnds.{AreParagraphEnds}
use Rattle.lines.proofs.ParagraphSearch.{IsSearched, ends_rise, found, line_crosses, line_of_paragraph}
use Rattle.lines.proofs.alone.paragraph_of_line.Goals as goal

pub count_up_to-paragraph-requires : goal.count_up_to-paragraph-requires
count_up_to-paragraph-requires g c =
    ends_rise (classes_of c.args.text.now) c.args.ends.now (length c.args.text.now) c.requires

pub returns-then-ends-paragraph-clause-line : goal.returns-then-ends-paragraph-clause-line
returns-then-ends-paragraph-clause-line g c =
    let own = classes_of c.args.text.now in
    let ends = c.args.ends.now in
    let count = c.count_up_to-paragraph in
    let len : length own ≡ length c.args.text.now = length-map c.args.text.now (λ u. u.class) in
    let f : IsSearched own ends c.args.start count.result =
    found own ends c.args.start count.result (subst (AreParagraphEnds own ends) (sym len) c.requires)
    (omega arith) count.ensures.bound count.ensures.below count.ensures.above in (
      omega arith,
      omega arith,
      line_crosses c.args.text.now ends c.args.start c.args.end count.result f (omega arith)
          (omega arith),
    )

pub returns-clause-line : goal.returns-clause-line
returns-clause-line g c =
    let own = classes_of c.args.text.now in
    let ends = c.args.ends.now in
    let count = c.count_up_to-paragraph in
    let len : length own ≡ length c.args.text.now = length-map c.args.text.now (λ u. u.class) in
    let f : IsSearched own ends c.args.start count.result =
    found own ends c.args.start count.result (subst (AreParagraphEnds own ends) (sym len) c.requires)
    (omega arith) count.ensures.bound count.ensures.below count.ensures.above in
    line_of_paragraph c.args.text.now ends c.args.start c.args.end count.result f (omega arith) (omega arith)
