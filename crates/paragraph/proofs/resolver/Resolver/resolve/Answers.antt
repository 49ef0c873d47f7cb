use Rattle.std.proofs.Common.{arith, ap, subst, ◌≡◌, ◌∙◌, ℕ, List, length, take}
use Rattle.std.proofs.lemmas.List.{take_all}
use Rattle.units.specs.Classes.{classes_of}
use Rattle.units.specs.declared.bracket.Unit.{Unit as BidiUnit}
use Rattle.paragraph.specs.Contents.{Describes}
use Rattle.paragraph.proofs.Scan.{first_of_one}
use Rattle.paragraph.proofs.resolver.Resolver.resolve.Goals as goal

pub resolve_known-requires-clause-contents : goal.resolve_known-requires-clause-contents
resolve_known-requires-clause-contents g c =
    let para : List BidiUnit = c.args.para.now in
    let all : c.of-first.result.length ≡ length para = c.of-first.ensures.first.length ∙
    first_of_one para c.requires.separators in
    let P : List BidiUnit → Type 0 = λ us. Describes c.of-first.result.contents (classes_of us) in
    subst P (ap (λ (n : ℕ). take n para) all ∙
    take_all (length para) para (omega arith)) c.of-first.ensures.first.contents

pub returns : goal.returns
returns g c =
    let all = c.of-first.ensures.first.length ∙ first_of_one c.args.para.now c.requires.separators in
    record {
      resolved = c.resolve_known.ensures.resolved;
      room = c.resolve_known.ensures.room;
      at_least = omega (arith, all);
      at_most = omega (arith, all);
      if_uniform = λ known. omega (arith, all, c.resolve_known.ensures.if_uniform known);
    }
