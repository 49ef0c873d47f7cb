use Rattle.std.proofs.Common.{ap, sym, ◌∙◌, ◌≡◌, true}
use Rattle.std.proofs.lemmas.Bool.{both_ways}
use Rattle.units.specs.Classes.{classes_of}
use Rattle.explicit.specs.SideLevels.{level_under}
use Rattle.paragraph.proofs.FirstSides.{level_under-flat}
use Rattle.paragraph.proofs.FlatLevels.{flat_from}
use Rattle.paragraph.specs.Contents.{are_flat}
use Rattle.explicit.proofs.FlatParagraph.{para_level_of-flat}
use Rattle.paragraph.proofs.fast_paths.find_level.Goals as goal

pub returns-then-is_flat-clause-level : goal.returns-then-is_flat-clause-level
returns-then-is_flat-clause-level g c =
    let cs = classes_of c.args.para.now in
    let flat : are_flat cs ≡ true = sym (c.is_flat.ensures cs c.requires.contents) ∙ c.if-is_flat.true in
    c.level_under.ensures ∙ ap (level_under c.args.direction) (c.side.ensures cs c.requires.contents) ∙
    level_under-flat cs c.args.direction
    ∙ sym (para_level_of-flat cs c.args.direction (flat_from cs flat))

pub returns-then-is_flat-clause-isolates : goal.returns-then-is_flat-clause-isolates
returns-then-is_flat-clause-isolates g c = λ deep.
    absurd (both_ways c.is_flat.result (c.is_flat.ensures (classes_of c.args.para.now) c.requires.contents ∙
    deep) c.if-is_flat.true)

pub returns-clause-if_uniform : goal.returns-clause-if_uniform
returns-clause-if_uniform g c = λ flat.
    absurd (both_ways c.is_flat.result c.if-is_flat.false
    (c.is_flat.ensures (classes_of c.args.para.now) c.requires.contents ∙ flat))
