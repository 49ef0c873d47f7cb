use Rattle.std.proofs.Common.{arith, rules, sym, subst, length, List, ℕ}
use Rattle.std.proofs.lemmas.Bool.{both_ways}
use Rattle.units.specs.Classes.{classes_of}
use Rattle.units.specs.Isolates.{level_of_para}
use Rattle.units.specs.Runs.{SequenceView, leveled_of}
use Rattle.paragraph.specs.Contents.{are_flat}
use Rattle.paragraph.specs.Covering.{AreDisjoint, HavePositions}
use Rattle.paragraph.proofs.AllSequences.{sequences_have_positions}
use Rattle.paragraph.proofs.FlatApart.{flat_is_apart}
use Rattle.paragraph.proofs.FlatLevels.{flat_from, levels_before, remaining_few}
use Rattle.paragraph.proofs.few.resolve_flat.Goals as goal

pub resolve_sequences-requires-clause-apart : goal.resolve_sequences-requires-clause-apart
resolve_sequences-requires-clause-apart g c =
    let P : List SequenceView → Type 0 = λ all. AreDisjoint (length c.args.para.now.units.now) all in
    subst P (sym (c.fill_flat.ensures.all c.args.para.now.limits.depth))
    (flat_is_apart c.args.para.now.limits.depth c.args.para.now.units.now (level_of_para c.args.level)
    (flat_from (classes_of c.args.para.now.units.now) c.requires.flat))

pub resolve_sequences-requires-clause-some : goal.resolve_sequences-requires-clause-some
resolve_sequences-requires-clause-some g c =
    let depth : ℕ = c.args.para.now.limits.depth in
    subst HavePositions (sym (c.fill_flat.ensures.all depth))
    (sequences_have_positions (leveled_of depth (classes_of c.args.para.now.units.now) (level_of_para c.args.level)))

pub returns-clause-levels : goal.returns-clause-levels
returns-clause-levels g c =
    levels_before c.args.para.now.limits c.args.para.now.units.now (level_of_para c.args.level) _
    (are_flat (classes_of c.args.para.now.units.now)) (flat_from (classes_of c.args.para.now.units.now))
    (λ deep. absurd (both_ways (are_flat (classes_of c.args.para.now.units.now)) deep c.requires.flat))
    c.fill_flat.new.self.all c.resolve_sequences.new.levels (c.fill_flat.ensures.all c.args.para.now.limits.depth)
    (search rules) c.resolve_sequences.ensures.levels

pub returns-clause-at_most : goal.returns-clause-at_most
returns-clause-at_most g c = omega (arith, remaining_few c.args.para.now.units.now)
