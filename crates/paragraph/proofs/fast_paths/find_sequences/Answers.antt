use Rattle.std.proofs.Common.{arith, sym, subst, ◌∙◌, List, length}
use Rattle.std.proofs.lemmas.Bool.{both_ways}
use Rattle.units.specs.Classes.{classes_of, is_removed}
use Rattle.units.specs.Isolates.{level_of_para}
use Rattle.units.specs.Runs.{SequenceView, leveled_of}
use Rattle.sequences.proofs.FilledFrom.{level_of_para-low}
use Rattle.paragraph.specs.Covering.{AreDisjoint, HavePositions}
use Rattle.paragraph.proofs.AllSequences.{sequences_are_apart, sequences_have_positions}
use Rattle.paragraph.proofs.FlatLevels.{flat_from, none_from, remaining_few}
use Rattle.paragraph.proofs.fast_paths.find_sequences.Goals as goal

pub fill_flat-requires-clause-flat : goal.fill_flat-requires-clause-flat
fill_flat-requires-clause-flat g c =
    flat_from (classes_of c.args.para.now) (sym (c.is_flat.ensures (classes_of c.args.para.now) c.requires.contents) ∙
    c.if-is_flat.true)

pub fill_flat-requires-clause-all_remain : goal.fill_flat-requires-clause-all_remain
fill_flat-requires-clause-all_remain g c = λ e.
    none_from is_removed (classes_of c.args.para.now)
    (sym (c.all_remain.ensures (classes_of c.args.para.now) c.requires.contents) ∙ e)

pub returns-then-is_flat-clause-levels : goal.returns-then-is_flat-clause-levels
returns-then-is_flat-clause-levels g c = λ deep.
    absurd (both_ways c.is_flat.result (c.is_flat.ensures (classes_of c.args.para.now) c.requires.contents ∙
    deep) c.if-is_flat.true)

pub returns-then-is_flat-clause-all : goal.returns-then-is_flat-clause-all
returns-then-is_flat-clause-all g c = c.fill_flat.ensures.all c.args.limits.depth

pub returns-then-is_flat-clause-at_most : goal.returns-then-is_flat-clause-at_most
returns-then-is_flat-clause-at_most g c = omega (arith, remaining_few c.args.para.now)

pub returns-clause-levels : goal.returns-clause-levels
returns-clause-levels g c = λ deep. c.explicit_levels.ensures.found

pub fill-requires-clause-levels : goal.fill-requires-clause-levels
fill-requires-clause-levels g c = record {
  depth = c.args.limits.depth;
  within = omega arith;
  found = c.explicit_levels.ensures.found;
}

pub returns-clause-all : goal.returns-clause-all
returns-clause-all g c = c.fill.ensures.all c.args.limits.depth c.explicit_levels.ensures.found

pub returns-then-is_flat-clause-if_flat : goal.returns-then-is_flat-clause-if_flat
returns-then-is_flat-clause-if_flat g c = λ flat. omega (arith, remaining_few c.args.para.now)

pub returns-then-is_flat-clause-apart : goal.returns-then-is_flat-clause-apart
returns-then-is_flat-clause-apart g c =
    let P : List SequenceView → Type 0 = λ all. AreDisjoint (length c.args.para.now) all in
    subst P (sym (c.fill_flat.ensures.all c.args.limits.depth))
    (sequences_are_apart c.args.limits.depth (omega arith) c.args.para.now (level_of_para c.args.level)
    (level_of_para-low c.args.level) c.requires.separators)

pub returns-clause-apart : goal.returns-clause-apart
returns-clause-apart g c =
    let P : List SequenceView → Type 0 = λ all. AreDisjoint (length c.args.para.now) all in
    subst P (sym (c.fill.ensures.all c.args.limits.depth c.explicit_levels.ensures.found))
    (sequences_are_apart c.args.limits.depth (omega arith) c.args.para.now (level_of_para c.args.level)
    (level_of_para-low c.args.level) c.requires.separators)

pub returns-then-is_flat-clause-some : goal.returns-then-is_flat-clause-some
returns-then-is_flat-clause-some g c =
    subst HavePositions (sym (c.fill_flat.ensures.all c.args.limits.depth))
    (sequences_have_positions (leveled_of c.args.limits.depth (classes_of c.args.para.now)
    (level_of_para c.args.level)))

pub returns-clause-some : goal.returns-clause-some
returns-clause-some g c =
    subst HavePositions (sym (c.fill.ensures.all c.args.limits.depth c.explicit_levels.ensures.found))
    (sequences_have_positions (leveled_of c.args.limits.depth (classes_of c.args.para.now)
    (level_of_para c.args.level)))
