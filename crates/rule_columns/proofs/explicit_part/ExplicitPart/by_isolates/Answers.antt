use Rattle.std.proofs.Common.{arith, rules, ap, sym, ◌∙◌, ◌≡◌, subst, List, length, ℕ}
use Rattle.std.proofs.lemmas.List.{length-map, take_all}
use Rattle.units.specs.Classes.{classes_of}
use Rattle.units.specs.Explicit.{explicit_of}
use Rattle.units.specs.Isolates.{level_of_para}
use Rattle.units.specs.Limits.{LimitsOf, standard}
use Rattle.units.specs.Runs.{SequenceView, leveled_of, sequences_of}
use Rattle.units.specs.declared.bracket.Unit.{Unit as BidiUnit}
use Rattle.units.specs.declared.class.Class.{Class}
use Rattle.paragraph.specs.Covering.{AreDisjoint}
use Rattle.paragraph.proofs.AllSequences.{sequences_are_apart}
use Rattle.sequences.proofs.FilledFrom.{computed_front, level_of_para-low}
use Rattle.rule_columns.proofs.ExplicitParts.{explicit_from}
use Rattle.rule_columns.proofs.explicit_part.ExplicitPart.by_isolates.Goals as goal

pub fill-requires-clause-levels : goal.fill-requires-clause-levels
fill-requires-clause-levels g c = record {
  depth = c.standard-limits.result.depth;
  within = omega (arith, ap (λ (limits : LimitsOf). limits.depth) c.standard-limits.ensures);
  found = c.explicit_levels.ensures.found;
}

pub returns : goal.returns
returns g c =
    let us : List BidiUnit = c.args.para.now in
    let cs : List Class = classes_of us in
    let n : length cs ≡ length us = length-map us (λ (u : BidiUnit). u.class) in
    let para_level = level_of_para c.para_level-level.result in
    let depth : c.standard-limits.result.depth ≡ standard.depth =
    ap (λ (limits : LimitsOf). limits.depth) c.standard-limits.ensures in
    let all = c.fill.ensures.all c.standard-limits.result.depth c.explicit_levels.ensures.found in
    let long : length c.explicit_levels.new.out ≡ length us = search rules in
    let leveled : c.explicit_levels.new.out ≡ explicit_of c.standard-limits.result.depth cs para_level =
    sym (take_all (length cs) c.explicit_levels.new.out (omega arith))
    ∙ computed_front c.standard-limits.result.depth c.explicit_levels.new.out cs para_level
    c.explicit_levels.ensures.found in
    let P : List SequenceView → Type 0 = λ all. AreDisjoint (length us) all in
    record {
      value =
          explicit_from us c.args.direction para_level c.first_strong-first_strong.result c.explicit_levels.new.out
          c.fill.new.self.all
          c.para_level-level.ensures.level c.first_strong-first_strong.ensures
          (leveled ∙ ap (λ (d : ℕ). explicit_of d cs para_level) depth)
          (all ∙ ap (λ (d : ℕ). sequences_of (leveled_of d cs para_level)) depth);
      extent = c.fill.ensures.extent;
      apart = subst P (sym all) (sequences_are_apart c.standard-limits.result.depth (omega (arith, depth)) us para_level
          (level_of_para-low c.para_level-level.result) c.requires.separators);
      length = long;
    }
