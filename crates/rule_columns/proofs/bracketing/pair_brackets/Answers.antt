use Rattle.std.proofs.Common.{arith, rules, refl, subst, ◌≡◌, List, take}
use Rattle.units.specs.Classes.{class_at, classes_at, classes_of}
use Rattle.units.specs.Layout.{brackets_of}
use Rattle.units.specs.Limits.{LimitsOf, standard}
use Rattle.units.specs.declared.class.Class.{Class}
use Rattle.resolve.specs.Pairs.{HoldsPairsOf}
use Rattle.resolve.proofs.OwnClasses.{mark-own}
use Rattle.paragraph.proofs.Covering.{copied, is_in_all}
use Rattle.rule_columns.specs.Passes.{by_n0}
use Rattle.rule_columns.proofs.EachPair.{paired_next, paired_end}
use Rattle.rule_columns.proofs.EachSequence.{rewritten_next, rewritten_end, unchanged_outside}
use Rattle.rule_columns.proofs.bracketing.pair_brackets.Goals as goal

pub loop-k-init : goal.loop-k-init
loop-k-init g c = record { classes = λ p. refl; pairs = λ p. c.requires.fresh p; room = search rules }

pub paired-requires-clause-filled : goal.paired-requires-clause-filled
paired-requires-clause-filled g c = record {
  most_open = standard.brackets;
  units = c.args.para.now;
  enough = search rules;
  pairs = search rules;
  marks = λ p h.
      mark-own (class_at c.args.before.now p) (class_at (classes_of c.args.para.now) p)
      (c.requires.own p (is_in_all c.requires.apart c.get-s.ensures.value (omega arith) p h));
}

pub loop-k-preserved : goal.loop-k-preserved
loop-k-preserved g c = record {
  classes =
      rewritten_next c.requires.apart c.get-s.ensures.value (omega arith)
      (by_n0 c.args.para.now c.args.before.now) c.args.classes.now c.loop-k.classes c.paired.new.classes
      c.loop-k.invariant.classes
      (c.paired.ensures.classes standard.brackets c.args.para.now (search rules));
  pairs =
      let s = c.get-s.result in
      let us = c.args.para.now in
      let same : classes_at c.loop-k.classes s.positions ≡ classes_at c.args.classes.now s.positions =
      copied c.requires.apart c.get-s.ensures.value (omega arith) c.loop-k.classes c.args.classes.now
      (unchanged_outside (by_n0 us c.args.before.now) (take c.loop-k.k c.args.sequences.now.all) c.args.classes.now
      c.loop-k.classes c.loop-k.invariant.classes) in
      let P : List Class → Type 0 =
      λ cs. HoldsPairsOf standard.brackets s.positions (brackets_of s us cs) c.bracket_pairs.new.out in
      let Q : LimitsOf → Type 0 =
      λ limits. HoldsPairsOf limits.brackets s.positions
      (brackets_of s us (classes_at c.loop-k.classes s.positions)) c.bracket_pairs.new.out in
      paired_next us c.args.classes.now c.requires.apart c.get-s.ensures.value
      (omega arith) c.loop-k.pairs c.bracket_pairs.new.out
      c.loop-k.invariant.pairs (subst P same (subst Q c.standard.ensures c.bracket_pairs.ensures.pairs))
      c.bracket_pairs.ensures.others;
  room = search rules;
}

pub returns-clause-classes : goal.returns-clause-classes
returns-clause-classes g c =
    rewritten_end (by_n0 c.args.para.now c.args.before.now) c.args.sequences.now.all c.loop-k.k c.args.classes.now
    c.loop-k.classes (omega arith) (search rules) c.loop-k.invariant.classes

pub returns-clause-pairs : goal.returns-clause-pairs
returns-clause-pairs g c =
    paired_end c.args.para.now c.args.classes.now c.args.sequences.now.all c.loop-k.k c.loop-k.pairs (omega arith)
    (search rules) c.loop-k.invariant.pairs
