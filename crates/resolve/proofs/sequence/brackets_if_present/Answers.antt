use Rattle.std.proofs.Common.{arith, List, sym, refl}
use Rattle.std.proofs.lemmas.Bool.{both_ways}
use Rattle.units.specs.Brackets.{is_open}
use Rattle.units.specs.Classes.{classes_at}
use Rattle.units.specs.declared.bracket.Unit.{Unit as BidiUnit}
use Rattle.explicit.proofs.Omitted.{none_passes}
use Rattle.explicit.proofs.Unbracketed.{after_brackets-none}
use Rattle.resolve.proofs.sequence.brackets_if_present.Goals as goal

pub paired-requires-clause-filled : goal.paired-requires-clause-filled
paired-requires-clause-filled g c = record {
  most_open = c.args.para.now.limits.brackets;
  units = c.args.para.now.units.now;
  enough = omega arith;
  pairs = c.bracket_pairs.ensures.pairs;
  marks = c.requires.marks;
}

pub returns-then-para-clause-classes : goal.returns-then-para-clause-classes
returns-then-para-clause-classes g c =
    c.paired.ensures.classes c.args.para.now.limits.brackets c.args.para.now.units.now c.bracket_pairs.ensures.pairs

pub returns-else-para-clause-classes : goal.returns-else-para-clause-classes
returns-else-para-clause-classes g c =
    let s = c.args.s.now in
    let us : List BidiUnit = c.args.para.now.units.now in
    let none = none_passes (λ (u : BidiUnit). is_open u.bracket) us (c.requires.wanted.openings c.if-para.false) in
    record {
      values = sym (after_brackets-none c.args.para.now.limits.brackets s us
          (classes_at c.args.para.now.before.now s.positions) (classes_at c.args.classes.now s.positions) none);
      others = λ p h. refl;
    }

pub returns-else-para-clause-pairs : goal.returns-else-para-clause-pairs
returns-else-para-clause-pairs g c = λ e. absurd (both_ways c.args.para.now.wanted.openings c.if-para.false e)

pub returns-else-para-clause-other_pairs : goal.returns-else-para-clause-other_pairs
returns-else-para-clause-other_pairs g c = λ p h. refl
