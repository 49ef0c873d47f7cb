use Rattle.std.proofs.Common.{◌≡◌, ◌∙◌, ◌≢◌, ◌+◌, ◌-◌, ◌<◌, List, ap, arith, length, set, sym}
use Rattle.std.specs.Prelude.{slice_index}
use Rattle.std.proofs.lemmas.List.{get_or-set_other, get_or-set_same, length-map, length-set}
use Rattle.units.specs.Classes.{classes_of}
use Rattle.units.specs.declared.bracket.Unit.{Unit as BidiUnit}
use Rattle.units.specs.declared.class.Class.{Class}
use Rattle.room.specs.WholeLevels.{trails}
use Rattle.room.proofs.WholeLevels.{mark_says, whole_more}
use Rattle.room.proofs.room.Room.fill_whole_levels.Goals as goal

pub whole_level-before-requires-clause-trailing : goal.whole_level-before-requires-clause-trailing
whole_level-before-requires-clause-trailing c =
    let l = c.loop-k in
    let own : List Class = classes_of c.args.self.now.text.units in
    let len : length own ≡ length c.args.self.now.text.units =
    length-map c.args.self.now.text.units (λ (u : BidiUnit). u.class) in
    mark_says (trails own l.k) (slice_index l.out l.k) (l.invariant.marked l.k (omega arith) (omega (
      arith,
      len,
      c.units_are_characters.ensures,
      c.requires,
      l.invariant.len,
    )))

pub loop-k-preserved : goal.loop-k-preserved
loop-k-preserved c =
    let l = c.loop-k in
    let k = l.k in
    let value = c.whole_level-before.result in
    let inside : k < length l.out = omega arith in
    record {
      len = length-set l.out k value ∙ l.invariant.len;
      levels = whole_more c.args.self.now k l.before value l.out inside c.whole_level-before.ensures l.invariant.last
          l.invariant.levels;
      marked = λ q from low. let other : q ≢ k = omega (arith, from) in get_or-set_other l.out k q value 0 other ∙
          l.invariant.marked q (omega (arith, from)) low;
      last = λ _. sym (ap (slice_index (set l.out k value)) {x = k + 1 - 1} {y = k} (omega arith) ∙
          get_or-set_same l.out k value 0 inside);
    }
