use Rattle.std.proofs.Common.{◌≡◌, ◌∙◌, ◌+◌, ◌-◌, ◌<◌, ℕ, List, ap, arith, length, subst, sym}
use Rattle.std.proofs.lemmas.List.{length-set}
use Rattle.units.specs.Classes.{classes_of}
use Rattle.units.specs.declared.bracket.Unit.{Unit as BidiUnit}
use Rattle.units.specs.declared.class.Class.{Class}
use Rattle.lines.proofs.BoolBytes.{bool_byte-is}
use Rattle.room.specs.WholeLevels.{trails}
use Rattle.room.proofs.WholeLevels.{AreMarkedFrom, marked_more, trails_before}
use Rattle.room.proofs.room.Room.mark_trailing.Goals as goal

pub loop-k-preserved : goal.loop-k-preserved
loop-k-preserved c =
    let l = c.loop-k in
    let k = l.k - 1 in
    let us = c.text_units-units.result.now in
    let same : us ≡ c.args.self.now.text.units = c.text_units-units.ensures.units in
    let own : List Class = classes_of c.args.self.now.text.units in
    let n : l.k ≡ k + 1 = omega arith in
    let inside : k < length us = omega (arith, c.text_units-units.ensures.len, l.invariant.len, c.requires) in
    let next : l.trailing ≡ trails (classes_of us) (k + 1) =
    l.invariant.trailing ∙ ap (trails own) n ∙ ap (λ (xs : List BidiUnit). trails (classes_of xs) (k + 1)) (sym same) in
    let does : c.resets_spaces_before-trailing.result ≡ trails own k =
    c.resets_spaces_before-trailing.ensures ∙ trails_before us k l.trailing inside next ∙
    ap (λ (xs : List BidiUnit). trails (classes_of xs) k) same in
    record {
      len = length-set l.out k c.from.result ∙ l.invariant.len;
      trailing = does;
      marked = marked_more own k c.resets_spaces_before-trailing.result c.from.result l.out (omega (
        arith,
        l.invariant.len,
      )) (c.from.ensures ∙ bool_byte-is c.resets_spaces_before-trailing.result) does
          (subst (λ (m : ℕ). AreMarkedFrom own m l.out) n l.invariant.marked);
    }

pub returns-clause-marks : goal.returns-clause-marks
returns-clause-marks c = λ k low. c.loop-k.invariant.marked k (omega arith) low
