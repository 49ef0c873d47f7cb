-- Paragraphs whose classes all stay at level 0.
use Rattle.std.proofs.Common.{◌≡◌, ℕ, Bool, true, false, cond, Option, Some, None, List, [], ◌∷◌, ◌++◌, map, zero, suc, refl, sym, ap, ◌∙◌}
use Rattle.std.specs.Prelude.{◌&&◌, not, slice_index_or}
use Rattle.std.specs.List.{list_all}
use Rattle.std.proofs.lemmas.Bool.{and_parts}
use Rattle.units.specs.Classes.{class_at, classes_of, is_initiator, is_right_to_left}
use Rattle.units.specs.Isolates.{begins_right_to_left, first_strong, para_level_of}
use Rattle.units.specs.Layout.{layout_of, para_levels_of, text_levels}
use Rattle.units.specs.Limits.{LimitsOf}
use Rattle.units.specs.Paragraphs.{joined, paragraphs_of}
use Rattle.units.specs.declared.bracket.Unit.{Unit as BidiUnit}
use Rattle.units.specs.declared.class.Class.{Class}
use Rattle.units.specs.declared.class.Class.TheVariants.{R, AL}
use Rattle.units.specs.declared.level.Direction.{Direction}
use Rattle.units.specs.declared.level.Direction.TheVariants.{Auto, Ltr}
use Rattle.explicit.proofs.LevelsComputed.OneCutting.{joined-paragraphs_of}
use Rattle.explicit.specs.Flat.{is_flat}
use Rattle.explicit.specs.Uniform.{may_rise, may_rise_at_even}
use Rattle.paragraph.specs.Contents.{are_flat, has_none, keeps_level}
use Rattle.lines.specs.Unchanged.{keeps_own_level}
use Rattle.lines.specs.LinePositions.{HasLevel}
use Rattle.lines.proofs.AtParas.{text_at_paras, all_stay}
use Rattle.lines.proofs.UnchangedLevels.{levels_unchanged}
use Rattle.room.specs.StaysAtZero.{AreZeroUnder, all_stay_at_zero, stays_at_zero}

-- such a class is neither R nor AL
not_right : (c : Class) → stays_at_zero c ≡ true → is_right_to_left c ≡ false
not_right R h = absurd (let z : false ≡ true = h in cc)
not_right AL h = absurd (let z : false ≡ true = h in cc)
not_right _ h = refl

class_stays : (cs : List Class) (p : ℕ) → all_stay_at_zero cs ≡ true → is_right_to_left (class_at cs p) ≡ false
class_stays [] p h = refl
class_stays (c ∷ cs) zero h = not_right c (and_parts (stays_at_zero c) (all_stay_at_zero cs) h).0
class_stays (c ∷ cs) (suc p) h = class_stays cs p (and_parts (stays_at_zero c) (all_stay_at_zero cs) h).1

none_begins_right : (cs : List Class) (o : Option ℕ) → all_stay_at_zero cs ≡ true → begins_right_to_left cs o ≡ false
none_begins_right cs None h = refl
none_begins_right cs (Some p) h = class_stays cs p h

-- the directions that leave such a paragraph at level 0
abbrev pub LeavesAtZero : Direction → Type 0
LeavesAtZero direction = (cs : List Class) → all_stay_at_zero cs ≡ true → para_level_of cs direction ≡ 0

pub auto_leaves : LeavesAtZero Auto
unfolding para_level_of
auto_leaves cs h = ap (λ b. cond b 1 0) (none_begins_right cs (first_strong cs None) h)

pub ltr_leaves : LeavesAtZero Ltr
unfolding para_level_of
ltr_leaves cs h = refl

both : (a b : Bool) → a ≡ true → b ≡ true → (a && b) ≡ true
both true true p q = refl
both true false p q = q
both false b p q = p

-- P2 to I2: the paragraph keeps its level
keeps_zero : (cs : List Class) → all_stay_at_zero cs ≡ true → keeps_level 0 cs ≡ true
keeps_zero [] h = refl
keeps_zero (c ∷ cs) h =
    let t = and_parts (stays_at_zero c) (all_stay_at_zero cs) h in
    let s = and_parts (not (is_initiator c)) (not (may_rise_at_even c)) t.0 in
    let r = and_parts (are_flat cs) (has_none (may_rise 0) cs) (keeps_zero cs t.1) in
    both (are_flat (c ∷ cs)) (has_none (may_rise 0) (c ∷ cs)) (both (is_flat c) (are_flat cs) s.0 r.0)
    (both (not (may_rise 0 c)) (has_none (may_rise 0) cs) s.1 r.1)

-- all classes of each of these paragraphs stay at level 0
abbrev pub AllStayAtZero : List (List BidiUnit) → Type 0
AllStayAtZero [] = Unit {0}
AllStayAtZero (us ∷ pieces) = (all_stay_at_zero (classes_of us) ≡ true) × AllStayAtZero pieces

split : (us vs : List BidiUnit) → all_stay_at_zero (classes_of (us ++ vs)) ≡ true →
    (all_stay_at_zero (classes_of us) ≡ true) × (all_stay_at_zero (classes_of vs) ≡ true)
split [] vs h = (refl, h)
split (u ∷ us) vs h =
    let t = and_parts (stays_at_zero u.class) (all_stay_at_zero (classes_of (us ++ vs))) h in
    let r = split us vs t.1 in
    (both (stays_at_zero u.class) (all_stay_at_zero (classes_of us)) t.0 r.0, r.1)

pieces_stay : (pieces : List (List BidiUnit)) → all_stay_at_zero (classes_of (joined pieces)) ≡ true →
    AllStayAtZero pieces
pieces_stay [] h = tt
pieces_stay (us ∷ pieces) h = let t = split us (joined pieces) h in (t.0, pieces_stay pieces t.1)

module _ (direction : Direction) (zeros : LeavesAtZero direction) where
  keeps_own : (us : List BidiUnit) → all_stay_at_zero (classes_of us) ≡ true → keeps_own_level direction us ≡ true
  keeps_own us h = ap (λ n. keeps_level n (classes_of us)) (zeros (classes_of us) h) ∙ keeps_zero (classes_of us) h

  all_keep_own : (pieces : List (List BidiUnit)) → AllStayAtZero pieces →
      list_all (keeps_own_level direction) pieces ≡ true
  all_keep_own [] h = refl
  all_keep_own (us ∷ pieces) h =
      both (keeps_own_level direction us) (list_all (keeps_own_level direction) pieces) (keeps_own us h.0)
      (all_keep_own pieces h.1)

  paras_zero : (pieces : List (List BidiUnit)) (k : ℕ) → AllStayAtZero pieces →
      slice_index_or (map (λ us. para_level_of (classes_of us) direction) pieces) k 0 ≡ 0
  paras_zero [] k h = refl
  paras_zero (us ∷ pieces) zero h = zeros (classes_of us) h.0
  paras_zero (us ∷ pieces) (suc k) h = paras_zero pieces k h.1

  -- each level of the text is 0
  pub zero_under : (limits : LimitsOf) (text : List BidiUnit) → all_stay_at_zero (classes_of text) ≡ true →
      AreZeroUnder limits text direction
  unfolding layout_of
  zero_under limits text h breaks p v has =
      let stay : AllStayAtZero (paragraphs_of text) =
      pieces_stay (paragraphs_of text) (ap (λ us. all_stay_at_zero (classes_of us)) (joined-paragraphs_of text) ∙ h) in
      let at = text_at_paras limits direction text (all_stay limits direction (paragraphs_of text)
      (all_keep_own (paragraphs_of text) stay)) in
      let same = levels_unchanged (classes_of text) breaks (para_levels_of text direction)
      (text_levels limits text direction) at in
      let t : HasLevel (text_levels limits text direction) p v = ap (λ ls. slice_index_or ls p None) (sym same) ∙ has in
      at.same p v t ∙ paras_zero (paragraphs_of text) _ stay
