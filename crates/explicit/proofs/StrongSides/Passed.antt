-- The noted first strong classes, after positions that the pass skips.
use Rattle.std.proofs.Common.{◌≡◌, ℕ, zero, suc, ◌+◌, ◌-◌, ◌<◌, ◌≤◌, Bool, true, false, List, length, get_or, set, Option, Some, None, inl, inr, refl, sym, ap, ◌∙◌, arith}
use Rattle.std.proofs.lemmas.Bool.{cases_Bool, true≢false}
use Rattle.std.proofs.lemmas.List.{length-set, set-get_or, get_or-set_same}
use Rattle.std.specs.Prelude.{◌&&◌, not}
use Rattle.units.specs.Classes.{class_at, is_isolate_initiator, is_pdi, is_strong}
use Rattle.units.specs.Classes.{is_right_to_left as is_class_right_to_left}
use Rattle.units.specs.declared.class.Class.{Class}
use Rattle.explicit.specs.Sides.{noted, noted_at, strong_side}
use Rattle.explicit.specs.Stops.{ArePassed, IsNextStop, without_partners}
use Rattle.explicit.specs.declared.side.Side.{Side}
use Rattle.explicit.specs.declared.side.Side.TheVariants.{Unknown, LeftToRight, RightToLeft}
use Rattle.explicit.proofs.Matched.Filling.{IsFilling, filling_opening, filling_other, filling_unmatched, filling_matched}
use Rattle.explicit.proofs.Matched.Stops.{no_stop, filling_passed, filling_passed_all}
use Rattle.explicit.proofs.StrongSides.Sides.{AreNoted, noted_weak, noted_opening, noted_strong, strong_is_other, pdi_is_weak, sides_unchanged}

-- the first strong class is noted in the last of the open isolates, or outside of all isolates if none is open
pub record IsSearched (depth : ℕ) (s : ℕ → ℕ) (sides : List Side) (outside : Side) : Type 0 where
  pub outside_is : depth ≡ 0 → outside ≡ Unknown → ⊥
  pub inside_is : (d : ℕ) → depth ≡ d + 1 → get_or sides (s d) Unknown ≡ Unknown → ⊥

-- a known side is unchanged
noted_again : (side : Side) (c : Class) → (side ≡ Unknown → ⊥) → noted side c ≡ side
noted_again Unknown c known = absurd (known refl)
noted_again LeftToRight c known = refl
noted_again RightToLeft c known = refl

strong_side_known : (c : Class) → strong_side c ≡ Unknown → ⊥
strong_side_known c e = elim (cases_Bool (is_class_right_to_left c)) [
  | inl t ↦ let no : RightToLeft ≡ Unknown = rw t at e in absurd (cc)
  | inr f ↦ let no : LeftToRight ≡ Unknown = rw f at e in absurd (cc)
]

pub noted_known : (side : Side) (c : Class) → noted side c ≡ Unknown → ⊥
noted_known Unknown c e = strong_side_known c e
noted_known LeftToRight c e = absurd (cc)
noted_known RightToLeft c e = absurd (cc)

pub is_not : (b : Bool) → not b ≡ false → b ≡ true
is_not true e = refl
is_not false e = absurd (cc)

not_wanted : (wanted : Bool) (c : Class) → (wanted && is_strong c) ≡ false → is_strong c ≡ true → wanted ≡ false
not_wanted false c h strong = refl
not_wanted true c h strong = absurd (cc)

pub noted_passed : (cs : List Class) (wanted : Bool) (from end depth room : ℕ) (partners : List (Option ℕ))
    (openers : List ℕ) (sides : List Side) (outside : Side) → IsFilling cs from depth room partners openers →
    ArePassed wanted cs from end → end ≤ length cs → length sides ≡ room →
    (wanted ≡ false → IsSearched depth (λ a. get_or openers a 0) sides outside) → AreNoted cs from sides outside →
    (n : ℕ) → from + n ≤ end → AreNoted cs (from + n) sides outside
noted_passed cs wanted from end depth room partners openers sides outside now passed inside fit found noted' zero h =
    let e : from + 0 ≡ from = omega arith in rw e noted'
noted_passed cs wanted from end depth room partners openers sides outside now passed inside fit found noted' (suc n) h =
    let e : from + suc n ≡ from + n + 1 = omega arith in
    let class : Class = class_at cs (from + n) in
    let no = no_stop wanted class (passed (from + n) (omega arith) (omega arith)) in
    let before = noted_passed cs wanted from end depth room partners openers sides outside now passed inside fit found
    noted' n (omega arith) in
    let filling = filling_passed cs wanted from end depth room partners openers now passed inside n (omega arith) in
    let enough = filling.enough in
    rw e (elim (cases_Bool (is_strong class)) [
      | inl strong ↦
          let known = found (not_wanted wanted class no.strong_is strong) in
          noted_strong cs (from + n) depth (λ a. get_or openers a 0) class sides sides outside outside before
          (omega arith) (omega (arith, enough, fit)) filling.pass.stack refl strong
          (λ z. (sym (noted_again outside class (known.outside_is z)), refl))
          (λ d z. (
            refl,
            sym (ap (set sides (get_or openers d 0))
                (noted_again (get_or sides (get_or openers d 0) Unknown) class (known.inside_is d z)) ∙
                set-get_or sides (get_or openers d 0) Unknown),
          ))
      | inr weak ↦ noted_weak before weak no.initiator_is
    ])

pub noted_passed_all : (cs : List Class) (wanted : Bool) (from end depth room : ℕ) (partners : List (Option ℕ))
    (openers : List ℕ) (sides : List Side) (outside : Side) → IsFilling cs from depth room partners openers →
    ArePassed wanted cs from end → end ≤ length cs → length sides ≡ room →
    (wanted ≡ false → IsSearched depth (λ a. get_or openers a 0) sides outside) → AreNoted cs from sides outside →
    from ≤ end → AreNoted cs end sides outside
noted_passed_all cs wanted from end depth room partners openers sides outside now passed inside fit found noted' low =
    let whole : from + (end - from) ≡ end = omega arith in
    rw whole at (noted_passed cs wanted from end depth room partners openers sides outside now passed inside fit found
    noted' (end - from) (omega arith))

-- a strong class that was noted there is known
pub strong_is_noted : (depth : ℕ) (s : ℕ → ℕ) (class : Class) (sides new : List Side) (outside found : Side) →
    (depth ≡ 0 → (found ≡ noted outside class) × (new ≡ sides)) →
    ((d : ℕ) → depth ≡ d + 1 → (found ≡ outside) × (new ≡ noted_at sides (s d) class)) →
    ((d : ℕ) → depth ≡ d + 1 → s d < length sides) → IsSearched depth s new found
strong_is_noted depth s class sides new outside found none some within = record {
  outside_is = λ z e. noted_known outside class (sym (none z).0 ∙ e);
  inside_is = λ d z e.
      noted_known (get_or sides (s d) Unknown) class
      (sym (ap (λ (xs : List Side). get_or xs (s d) Unknown) (some d z).1 ∙
      get_or-set_same sides (s d) (noted (get_or sides (s d) Unknown) class) Unknown (within d z)) ∙ e);
}

-- what the pass knows from k on, before it looks for the next stop there
pub record IsHandled (cs : List Class) (wanted : Bool) (k depth room : ℕ) (partners : List (Option ℕ))
    (openers : List ℕ) (sides : List Side) (outside : Side) : Type 0 where
  pub filling : IsFilling cs k depth room partners openers
  pub sides_fit : length sides ≡ room
  pub noted : AreNoted cs k sides outside
  pub found : wanted ≡ false → IsSearched depth (λ a. get_or openers a 0) sides outside

-- what is known at the next stop
pub at_stop : (cs : List Class) (wanted : Bool) (from p depth room : ℕ) (partners : List (Option ℕ)) (openers : List ℕ)
    (sides : List Side) (outside : Side) → IsHandled cs wanted from depth room partners openers sides outside →
    IsNextStop wanted cs from p →
    IsFilling cs p depth room (without_partners from p partners) openers × AreNoted cs p sides outside
at_stop cs wanted from p depth room partners openers sides outside now stop = (
  filling_passed_all cs wanted from p depth room partners openers now.filling stop.first stop.within stop.later,
  noted_passed_all cs wanted from p depth room partners openers sides outside now.filling stop.first stop.within
      now.sides_fit now.found now.noted stop.later,
)

-- at a stop
module _ (cs : List Class) (p depth room : ℕ) (partners : List (Option ℕ)) (openers : List ℕ) (sides : List Side)
    (outside : Side) (now : IsFilling cs p depth room partners openers) (fit : length sides ≡ room)
    (before : AreNoted cs p sides outside) (inside : p < length cs) (strong : Bool)
    (read : strong ≡ is_strong (class_at cs p)) where
  -- an isolate begins
  pub handled_opening : is_isolate_initiator (class_at cs p) ≡ true →
      IsHandled cs (not strong) (p + 1) (depth + 1) room (set partners p None) (set openers depth p)
      (set sides p Unknown) outside
  handled_opening o = let enough = now.enough in record {
    filling = filling_opening cs p depth room partners openers now inside o;
    sides_fit = length-set sides p Unknown ∙ fit;
    noted = noted_opening before (omega (arith, fit, enough, inside)) o;
    found = λ e. absurd (true≢false (sym o ∙ (strong_is_other _ (sym read ∙ is_not _ e)).0));
  }

  -- one ends
  pub handled_matched : (d opener : ℕ) → depth ≡ suc d → is_isolate_initiator (class_at cs p) ≡ false →
      is_pdi (class_at cs p) ≡ true → opener ≡ get_or openers d 0 →
      IsHandled cs (not strong) (p + 1) d room (set (set (set partners p None) opener (Some p)) p (Some opener)) openers
      sides outside
  handled_matched d opener one_more o e opener_is = record {
    filling = filling_matched cs p depth d opener room partners openers now inside one_more e opener_is;
    sides_fit = fit;
    noted = noted_weak before (pdi_is_weak _ e) o;
    found = λ f. absurd (true≢false (sym e ∙ (strong_is_other _ (sym read ∙ is_not _ f)).1));
  }

  -- a strong class is noted
  pub handled_strong : (new : List Side) (found : Side) → strong ≡ true →
      (depth ≡ 0 → (found ≡ noted outside (class_at cs p)) × (new ≡ sides)) →
      ((d : ℕ) → depth ≡ d + 1 →
      (found ≡ outside) × (new ≡ noted_at sides (get_or openers d 0) (class_at cs p))) →
      IsHandled cs (not strong) (p + 1) depth room (set partners p None) openers new found
  handled_strong new found is outer inner =
      let here : is_strong (class_at cs p) ≡ true = sym read ∙ is in
      let plain = strong_is_other _ here in
      let enough = now.enough in
      let s : ℕ → ℕ = λ a. get_or openers a 0 in
      let within : (d : ℕ) → depth ≡ d + 1 → s d < length sides =
      λ d e. let under = now.pass.stack.before d (omega (arith, e)) in omega (arith, under, fit, enough, inside) in
      record {
        filling = filling_other cs p depth room partners openers now inside plain.0 plain.1;
        sides_fit = sides_unchanged depth s (class_at cs p) sides new outside found outer inner ∙ fit;
        noted = noted_strong cs p depth s (class_at cs p) sides new outside found before inside
            (omega (arith, fit, enough, inside)) now.pass.stack refl here outer inner;
        found = λ _. strong_is_noted depth s (class_at cs p) sides new outside found outer inner within;
      }

  -- nothing begins, ends or is noted
  pub handled_other : is_isolate_initiator (class_at cs p) ≡ false → strong ≡ false →
      (is_pdi (class_at cs p) ≡ true → depth ≡ 0) →
      IsHandled cs (not strong) (p + 1) depth room (set partners p None) openers sides outside
  handled_other o weak unmatched = record {
    filling = elim (cases_Bool (is_pdi (class_at cs p))) [
      | inl e ↦ filling_unmatched cs p depth room partners openers now inside (unmatched e) e
      | inr e ↦ filling_other cs p depth room partners openers now inside o e
    ];
    sides_fit = fit;
    noted = noted_weak before (sym read ∙ weak) o;
    found = λ f. absurd (true≢false (sym (is_not _ f) ∙ weak));
  }
