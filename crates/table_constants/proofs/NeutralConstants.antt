-- Constants that pass this test give each bracket the class ON.
use Rattle.std.proofs.Common.{arith, ◌≡◌, ◌≤◌, ◌||◌, ◌&&◌, ◌⊎◌, cond, nat_le, leb-true, zero-le, ℕ, Bool, true, false, List, [], ◌∷◌, refl, ap₂, ◌∙◌, inl, inr}
use Rattle.std.proofs.lemmas.Bool.{and_parts, cond_both, cases_lt}
use Rattle.units.specs.declared.bracket.Bracket.{Bracket}
use Rattle.units.specs.declared.bracket.Bracket.TheVariants.{No}
use Rattle.units.specs.declared.class.Class.{Class}
use Rattle.units.specs.declared.class.Class.TheVariants.{L, ON}
use Rattle.ucdfiles.specs.declared.span.Span.{Span}
use Rattle.ucdfiles.specs.Stages.{Stages}
use Rattle.ucdfiles.specs.Tables.{class_by, bracket_by, AreNeutral}
use Rattle.ucd_table.specs.Steps.{Step, step_value}
use Rattle.ucd_table.proofs.StepsLemmas.{zip_steps, step_value-zip_steps, step_value-nil, step_value-here, step_value-later}
use Rattle.table_constants.proofs.BracketConstants.{same_bracket, same_bracket-exact, bracket_steps}
use Rattle.table_constants.proofs.ClassConstants.{same_class, same_class-exact, class_steps}

-- whether the class is ON, or there is no bracket
abbrev pub is_neutral : Class → Bracket → Bool
is_neutral class bracket = same_class class ON || same_bracket bracket No

-- that test of each code point, as steps
abbrev pub neutral_steps : List ℕ → List (Span Bracket) → List (Step Bool)
neutral_steps bytes spans = zip_steps is_neutral L No (class_steps bytes) (bracket_steps spans)

-- each step that contains a code point from n on is true
unfoldable pub all_from : ℕ → List (Step Bool) → Bool
all_from n [] = true
all_from n (s ∷ ss) =
    let empty = all_from n ss in
    let stored = s.1 && all_from s.0 ss in
    cond (nat_le s.0 n) empty stored

all_true : (ss : List (Step Bool)) (d : Bool) (n c : ℕ) → d ≡ true → n ≤ c → all_from n ss ≡ true →
    step_value d ss c ≡ true
unfolding all_from
all_true [] d n c e le h = step_value-nil d c ∙ e
all_true (s ∷ ss) d n c e le h =
    cond_both (nat_le s.0 n) (all_from n ss) (s.1 && all_from s.0 ss) (λ b. b ≡ true → step_value d (s ∷ ss) c ≡ true)
    (λ empty rest. let low = leb-true s.0 n empty in step_value-later d s ss c (omega arith) ∙
    all_true ss d n c e le rest)
    (λ _ stored.
    let parts = and_parts s.1 (all_from s.0 ss) stored in
    elim (cases_lt c s.0) [
      | inl here ↦ step_value-here d s ss c here ∙ parts.0
      | inr later ↦ step_value-later d s ss c later ∙ all_true ss d s.0 c e later parts.1
    ])
    h

default_neutral : is_neutral L No ≡ true
unfolding same_bracket
default_neutral = refl

one_true : (a b : Bool) → (a || b) ≡ true → (a ≡ true) ⊎ (b ≡ true)
one_true true b h = inl refl
one_true false b h = inr h

-- the classes and the brackets are those of these steps
module _ (bytes : List ℕ) (spans : List (Span Bracket)) (classes : Stages Class) (brackets : Stages Bracket) where
  is_neutral-at : all_from 0 (neutral_steps bytes spans) ≡ true
      → ((c : ℕ) → c ≤ 0x10FFFF → class_by classes c ≡ step_value L (class_steps bytes) c)
      → ((c : ℕ) → c ≤ 0x10FFFF → bracket_by brackets c ≡ step_value No (bracket_steps spans) c)
      → (c : ℕ) → c ≤ 0x10FFFF → is_neutral (class_by classes c) (bracket_by brackets c) ≡ true
  is_neutral-at tested by_class by_bracket c le =
      ap₂ is_neutral (by_class c le) (by_bracket c le) ∙
      step_value-zip_steps is_neutral L No (class_steps bytes) (bracket_steps spans) c
      ∙ all_true (neutral_steps bytes spans) (is_neutral L No) 0 c default_neutral zero-le tested

  pub constants-AreNeutral : all_from 0 (neutral_steps bytes spans) ≡ true
      → ((c : ℕ) → c ≤ 0x10FFFF → class_by classes c ≡ step_value L (class_steps bytes) c)
      → ((c : ℕ) → c ≤ 0x10FFFF → bracket_by brackets c ≡ step_value No (bracket_steps spans) c)
      → AreNeutral classes brackets
  constants-AreNeutral tested by_class by_bracket c le other =
      elim (one_true (same_class (class_by classes c) ON) (same_bracket (bracket_by brackets c) No)
      (is_neutral-at tested by_class by_bracket c le)) [
        | inl on ↦ absurd (other (same_class-exact _ _ on))
        | inr none ↦ same_bracket-exact _ _ none
      ]
