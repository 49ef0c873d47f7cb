-- The text of cases that are joined.
use Rattle.std.proofs.Common.{◌≡◌, ℕ, ◌-◌, List, [], ◌∷◌, ◌++◌, refl, sym, ap, ◌∙◌}
use Rattle.std.specs.List.{flat_map}
use Rattle.std.proofs.lemmas.Grind.{flat_map-append}
use Rattle.units.specs.Limits.{LimitsOf}
use Rattle.units.specs.Lines.{ended}
use Rattle.units.specs.Positions.{positions_from}
use Rattle.units.specs.declared.level.Direction.{Direction}
use Rattle.printing.specs.LevelsText.{printed}
use Rattle.bidtests.specs.declared.kind.Kind.{Kind}
use Rattle.rows.specs.declared.letter.Letter.{Letter}
use Rattle.rows.specs.RowTexts.{Case, case_lines, cases_text, lines_of_cases}
use Rattle.rows.specs.Exhaustive.{cases_between, under_each}

pub flat_map-twice : {A B C : Type 0} (g : B → List C) (f : A → List B) (xs : List A) →
    flat_map g (flat_map f xs) ≡ flat_map (λ x. flat_map g (f x)) xs
flat_map-twice g f [] = refl
flat_map-twice g f (x ∷ xs) = flat_map-append g (f x) (flat_map f xs) ∙
    ap (λ ys. flat_map g (f x) ++ ys) (flat_map-twice g f xs)

module _ (limits : LimitsOf) (kind : Kind) where
  text-append : (cases more : List Case) → cases_text limits kind (cases ++ more) ≡ cases_text limits kind cases ++
      cases_text limits kind more
  text-append cases more =
      ap (flat_map ended) (flat_map-append (case_lines limits kind) cases more)
      ∙ flat_map-append ended (lines_of_cases limits kind cases) (lines_of_cases limits kind more)

  pub text-joined : {A : Type 0} (cases : A → List Case) (xs : List A) →
      cases_text limits kind (flat_map cases xs) ≡ flat_map (λ x. cases_text limits kind (cases x)) xs
  text-joined cases [] = refl
  text-joined cases (x ∷ xs) =
      text-append (cases x) (flat_map cases xs) ∙
      ap (λ bs. cases_text limits kind (cases x) ++ bs) (text-joined cases xs)

  -- what is printed number by number
  pub text-between : (cases : ℕ → List Case) (start end : ℕ) →
      printed (λ n. cases_text limits kind (cases n)) start end ≡ cases_text limits kind (cases_between cases start end)
  text-between cases start end = sym (text-joined cases (positions_from start (end - start)))

  -- what is printed direction by direction
  pub text-under : (text : List Letter) (directions : List Direction)
      → flat_map (λ d. cases_text limits kind (record { text = text; direction = d } ∷ [])) directions ≡
      cases_text limits kind (under_each directions text)
  text-under text [] = refl
  text-under text (d ∷ directions) =
      ap (λ bs. cases_text limits kind (record { text = text; direction = d } ∷ []) ++ bs) (text-under text directions)
      ∙ sym (text-append (record { text = text; direction = d } ∷ []) (under_each directions text))
