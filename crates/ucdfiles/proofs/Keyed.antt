-- Brackets with keys: one more, and the table of a faultless file.
use Rattle.std.proofs.Common.{arith, ◌≡◌, ◌≤◌, ◌↔◌, ℕ, Option, None, Some, List, [], ◌∷◌, ◌++◌, map, refl, sym, ap, subst, ◌∙◌, inl, inr}
use Rattle.std.proofs.lemmas.Bool.{cases_Bool}
use Rattle.std.specs.List.{find}
use Rattle.std.specs.Option.{option_map, unwrap_or}
use Rattle.std.proofs.lemmas.List.{map-append}
use Rattle.std.proofs.lemmas.List.Elements.{All-push, All-head, All-tail}
use Rattle.unicode_normalization.specs.Forms.{nfd}
use Rattle.units.specs.Text.{lines_of}
use Rattle.units.specs.declared.bracket.Bracket.{Bracket}
use Rattle.units.specs.declared.bracket.Bracket.TheVariants.{No}
use Rattle.units.specs.declared.bracket.Key.{Key}
use Rattle.ucdfiles.specs.declared.span.Span.{Span}
use Rattle.ucdfiles.specs.declared.sided_bracket.SidedBracket.{SidedBracket}
use Rattle.ucdfiles.specs.Faults.{first_fault}
use Rattle.ucdfiles.specs.Spans.{holds, value_by}
use Rattle.ucdfiles.specs.Statements.{Stated, AreStatedBy}
use Rattle.ucdfiles.specs.Keys.{number_in, IsNumbering, Keeps, key_in, keyed_value, keyed_span, IsNumbered, AreNumbered, AreKeyed}
use Rattle.ucdfiles.specs.PairFiles.{pair_line_says, bracket_in, bracket_fault, bracket_file_fault, bracket_of, bracket_stated, bracket_with, IsEquivalent, IsKeyed, StatesBrackets}
use Rattle.ucdfiles.proofs.Rising.{find-revalued}
use Rattle.ucdfiles.proofs.PairValues.{value_of-pairs}

module _ (old new : List (List ℕ × ℕ)) (keeps : Keeps old new) where
  number-unchanged : (a : ℕ) → IsNumbered old a → number_in new (nfd (a ∷ [])) ≡ number_in old (nfd (a ∷ []))
  number-unchanged a is = keeps (nfd (a ∷ [])) is.0 is.1 ∙ sym is.1

  keyed-unchanged : (spans : List (Span SidedBracket)) → AreNumbered old spans →
      map (keyed_span (key_in new)) spans ≡ map (keyed_span (key_in old)) spans
  keyed-unchanged [] are = refl
  keyed-unchanged (s ∷ spans) are =
      let own = number-unchanged s.value.keyed_by (All-head (λ (s : Span SidedBracket).
      IsNumbered old s.value.keyed_by) s spans are) in
      let rest = keyed-unchanged spans (All-tail (λ (s : Span SidedBracket).
      IsNumbered old s.value.keyed_by) s spans are) in
      rw (own, rest) refl

  numbered-unchanged : (spans : List (Span SidedBracket)) → AreNumbered old spans → AreNumbered new spans
  numbered-unchanged spans are = λ k d lt. (let h = are k d lt in (h.0, keeps _ _ h.1))

-- the brackets of the spans so far
pub record AreKeyedSoFar (numbers : List (List ℕ × ℕ)) (spans : List (Span SidedBracket))
    (brackets : List (Span Bracket)) : Type 0 where
  pub numbering : IsNumbering numbers
  pub numbered : AreNumbered numbers spans
  pub keyed : brackets ≡ map (keyed_span (key_in numbers)) spans

pub keyed-more : (old new : List (List ℕ × ℕ)) (spans : List (Span SidedBracket)) (span : Span SidedBracket)
    (brackets : List (Span Bracket)) (n : ℕ)
    → AreKeyedSoFar old spans brackets → IsNumbering new → Keeps old new →
    number_in new (nfd (span.value.keyed_by ∷ [])) ≡ Some n
    → AreKeyedSoFar new (spans ++ span ∷ []) (brackets ++ record {
      first = span.first;
      last = span.last;
      value =
          bracket_with span.value.side (record { 0 = n });
    } ∷ [])
keyed-more old new spans span brackets n h numbering keeps is =
    let front : brackets ≡ map (keyed_span (key_in new)) spans =
    h.keyed ∙ sym (keyed-unchanged old new keeps spans h.numbered) in
    record {
      numbering = numbering;
      numbered = All-push (λ (s : Span SidedBracket). IsNumbered new s.value.keyed_by) spans span
          (numbered-unchanged old new keeps spans h.numbered) (n, is);
      keyed = rw (front, map-append, is) refl;
    }

find-numbered : (numbers : List (List ℕ × ℕ)) (c : ℕ) (spans : List (Span SidedBracket)) (stated : SidedBracket) →
    AreNumbered numbers spans
    → value_by (find (holds c) spans) None ≡ Some stated → IsNumbered numbers stated.keyed_by
find-numbered numbers c [] stated are is = absurd (let bad : ⊥ = cc in bad)
find-numbered numbers c (s ∷ spans) stated are is = elim (cases_Bool (holds c s)) [
  | inl stored ↦
      let found : Some s.value ≡ Some stated = rw stored at is in
      let same : s.value ≡ stated = cc in
      let P : SidedBracket → Type 0 = λ v. IsNumbered numbers v.keyed_by in
      subst P same (All-head (λ (s : Span SidedBracket). IsNumbered numbers s.value.keyed_by) s spans are)
  | inr other ↦
      let rest : value_by (find (holds c) spans) None ≡ Some stated = rw other at is in
      find-numbered numbers c spans stated (All-tail (λ (s : Span SidedBracket).
      IsNumbered numbers s.value.keyed_by) s spans are) rest
]

keys-equal : (numbers : List (List ℕ × ℕ)) (a b : ℕ) → IsNumbering numbers → IsNumbered numbers a →
    IsNumbered numbers b → (key_in numbers a ≡ key_in numbers b) ↔ IsEquivalent a b
keys-equal numbers a b numbering ha hb = grind arith

bracket_stated-keyed : (key : ℕ → Key) (o : Option (Span SidedBracket)) →
    unwrap_or (value_by (option_map (keyed_span key) o) None) No ≡ bracket_stated key (value_by o None)
bracket_stated-keyed key None = refl
bracket_stated-keyed key (Some span) = refl

module _ (bytes : List ℕ) (stated : Stated SidedBracket) (represents : AreStatedBy (pair_line_says bracket_in) stated
    (lines_of bytes)) (brackets : List (Span Bracket)) (keyed : AreKeyed stated.data_lines brackets) where
  bracket_of-data : (c : ℕ) → bracket_of bytes c ≡ value_by (find (holds c) stated.data_lines) None
  unfolding bracket_of
  bracket_of-data c = value_of-pairs bracket_in stated bytes c represents

  is_numbered : (a : ℕ) → IsKeyed bytes a → IsNumbered keyed.numbers a
  is_numbered a is =
      let P : ℕ → Type 0 = λ a. IsNumbered keyed.numbers a in
      subst P is.4 (find-numbered keyed.numbers is.0 stated.data_lines is.1 keyed.numbered (sym (bracket_of-data is.0) ∙
      is.3))

  pub states-brackets : first_fault bracket_fault [] (lines_of bytes) ≡ None → (look : ℕ → Bracket)
      → ((c : ℕ) → c ≤ 0x10FFFF → look c ≡ unwrap_or (value_by (find (holds c) brackets) None) No) →
      StatesBrackets bytes look
  unfolding bracket_file_fault
  states-brackets none look looks = record {
    faultless = none;
    key = key_in keyed.numbers;
    keys = λ a b ha hb. keys-equal keyed.numbers a b keyed.numbering (is_numbered a ha) (is_numbered b hb);
    stated = λ c within.
        looks c within ∙ ap (λ bs. unwrap_or (value_by (find (holds c) bs) None) No) keyed.keyed
        ∙ ap (λ o. unwrap_or (value_by o None) No)
        (find-revalued (keyed_value (key_in keyed.numbers)) c stated.data_lines)
        ∙ bracket_stated-keyed (key_in keyed.numbers) (find (holds c) stated.data_lines) ∙
        ap (bracket_stated (key_in keyed.numbers)) (sym (bracket_of-data c));
  }
