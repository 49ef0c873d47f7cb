-- A text that is filled with the letters of a number from its last place on.
use Rattle.std.proofs.Common.{◌≡◌, ℕ, ◌+◌, ◌-◌, ◌/◌, ◌%◌, ◌^◌, ◌<◌, ◌≤◌, List, length, get_or, set, slice_index_or, sym, ap, ◌∙◌, inl, inr, arith, add-one, length-set}
use Rattle.std.proofs.Math.Nat.{div-div-eq-div-mul, pow-suc, pow-zero}
use Rattle.std.proofs.lemmas.Bool.{cases_lt}
use Rattle.std.proofs.lemmas.Grind.{get_or-set_at}
use Rattle.std.proofs.lemmas.List.{ext_get_or, get_or-map, get_or-set_other}
use Rattle.units.specs.Positions.{positions_from}
use Rattle.units.proofs.Positions.{length-positions_from, get_or-positions_from}
use Rattle.rows.specs.Letters.{no_letter}
use Rattle.rows.specs.Exhaustive.{block, letter_in_text, text_of_number}
use Rattle.rows.specs.declared.letter.Letter.{Letter}
use Rattle.rows.proofs.RowTextsOf.{length-text_of_number}

-- the last `done` places have the letters of the number, and `rest` remains of the number
pub record IsFilledBy (alphabet : List Letter) (text : List Letter) (len number done rest : ℕ) : Type 0 where
  pub size : length text ≡ len
  pub remaining : rest ≡ number / block alphabet done
  pub places : (p : ℕ) → p < len → len ≤ p + done → get_or text p no_letter ≡ letter_in_text alphabet len number p

pub filled-none : (alphabet : List Letter) (text : List Letter) (len number : ℕ) → length text ≡ len →
    IsFilledBy alphabet text len number 0 number
filled-none alphabet text len number n =
    let one : block alphabet 0 ≡ 1 = pow-zero (length alphabet) in
    record { size = n; remaining = rw one (omega arith); places = λ p lt ge. absurd (omega arith) }

pub filled-more : (alphabet : List Letter) (text : List Letter) (len number done rest : ℕ) (letter : Letter) →
    done < len → IsFilledBy alphabet text len number done rest
    → letter ≡ slice_index_or alphabet (rest % length alphabet) no_letter
    → IsFilledBy alphabet (set text (len - 1 - done) letter) len number (done + 1) (rest / length alphabet)
filled-more alphabet text len number done rest letter lt h is = record {
  size = length-set text (len - 1 - done) letter ∙ h.size;
  remaining = ap (λ n. n / length alphabet) h.remaining ∙
      div-div-eq-div-mul number (block alphabet done) (length alphabet) ∙
      ap (λ n. number / n) (sym (ap (λ n. length alphabet ^ n) (add-one done) ∙ pow-suc (length alphabet) done));
  places = λ p within ge.
      elim (cases_lt (len - 1 - done) p) [
        | inl later ↦ get_or-set_other text (len - 1 - done) p letter no_letter (λ e. absurd (omega arith)) ∙
            h.places p within (omega arith)
        | inr here ↦ (
            let at : p ≡ len - 1 - done = omega arith in
            let digit : len - 1 - p ≡ done = omega arith in
            let same : rest ≡ number / block alphabet (len - 1 - p) =
            h.remaining ∙ ap (λ n. number / block alphabet n) (sym digit) in
            get_or-set_at text (len - 1 - done) p letter no_letter at (omega (arith, h.size)) ∙ is ∙
            ap (λ n. slice_index_or alphabet (n % length alphabet) no_letter) same)
      ];
}

pub filled-all : (alphabet : List Letter) (text : List Letter) (len number done rest : ℕ) → len ≤ done →
    IsFilledBy alphabet text len number done rest → text ≡ text_of_number alphabet len number
filled-all alphabet text len number done rest all h =
    let n = length-text_of_number alphabet len number in
    let count : length (positions_from 0 len) ≡ len = length-positions_from 0 len in
    let letter : ℕ → Letter = letter_in_text alphabet len number in
    ext_get_or no_letter text (text_of_number alphabet len number) (h.size ∙ sym n)
    (λ p lt.
    let inside : p < len = omega (arith, h.size) in
    let at : get_or (positions_from 0 len) p 0 ≡ p = omega (arith, get_or-positions_from 0 len p 0 inside) in
    h.places p inside (omega arith) ∙
    sym (get_or-map letter (positions_from 0 len) p 0 no_letter (omega (arith, count)) ∙ ap letter at))
