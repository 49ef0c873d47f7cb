-- A text that is filled with drawn letters from its first place on.
use Rattle.std.proofs.Common.{◌≡◌, ℕ, zero, suc, ◌+◌, ◌<◌, ◌≤◌, List, length, get_or, set, refl, sym, ap, ◌∙◌, inl, inr, arith, add-one, length-set}
use Rattle.std.proofs.lemmas.Bool.{cases_lt}
use Rattle.std.proofs.lemmas.Grind.{get_or-set_at}
use Rattle.std.proofs.lemmas.List.{ext_get_or, get_or-map, get_or-set_other, length-map}
use Rattle.rand_pcg.specs.Lcg.{Lcg, advance, next_state, state_after}
use Rattle.rand_pcg.specs.Pcg.{multiplier_64, pcg32}
use Rattle.units.specs.Positions.{positions_from}
use Rattle.units.proofs.Positions.{length-positions_from, get_or-positions_from}
use Rattle.rows.specs.Letters.{no_letter}
use Rattle.rows.specs.Random.{letter_drawn, text_drawn, word_after}
use Rattle.rows.specs.declared.letter.Letter.{Letter}

-- the first `done` places have drawn letters, and the generator is after their words
pub record IsDrawnBy (alphabet : List Letter) (from now : Lcg) (text : List Letter) (len done : ℕ) : Type 0 where
  pub size : length text ≡ len
  pub following : now ≡ advance 64 multiplier_64 done from
  pub places : (p : ℕ) → p < done → get_or text p no_letter ≡ letter_drawn alphabet (word_after from p)

state_after-one_more : (w m i n s : ℕ) → next_state w m i (state_after w m i n s) ≡ state_after w m i (suc n) s
unfolding state_after
state_after-one_more w m i zero s = refl
state_after-one_more w m i (suc n) s = state_after-one_more w m i n (next_state w m i s)

advance-one_more : (g : Lcg) (n : ℕ) → (pcg32 (advance 64 multiplier_64 n g)).1 ≡ advance 64 multiplier_64 (n + 1) g
advance-one_more g n =
    ap (λ (s : ℕ). record {
      state = s;
      increment =
          g.increment;
    }) (state_after-one_more 64 multiplier_64 g.increment n g.state ∙
    ap (λ k. state_after 64 multiplier_64 g.increment k g.state) (sym (add-one n)))

pub drawn-none : (alphabet : List Letter) (from : Lcg) (text : List Letter) (len : ℕ) → length text ≡ len →
    IsDrawnBy alphabet from from text len 0
unfolding state_after
drawn-none alphabet from text len n = record { size = n; following = refl; places = λ p lt. absurd (omega arith) }

pub drawn-more : (alphabet : List Letter) (from now next : Lcg) (text : List Letter) (len done : ℕ) (letter : Letter) →
    done < len → IsDrawnBy alphabet from now text len done
    → next ≡ (pcg32 now).1
    → letter ≡ letter_drawn alphabet (pcg32 now).0
    → IsDrawnBy alphabet from next (set text done letter) len (done + 1)
drawn-more alphabet from now next text len done letter lt h step is = record {
  size = length-set text done letter ∙ h.size;
  following = step ∙ ap (λ g. (pcg32 g).1) h.following ∙ advance-one_more from done;
  places = λ p within.
      elim (cases_lt p done) [
        | inl before ↦ get_or-set_other text done p letter no_letter (λ e. absurd (omega arith)) ∙ h.places p before
        | inr here ↦ (
            let at : p ≡ done = omega arith in
            get_or-set_at text done p letter no_letter at (omega (arith, h.size)) ∙ is
            ∙ ap (λ g. letter_drawn alphabet (pcg32 g).0) h.following
            ∙ ap (λ n. letter_drawn alphabet (word_after from n)) (sym at))
      ];
}

pub drawn-all : (alphabet : List Letter) (from now : Lcg) (text : List Letter) (len done : ℕ) → len ≤ done →
    IsDrawnBy alphabet from now text len done → text ≡ text_drawn alphabet from len
drawn-all alphabet from now text len done all h =
    let count : length (positions_from 0 len) ≡ len = length-positions_from 0 len in
    let letter : ℕ → Letter = λ p. letter_drawn alphabet (word_after from p) in
    ext_get_or no_letter text (text_drawn alphabet from len) (h.size ∙ sym (length-map (positions_from 0 len) letter ∙
    count))
    (λ p lt.
    let inside : p < len = omega (arith, h.size) in
    let at : get_or (positions_from 0 len) p 0 ≡ p = omega (arith, get_or-positions_from 0 len p 0 inside) in
    h.places p (omega arith) ∙ sym (get_or-map letter (positions_from 0 len) p 0 no_letter (omega (arith, count)) ∙
    ap letter at))
