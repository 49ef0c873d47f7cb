-- The lines of a text, taken from its front one by one.
use Rattle.std.proofs.Common.{◌≡◌, ℕ, ◌+◌, ◌-◌, ◌==◌, Bool, true, false, Some, None, cond, List, [], ◌∷◌, length, take, drop, refl, sym, ap, ◌∙◌, arith}
use Rattle.std.specs.Prelude.{nat_lt}
use Rattle.std.specs.List.{position, position_or_len}
use Rattle.std.proofs.lemmas.Bool.{ltb-false}
use Rattle.std.proofs.lemmas.List.{take_rest}
use Rattle.std.proofs.lemmas.List.Quantifiers.{position-Some}
use Rattle.std.proofs.lemmas.List.Sums.{fails_before_first, position_or_len_is}
use Rattle.std.proofs.lemmas.List.Splits.{slice_split_first, slice_split_none}
use Rattle.rows.specs.TextLines.{text_lines}

abbrev is_feed : ℕ → Bool
is_feed code = code == 10

none-found : (b : Bool) (n : ℕ) → cond b (Some n) None ≡ None → b ≡ false
none-found true n e = absurd (cc)
none-found false n e = refl

pub lines-one : (text : List ℕ) → position is_feed text ≡ None → text_lines text ≡ text ∷ []
lines-one text e =
    let first : ℕ = position_or_len is_feed text in
    let all = ltb-false first (length text) (none-found (nat_lt first (length text)) first e) in
    slice_split_none is_feed text (λ k d lt. fails_before_first is_feed text k d (omega (arith, all)))

pub lines-first : (text : List ℕ) (at : ℕ) → position is_feed text ≡ Some at
    → text_lines text ≡ take at text ∷ text_lines (take (length text - (at + 1)) (drop (at + 1) text))
lines-first text at e =
    let found = position-Some is_feed text at 0 e in
    let here : position_or_len is_feed text ≡ at =
    position_or_len_is is_feed text at 0 (omega (arith, found.0)) found.2 (λ lt. found.1) in
    slice_split_first is_feed text 0 (omega (arith, here, found.0))
    ∙ ap (λ n. take n text ∷ text_lines (drop (n + 1) text)) here
    ∙ ap (λ (rest : List ℕ). take at text ∷ text_lines rest) (sym (take_rest text (at + 1)))
