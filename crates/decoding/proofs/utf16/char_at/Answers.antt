use Rattle.std.proofs.Common.{◌≡◌, ◌+◌, ◌∷◌, ℕ, sym, ap, ◌∙◌, inl, inr, arith, drop, get_or}
use lib.ListN.{get_or-eq_default}
use Rattle.std.specs.Prelude.{Some}
use Rattle.std.specs.Char.Utf16.{lone_unit_char, surrogate_pair_char, utf16_chars}
use Rattle.std.proofs.str.Utf16.{IsPair, lone_unit_char_low, lone_unit_char_high, lone_unit_char_surrogate, utf16_chars-drop_lone, utf16_chars-drop_pair}
use Rattle.decoding.proofs.Utf16Texts.{is_value}
use Rattle.decoding.proofs.utf16.char_at.Goals as goal

pub returns-then-high-lt55296-clause-first : goal.returns-then-high-lt55296-clause-first
returns-then-high-lt55296-clause-first c =
    let xs = c.args.text.now in
    let at = c.args.at in
    let u = get_or xs at 0 in
    let fits = c.type_inv.text at in
    let same : c.from-high.result ≡ u = c.from-high.ensures in
    let made = is_value _ _ _ c.from_u32.ensures.value in
    let as_value = ap Some {x = u} {y = c.from-high.result} (sym same) in
    let lone : lone_unit_char u ≡ c.from_u32.result = elim c.then-high-lt55296.branch [
      | goal.then-high-lt55296-via-then-high-lt55296 w ↦
          let low = w.if-high-lt55296.true in lone_unit_char_low u (omega (arith, low, same)) ∙ as_value ∙
          made (c.from_u32.ensures.succeeds (inl low))
      | goal.then-high-lt55296-via-else-high-lt55296+then-high-ge57344 w ↦
          let high = w.if-high-ge57344.true in lone_unit_char_high u (omega (arith, high, same)) ∙ as_value ∙
          made (c.from_u32.ensures.succeeds (inr (high, omega (arith, same, fits))))
    ] in
    utf16_chars-drop_lone xs at c.requires (λ pair. omega arith) ∙ ap (λ o. o ∷ utf16_chars (drop (at + 1) xs)) lone

pub returns-then-high-ge56320-clause-first : goal.returns-then-high-ge56320-clause-first
returns-then-high-ge56320-clause-first c =
    let xs = c.args.text.now in
    let at = c.args.at in
    let same : c.from-high.result ≡ get_or xs at 0 = c.from-high.ensures in
    let apart = λ (pair : IsPair (get_or xs at 0) (get_or xs (at + 1) 0)). elim c.then-high-ge56320.branch as (λ _. ⊥) [
      | goal.then-high-ge56320-via-then-high-ge56320 w ↦ omega arith
      | goal.then-high-ge56320-via-else-high-ge56320+then-text-at-lt2 w ↦
          omega (arith, get_or-eq_default xs 0 {n = at + 1} (omega arith))
    ] in
    utf16_chars-drop_lone xs at c.requires apart
    ∙ ap (λ o. o ∷ utf16_chars (drop (at + 1) xs)) (lone_unit_char_surrogate (get_or xs at 0) (omega (
      arith,
      c.if-high-lt55296.false,
      same,
    )) (omega (arith, c.if-high-ge57344.false, same)))

pub returns-then-low-lt56320-clause-first : goal.returns-then-low-lt56320-clause-first
returns-then-low-lt56320-clause-first c =
    let xs = c.args.text.now in
    let at = c.args.at in
    let same : c.from-high.result ≡ get_or xs at 0 = c.from-high.ensures in
    let next : c.from-low.result ≡ get_or xs (at + 1) 0 = c.from-low.ensures in
    utf16_chars-drop_lone xs at c.requires (λ pair. omega (arith, next, pair.2, pair.3, c.then-low-lt56320.either))
    ∙ ap (λ o. o ∷ utf16_chars (drop (at + 1) xs)) (lone_unit_char_surrogate (get_or xs at 0) (omega (
      arith,
      c.if-high-lt55296.false,
      same,
    )) (omega (arith, c.if-high-ge57344.false, same)))

pub returns-clause-first : goal.returns-clause-first
returns-clause-first c =
    let xs = c.args.text.now in
    let at = c.args.at in
    let u = get_or xs at 0 in
    let v = get_or xs (at + 1) 0 in
    let same : c.from-high.result ≡ u = c.from-high.ensures in
    let next : c.from-low.result ≡ v = c.from-low.ensures in
    let pair : IsPair u v = (omega arith, omega arith, omega arith, omega arith) in
    let made = is_value _ _ _ c.from_u32-2.ensures.value (c.from_u32-2.ensures.succeeds (inr (
      omega arith,
      omega arith,
    ))) in
    utf16_chars-drop_pair xs at (omega arith) pair
    ∙ ap (λ o. o ∷ utf16_chars (drop (at + 2) xs)) (ap (λ (h : ℕ). Some (surrogate_pair_char h v)) (sym same) ∙
    ap (λ (l : ℕ). Some (surrogate_pair_char c.from-high.result l)) (sym next) ∙ made)
