-- N1 and then N2 give the classes that both rules together give.
use Rattle.std.specs.Prelude.{true, ℕ, ◌<◌, ◌≡◌, ◌⊎◌, List, length, refl}
use Rattle.std.proofs.Common.{arith, ap, sym, ◌∙◌, inl, inr}
use Rattle.std.proofs.lemmas.Bool.{cond-true, cond-false}
use Rattle.std.proofs.lemmas.List.{length-map, get_or-map}
use Rattle.units.specs.Classes.{class_at, is_neutral}
use Rattle.units.specs.Neutral.{after_neutral, by_sides, side_of}
use Rattle.units.specs.Weak.{class_by_run}
use Rattle.units.specs.declared.class.Class.{Class}
use Rattle.units.specs.declared.class.Class.TheVariants.{L, R}
use Rattle.units.proofs.Lengths.{length-at_each}
use Rattle.resolve.proofs.AtEach.{class_at-at_each, same_classes}
use Rattle.rule_columns.specs.Passes.{after_n1, after_n2, by_n2}

side_cases : (c : Class) → (side_of c ≡ L) ⊎ (side_of c ≡ R)
side_cases L = inl refl
side_cases c = inr refl

-- for a neutral, N2 after the rule of the sides gives the result of both rules
both_steps : (embedding c before after : Class) → is_neutral c ≡ true →
    by_n2 embedding (by_sides c before after) ≡ by_sides embedding before after
both_steps embedding c before after neutral = grind (arith, cond-true, side_cases)

at_index : (embedding sos eos : Class) (cs : List Class) (k : ℕ) →
    by_n2 embedding (class_by_run is_neutral (by_sides (class_at cs k)) sos eos cs k) ≡
    class_by_run is_neutral (by_sides embedding) sos eos cs k
at_index embedding sos eos cs k = grind (arith, cond-true, both_steps, cond-false)

pub in_two_steps : (embedding sos eos : Class) (cs : List Class) →
    after_n2 embedding (after_n1 sos eos cs) ≡ after_neutral embedding sos eos cs
unfolding after_neutral
in_two_steps embedding sos eos cs =
    let first : List Class = after_n1 sos eos cs in
    let n : length first ≡ length cs = length-at_each _ cs in
    let m : length (after_n2 embedding first) ≡ length first = length-map first (by_n2 embedding) in
    same_classes (after_n2 embedding first) _ (m ∙ n ∙
    sym (length-at_each (class_by_run is_neutral (by_sides embedding) sos eos cs) cs))
    (λ k h.
    let low : k < length cs = omega (arith, n, m) in
    get_or-map (by_n2 embedding) first k L L (omega (arith, n))
    ∙ ap (by_n2 embedding) (class_at-at_each _ cs k low)
    ∙ at_index embedding sos eos cs k
    ∙ sym (class_at-at_each (class_by_run is_neutral (by_sides embedding) sos eos cs) cs k low))
