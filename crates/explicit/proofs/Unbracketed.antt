-- N0 without an opening bracket.
use Rattle.std.proofs.Common.{◌≡◌, ℕ, zero, suc, ◌<◌, false, None, List, [], ◌∷◌, length, get_or, refl, ap, ◌∙◌, arith, inl, inr}
use Rattle.std.specs.Prelude.{Option, fold, filter}
use Rattle.std.proofs.lemmas.Bool.{and_left, cases_lt}
use Rattle.std.proofs.lemmas.List.{get_or_past, get_or-map, length-map}
use Rattle.units.specs.Positions.{positions_of, is_before}
use Rattle.units.specs.Brackets.{acting_bracket, acting_brackets, is_open, bracket_at, pairs_before, stop_of, bracket_pairs_of, closer_of, after_pair, after_paired}
use Rattle.units.specs.Runs.{SequenceView, direction_of}
use Rattle.units.specs.Layout.{no_unit, units_at, after_brackets}
use Rattle.units.specs.declared.class.Class.{Class}
use Rattle.units.specs.declared.class.Class.TheVariants.{NSM, ON}
use Rattle.units.specs.declared.bracket.Bracket.{Bracket}
use Rattle.units.specs.declared.bracket.Unit.{Unit as BidiUnit}
use Rattle.explicit.specs.IdleRules.{HasNoOpening}
use Rattle.units.proofs.Positions.{last_below_nowhere}

-- if nothing opens, nothing is paired
pub pairs_before-none : (bs : List Bracket) → ((p : ℕ) → is_open (bracket_at bs p) ≡ false) → (p : ℕ) →
    pairs_before bs p ≡ []
pairs_before-none bs none zero = refl
pairs_before-none bs none (suc p) = grind (arith, last_below_nowhere, and_left, pairs_before-none bs none p)

pub bracket_pairs_of-none : (most_open : ℕ) (bs : List Bracket) → ((p : ℕ) → is_open (bracket_at bs p) ≡ false) →
    bracket_pairs_of most_open bs ≡ []
unfolding bracket_pairs_of
bracket_pairs_of-none most_open bs none =
    ap (filter (λ (pair : ℕ × ℕ). is_before pair.1 (stop_of most_open bs))) (pairs_before-none bs none (length bs))

pub closer_of-none : (o : ℕ) → closer_of [] o ≡ None
unfolding closer_of
closer_of-none o = refl

-- N0: without closers nothing changes
pairs_none : (embedding sos : Class) (before : List Class) (closer : ℕ → Option ℕ) → ((o : ℕ) → closer o ≡ None) →
    (cs : List Class) (os : List ℕ) → fold (λ now o. after_pair embedding sos before now o (closer o)) cs os ≡ cs
pairs_none embedding sos before closer none cs [] = refl
pairs_none embedding sos before closer none cs (o ∷ os) =
    grind (arith, pairs_none embedding sos before closer none cs os)

pub after_paired-none : (embedding sos : Class) (before : List Class) (closer : ℕ → Option ℕ) →
    ((o : ℕ) → closer o ≡ None) → (cs : List Class) → after_paired embedding sos before closer cs ≡ cs
unfolding after_paired
after_paired-none embedding sos before closer none cs = pairs_none embedding sos before closer none cs (positions_of cs)

-- a bracket that doesn't open never acts as one that does
acting-closed : (c own : Class) (bracket : Bracket) → is_open bracket ≡ false →
    is_open (acting_bracket c own bracket) ≡ false
acting-closed ON NSM bracket h = refl
acting-closed ON _ bracket h = h
acting-closed _ own bracket h = refl

pub acting_brackets-closed : (us : List BidiUnit) (cs : List Class) → HasNoOpening us → (p : ℕ) →
    is_open (bracket_at (acting_brackets us cs) p) ≡ false
acting_brackets-closed [] cs none p = refl
acting_brackets-closed (u ∷ us) [] none p = refl
acting_brackets-closed (u ∷ us) (c ∷ cs) none zero = acting-closed c u.class u.bracket (none 0 no_unit (omega arith))
acting_brackets-closed (u ∷ us) (c ∷ cs) none (suc p) =
    acting_brackets-closed us cs (λ k d lt. none (suc k) d (omega arith)) p

units_at-closed : (us : List BidiUnit) (ps : List ℕ) → HasNoOpening us → HasNoOpening (units_at us ps)
units_at-closed us ps none = (λ k d lt.
    let l : k < length ps = omega (arith, length-map ps (λ p. get_or us p no_unit)) in
    let q : ℕ = get_or ps k 0 in
    let closed : is_open (get_or us q no_unit).bracket ≡ false =
    elim (cases_lt q (length us)) [
      | inl within ↦ none q no_unit within
      | inr past ↦ ap (λ (u : BidiUnit). is_open u.bracket) (get_or_past us q no_unit past)
    ] in
    ap (λ (u : BidiUnit). is_open u.bracket) (get_or-map (λ p. get_or us p no_unit) ps k 0 d l) ∙ closed)

-- N0 changes nothing in a sequence of units without an opening bracket
pub after_brackets-none : (most_open : ℕ) (s : SequenceView) (us : List BidiUnit) (before weak : List Class) →
    HasNoOpening us → after_brackets most_open s us before weak ≡ weak
after_brackets-none most_open s us before weak none =
    let bs : List Bracket = acting_brackets (units_at us s.positions) weak in
    let closed : (p : ℕ) → is_open (bracket_at bs p) ≡ false =
    acting_brackets-closed (units_at us s.positions) weak (units_at-closed us s.positions none) in
    after_paired-none (direction_of s.level) s.sos before (closer_of (bracket_pairs_of most_open bs))
    (λ o. ap (λ ps. closer_of ps o) (bracket_pairs_of-none most_open bs closed) ∙ closer_of-none o) weak
