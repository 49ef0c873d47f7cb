-- The levels of a flat paragraph by the units that remain: what X9 removes gets none, and changes none.
use Rattle.std.specs.Prelude.{Option, Some, None, ℕ, zero, suc, ◌+◌, ◌<◌, ◌≤◌, Bool, ◌==◌, ◌≡◌, List, [], ◌∷◌, ◌++◌, length, map, filter, find, slice_index_or, refl}
use Rattle.std.specs.List.{flat_map, zip}
use Rattle.std.specs.Option.{option_map}
use Rattle.std.proofs.Common.{arith, ap, sym, ◌∙◌, inl, inr}
use Rattle.std.proofs.lemmas.Bool.{cases_Bool, cond-true, cond-false, eq-eqb, ne_eqb}
use Rattle.units.specs.Classes.{class_at, classes_of, classes_at}
use Rattle.units.specs.Layout.{no_unit, units_at, levels_in, levels_of_sequence, value_beside, resolved_levels}
use Rattle.units.specs.Limits.{LimitsOf}
use Rattle.units.specs.Positions.{positions_from, positions_of}
use Rattle.units.specs.declared.bracket.Unit.{Unit as BidiUnit}
use Rattle.units.specs.declared.class.Class.{Class}
use Rattle.units.proofs.Lengths.{length-classes_of}
use Rattle.explicit.specs.Flat.{IsFlat, is_remaining, remaining_of, level_sequence, level_sequences}
use Rattle.explicit.proofs.WholeLevels.{resolved_levels-flat}
use Rattle.compress.specs.Remaining.{stays, remaining_units, first_of, later_of, by_remaining, at_level}
use Rattle.compress.proofs.Bracketed.{unit_levels}
use Rattle.compress.proofs.ByUnits.{unit_at, class_of-unit}

-- the units at the positions that remain
units_from : (f : ℕ → BidiUnit) (keep : ℕ → Bool) (us : List BidiUnit) (start : ℕ) → ((p : ℕ) → keep p ≡ stays (f p)) → ((k : ℕ) → k < length us → f (start + k) ≡ slice_index_or us k no_unit) →
    map f (filter keep (positions_from start (length us))) ≡ filter stays us
units_from f keep [] start same h = refl
units_from f keep (u ∷ us) start same h =
    let e : start + 0 ≡ start = omega arith in
    let here : f start ≡ u = ap f (sym e) ∙ h 0 (omega arith) in
    let rest : map f (filter keep (positions_from (start + 1) (length us))) ≡ filter stays us =
    units_from f keep us (start + 1) same (λ k lt. let q : start + 1 + k ≡ start + suc k = omega arith in ap f q ∙ h (suc k) (omega arith)) in
    let ps : List ℕ = positions_from (start + 1) (length us) in
    let is : keep start ≡ stays u = same start ∙ ap stays here in
    elim (cases_Bool (keep start)) [
      | inl t ↦
          ap (map f) (cond-true (keep start) (start ∷ filter keep ps) (filter keep ps) t)
          ∙ ap (λ (v : BidiUnit). v ∷ map f (filter keep ps)) here ∙ ap (λ vs. u ∷ vs) rest
          ∙ sym (cond-true (stays u) (u ∷ filter stays us) (filter stays us) (sym is ∙ t))
      | inr n ↦
          ap (map f) (cond-false (keep start) (start ∷ filter keep ps) (filter keep ps) n) ∙ rest
          ∙ sym (cond-false (stays u) (u ∷ filter stays us) (filter stays us) (sym is ∙ n))
    ]

-- nothing is found before the first position
beside_none : (keep : ℕ → Bool) (n start : ℕ) (ls : List ℕ) (p : ℕ) → p < start → value_beside (zip (filter keep (positions_from start n)) ls) p ≡ None
beside_none keep zero start ls p h = refl
beside_none keep (suc n) start [] p h =
    elim (cases_Bool (keep start)) [
      | inl t ↦ ap (λ ps. value_beside (zip ps []) p) (cond-true (keep start) (start ∷ filter keep (positions_from (start + 1) n)) (filter keep (positions_from (start + 1) n)) t)
      | inr f ↦ ap (λ ps. value_beside (zip ps []) p) (cond-false (keep start) (start ∷ filter keep (positions_from (start + 1) n)) (filter keep (positions_from (start + 1) n)) f) ∙ beside_none keep n (start + 1) [] p (omega arith)
    ]
beside_none keep (suc n) start (l ∷ ls) p h =
    let ps : List ℕ = filter keep (positions_from (start + 1) n) in
    elim (cases_Bool (keep start)) [
      | inl t ↦
          ap (λ qs. value_beside (zip qs (l ∷ ls)) p) (cond-true (keep start) (start ∷ ps) ps t)
          ∙ ap (option_map (λ (x : ℕ × ℕ). x.1)) (cond-false (start == p) (Some (start, l)) (find (λ (x : ℕ × ℕ). x.0 == p) (zip ps ls)) (ne_eqb start p (λ e. omega arith)))
          ∙ beside_none keep n (start + 1) ls p (omega arith)
      | inr f ↦ ap (λ qs. value_beside (zip qs (l ∷ ls)) p) (cond-false (keep start) (start ∷ ps) ps f) ∙ beside_none keep n (start + 1) (l ∷ ls) p (omega arith)
    ]

map_from : (f g : ℕ → Option ℕ) (n start : ℕ) → ((p : ℕ) → start ≤ p → f p ≡ g p) → map f (positions_from start n) ≡ map g (positions_from start n)
map_from f g zero start h = refl
map_from f g (suc n) start h =
    ap (λ v. v ∷ map f (positions_from (start + 1) n)) (h start (omega arith))
    ∙ ap (λ vs. g start ∷ vs) (map_from f g n (start + 1) (λ p le. h p (omega arith)))

zip_none : (ps ls : List ℕ) → length ls ≡ 0 → zip ps ls ≡ []
zip_none [] [] e = refl
zip_none (p ∷ ps) [] e = refl
zip_none ps (l ∷ ls) e = absurd (omega arith)

no_levels : (keep : ℕ → Bool) (f : ℕ → BidiUnit) (us : List BidiUnit) (start : ℕ) → ((p : ℕ) → keep p ≡ stays (f p)) → ((k : ℕ) → k < length us → f (start + k) ≡ slice_index_or us k no_unit) →
    (ls : List ℕ) → map (value_beside (zip (filter keep (positions_from start (length us))) ls)) (positions_from start (length us)) ≡ by_remaining us ls
no_levels keep f [] start same h ls = refl
no_levels keep f (u ∷ us) start same h ls =
    let e : start + 0 ≡ start = omega arith in
    let here : f start ≡ u = ap f (sym e) ∙ h 0 (omega arith) in
    let is : keep start ≡ stays u = same start ∙ ap stays here in
    let n : ℕ = length us in
    let ps : List ℕ = filter keep (positions_from (start + 1) (length us)) in
    let later : (ms : List ℕ) → map (value_beside (zip ps ms)) (positions_from (start + 1) n) ≡ by_remaining us ms =
    no_levels keep f us (start + 1) same (λ k lt. let q : start + 1 + k ≡ start + suc k = omega arith in ap f q ∙ h (suc k) (omega arith)) in
    elim (cases_Bool (keep start)) [
      | inl t ↦
          ap (λ qs. map (value_beside (zip qs ls)) (positions_from start (suc n))) (cond-true (keep start) (start ∷ ps) ps t)
          ∙ chosen start n ps ls (by_remaining us (later_of ls)) (later (later_of ls))
          ∙ sym (cond-true (stays u) (first_of ls ∷ by_remaining us (later_of ls)) (None ∷ by_remaining us ls) (sym is ∙ t))
      | inr d ↦
          ap (λ qs. map (value_beside (zip qs ls)) (positions_from start (suc n))) (cond-false (keep start) (start ∷ ps) ps d)
          ∙ ap (λ (v : Option ℕ). v ∷ map (value_beside (zip ps ls)) (positions_from (start + 1) n)) (beside_none keep n (start + 1) ls start (omega arith))
          ∙ ap (λ vs. None ∷ vs) (later ls)
          ∙ sym (cond-false (stays u) (first_of ls ∷ by_remaining us (later_of ls)) (None ∷ by_remaining us ls) (sym is ∙ d))
    ] where
      chosen : (start n : ℕ) (ps ls : List ℕ) (tail : List (Option ℕ)) → map (value_beside (zip ps (later_of ls))) (positions_from (start + 1) n) ≡ tail →
          map (value_beside (zip (start ∷ ps) ls)) (positions_from start (suc n)) ≡ first_of ls ∷ tail
      chosen start n ps [] tail e = ap (λ vs. None ∷ vs) (map_from (value_beside []) (value_beside (zip ps [])) n (start + 1) (λ p le. ap (λ fs. value_beside fs p) (sym (zip_none ps [] refl))) ∙ e)
      chosen start n ps (l ∷ ls) tail e =
          ap (λ (v : Option ℕ). v ∷ map (value_beside ((start, l) ∷ zip ps ls)) (positions_from (start + 1) n))
          (ap (option_map (λ (x : ℕ × ℕ). x.1)) (cond-true (start == start) (Some (start, l)) (find (λ (x : ℕ × ℕ). x.0 == start) (zip ps ls)) (eq-eqb start start refl)))
          ∙ ap (λ vs. Some l ∷ vs)
          (map_from (value_beside ((start, l) ∷ zip ps ls)) (value_beside (zip ps ls)) n (start + 1)
          (λ p le. ap (option_map (λ (x : ℕ × ℕ). x.1)) (cond-false (start == p) (Some (start, l)) (find (λ (x : ℕ × ℕ). x.0 == p) (zip ps ls)) (ne_eqb start p (λ q. omega arith)))) ∙ e)

classes_at-units : (us : List BidiUnit) (ps : List ℕ) → classes_at (classes_of us) ps ≡ classes_of (units_at us ps)
classes_at-units us [] = refl
classes_at-units us (p ∷ ps) = ap (λ (c : Class). c ∷ classes_at (classes_of us) ps) (class_of-unit us p) ∙ ap (λ (cs : List Class). (unit_at us p).class ∷ cs) (classes_at-units us ps)

append-none : {A : Type 0} (xs : List A) → xs ++ [] ≡ xs
append-none [] = refl
append-none (x ∷ xs) = ap (λ ys. x ∷ ys) (append-none xs)

levels_in_one : (most : ℕ) (us : List BidiUnit) (para extent : ℕ) (ps : List ℕ) →
    flat_map (levels_in most us (classes_of us)) (level_sequences para extent ps) ≡ zip ps (unit_levels most (at_level para) (units_at us ps))
levels_in_one most us para extent [] = refl
levels_in_one most us para extent (p ∷ ps) =
    append-none (levels_in most us (classes_of us) (level_sequence para extent (p ∷ ps)))
    ∙ ap (λ (cs : List Class). zip (p ∷ ps) (levels_of_sequence most (level_sequence para extent (p ∷ ps)) us cs)) (classes_at-units us (p ∷ ps))

-- X1 to I2
pub resolved_levels-remaining : (limits : LimitsOf) (us : List BidiUnit) (para : ℕ) → IsFlat (classes_of us) →
    resolved_levels limits us para ≡ by_remaining us (unit_levels limits.brackets (at_level para) (remaining_units us))
resolved_levels-remaining limits us para flat =
    let cs : List Class = classes_of us in
    let keep : ℕ → Bool = λ p. is_remaining (class_at (classes_of us) p) in
    let same : (p : ℕ) → keep p ≡ stays (unit_at us p) = λ p. ap is_remaining (class_of-unit us p) in
    let at : (k : ℕ) → k < length us → unit_at us (0 + k) ≡ slice_index_or us k no_unit = λ k lt. let z : 0 + k ≡ k = omega arith in ap (unit_at us) z in
    let ps : List ℕ = filter keep (positions_from 0 (length us)) in
    let tail : remaining_of (classes_of us) ≡ ps = ap (λ n. filter keep (positions_from 0 n)) (length-classes_of us) in
    resolved_levels-flat limits us para flat
    ∙ ap (λ found. map (value_beside found) (positions_of us)) (levels_in_one limits.brackets us para (length cs) (remaining_of cs))
    ∙ ap (λ qs. map (value_beside (zip qs (unit_levels limits.brackets (at_level para) (units_at us qs)))) (positions_of us)) tail
    ∙ ap (λ vs. map (value_beside (zip ps (unit_levels limits.brackets (at_level para) vs))) (positions_of us)) (units_from (unit_at us) keep us 0 same at)
    ∙ no_levels keep (unit_at us) us 0 same at (unit_levels limits.brackets (at_level para) (remaining_units us))
