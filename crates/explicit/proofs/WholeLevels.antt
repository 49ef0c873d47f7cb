-- The levels of a flat paragraph are those of its one sequence (W1 to I2).
use Rattle.std.proofs.Common.{◌≡◌, ℕ, true, List, [], ◌∷◌, length, map, refl, ap, ◌∙◌, arith}
use Rattle.std.specs.Option.{option_map_or}
use Rattle.std.specs.List.{flat_map}
use Rattle.std.proofs.lemmas.Bool.{false≢true}
use Rattle.std.proofs.lemmas.List.{length-map, get_or-map, get_or_past}
use Rattle.units.specs.Classes.{classes_of, class_at, classes_at}
use Rattle.units.specs.Positions.{positions_of}
use Rattle.units.specs.Explicit.{explicit_of}
use Rattle.units.specs.Limits.{LimitsOf}
use Rattle.units.specs.Layout.{current_of, levels_in, value_beside, resolved_levels}
use Rattle.units.specs.declared.bracket.Unit.{Unit as BidiUnit}
use Rattle.units.specs.declared.class.Class.{Class}
use Rattle.units.specs.declared.class.Class.TheVariants.{BN}
use Rattle.explicit.specs.Flat.{IsFlat, is_remaining, remaining_of, level_sequences, flat_sequences}
use Rattle.std.proofs.lemmas.Simd.{map-map}
use Rattle.explicit.proofs.Listed.{map_filter}
use Rattle.explicit.proofs.FlatParagraph.{explicit_of-flat, leveled_class}
use Rattle.explicit.proofs.OneSequence.{sequences_of-flat}

-- the current class of a position that remains is its own
current_class : (para : ℕ) (c : Class) → is_remaining c ≡ true →
    option_map_or (λ (x : ℕ × Class). x.1) (leveled_class para c) BN ≡ c
current_class para c retained = grind (arith, false≢true)

module _ (depth : ℕ) (cs : List Class) (para : ℕ) (flat : IsFlat cs) where
  current_at : (p : ℕ) → is_remaining (class_at cs p) ≡ true →
      class_at (current_of (explicit_of depth cs para)) p ≡ class_at cs p
  current_at p retained = grind (arith, explicit_of-flat, map-map, get_or-map, current_class, get_or_past, length-map)

  pub current-remaining : classes_at (current_of (explicit_of depth cs para)) (remaining_of cs) ≡
      classes_at cs (remaining_of cs)
  current-remaining = map_filter (λ p. is_remaining (class_at cs p)) (class_at (current_of (explicit_of depth cs para)))
      (class_at cs) current_at (positions_of cs)

-- the same classes give the same levels
levels_by_current : (most_open : ℕ) (us : List BidiUnit) (current own : List Class) (para extent : ℕ) (ps : List ℕ) →
    classes_at current ps ≡ classes_at own ps →
    flat_map (levels_in most_open us current) (level_sequences para extent ps) ≡
    flat_map (levels_in most_open us own) (level_sequences para extent ps)
levels_by_current most_open us current own para extent [] e = refl
levels_by_current most_open us current own para extent (p ∷ ps) e = grind arith

pub resolved_levels-flat : (limits : LimitsOf) (us : List BidiUnit) (para : ℕ) → IsFlat (classes_of us) →
    resolved_levels limits us para ≡
    map (value_beside (flat_map (levels_in limits.brackets us (classes_of us)) (flat_sequences para (classes_of us))))
    (positions_of us)
unfolding resolved_levels
resolved_levels-flat limits us para flat =
    let cs : List Class = classes_of us in
    let current : List Class = current_of (explicit_of limits.depth cs para) in
    ap (λ ss. map (value_beside (flat_map (levels_in limits.brackets us current) ss)) (positions_of us))
    (sequences_of-flat limits.depth cs para flat)
    ∙ ap (λ found. map (value_beside found) (positions_of us)) (levels_by_current limits.brackets us current cs para
    (length cs) (remaining_of cs) (current-remaining limits.depth cs para flat))
