-- What the isolates and the explicit levels say about a paragraph, position by position.
use Rattle.std.specs.Prelude.{Option, None, ℕ, true, false, [], ◌∷◌, ◌<◌, ◌≤◌, ◌≡◌, List, length, take, IfSome, slice_index_or}
use Rattle.std.specs.List.{list_any}
use Rattle.std.specs.Option.{option_map}
use Rattle.std.proofs.Common.{arith, ap, sym, ◌∙◌, subst}
use Rattle.std.proofs.lemmas.Bool.{cond-true, or_parts}
use Rattle.std.proofs.lemmas.List.{get_or-map, get_or-take, length-take-le, ext_get_or}
use Rattle.units.specs.Classes.{class_at, classes_of, is_isolate_initiator, is_separator}
use Rattle.units.specs.Explicit.{explicit_at, explicit_of}
use Rattle.units.specs.Isolates.{partner_of, level_of_para}
use Rattle.units.specs.Paragraphs.{SeparatorOnlyLast}
use Rattle.units.specs.Runs.{LeveledView, leveled_of, size_of, level_of, matched_pdi}
use Rattle.explicit.specs.ExplicitLevels.{HoldsLevels}
use Rattle.explicit.specs.Leveled.{IsLeveled, IsNested}
use Rattle.units.specs.declared.bracket.Unit.{Unit as BidiUnit}
use Rattle.units.specs.declared.class.Class.{Class}
use Rattle.units.specs.declared.level.ParaLevel.{ParaLevel}
use Rattle.units.specs.declared.level.ParaLevel.TheVariants.{Zero, One}
use Rattle.explicit.specs.IsolateMaps.{Isolates, IsFilledFrom}
use Rattle.explicit.proofs.LevelsComputed.InsideIsolates.{nested}
use Rattle.explicit.proofs.LevelsComputed.Leveled.{get_or-of_positions, length-of_positions, leveled, size-is}
use Rattle.sequences.specs.FilledFrom.{AreExplicitLevels, AreOfParagraph, leveled_by}
use Rattle.units.proofs.Lengths.{length-classes_of}

-- P2, P3: a paragraph's level is 0 or 1
pub level_of_para-low : (level : ParaLevel) → level_of_para level ≤ 1
level_of_para-low Zero = omega arith
level_of_para-low One = omega arith

-- without a separator, units are one paragraph
pub no_separator : (us : List BidiUnit) → list_any (λ (unit : BidiUnit). is_separator unit.class) us ≡ false →
    SeparatorOnlyLast us
no_separator [] e = tt
no_separator (u ∷ []) e = tt
no_separator (u ∷ v ∷ us) e = grind (arith, or_parts, no_separator (v ∷ us))

-- the front of the column is what X1 to X9 give
pub computed_front : (depth : ℕ) (explicit : List (Option (ℕ × Class))) (cs : List Class) (para : ℕ) →
    HoldsLevels explicit depth cs para → take (length cs) explicit ≡ explicit_of depth cs para
computed_front depth explicit cs para holds =
    let n : length (explicit_of depth cs para) ≡ length cs = length-of_positions cs (explicit_at depth cs para) in
    let m : length (take (length cs) explicit) ≡ length cs = length-take-le (length cs) explicit holds.enough in
    ext_get_or None (take (length cs) explicit) (explicit_of depth cs para) (m ∙ sym n)
    (λ i h. get_or-take (length cs) explicit i None (omega arith) ∙ holds.at i (omega arith) ∙
    sym (get_or-of_positions cs (explicit_at depth cs para) i None (omega arith)))

-- with the levels of X1 to X9 up to a depth, the paragraph is the one of this depth
pub leveled_by-is : (depth : ℕ) (explicit : List (Option (ℕ × Class))) (cs : List Class) (para : ℕ) →
    HoldsLevels explicit depth cs para → leveled_by explicit cs para ≡ leveled_of depth cs para
leveled_by-is depth explicit cs para holds = grind (arith, computed_front)

-- the paragraph has as many positions as units
pub size-of_paragraph : (explicit : List (Option (ℕ × Class))) (units : List BidiUnit) (para : ℕ) →
    AreExplicitLevels explicit (classes_of units) para →
    size_of (leveled_by explicit (classes_of units) para) ≡ length units
size-of_paragraph explicit units para levels =
    ap size_of (leveled_by-is levels.depth explicit (classes_of units) para levels.found) ∙
    size-is levels.depth (classes_of units) para ∙ length-classes_of units

-- the isolates and the explicit levels are those of the paragraph
pub paragraph_of : (units : List BidiUnit) (isolates : Isolates) (explicit : List (Option (ℕ × Class))) (base : ℕ) →
    SeparatorOnlyLast units → IsFilledFrom isolates (classes_of units) →
    AreExplicitLevels explicit (classes_of units) base →
    base ≤ 1 → AreOfParagraph units isolates explicit base
paragraph_of units isolates explicit base only matched levels low =
    let e = leveled_by-is levels.depth explicit (classes_of units) base levels.found in
    record {
      matched = matched;
      enough = levels.found.enough;
      leveled = subst IsLeveled (sym e) (leveled levels.depth (classes_of units) base levels.within low);
      nested = subst IsNested (sym e) (nested levels.depth units base only);
    }

module _ {units : List BidiUnit} {isolates : Isolates} {explicit : List (Option (ℕ × Class))} {base : ℕ}
    {t : LeveledView}
    (a : AreOfParagraph units isolates explicit base) (e : leveled_by explicit (classes_of units) base ≡ t) (p : ℕ)
    (h : p < size_of t) where
  pub within_classes : p < length (classes_of units)
  within_classes = omega (arith, a.leveled.classes_fit, ap size_of e)

  pub within_units : p < length units
  within_units = omega (arith, within_classes, length-classes_of units)

  pub within_explicit : p < length explicit
  within_explicit = omega (arith, within_classes, a.enough)

  -- a position's level is its explicit one
  pub level-explicit : level_of t p ≡ option_map (λ leveled. leveled.0) (slice_index_or explicit p None)
  level-explicit = grind (arith, length-take-le, get_or-map, get_or-take)

  -- the matching PDI of an initiator is its partner
  pub matched-partner : is_isolate_initiator (class_at t.classes p) ≡ true →
      matched_pdi t p ≡ partner_of (classes_of units) p
  matched-partner i = grind (arith, cond-true, get_or-of_positions)

  pub level-within : IfSome (level_of t p) (λ l. l ≤ 125)
  level-within = let P : LeveledView → Type 0 = λ v. IfSome (level_of v p) (λ l. l ≤ 125) in
      subst P e (a.leveled.levels_within p)

  pub leveled_later : IfSome (matched_pdi t p) (λ q. (p < q) × (q < size_of t))
  leveled_later = let P : LeveledView → Type 0 = λ v. IfSome (matched_pdi v p) (λ q. (p < q) × (q < size_of v)) in
      subst P e (a.leveled.later p)
