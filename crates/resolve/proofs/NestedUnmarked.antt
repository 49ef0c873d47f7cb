-- The pairs of a sequence nest, and no mark is one of their brackets.
use Rattle.std.proofs.Common.{◌≡◌, ℕ, zero, suc, ◌<◌, true, List, [], ◌∷◌, length, Some, get_or, slice_index, slice_index_or, refl, sym, ap, ◌∙◌, arith}
use Rattle.std.proofs.lemmas.Bool.{false≢true, false_from_ne_true}
use Rattle.units.specs.Classes.{class_at, classes_at, classes_of, is_nonspacing}
use Rattle.units.specs.Layout.{no_unit, units_at}
use Rattle.sequences.specs.Links.{ArePositions}
use Rattle.std.proofs.lemmas.List.{get_or-map, length-map}
use Rattle.units.specs.Brackets.{acting_bracket, acting_brackets, bracket_at, closes, is_open, bracket_pairs_of, closer_of}
use Rattle.units.specs.declared.bracket.Bracket.{Bracket}
use Rattle.units.specs.declared.bracket.Bracket.TheVariants.{No}
use Rattle.units.specs.declared.bracket.Unit.{Unit as BidiUnit}
use Rattle.units.specs.declared.class.Class.{Class}
use Rattle.units.specs.declared.class.Class.TheVariants.{L, ON, NSM}
use Rattle.resolve.proofs.BracketSteps.{closes-no}
use Rattle.resolve.proofs.Costs.{IsNestedUnmarked}
use Rattle.resolve.specs.Pairs.{brackets_at, MarksAreOwn}
use Rattle.resolve.proofs.Scan.{length-brackets_at}
use Rattle.resolve.proofs.Gathered.{class_at-classes_at, contains_index}
use Rattle.resolve.proofs.Nesting.{ends_somewhere, closed_pair, pairs_are_ordered, pairs_nest}

acting-mark : (current own : Class) (bracket : Bracket) → is_nonspacing own ≡ true →
    acting_bracket current own bracket ≡ No
acting-mark ON NSM bracket e = refl
acting-mark current NSM bracket e = refl
acting-mark current own bracket e = absurd (false≢true e)

-- a mark acts as no bracket
mark_at : (us : List BidiUnit) (cs : List Class) (k : ℕ) (d : BidiUnit) → k < length us →
    is_nonspacing (get_or us k d).class ≡ true → bracket_at (acting_brackets us cs) k ≡ No
mark_at [] cs k d lt e = absurd (omega arith)
mark_at (u ∷ us) [] k d lt e = refl
mark_at (u ∷ us) (c ∷ cs) zero d lt e = acting-mark c u.class u.bracket e
mark_at (u ∷ us) (c ∷ cs) (suc k) d lt e = mark_at us cs k d (omega arith) e

-- the pairs of a sequence nest, without marks as brackets
pub nested_unmarked : (most_open : ℕ) (us : List BidiUnit) (cs before : List Class) (ps : List ℕ) →
    ArePositions ps (length us) → MarksAreOwn ps us before →
    IsNestedUnmarked (classes_at before ps) (closer_of (bracket_pairs_of most_open (brackets_at us cs ps))) (length ps)
nested_unmarked most_open us cs before ps places own =
    let bs : List Bracket = brackets_at us cs ps in
    let long : length bs ≡ length ps = length-brackets_at us cs ps in
    let w = ends_somewhere most_open bs in
    let closed = λ (o c : ℕ) (e : closer_of (bracket_pairs_of most_open bs) o ≡ Some c).
    closed_pair bs w.0 o c (ap (λ pairs. closer_of pairs o) (sym w.1.pairs) ∙ e) in
    let none = λ (k : ℕ) (lt : k < length ps) (mark : is_nonspacing (class_at (classes_at before ps) k) ≡ true).
    let p : ℕ = slice_index ps k in
    let at : is_nonspacing (class_at before (slice_index ps k)) ≡ true =
    ap is_nonspacing (sym (class_at-classes_at before ps k lt)) ∙ mark in
    let class_is : class_at (classes_of us) (slice_index ps k) ≡ (get_or us (slice_index ps k) no_unit).class =
    get_or-map (λ (u : BidiUnit). u.class) us (slice_index ps k) no_unit L (places.within k lt) in
    let unit_is : get_or (units_at us ps) k no_unit ≡ get_or us (slice_index ps k) no_unit =
    get_or-map (λ q. slice_index_or us q no_unit) ps k 0 no_unit lt in
    mark_at (units_at us ps) (classes_at cs ps) k no_unit (omega (
      arith,
      lt,
      length-map ps (λ q. slice_index_or us q no_unit),
    ))
    (ap (λ (u : BidiUnit). is_nonspacing u.class) unit_is ∙ ap is_nonspacing (sym class_is) ∙
    own (slice_index ps k) (contains_index ps k lt) at) in
    record {
      ordered = λ o c h. (let v = pairs_are_ordered most_open bs o c h in (v.0, omega (arith, v.1, long)));
      nested = pairs_nest most_open bs;
      unmarked = λ o c h.
          (let v = pairs_are_ordered most_open bs o c h in
          let p = closed o c h in
          let lt : c < length ps = omega (arith, v.1, long) in
          let lt2 : o < length ps = omega (arith, v.0, v.1, long) in (
            false_from_ne_true (is_nonspacing (class_at (classes_at before ps) o)) (λ mark.
                false≢true (sym (ap is_open (none o lt2 mark)) ∙ p.opens)),
            false_from_ne_true (is_nonspacing (class_at (classes_at before ps) c)) (λ mark.
                false≢true (sym (closes-no (bracket_at bs o)) ∙ ap (closes (bracket_at bs o)) (sym (none c lt mark)) ∙
                p.closed)),
          ));
    }
