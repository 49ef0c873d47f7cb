-- What a loop over the paragraphs of a text has printed, and the remaining paragraphs.
use Rattle.std.proofs.Common.{◌≡◌, ◌<◌, ◌≤◌, ℕ, suc, ◌+◌, ◌-◌, List, [], ◌∷◌, Option, length, drop, refl, sym, ap, ◌∙◌, arith, length-append, length-drop}
use Rattle.std.specs.Prelude.{slice_index_or, sum_by}
use Rattle.std.specs.Io.KnownBytes.{Appends}
use Rattle.std.proofs.lemmas.List.{drop_more}
use Rattle.std.proofs.lemmas.List.Sums.{sum_by-cons, sum_by_more, sum_by_more_le}
use Rattle.units.specs.Paragraphs.{IsCut, SeparatorOnlyLast, joined, paragraphs_of}
use Rattle.units.specs.declared.bracket.Unit.{Unit as BidiUnit}
use Rattle.explicit.proofs.LevelsComputed.OneCutting.{IsCut-paragraphs_of, joined-paragraphs_of}
use Rattle.printing.specs.LevelsText.{printed}
use Rattle.printing.specs.Fronts.{AppendsFront, FaultLeavesFront}
use Rattle.printing.specs.declared.fault.PrintFault.{PrintFault}
use Rattle.printing.proofs.Fronts.{fault_along, front_of_printed, front_to}
use Rattle.printing.proofs.Printing.{HasPrinted, nothing_printed, one_more_printed}
use Rattle.units.specs.declared.level.Direction.{Direction}
use Rattle.rule_columns.specs.Columns.{columns_of}
use Rattle.explain.specs.Explained.{explained_paragraph, paragraph_explained, start_of}
use Rattle.explain.proofs.Finished.{all_printed}

sum-lengths : (pieces : List (List BidiUnit)) → sum_by length pieces ≡ length (joined pieces)
sum-lengths [] = refl
sum-lengths (piece ∷ pieces) =
    sum_by-cons length piece pieces ∙ ap (λ n. length piece + n) (sum-lengths pieces) ∙
    sym (length-append piece (joined pieces))

total-lengths : (text : List BidiUnit) → sum_by length (paragraphs_of text) ≡ length text
total-lengths text = sum-lengths (paragraphs_of text) ∙ ap length (joined-paragraphs_of text)

-- the known output grew by the text of the paragraphs before number k; the rest remain, and the next one begins at
-- start
pub record HasExplained (old new : Option (List ℕ)) (text : ℕ →
    List ℕ) (units : List BidiUnit) (rest : List (List BidiUnit)) (k start : ℕ) : Type 0 where
  pub grown : HasPrinted old new text 0 k
  pub remaining : drop k (paragraphs_of units) ≡ rest
  pub within : k ≤ length (paragraphs_of units)
  pub cut : IsCut rest
  pub begins : start ≡ start_of (paragraphs_of units) k

-- facts about the next paragraph
pub record IsNextParagraph (units : List BidiUnit) (rest others : List (List BidiUnit)) (para : List BidiUnit)
    (k start : ℕ) : Type 0 where
  pub here : slice_index_or (paragraphs_of units) k [] ≡ para
  pub inside : k < length (paragraphs_of units)
  pub only_last : SeparatorOnlyLast para
  pub others_cut : IsCut others
  pub others_remain : drop (k + 1) (paragraphs_of units) ≡ others
  pub begins : start ≡ start_of (paragraphs_of units) k
  pub ends : start + length para ≡ start_of (paragraphs_of units) (k + 1)
  pub fits : start + length para ≤ length units

cut_front : (rest others : List (List BidiUnit)) (para : List BidiUnit) → rest ≡ para ∷ others → IsCut rest →
    SeparatorOnlyLast para × IsCut others
cut_front rest others para e h = let whole : IsCut (para ∷ others) = rw e at h in (whole.1, whole.3)

module _ (text : ℕ → List ℕ) (units : List BidiUnit) where
  pub nothing_explained : (a : Option (List ℕ)) → HasExplained a a text units (paragraphs_of units) 0 0
  nothing_explained a = record {
    grown = nothing_printed a text 0;
    remaining = refl;
    within = omega arith;
    cut = IsCut-paragraphs_of units;
    begins = refl;
  }

  pub next_paragraph : (a b : Option (List ℕ)) (rest others : List (List BidiUnit)) (para : List BidiUnit)
      (k start : ℕ) → rest ≡ para ∷ others
      → HasExplained a b text units rest k start → IsNextParagraph units rest others para k start
  next_paragraph a b rest others para k start e h =
      let paragraphs = paragraphs_of units in
      let count : length paragraphs - k ≡ suc (length others) = sym (length-drop k paragraphs) ∙
      ap length (h.remaining ∙ e) in
      let inside : k < length paragraphs = omega (arith, count) in
      let more : slice_index_or paragraphs k [] ∷ drop (k + 1) paragraphs ≡ para ∷ others =
      sym (drop_more paragraphs k [] inside) ∙ h.remaining ∙ e in
      let here : slice_index_or paragraphs k [] ≡ para = cc more in
      let size : length (slice_index_or paragraphs k []) ≡ length para = ap length here in
      let parts = cut_front rest others para e h.cut in
      record {
        here = here;
        inside = inside;
        only_last = parts.0;
        others_cut = parts.1;
        others_remain = cc more;
        begins = h.begins;
        ends = omega (arith, size, h.begins, sum_by_more length paragraphs k [] inside);
        fits = omega (arith, size, h.begins, sum_by_more_le length paragraphs k [] inside, total-lengths units);
      }

  pub one_more_explained : (a b c : Option (List ℕ)) (rest others : List (List BidiUnit)) (para : List BidiUnit)
      (k start : ℕ) → rest ≡ para ∷ others
      → HasExplained a b text units rest k start → Appends b c (text k) →
      HasExplained a c text units others (k + 1) (start + length para)
  one_more_explained a b c rest others para k start e h f =
      let next = next_paragraph a b rest others para k start e h in
      record {
        grown = one_more_printed a b c text 0 k (omega arith) h.grown f;
        remaining = next.others_remain;
        within = omega (arith, next.inside);
        cut = next.others_cut;
        begins = next.ends;
      }

  -- a fault in the next paragraph
  pub breaks_off : (f : PrintFault) (a b c : Option (List ℕ)) (rest others : List (List BidiUnit))
      (para : List BidiUnit) (k start : ℕ) (written : List ℕ) → rest ≡ para ∷ others
      → HasExplained a b text units rest k start → written ≡ text k → FaultLeavesFront written b c f
      → FaultLeavesFront (printed text 0 (length (paragraphs_of units))) a c f
  breaks_off f a b c rest others para k start written e h same =
      let next = next_paragraph a b rest others para k start e h in
      let whole = λ (v : AppendsFront written b c).
      front_of_printed text 0 k _ a b c (omega arith) next.inside h.grown (front_to _ _ b c same v) in
      fault_along f _ _ b c a c whole

  pub all_explained : (a b : Option (List ℕ)) (rest : List (List BidiUnit)) (k start : ℕ) → rest ≡ []
      → HasExplained a b text units rest k start → Appends a b (printed text 0 (length (paragraphs_of units)))
  all_explained a b rest k start e h =
      let count : length (paragraphs_of units) - k ≡ 0 = sym (length-drop k (paragraphs_of units)) ∙
      ap length (h.remaining ∙ e) in
      all_printed a b text 0 k (length (paragraphs_of units)) (omega (arith, count, h.within)) h.grown

pub same_paragraph : (chars : List ℕ) (direction : Direction) (paragraphs : List (List BidiUnit)) (para : List BidiUnit)
    (number k start : ℕ)
    → number ≡ k → start ≡ start_of paragraphs k → slice_index_or paragraphs k [] ≡ para
    → paragraph_explained chars para (columns_of para direction) direction start number ≡
    explained_paragraph chars direction paragraphs k
same_paragraph chars direction paragraphs para number k start e f h =
    ap (λ n. paragraph_explained chars para (columns_of para direction) direction start n) e
    ∙ ap (λ s. paragraph_explained chars para (columns_of para direction) direction s k) f
    ∙ ap (λ us. paragraph_explained chars us (columns_of us direction) direction (start_of paragraphs k) k) (sym h)
