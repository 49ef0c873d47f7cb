-- A line as a text of its own: it is one paragraph, and it has no segment separators if its text has none.
use Rattle.std.proofs.Common.{◌≡◌, ℕ, ◌+◌, ◌-◌, ◌<◌, ◌≤◌, true, false, List, [], ◌∷◌, length, get_or, zero, suc, refl, sym, ap, ◌∙◌, arith}
use Rattle.std.specs.Prelude.{slice_index, slice_range}
use Rattle.std.proofs.lemmas.List.{get_or_default, length-map}
use Rattle.std.proofs.lemmas.List.Edits.{length-between}
use Rattle.std.proofs.lemmas.List.Folds.{list_any_at, list_any_none}
use Rattle.units.specs.declared.bracket.Unit.{Unit as BidiUnit}
use Rattle.units.specs.declared.class.Class.{Class}
use Rattle.units.specs.declared.class.Class.TheVariants.{L, S}
use Rattle.units.specs.Classes.{class_at, classes_of, is_separator}
use Rattle.paragraph.specs.ClassSets.{is_class}
use Rattle.lines.specs.LineEnds.{AreAllParagraphEnds, IsParagraphAt, paragraph_start}
use Rattle.lines.specs.LinesAlone.{IsWithinParagraph}
use Rattle.lines.specs.Spaces.{HasNoSegments}
use Rattle.lines.proofs.LineAlone.{classes_of_line}
use Rattle.lines.proofs.Unsegmented.{some_true}

pub no_segments_alone : (text : List BidiUnit) (start end : ℕ) → end ≤ length text → HasNoSegments text →
    HasNoSegments (slice_range text start end)
no_segments_alone text start end within none =
    let own : List Class = classes_of text in
    let units : List BidiUnit = slice_range text start end in
    let line : List Class = classes_of units in
    let n : length own ≡ length text = length-map text (λ (u : BidiUnit). u.class) in
    let m : length line ≡ length units = length-map units (λ (u : BidiUnit). u.class) in
    let len : length units ≡ end - start = length-between text start end within in
    list_any_none (is_class S) line (λ k d low. some_true (is_class S (get_or line k d)) (λ hit.
    let here : get_or line k d ≡ class_at own (start + k) =
    get_or_default line k d L low ∙ sym (classes_of_line text start end within k low) in
    let some = list_any_at (is_class S) own (start + k) L (omega (arith, n, m, len, low)) (sym (ap (is_class S) here) ∙
    hit) in
    let z : false ≡ true = sym none ∙ some in
    cc))

one_end : (line : List Class) (n : ℕ) → 0 < n → length line ≡ n →
    ((j : ℕ) → j + 1 < n → is_separator (class_at line j) ≡ false) → (k : ℕ) → k < length (n ∷ [])
    → IsParagraphAt line (paragraph_start (n ∷ []) k) (slice_index (n ∷ []) k)
one_end line n some len plain zero low = record {
  above = some;
  within = omega (arith, len);
  joined = λ p above below. plain (p - 1) (omega (arith, above, below));
  closed = λ lt. absurd (omega (arith, len, lt));
}
one_end line n some len plain (suc k) low = absurd (omega (arith, low))

pub ends_alone : (text : List BidiUnit) (start end : ℕ) → start < end → end ≤ length text →
    IsWithinParagraph text start end
    → AreAllParagraphEnds (slice_range text start end) (length (slice_range text start end) ∷ [])
ends_alone text start end above within plain =
    let units : List BidiUnit = slice_range text start end in
    let m : length (classes_of units) ≡ length units = length-map units (λ (u : BidiUnit). u.class) in
    let len : length units ≡ end - start = length-between text start end within in
    record {
      each = one_end (classes_of units) (length units) (omega (arith, above, len)) m (λ j low.
          sym (ap is_separator (classes_of_line text start end within j (omega (arith, m, low))))
          ∙ plain (start + j) (omega arith) (omega (arith, len, low)));
      last = refl;
    }
