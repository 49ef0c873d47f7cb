-- In a text without segment separators, lines are only separated at the ends of its paragraphs.
use Rattle.std.proofs.Common.{◌≡◌, ℕ, ◌+◌, ◌-◌, ◌<◌, ◌≤◌, Bool, true, false, cond, List, drop, length, take, zero, suc, refl, sym, ap, ◌∙◌, inl, inr, arith}
use Rattle.std.specs.Prelude.{◌||◌, count_by, slice_index}
use Rattle.std.specs.List.{list_any}
use Rattle.std.proofs.lemmas.Bool.{cases_lt}
use Rattle.std.proofs.Math.Seq.{take-add}
use Rattle.std.proofs.lemmas.List.{length-map, map-append}
use Rattle.std.proofs.lemmas.List.Folds.{list_any-append, list_any_at}
use Rattle.units.specs.declared.bracket.Unit.{Unit as BidiUnit}
use Rattle.units.specs.declared.class.Class.{Class}
use Rattle.units.specs.declared.class.Class.TheVariants.{L, B, S}
use Rattle.units.specs.Classes.{class_at, classes_of, is_line_separator, is_separator}
use Rattle.paragraph.specs.ClassSets.{is_class}
use Rattle.lines.specs.LineEnds.{AreAllParagraphEnds, AreParagraphEnds, paragraph_start}
use Rattle.lines.specs.Spaces.{HasNoSegments, has_segments}
use Rattle.lines.proofs.ParagraphSearch.{counted_paragraphs}
use Rattle.units.specs.Paragraphs.{paragraphs_of}
use Rattle.lines.proofs.Separators.{paragraph_at}
use Rattle.lines.proofs.TextEnd.{counted_step}

pub some_true : (b : Bool) → (b ≡ true → ⊥) → b ≡ false
some_true true h = absurd (h refl)
some_true false h = refl

-- before a later position there are at least as many separators
counted_more : (own : List Class) (p d : ℕ) → p + d ≤ length own →
    count_by is_separator (take p own) ≤ count_by is_separator (take (p + d) own)
counted_more own p zero h = let e : p + 0 ≡ p = omega arith in rw e (omega arith)
counted_more own p (suc d) h =
    let e : p + suc d ≡ p + d + 1 = omega arith in
    let before = counted_more own p d (omega arith) in
    rw e (omega (arith, before, counted_step own (p + d) (is_separator (class_at own (p + d))) (omega arith) refl))

pub counted_up_to : (own : List Class) (p q : ℕ) → p ≤ q → q ≤ length own →
    count_by is_separator (take p own) ≤ count_by is_separator (take q own)
counted_up_to own p q le h =
    let e : q ≡ p + (q - p) = omega arith in
    rw e (counted_more own p (q - p) (omega arith))

-- there are more, if one of them is in between
counted_over : (own : List Class) (p q : ℕ) → p < q → q ≤ length own → is_separator (class_at own p) ≡ true →
    count_by is_separator (take p own) < count_by is_separator (take q own)
counted_over own p q lt h is =
    omega (arith, counted_step own p true (omega arith) (sym is), counted_up_to own (p + 1) q (omega arith) h)

-- if as many separators are before a position as paragraphs are before a paragraph, that paragraph begins at or before
-- the position
starts_before : (own : List Class) (ends : List ℕ) (p k : ℕ) → AreParagraphEnds own ends (length own) →
    k < length ends → p ≤ length own → k ≡ count_by is_separator (take p own) → paragraph_start ends k ≤ p
starts_before own ends p zero a few within n = omega arith
starts_before own ends p (suc k) a few within n =
    elim (cases_lt p (slice_index ends k)) [
      | inr ge ↦ omega arith
      | inl lt ↦
          let here = a.each k (omega arith) in
          let next = a.each (suc k) few in
          let above : slice_index ends k < slice_index ends (suc k) = next.above in
          let inside : slice_index ends (suc k) ≤ length own = next.within in
          let closed : is_separator (class_at own (slice_index ends k - 1)) ≡ true =
          here.closed (omega (arith, above, inside)) in
          let all = counted_paragraphs own ends (length own) (suc k) a few in
          absurd (omega (
            arith,
            n,
            all,
            counted_up_to own p (slice_index ends k - 1) (omega arith) (omega (arith, above, inside)),
            counted_over own (slice_index ends k - 1) (slice_index ends k) (omega arith) (omega (
              arith,
              above,
              inside,
            )) closed,
          ))
    ]

-- whether a text has segment separators up to the end of a stretch, from the same before the stretch and in it
pub segments_on : (text : List BidiUnit) (start n : ℕ) (before here : Bool) → before ≡ has_segments (take start text) →
    here ≡ has_segments (take n (drop start text)) → (before || here) ≡ has_segments (take (start + n) text)
segments_on text start n before here first next =
    let is : Class → Bool = is_class S in
    ap (λ b. b || here) first
    ∙ ap (λ b. has_segments (take start text) || b) next
    ∙ sym (list_any-append is (classes_of (take start text)) (classes_of (take n (drop start text))))
    ∙ sym (ap (list_any is) (map-append (λ (u : BidiUnit). u.class) (take start text) (take n (drop start text))))
    ∙ sym (ap has_segments (take-add start n text))

either : (c : Class) → is_class S c ≡ false → is_separator c ≡ false → is_line_separator c ≡ false
either S segment end = cc
either B segment end = cc
either _ segment end = refl

-- the paragraph with this number begins at the position or before it, and nothing in between separates lines
pub record Free (text : List BidiUnit) (ends : List ℕ) (position number : ℕ) : Type 0 where
  pub start : paragraph_start ends number ≤ position
  pub none : (p : ℕ) → paragraph_start ends number ≤ p → p < position →
      is_line_separator (class_at (classes_of text) p) ≡ false

pub free_before : (text : List BidiUnit) (ends : List ℕ) (position number : ℕ) → AreAllParagraphEnds text ends →
    HasNoSegments text → number < length ends → position < length text →
    number ≡ count_by is_separator (take position (classes_of text)) → Free text ends position number
free_before text ends position number a free few within n =
    let own : List Class = classes_of text in
    let len : length own ≡ length text = length-map text (λ (u : BidiUnit). u.class) in
    let all : AreParagraphEnds own ends (length own) = rw len a in
    let from = starts_before own ends position number all few (omega arith) n in
    record {
      start = from;
      none = λ p low high.
          either (class_at own p)
          (some_true _ (λ hit. let some = list_any_at (is_class S) own p L (omega arith) hit in let z : false ≡ true =
          sym free ∙ some in cc))
          (some_true _ (λ hit.
          let counted = counted_paragraphs own ends (length own) number all few in
          omega (
            arith,
            n,
            counted,
            counted_up_to own (paragraph_start ends number) p low (omega arith),
            counted_over own p position high (omega arith) hit,
          )));
    }

pub at_most_one : (b : Bool) → cond b 1 0 ≤ 1
at_most_one true = omega arith
at_most_one false = omega arith

-- the number of separators before a position is at most the number of paragraphs
pub counted_within : (text : List BidiUnit) (paragraphs position : ℕ) → paragraphs ≡ length (paragraphs_of text) →
    position ≤ length text → count_by is_separator (take position (classes_of text)) ≤ paragraphs
counted_within text paragraphs zero same h = omega arith
counted_within text paragraphs (suc p) same h =
    let own : List Class = classes_of text in
    let len : length own ≡ length text = length-map text (λ (u : BidiUnit). u.class) in
    let e : suc p ≡ p + 1 = omega arith in
    let b = is_separator (class_at own p) in
    rw e (omega (
      arith,
      paragraph_at text paragraphs p same (omega arith),
      counted_step own p b (omega arith) refl,
      at_most_one b,
    ))
