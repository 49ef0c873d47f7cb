-- Lines and the paragraphs that contain them.
use Rattle.std.proofs.Common.{◌≡◌, ℕ, ◌+◌, ◌-◌, ◌<◌, ◌≤◌, Bool, true, false, cond, Option, List, length, take, zero, suc, inl, inr, [], ◌∷◌, sym, ap, ◌∙◌, arith}
use Rattle.std.specs.Prelude.{count_by, drop, map, slice_index_or}
use Rattle.std.proofs.lemmas.Bool.{cases_Bool, or_parts}
use Rattle.std.proofs.lemmas.List.{drop-map, get_or-drop, get_or-map, length-drop, length-map}
use Rattle.explicit.specs.FirstParagraph.{first_length}
use Rattle.units.specs.declared.bracket.Unit.{Unit as TextUnit}
use Rattle.units.specs.declared.class.Class.{Class}
use Rattle.units.specs.declared.class.Class.TheVariants.{L}
use Rattle.units.specs.declared.level.ParaLevel.{ParaLevel}
use Rattle.units.specs.declared.level.ParaLevel.TheVariants.{Zero}
use Rattle.units.specs.Classes.{class_at, classes_of, is_separator}
use Rattle.units.specs.Isolates.{level_of_para}
use Rattle.units.specs.Reordering.{begins_line, para_level_at}
use Rattle.lines.specs.LineEnds.{EndsLineAt, IsParagraphAt}
use Rattle.lines.specs.Spaces.{AreAtParas}
use Rattle.lines.specs.LinePositions.{IsAtOneLevel}
use Rattle.lines.proofs.NextLine.{begins_later}
use Rattle.lines.proofs.TextEnd.{counted_step}

-- P1: in the first paragraph of a text, only the last position can be a separator
joined_first : (us : List TextUnit) (k : ℕ) → k + 1 < first_length us →
    is_separator (class_at (classes_of us) k) ≡ false
joined_first [] k h = absurd (omega arith)
joined_first (u ∷ us) zero h = grind arith
joined_first (u ∷ us) (suc k) h = grind (arith, joined_first us k)

first_some : (us : List TextUnit) → 0 < length us → 0 < first_length us
first_some [] h = absurd (omega arith)
first_some (u ∷ us) h =
    elim (cases_Bool (is_separator u.class)) [
      | inl separates ↦ rw separates (omega arith)
      | inr plain ↦
          rw plain (omega arith)
    ]

-- the last position is one, if another paragraph follows
closed_first : (us : List TextUnit) (k : ℕ) → first_length us ≡ k + 1 → k + 1 < length us →
    is_separator (class_at (classes_of us) k) ≡ true
closed_first [] k e h = absurd (omega arith)
closed_first (u ∷ us) zero e h = grind (arith, first_some)
closed_first (u ∷ us) (suc k) e h = grind (arith, closed_first us k)

-- P1: the first paragraph of the rest of a text
pub paragraph_from : (us : List TextUnit) (start n : ℕ) → start < length us → n ≡ first_length (drop start us) → 0 < n →
    n ≤ length us - start → IsParagraphAt (classes_of us) start (start + n)
paragraph_from us start n below is some within =
    let own = classes_of us in
    let len : length own ≡ length us = length-map us (λ u. u.class) in
    let rest : length (drop start us) ≡ length us - start = length-drop start us in
    let read : (k : ℕ) → class_at own (start + k) ≡ class_at (classes_of (drop start us)) k =
    λ k. sym (get_or-drop start own k L) ∙ ap (λ cs. class_at cs k) (drop-map (λ (u : TextUnit). u.class) start us) in
    record {
      above = omega arith;
      within = omega arith;
      joined = λ p low high.
          let f : p - 1 ≡ start + (p - 1 - start) = omega arith in
          ap (λ m. is_separator (class_at own m)) f ∙ ap is_separator (read (p - 1 - start)) ∙
          joined_first (drop start us) (p - 1 - start) (omega arith);
      closed = λ h.
          let f : start + n - 1 ≡ start + (n - 1) = omega arith in
          ap (λ m. is_separator (class_at own m)) f ∙ ap is_separator (read (n - 1)) ∙
          closed_first (drop start us) (n - 1) (omega arith) (omega arith);
    }

-- in a line, only the last position can be a separator
pub joined_line : (own : List Class) (at : List ℕ) (start end p : ℕ) →
    EndsLineAt (begins_line own at) start end (length own) → start < p → p < end →
    is_separator (class_at own (p - 1)) ≡ false
joined_line own at start end p e low high = grind (arith, begins_later, or_parts)

-- the same number of separators is before each position of a line
counted_inside : (own : List Class) (at : List ℕ) (start end k : ℕ) →
    EndsLineAt (begins_line own at) start end (length own) → start + k < end →
    count_by is_separator (take (start + k) own) ≡ count_by is_separator (take start own)
counted_inside own at start end zero e h =
    let f : start + 0 ≡ start = omega arith in ap (λ n. count_by is_separator (take n own)) f
counted_inside own at start end (suc k) e h =
    let f : start + suc k ≡ start + k + 1 = omega arith in
    let g : start + k + 1 - 1 ≡ start + k = omega arith in
    let off : is_separator (class_at own (start + k)) ≡ false =
    ap (λ n. is_separator (class_at own n)) (sym g) ∙
    joined_line own at start end (start + k + 1) e (omega arith) (omega arith) in
    let step : count_by is_separator (take (start + k + 1) own) ≡ count_by is_separator (take (start + k) own) + 0 =
    counted_step own (start + k) false (omega (arith, e.within)) (sym off) in
    ap (λ n. count_by is_separator (take n own)) f ∙ step ∙
    omega (arith, counted_inside own at start end k e (omega arith))

pub counted_line : (own : List Class) (at : List ℕ) (start end p : ℕ) →
    EndsLineAt (begins_line own at) start end (length own) → start ≤ p → p < end →
    count_by is_separator (take p own) ≡ count_by is_separator (take start own)
counted_line own at start end p e low high =
    let f : p ≡ start + (p - start) = omega arith in
    ap (λ n. count_by is_separator (take n own)) f ∙ counted_inside own at start end (p - start) e (omega arith)

-- there is one more before the position after the line, if the line ends with one
pub counted_on : (own : List Class) (at : List ℕ) (start end before : ℕ) (closed : Bool) →
    EndsLineAt (begins_line own at) start end (length own) → before ≡ count_by is_separator (take start own) →
    closed ≡ is_separator (class_at own (end - 1)) → before + cond closed 1 0 ≡ count_by is_separator (take end own)
counted_on own at start end before closed e is last =
    let above = e.above in
    let f : end - 1 + 1 ≡ end = omega arith in
    let same = counted_line own at start end (end - 1) e (omega arith) (omega arith) in
    let step = counted_step own (end - 1) closed (omega arith) last in
    let there : count_by is_separator (take (end - 1 + 1) own) ≡ count_by is_separator (take end own) =
    ap (λ n. count_by is_separator (take n own)) f in
    omega arith

-- positions with the levels of their paragraphs have one level in a line
pub line_uniform : (own : List Class) (at : List ℕ) (paras : List ℕ) (levels : List (Option ℕ)) (start end : ℕ) →
    AreAtParas own paras levels → EndsLineAt (begins_line own at) start end (length own) →
    IsAtOneLevel levels start end (para_level_at own paras start)
line_uniform own at paras levels start end all e =
    record {
      same = λ p v low high h.
          all.same p v h ∙ ap (λ n. slice_index_or paras n 0) (counted_line own at start end p e low high);
    }

-- the level of a paragraph, read with its number
pub para_read : (own : List Class) (paras : List ParaLevel) (p number : ℕ) →
    number ≡ count_by is_separator (take p own) → number < length paras →
    level_of_para (slice_index_or paras number Zero) ≡ para_level_at own (map level_of_para paras) p
para_read own paras p number is lt =
    sym (get_or-map level_of_para paras number Zero 0 lt) ∙ ap (λ n. slice_index_or (map level_of_para paras) n 0) is
