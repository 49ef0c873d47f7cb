-- The number of paragraphs that begin before a position.
use Rattle.std.proofs.Common.{◌≡◌, ℕ, ◌+◌, ◌-◌, ◌<◌, ◌≤◌, Bool, true, List, length, take, zero, suc, refl, sym, ap, inl, inr, arith}
use Rattle.std.specs.Prelude.{count_by, slice_index}
use Rattle.std.proofs.lemmas.Bool.{cases_lt}
use Rattle.std.proofs.lemmas.List.{length-map}
use Rattle.units.specs.declared.bracket.Unit.{Unit as BidiUnit}
use Rattle.units.specs.declared.class.Class.{Class}
use Rattle.units.specs.Classes.{class_at, classes_of, is_separator}
use Rattle.lines.specs.LineEnds.{AreAllParagraphEnds, AreParagraphEnds, paragraph_start}
use Rattle.lines.proofs.ParagraphSearch.{counted_paragraphs}
use Rattle.lines.proofs.TextEnd.{counted_step}
use Rattle.lines.proofs.Unsegmented.{at_most_one, counted_up_to}

-- the first one, and one after each separator before the position, without a separator directly before it
abbrev pub begun : List Class → ℕ → ℕ
begun own zero = 0
begun own (suc p) = count_by is_separator (take p own) + 1

-- before the first position none begins
pub begun_none : (own : List Class) (position : ℕ) → position ≡ 0 → begun own position ≡ 0
begun_none own position e = ap (begun own) e

-- one position lower, at most one less begins
pub begun_step : (own : List Class) (position : ℕ) → 0 < position → position ≤ length own →
    begun own position ≤ begun own (position - 1) + 1
begun_step own zero some h = absurd (omega arith)
begun_step own (suc zero) some h =
    let here : begun own (suc zero) ≡ 1 = refl in
    omega (arith, here)
begun_step own (suc (suc p)) some h =
    let back : suc (suc p) - 1 ≡ suc p = omega arith in
    let next : p + 1 ≡ suc p = omega arith in
    let here : begun own (suc (suc p)) ≡ count_by is_separator (take (suc p) own) + 1 = refl in
    let lower : begun own (suc (suc p) - 1) ≡ count_by is_separator (take p own) + 1 = ap (begun own) back in
    let same : count_by is_separator (take (p + 1) own) ≡ count_by is_separator (take (suc p) own) =
    ap (λ n. count_by is_separator (take n own)) next in
    let b : Bool = is_separator (class_at own p) in
    omega (arith, here, lower, same, counted_step own p b (omega arith) refl, at_most_one b)

-- if the paragraph with this number begins at a position or before it, at least this number of paragraphs begin before
-- the position
begun_number : (own : List Class) (ends : List ℕ) (k q : ℕ) → AreParagraphEnds own ends (length own) → k < length ends →
    paragraph_start ends k ≤ q → q ≤ length own → k ≤ begun own q
begun_number own ends zero q a few le h = omega arith
begun_number own ends (suc k) zero a few le h =
    let first = a.each k (omega arith) in
    let above : paragraph_start ends k < slice_index ends k = first.above in
    let low : slice_index ends k ≤ 0 = le in
    absurd (omega (arith, above, low))
begun_number own ends (suc k) (suc q) a few le h =
    let start : ℕ = slice_index ends k in
    let first = a.each k (omega arith) in
    let next = a.each (suc k) few in
    let some : paragraph_start ends k < start = first.above in
    let above : start < slice_index ends (suc k) = next.above in
    let inside : slice_index ends (suc k) ≤ length own = next.within in
    let low : start ≤ suc q = le in
    let closed : is_separator (class_at own (start - 1)) ≡ true = first.closed (omega (arith, above, inside)) in
    let all : suc k ≡ count_by is_separator (take start own) = counted_paragraphs own ends (length own) (suc k) a few in
    let there : start - 1 + 1 ≡ start = omega (arith, some) in
    let same : count_by is_separator (take (start - 1 + 1) own) ≡ count_by is_separator (take start own) =
    ap (λ n. count_by is_separator (take n own)) there in
    let step : count_by is_separator (take (start - 1 + 1) own) ≡ count_by is_separator (take (start - 1) own) + 1 =
    counted_step own (start - 1) true (omega (arith, some, above, inside)) (sym closed) in
    let here : begun own (suc q) ≡ count_by is_separator (take q own) + 1 = refl in
    omega (arith, all, same, step, here, counted_up_to own (start - 1) q (omega (arith, some, low)) (omega (arith, h)))

-- from a position that ends no paragraph back to one in the same paragraph, at most one less begins
pub begun_over : (text : List BidiUnit) (ends : List ℕ) (position number q : ℕ) → AreAllParagraphEnds text ends →
    number < length ends → 0 < position → q ≤ length text
    → number ≡ count_by is_separator (take (position - 1) (classes_of text)) → paragraph_start ends number ≤ q →
    begun (classes_of text) position ≤ begun (classes_of text) q + 1
begun_over text ends zero number q a few some to n le = absurd (omega arith)
begun_over text ends (suc p) number q a few some to n le =
    let own : List Class = classes_of text in
    let len : length own ≡ length text = length-map text (λ (u : BidiUnit). u.class) in
    let all : AreParagraphEnds own ends (length own) = rw len a in
    let back : suc p - 1 ≡ p = omega arith in
    let same : count_by is_separator (take (suc p - 1) own) ≡ count_by is_separator (take p own) =
    ap (λ k. count_by is_separator (take k own)) back in
    let here : begun own (suc p) ≡ count_by is_separator (take p own) + 1 = refl in
    omega (arith, n, same, here, begun_number own ends number q all few le (omega (arith, len, to)))

-- all paragraphs begin before the end of the text
pub begun_all : (text : List BidiUnit) (ends : List ℕ) → AreAllParagraphEnds text ends →
    length ends ≤ begun (classes_of text) (length text)
begun_all text ends a =
    elim (cases_lt 0 (length ends)) [
      | inr none ↦ omega arith
      | inl some ↦
          let own : List Class = classes_of text in
          let len : length own ≡ length text = length-map text (λ (u : BidiUnit). u.class) in
          let all : AreParagraphEnds own ends (length own) = rw len a in
          let k : ℕ = length ends - 1 in
          let last = all.each k (omega arith) in
          let above : paragraph_start ends k < slice_index ends k = last.above in
          let within : slice_index ends k ≤ length own = last.within in
          let there : length text ≡ suc (length text - 1) = omega (arith, above, within, len) in
          let counted : k ≡ count_by is_separator (take (paragraph_start ends k) own) =
          counted_paragraphs own ends (length own) k all (omega arith) in
          let more = counted_up_to own (paragraph_start ends k) (length text - 1) (omega (arith, above, within, len))
          (omega (arith, len)) in
          let whole : begun own (length text) ≡ count_by is_separator (take (length text - 1) own) + 1 =
          ap (begun own) there in
          omega (arith, counted, more, whole)
    ]
