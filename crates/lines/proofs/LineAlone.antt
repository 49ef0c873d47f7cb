-- L1 of one line alone: the text before and after the line changes none of its levels.
use Rattle.std.proofs.Common.{◌≡◌, ℕ, ◌+◌, ◌-◌, ◌<◌, ◌≤◌, Bool, true, false, cond, Option, None, List, [], ◌∷◌, length, take, get_or, zero, suc, refl, sym, ap, ◌∙◌, arith}
use Rattle.std.specs.Prelude.{◌||◌, ◌&&◌, count_by, slice_range}
use Rattle.std.proofs.lemmas.List.Sums.{count_by_more_no}
use Rattle.units.specs.declared.class.Class.{Class}
use Rattle.units.specs.declared.class.Class.TheVariants.{L}
use Rattle.units.specs.Classes.{class_at, is_separator}
use Rattle.units.specs.Positions.{first_from}
use Rattle.units.specs.Reordering.{after_resets, begins_line, is_break, is_reset, line_from, para_level_at, reset_to}
use Rattle.lines.specs.LineEnds.{EndsLineAt}
use Rattle.lines.specs.Spaces.{resets_before}
use Rattle.lines.proofs.LineEnd.{resets_at, resets_at-suc, may_reset}
use Rattle.lines.proofs.NextLine.{begins_later}
use Rattle.lines.proofs.TextEnd.{line_from-step, resets_in, is_reset-is, length-after_resets, get_or-after_resets}
use Rattle.std.specs.Option.{unwrap_or}
use Rattle.std.proofs.lemmas.List.{ext_get_or, length-map}
use Rattle.std.proofs.lemmas.List.Edits.{get_or-between, length-between}
use Rattle.units.specs.Classes.{classes_of}
use Rattle.units.specs.Layout.{no_unit}
use Rattle.units.specs.Paragraphs.{paragraphs_of}
use Rattle.units.specs.declared.bracket.Unit.{Unit as BidiUnit}
use Rattle.explicit.proofs.Holders.Roles.{class_read}
use Rattle.lines.proofs.Separators.{length-begin_with, length-paragraphs}

-- the text has this line from start up to end
abbrev pub IsLineOf : List Class → List ℕ → ℕ → ℕ → Type 0
IsLineOf own at start end = EndsLineAt (begins_line own at) start end (length own)

from_end : (own : List Class) (at : List ℕ) (p : ℕ) → length own ≤ p → line_from own at p ≡ length own
from_end own at p h =
    let e : length own - p ≡ 0 = omega arith in ap (λ n. unwrap_or (first_from (begins_line own at) p n) (length own)) e

-- from each position after its start, the line ends at its end
line_from_within : (own : List Class) (at : List ℕ) (start end d p : ℕ) → IsLineOf own at start end → start < p →
    p + d ≡ end → line_from own at p ≡ end
line_from_within own at start end zero p l above there = grind (arith, line_from-step, from_end)
line_from_within own at start end (suc d) p l above there =
    grind (arith, line_from-step, line_from_within own at start end d (p + 1) l)

-- the classes of the line are those of the text from start on
abbrev pub AreFrom : List Class → ℕ → List Class → Type 0
AreFrom own start line = (j : ℕ) → j < length line → class_at own (start + j) ≡ class_at line j

resets_alone : (own line : List Class) (start p count : ℕ) → AreFrom own start line → p + count ≤ length line →
    resets_at own (start + p) count ≡ resets_at line p count
resets_alone own line start p zero same within = refl
resets_alone own line start p (suc count) same within =
    let e : start + p + 1 ≡ start + (p + 1) = omega arith in
    resets_at-suc own (start + p) count
    ∙ ap (λ c. resets_before c (resets_at own (start + p + 1) count)) (same p (omega arith))
    ∙ ap (λ q. resets_before (class_at line p) (resets_at own q count)) e
    ∙ ap (resets_before (class_at line p)) (resets_alone own line start (p + 1) count same (omega arith))
    ∙ sym (resets_at-suc line p count)

first_of : (a b : Bool) → (a || b) ≡ false → a ≡ false
first_of false b h = refl
first_of true b h = cc

or_none : (a : Bool) → a ≡ false → (a || false) ≡ false
or_none false h = refl
or_none true h = cc

-- a line has no separator, except in last place
plain_within : (own line : List Class) (at : List ℕ) (start end j : ℕ) → IsLineOf own at start end →
    AreFrom own start line → length line ≡ end - start → j + 1 < length line → is_separator (class_at line j) ≡ false
plain_within own line at start end j l same len low =
    let e : start + j + 1 - 1 ≡ start + j = omega arith in
    let none : (is_separator (class_at own (start + j + 1 - 1)) || is_break at (start + j + 1)) ≡ false =
    sym (begins_later own at (start + j + 1) (omega arith)) ∙ l.none (start + j + 1) (omega arith) (omega arith) in
    ap is_separator (sym (same j (omega arith)))
    ∙ ap (λ q. is_separator (class_at own q)) (sym e)
    ∙ first_of (is_separator (class_at own (start + j + 1 - 1))) (is_break at (start + j + 1)) none

-- the line alone is one line
pub line_by_itself : (own line : List Class) (at : List ℕ) (start end : ℕ) → IsLineOf own at start end →
    AreFrom own start line → length line ≡ end - start → IsLineOf line [] 0 (length line)
line_by_itself own line at start end l same len =
    let above = l.above in
    record {
      above = omega arith;
      within = omega arith;
      none = λ p low high.
          let e : p - 1 + 1 ≡ p = omega arith in
          begins_later line [] p low
          ∙ or_none (is_separator (class_at line (p - 1))) (plain_within own line at start end (p - 1) l same len
          (omega arith));
      here = λ h. absurd (omega arith);
    }

-- a position of the line alone is reset exactly if it is reset in the text
pub is_reset_alone : (own line : List Class) (at : List ℕ) (start end k : ℕ) → IsLineOf own at start end →
    AreFrom own start line → length line ≡ end - start → k < length line →
    is_reset own at (start + k) ≡ is_reset line [] k
is_reset_alone own line at start end k l same len low =
    let above = l.above in
    let n : ℕ = length line - (k + 1) in
    let whole : line_from own at (start + k + 1) ≡ end =
    line_from_within own at start end n (start + k + 1) l (omega arith) (omega arith) in
    let part : line_from line [] (k + 1) ≡ length line =
    line_from_within line [] 0 (length line) n (k + 1) (line_by_itself own line at start end l same len) (omega arith)
    (omega arith) in
    let m : line_from own at (start + k + 1) - (start + k + 1) ≡ n = omega (arith, whole, above) in
    let m2 : line_from line [] (k + 1) - (k + 1) ≡ n = omega (arith, part) in
    let e : start + k + 1 ≡ start + (k + 1) = omega arith in
    let resets : resets_in own at (start + k + 1) ≡ resets_in line [] (k + 1) =
    ap (resets_at own (start + k + 1)) m
    ∙ ap (λ q. resets_at own q n) e
    ∙ resets_alone own line start (k + 1) n same (omega arith)
    ∙ ap (resets_at line (k + 1)) (sym m2) in
    is_reset-is own at (start + k)
    ∙ ap (λ b. resets_before (class_at own (start + k)) b && may_reset (class_at own (start + k))) resets
    ∙ ap (λ c. resets_before c (resets_in line [] (k + 1)) && may_reset c) (same k low)
    ∙ sym (is_reset-is line [] k)

-- the same number of separators is before each of its positions
count_alone : (own line : List Class) (at : List ℕ) (start end k : ℕ) → IsLineOf own at start end →
    AreFrom own start line → length line ≡ end - start → k < length line →
    count_by is_separator (take (start + k) own) ≡ count_by is_separator (take start own)
count_alone own line at start end zero l same len low =
    let e : start + zero ≡ start = omega arith in ap (λ n. count_by is_separator (take n own)) e
count_alone own line at start end (suc k) l same len low =
    let within = l.within in
    let e : start + suc k ≡ start + k + 1 = omega arith in
    let plain : is_separator (class_at own (start + k)) ≡ false =
    ap is_separator (same k (omega arith)) ∙ plain_within own line at start end k l same len (omega arith) in
    ap (λ n. count_by is_separator (take n own)) e
    ∙ count_by_more_no is_separator own (start + k) L (omega arith) plain
    ∙ count_alone own line at start end k l same len (omega arith)

itself : (line : List Class) → AreFrom line 0 line
itself line = λ j low. let e : 0 + j ≡ j = omega arith in ap (class_at line) e

-- the paragraph of its first position has all its positions
pub para_alone : (own line : List Class) (at paras : List ℕ) (start end k : ℕ) → IsLineOf own at start end →
    AreFrom own start line → length line ≡ end - start → k < length line →
    para_level_at own paras (start + k) ≡ para_level_at line (para_level_at own paras start ∷ []) k
para_alone own line at paras start end k l same len low =
    let value : ℕ = para_level_at own paras start in
    let e : 0 + k ≡ k = omega arith in
    let z : length line ≡ length line - 0 = omega arith in
    let none : count_by is_separator (take k line) ≡ 0 =
    ap (λ n. count_by is_separator (take n line)) (sym e)
    ∙ count_alone line line [] 0 (length line) k (line_by_itself own line at start end l same len)
    (itself line) z low in
    ap (λ n. get_or paras n 0) (count_alone own line at start end k l same len low)
    ∙ sym (ap (λ n. get_or (value ∷ []) n 0) none)

-- L1 of a line alone is L1 of the text at the positions of the line
pub reset_alone : (own line : List Class) (at paras : List ℕ) (levels part : List (Option ℕ)) (start end : ℕ) →
    IsLineOf own at start end → AreFrom own start line → length line ≡ end - start → length levels ≡ length own →
    length part ≡ length line → ((j : ℕ) → j < length line → get_or levels (start + j) None ≡ get_or part j None) →
    (k : ℕ) → k < length line →
    get_or (after_resets own at paras levels) (start + k) None ≡
    get_or (after_resets line [] (para_level_at own paras start ∷ []) part) k None
reset_alone own line at paras levels part start end l same len all parts read k low =
    let within = l.within in
    let value : ℕ = para_level_at own paras start in
    get_or-after_resets own at paras levels (start + k) (omega arith)
    ∙ ap (λ b. reset_to b (para_level_at own paras (start + k)) (get_or levels (start + k) None))
    (is_reset_alone own line at start end k l same len low)
    ∙ ap (λ v. reset_to (is_reset line [] k) v (get_or levels (start + k) None))
    (para_alone own line at paras start end k l same len low)
    ∙ ap (reset_to (is_reset line [] k) (para_level_at line (value ∷ []) k)) (read k low)
    ∙ sym (get_or-after_resets line [] (value ∷ []) part k (omega arith))

-- the classes of a line are those of the text at its positions
pub classes_of_line : (text : List BidiUnit) (start end : ℕ) → end ≤ length text →
    AreFrom (classes_of text) start (classes_of (slice_range text start end))
classes_of_line text start end within = λ k low.
    let line : List BidiUnit = slice_range text start end in
    let n : length (classes_of line) ≡ length line = length-map line (λ (u : BidiUnit). u.class) in
    let m : length line ≡ end - start = length-between text start end within in
    class_read text (start + k) no_unit (omega arith)
    ∙ ap (λ (u : BidiUnit). u.class) (sym (get_or-between text start end k no_unit (omega arith)))
    ∙ sym (class_read line k no_unit (omega arith))

-- units without a separator, except in last place, are one paragraph
one_paragraph : (us : List BidiUnit) → 0 < length us →
    ((j : ℕ) → j + 1 < length us → is_separator (class_at (classes_of us) j) ≡ false) → length (paragraphs_of us) ≡ 1
one_paragraph [] some plain = absurd (omega arith)
one_paragraph (u ∷ []) some plain = refl
one_paragraph (u ∷ v ∷ us) some plain =
    let first : is_separator u.class ≡ false = plain 0 (omega arith) in
    let next : length (paragraphs_of (v ∷ us)) ≡ 1 =
    one_paragraph (v ∷ us) (omega arith) (λ j low. plain (suc j) (omega arith)) in
    length-begin_with u (paragraphs_of (v ∷ us)) (length-paragraphs v us)
    ∙ ap (λ b. cond b 1 0 + length (paragraphs_of (v ∷ us))) first
    ∙ omega (arith, next)

-- a line within a paragraph is one paragraph by itself
pub line_in_paragraph : (text : List BidiUnit) (start end : ℕ) → start < end → end ≤ length text →
    ((p : ℕ) → start < p + 1 → p + 1 < end → is_separator (class_at (classes_of text) p) ≡ false) →
    1 ≡ length (paragraphs_of (slice_range text start end))
line_in_paragraph text start end above within plain =
    grind (arith, length-map, length-between, one_paragraph, classes_of_line)

-- L1 of a line alone is the part of L1 of the text for this line
pub line_reset_alone : (text : List BidiUnit) (at paras : List ℕ) (all part : List (Option ℕ)) (start end value : ℕ) →
    IsLineOf (classes_of text) at start end → end ≤ length text → length all ≡ length text →
    slice_range all start end ≡ part → value ≡ para_level_at (classes_of text) paras start →
    after_resets (classes_of (slice_range text start end)) [] (value ∷ []) part ≡
    slice_range (after_resets (classes_of text) at paras all) start end
line_reset_alone text at paras all part start end value l within len is has =
    let units : List BidiUnit = slice_range text start end in
    let own : List Class = classes_of text in
    let line : List Class = classes_of units in
    let above = l.above in
    let alone : List (Option ℕ) = after_resets line [] (value ∷ []) part in
    let whole : List (Option ℕ) = after_resets own at paras all in
    let n : length own ≡ length text = length-map text (λ (u : BidiUnit). u.class) in
    let a : length line ≡ length units = length-map units (λ (u : BidiUnit). u.class) in
    let b : length units ≡ end - start = length-between text start end within in
    let c : length part ≡ end - start = sym (ap length is) ∙ length-between all start end (omega arith) in
    let d : length whole ≡ length all = length-after_resets own at paras all in
    let e : length alone ≡ length part = length-after_resets line [] (value ∷ []) part in
    let f : length (slice_range whole start end) ≡ end - start = length-between whole start end (omega arith) in
    ext_get_or None alone (slice_range whole start end) (omega arith) (λ k low.
    sym (get_or-between whole start end k None (omega arith)
    ∙ reset_alone own line at paras all part start end l (classes_of_line text start end within) (omega arith)
    (omega arith) (omega arith)
    (λ j inside. sym (get_or-between all start end j None (omega arith)) ∙
    ap (λ xs. get_or xs j None) is) k (omega arith)
    ∙ ap (λ v. get_or (after_resets line [] (v ∷ []) part) k None) (sym has)))
