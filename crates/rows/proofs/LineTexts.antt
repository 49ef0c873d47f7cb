-- The lines of a case, read back by the grammar.
use Rattle.std.proofs.Common.{◌≡◌, ◌≢◌, ℕ, ◌+◌, ◌-◌, ◌*◌, ◌<◌, ◌≤◌, ◌==◌, true, false, Option, Some, List, [], ◌∷◌, ◌++◌, length, get_or, refl, sym, ap, ◌∙◌, subst, arith, append_assoc, append-nil}
use Rattle.std.specs.Prelude.{◌&&◌, not, nat_le, nat_lt, codes}
use Rattle.std.specs.List.{All, list_all}
use Rattle.std.specs.Fmt.{decimal}
use Rattle.std.proofs.Math.Nat.{mul-le-mul}
use Rattle.std.proofs.lemmas.Bool.Decides.{nat_tests}
use Rattle.std.proofs.lemmas.List.{length-append, get_or-append_right}
use Rattle.std.proofs.lemmas.List.Elements.{All-nil, All-cons, All-head, All-tail, All-append, All-weaker}
use Rattle.units.specs.Lines.{HasNoFeed}
use Rattle.units.specs.Text.{is_blank, each_read, longest_line}
use Rattle.printing.specs.LevelsText.{level_text}
use Rattle.bidtests.specs.ClassesFile.{ClassesLine, LevelsAre, OrderIs, bit_set, classes_content, classes_line, level_item, levels_directive, order_directive, order_item}
use Rattle.rows.specs.RowTexts.{after_blanks, levels_line, order_line}
use Rattle.rows.proofs.Contents.{HasNoBlankEnds, content-whole}
use Rattle.rows.proofs.Items.{IsItem, IsItemByte, no-blank, all-tested, items-following, each-read}
use Rattle.rows.proofs.ItemTexts.{level-item, level-few, level-read, position-item, position-few, position-read}
use Rattle.rows.proofs.LevelBounds.{IsLevel}

-- a byte of a field: it is printable, and neither `#` nor `;`
pub record IsFieldByte (b : ℕ) : Type 0 where
  pub printed : 32 ≤ b
  pub comment : b ≢ 35
  pub separator : b ≢ 59

-- a byte of a line
pub record IsLineByte (b : ℕ) : Type 0 where
  pub printed : 32 ≤ b
  pub comment : b ≢ 35

pub field-item : (b : ℕ) → IsItemByte b → IsFieldByte b
field-item b item = record {
  printed = omega (arith, item.above);
  comment = λ e. omega (arith, item.above, e);
  separator = item.within;
}

pub line-field : (b : ℕ) → IsFieldByte b → IsLineByte b
line-field b field = record { printed = field.printed; comment = field.comment }

-- bytes that do not end with a blank
pub record EndsPlain (bs : List ℕ) : Type 0 where
  pub some : 0 < length bs
  pub last : is_blank (get_or bs (length bs - 1) 0) ≡ false

pub ends-item : (bs : List ℕ) → IsItem bs → EndsPlain bs
ends-item bs item = record {
  some = item.some;
  last = no-blank (get_or bs (length bs - 1) 0) (item.bytes (length bs - 1) 0 (omega (arith, item.some)));
}

pub ends-append : (front bs : List ℕ) → EndsPlain bs → EndsPlain (front ++ bs)
ends-append front bs ends =
    let n = length-append front bs in
    let at : length (front ++ bs) - 1 - length front ≡ length bs - 1 = omega (arith, n) in
    let e : get_or (front ++ bs) (length (front ++ bs) - 1) 0 ≡ get_or bs (length bs - 1) 0 =
    get_or-append_right front bs (length front) (length (front ++ bs) - 1) 0 refl (omega (arith, n, ends.some)) ∙
    ap (λ i. get_or bs i 0) at in
    record { some = omega (arith, n, ends.some); last = ap is_blank e ∙ ends.last }

module _ {A : Type 0} (text : A → List ℕ) where
  pub ends-following : (w : List ℕ) (xs : List A) → EndsPlain w → All (λ x. IsItem (text x)) xs →
      EndsPlain (w ++ after_blanks text xs)
  ends-following w [] ends items = subst EndsPlain (sym (append-nil w)) ends
  ends-following w (x ∷ xs) ends items =
      let here = ends-append w (32 ∷ text x)
      (ends-append (32 ∷ []) (text x) (ends-item (text x) (All-head (λ y. IsItem (text y)) x xs items))) in
      subst EndsPlain (append_assoc w (32 ∷ text x) (after_blanks text xs))
      (ends-following (w ++ 32 ∷ text x) xs here (All-tail (λ y. IsItem (text y)) x xs items))

  pub following-fields : (xs : List A) → All (λ x. IsItem (text x)) xs → All IsFieldByte (after_blanks text xs)
  following-fields [] items = All-nil IsFieldByte
  following-fields (x ∷ xs) items =
      let here : IsItem (text x) = All-head (λ y. IsItem (text y)) x xs items in
      All-append IsFieldByte (32 ∷ text x) (after_blanks text xs)
      (All-cons IsFieldByte 32 (text x) (record {
        printed = omega arith;
        comment = λ e. omega arith;
        separator =
            λ e. omega arith;
      }) (All-weaker IsItemByte IsFieldByte field-item (text x) here.bytes))
      (following-fields xs (All-tail (λ y. IsItem (text y)) x xs items))

  pub length-following : (most : ℕ) (xs : List A) → All (λ x. length (text x) ≤ most) xs →
      length (after_blanks text xs) ≤ length xs * (most + 1)
  length-following most [] few = omega arith
  length-following most (x ∷ xs) few =
      let here : length (text x) ≤ most = All-head (λ y. length (text y) ≤ most) x xs few in
      let rest = length-following most xs (All-tail (λ y. length (text y) ≤ most) x xs few) in
      omega (arith, length-append (32 ∷ text x) (after_blanks text xs))

-- a line that is read without a change: it has only bytes of lines, no blank at its ends, and is not too long
pub record IsReadableLine (line : List ℕ) : Type 0 where
  pub bytes : All IsLineByte line
  pub ends : HasNoBlankEnds line
  pub short : length line ≤ 65536

pub no_feed-noted : (line : List ℕ) → IsReadableLine line → HasNoFeed line
no_feed-noted line noted = All-weaker IsLineByte (λ b. b ≢ 10) (λ b h e. omega (arith, h.printed, e)) line noted.bytes

pub whole-line : (line : List ℕ) → IsReadableLine line → classes_line line ≡ classes_content bit_set line
unfolding classes_line
whole-line line noted =
    let short : nat_lt longest_line (length line) ≡ false = let s = noted.short in grind (arith, nat_tests) in
    rw short (ap (classes_content bit_set) (content-whole line (All-weaker IsLineByte (λ b. b ≢ 35) (λ b h.
    h.comment) line noted.bytes) noted.ends))

-- after the name of a directive
module _ {A : Type 0} (text : A → List ℕ) where
  noted-following : (w : List ℕ) (xs : List A) (most : ℕ) → 0 < length w → is_blank (get_or w 0 0) ≡ false →
      EndsPlain w → All IsFieldByte w → length w ≤ 10 → most ≤ 4
      → length xs ≤ 4096 → All (λ x. IsItem (text x)) xs → All (λ x. length (text x) ≤ most) xs →
      IsReadableLine (w ++ after_blanks text xs)
  noted-following [] xs most some first ends fields few low fits items short = absurd (omega arith)
  noted-following (b ∷ w) xs most some first ends fields few low fits items short =
      let last = ends-following text (b ∷ w) xs ends items in
      let blanks = length-following text most xs short in
      let each : most + 1 ≤ 5 = omega arith in
      let product : length xs * (most + 1) ≤ 4096 * 5 = mul-le-mul fits each in
      record {
        bytes = All-weaker IsFieldByte IsLineByte line-field ((b ∷ w) ++ after_blanks text xs)
            (All-append IsFieldByte (b ∷ w) (after_blanks text xs) fields (following-fields text xs items));
        ends = record { some = last.some; first = first; last = last.last };
        short = omega (arith, length-append (b ∷ w) (after_blanks text xs), blanks, product, few);
      }

is-printed : (b : ℕ) → (nat_le 32 b && (not (b == 35) && not (b == 59))) ≡ true → IsFieldByte b
is-printed b test =
    let low : 32 ≤ b = grind (arith, nat_tests) in
    let comment : b ≢ 35 = λ e. grind (arith, nat_tests) in
    let separator : b ≢ 59 = λ e. grind (arith, nat_tests) in
    record { printed = low; comment = comment; separator = separator }

fields-tested : (bs : List ℕ) → list_all (λ b. nat_le 32 b && (not (b == 35) && not (b == 59))) bs ≡ true →
    All IsFieldByte bs
fields-tested = all-tested IsFieldByte (λ b. nat_le 32 b && (not (b == 35) && not (b == 59))) is-printed

levels-noted : (levels : List (Option ℕ)) → All IsLevel levels → length levels ≤ 4096 →
    IsReadableLine (levels_line levels)
levels-noted levels within fits =
    noted-following level_text (codes "@Levels:") levels 3 (omega arith) refl (record {
      some = omega arith;
      last =
          refl;
    }) (fields-tested (codes "@Levels:") refl) (omega arith) (omega arith) fits
    (All-weaker IsLevel (λ level. IsItem (level_text level)) level-item levels within)
    (All-weaker IsLevel (λ level. length (level_text level) ≤ 3) level-few levels within)

order-noted : (order : List ℕ) → All (λ p. p < 4096) order → length order ≤ 4096 → IsReadableLine (order_line order)
order-noted order within fits =
    noted-following decimal (codes "@Reorder:") order 4 (omega arith) refl (record {
      some = omega arith;
      last =
          refl;
    }) (fields-tested (codes "@Reorder:") refl) (omega arith) (omega arith) fits
    (All-weaker (λ p. p < 4096) (λ p. IsItem (decimal p)) position-item order within)
    (All-weaker (λ p. p < 4096) (λ p. length (decimal p) ≤ 4) position-few order within)

-- a line that is read as exactly this
pub record Says (line : List ℕ) (noted : ClassesLine) : Type 0 where
  pub by : IsReadableLine line
  pub read : classes_line line ≡ noted

pub levels-read : (levels : List (Option ℕ)) → All IsLevel levels → length levels ≤ 4096 →
    Says (levels_line levels) (LevelsAre levels)
levels-read levels within fits =
    let by = levels-noted levels within fits in
    let items = All-weaker IsLevel (λ level. IsItem (level_text level)) level-item levels within in
    let reads = All-weaker IsLevel (λ level. level_item (level_text level) ≡ Some level) level-read levels within in
    record {
      by = by;
      read = whole-line (levels_line levels) by
          ∙ ap (λ (list : List (List ℕ)). levels_directive (each_read level_item list))
          (items-following level_text levels items)
          ∙ ap levels_directive (each-read level_text level_item levels reads);
    }

pub order-read : (order : List ℕ) → All (λ p. p < 4096) order → length order ≤ 4096 →
    Says (order_line order) (OrderIs order)
order-read order within fits =
    let by = order-noted order within fits in
    let items = All-weaker (λ p. p < 4096) (λ p. IsItem (decimal p)) position-item order within in
    let reads = All-weaker (λ p. p < 4096) (λ p. order_item (decimal p) ≡ Some p) position-read order within in
    record {
      by = by;
      read = whole-line (order_line order) by
          ∙ ap (λ (list : List (List ℕ)). order_directive (each_read order_item list))
          (items-following decimal order items)
          ∙ ap order_directive (each-read decimal order_item order reads);
    }
