-- Rows of classes in their usual form: names with one space between them, `;`, a space and a digit.
use Rattle.std.proofs.Common.{◌≡◌, ◌≢◌, ℕ, ◌+◌, ◌-◌, ◌<◌, ◌≤◌, Bool, true, false, Option, None, Some, List, [], ◌∷◌, ◌++◌, length, get_or, take, drop, refl, sym, ap, ◌∙◌, arith, length-append, All, subst}
use Rattle.std.specs.Borrow.{Bor}
use Rattle.std.specs.Prelude.{IfSome, not, ◌&&◌, ◌==◌}
use Rattle.std.specs.List.{AllPass, before_first, position_or_len}
use Rattle.std.proofs.lemmas.Bool.{false≢true}
use Rattle.std.proofs.lemmas.List.{get_or-append-add, get_or-drop, take_all, take_rest, take-append-drop}
use Rattle.std.proofs.lemmas.List.Elements.{All-append}
use Rattle.std.proofs.lemmas.List.Sums.{AllPass-from_list_all, position_or_len_is}
use Rattle.std.proofs.lemmas.List.Splits.{slice_split_at}
use Rattle.std.proofs.lemmas.Option.{same_Some}
use Rattle.units.specs.Text.{is_blank, items_of, each_read, each_trimmed, cut_at, fields_of, content_of, trimmed, without_trailing_blanks, longest_line}
use Rattle.units.specs.declared.bracket.Unit.{Unit as BidiUnit}
use Rattle.units.specs.declared.level.Direction.{Direction}
use Rattle.bidtests.specs.ClassesFile.{RowOf, bit_set, classes_line, classes_row, classes_row_of_items, unit_item}
use Rattle.bidtests.specs.PlainRows.{is_plain, ReadsNames}
use Rattle.bidtests.proofs.LineSays.{says-row}
use Rattle.bidtests.proofs.NamesRead.{if_not, own-end, own-trimmed, trimmed-space}

-- a digit is plain and no blank
pub record IsTail (digit : ℕ) : Type 0 where
  pub plain : is_plain digit ≡ true
  pub full : is_blank digit ≡ false

-- the row of these names and this digit
abbrev row : List ℕ → ℕ → List ℕ
row names digit = names ++ 59 ∷ 32 ∷ digit ∷ []

parts : (x y z : Bool) → (not x && (not y && not z)) ≡ true → (x ≡ false) × (y ≡ false) × (z ≡ false)
parts true y z e = absurd (false≢true e)
parts false true z e = absurd (false≢true e)
parts false false true e = absurd (false≢true e)
parts false false false e = (refl, refl, refl)

plain-parts : (b : ℕ) → is_plain b ≡ true → ((b == 59) ≡ false) × ((b == 35) ≡ false) × ((b == 64) ≡ false)
plain-parts b e = parts (b == 59) (b == 35) (b == 64) e

not-true : (b : Bool) → b ≡ false → b ≡ true → ⊥
not-true b f t = false≢true (sym f ∙ t)

only-tail : (digit : ℕ) → (digit == 35) ≡ false → All (λ b. (b == 35) ≡ false) (59 ∷ 32 ∷ digit ∷ [])
only-tail digit e k d lt =
    if_not (get_or (59 ∷ 32 ∷ digit ∷ []) k d == 35) (AllPass-from_list_all (λ b. not (b == 35)) (59 ∷ 32 ∷ digit ∷ [])
    (rw e refl) k d lt)

no-comment : (names : List ℕ) (digit : ℕ) → AllPass is_plain names → is_plain digit ≡ true →
    All (λ b. (b == 35) ≡ false) (row names digit)
no-comment names digit plain tail =
    All-append (λ b. (b == 35) ≡ false) names (59 ∷ 32 ∷ digit ∷ []) (λ k d lt. (plain-parts _ (plain k d lt)).1)
    (only-tail digit (plain-parts digit tail).1)

before-comment : (line : List ℕ) → All (λ b. (b == 35) ≡ false) line → line ≡ before_first (λ b. b == 35) line
before-comment line none =
    let at : position_or_len (λ b. b == 35) line ≡ length line =
    position_or_len_is (λ b. b == 35) line (length line) 0 (omega arith) (λ k lt. none k 0 lt) (λ lt. absurd (omega (
      arith,
      lt,
    ))) in
    sym (ap (λ n. take n line) at ∙ take_all (length line) line (omega arith))

first-of : (names : List ℕ) (digit : ℕ) → 0 < length names → get_or (row names digit) 0 0 ≡ get_or names 0 0
first-of [] digit some = absurd (omega (arith, some))
first-of (x ∷ names) digit some = refl

last-of : (names : List ℕ) (digit : ℕ) → get_or (row names digit) (length (row names digit) - 1) 0 ≡ digit
last-of names digit =
    let e : length (row names digit) - 1 ≡ length names + 2 =
    omega (arith, length-append names (59 ∷ 32 ∷ digit ∷ [])) in
    rw e (get_or-append-add names (59 ∷ 32 ∷ digit ∷ []) 2 0)

row-some : (names : List ℕ) (digit : ℕ) → 0 < length (row names digit)
row-some names digit = omega (arith, length-append names (59 ∷ 32 ∷ digit ∷ []))

digit-field : (digit : ℕ) → is_blank digit ≡ false → trimmed (32 ∷ digit ∷ []) ≡ digit ∷ []
digit-field digit full = ap without_trailing_blanks (trimmed-space digit full) ∙
    own-end (digit ∷ []) (omega arith) full

digit-piece : (digit : ℕ) → (digit == 59) ≡ false → cut_at 59 (32 ∷ digit ∷ []) ≡ (32 ∷ digit ∷ []) ∷ []
digit-piece digit e = rw e refl

row-of-items : (items : List (List ℕ)) (bits : List ℕ) (text : List BidiUnit) (ds : List Direction)
    → each_read unit_item items ≡ Some text → 0 < length text → bit_set bits ≡ Some ds →
    classes_row_of_items bit_set items bits ≡ RowOf text ds
row-of-items [] bits text ds e some b = absurd (omega (arith, some, ap length (same_Some [] text e)))
row-of-items (name ∷ names) bits text ds e some b = rw (e, b) refl

module _ (names : List ℕ) (digit : ℕ) (text : List BidiUnit) (ds : List Direction) (read : ReadsNames names text)
    (tail : IsTail digit) (bits : bit_set (digit ∷ []) ≡ Some ds) where
  first : is_blank (get_or (row names digit) 0 0) ≡ false
  first = rw (first-of names digit read.begins) read.full

  last : is_blank (get_or (row names digit) (length (row names digit) - 1) 0) ≡ false
  last = rw (last-of names digit) tail.full

  content : row names digit ≡ content_of (row names digit)
  content = sym (own-trimmed (row names digit) (row-some names digit) first last) ∙
      ap trimmed (before-comment (row names digit) (no-comment names digit read.plain tail.plain))

  pieces : cut_at 59 (row names digit) ≡ names ∷ (32 ∷ digit ∷ []) ∷ []
  pieces =
      slice_split_at (λ b. b == 59) names 59 (32 ∷ digit ∷ []) (λ k d lt. (plain-parts _ (read.plain k d lt)).0) refl ∙
      ap (λ ps. names ∷ ps) (digit-piece digit (plain-parts digit tail.plain).0)

  fields : fields_of (row names digit) ≡ names ∷ (digit ∷ []) ∷ []
  fields = ap each_trimmed pieces ∙
      ap (λ f. f ∷ trimmed (32 ∷ digit ∷ []) ∷ []) read.trimmed ∙
      ap (λ f. names ∷ f ∷ []) (digit-field digit tail.full)

  no-directive : get_or (row names digit) 0 0 ≢ 64
  no-directive e =
      let at : get_or names 0 0 ≡ 64 = sym (first-of names digit read.begins) ∙ e in
      not-true (get_or names 0 0 == 64) (plain-parts (get_or names 0 0) (read.plain 0 0 read.begins)).2
      (ap (λ x. x == 64) at)

  pub says-plain : length (row names digit) ≤ longest_line → classes_line (row names digit) ≡ RowOf text ds
  says-plain short =
      says-row (row names digit) (row names digit) content short (row-some names digit) no-directive ∙
      ap classes_row fields ∙
      row-of-items (items_of names) (digit ∷ []) text ds read.read read.some bits

-- three bytes
tail-of : (xs : List ℕ) (digit : ℕ) → length xs ≡ 3 → get_or xs 0 0 ≡ 59 → get_or xs 1 0 ≡ 32 → get_or xs 2 0 ≡ digit →
    xs ≡ 59 ∷ 32 ∷ digit ∷ []
tail-of [] digit e a b c = absurd (omega (arith, e))
tail-of (x ∷ []) digit e a b c = absurd (omega (arith, e))
tail-of (x ∷ y ∷ []) digit e a b c = absurd (omega (arith, e))
tail-of (x ∷ y ∷ z ∷ []) digit e a b c = rw (← a, ← b, ← c) refl
tail-of (x ∷ y ∷ z ∷ w ∷ xs) digit e a b c = absurd (omega (arith, e))

-- a line whose bytes before an index are names, with these three bytes after them
pub plain-line : (line : List ℕ) (end digit : ℕ) (text : List BidiUnit) (ds : List Direction) →
    ReadsNames (take end line) text → IsTail digit → bit_set (digit ∷ []) ≡ Some ds → length line ≤ longest_line
    → (rest : List ℕ) → rest ≡ take (length line - end) (drop end line) → length rest ≡ 3 → get_or rest 0 0 ≡ 59
    → get_or rest 1 0 ≡ 32 → get_or rest 2 0 ≡ digit → classes_line line ≡ RowOf text ds
plain-line line end digit text ds read tail bits short rest is three a b c =
    let whole : line ≡ row (take end line) digit = sym (take-append-drop end line) ∙
    ap (λ xs. take end line ++ xs) (sym (take_rest line end) ∙ sym is ∙ tail-of rest digit three a b c) in
    let P : List ℕ → Type 0 = λ xs. length xs ≤ longest_line in
    ap classes_line whole ∙ says-plain (take end line) digit text ds read tail bits (subst P whole short)

plus-zero : (n : ℕ) → n + 0 ≡ n
plus-zero n = omega arith

module _ (line : List ℕ) (end digit : ℕ) (text : List BidiUnit) (read : ReadsNames (take end line) text)
    (short : length line ≤ longest_line) (inside : end < length line) (at : get_or line end 0 ≡ 59) (rest : List ℕ)
    (is : rest ≡ take (length line - end) (drop end line)) (three : length rest ≡ 3) (space : get_or rest 1 0 ≡ 32)
    (last : get_or rest 2 0 ≡ digit) where
  -- the row of a line, if its digit names directions
  pub plain-row : (found : Option (Bor (List Direction))) →
      IfSome found (λ ds. bit_set (digit ∷ []) ≡ Some ds.now) → IfSome found (λ _. is_plain digit ≡ true)
      → IfSome found (λ _. is_blank digit ≡ false) → IfSome found (λ ds. classes_line line ≡ RowOf text ds.now)
  plain-row None bits plain full = tt
  plain-row (Some ds) bits plain full =
      let first : get_or rest 0 0 ≡ 59 =
      ap (λ xs. get_or xs 0 0) (is ∙ take_rest line end) ∙ get_or-drop end line 0 0 ∙
      ap (λ n. get_or line n 0) (plus-zero end) ∙ at in
      plain-line line end digit text ds.now read (record { plain = plain; full = full }) bits short rest is three first
      space last
