-- Names of classes with one space between them, read one after another.
use Rattle.std.proofs.Common.{◌≡◌, ◌≢◌, ℕ, ◌+◌, ◌-◌, ◌<◌, ◌≤◌, Bool, true, false, Option, None, Some, List, [], ◌∷◌, ◌++◌, length, get_or, take, drop, filter, refl, sym, ap, ◌∙◌, arith, append_assoc, append-nil, length-append, length-drop, inl, inr, All, subst, cond}
use Rattle.std.specs.Prelude.{not, ◌||◌, ◌==◌, ◌⊎◌}
use Rattle.std.specs.List.{AllPass, list_all, prefix_len, suffix_len}
use Rattle.std.proofs.lemmas.Bool.{false≢true, eqb-true}
use Rattle.std.proofs.lemmas.List.{take_all, take_more, take_rest, get_or-append-add, get_or-drop}
use Rattle.std.proofs.Math.Seq.{take-add}
use Rattle.std.proofs.lemmas.List.Elements.{All-append}
use Rattle.std.proofs.lemmas.List.Sums.{AllPass-from_list_all, suffix_len-take_no}
use Rattle.std.proofs.lemmas.List.Splits.{slice_split_at, slice_split_none}
use Rattle.units.specs.ClassNames.{short_name, class_of_short}
use Rattle.units.specs.Text.{is_blank, has_bytes, items_of, each_read, both_read, trimmed, without_blanks_before, without_trailing_blanks}
use Rattle.units.specs.declared.class.Class.{Class}
use Rattle.units.specs.declared.class.Class.TheVariants.{L}
use Rattle.units.specs.declared.bracket.Unit.{Unit as BidiUnit}
use Rattle.bidtests.specs.ClassesFile.{unit_item, unit_of_class}
use Rattle.bidtests.specs.PlainRows.{IsNameAt, is_plain, ReadsNames}
use Rattle.bidtests.specs.ShortItems.{read_after}

-- a byte that is no blank
abbrev is_full : ℕ → Bool
is_full b = not (is_blank b)

record NameFacts (class : Class) : Type 0 where
  read : class_of_short (short_name class) ≡ Some class
  plain : list_all is_plain (short_name class) ≡ true
  full : list_all is_full (short_name class) ≡ true
  some : has_bytes (short_name class) ≡ true

name : (class : Class) → NameFacts class
name L = record { read = refl; plain = refl; full = refl; some = refl }
name class = record { read = refl; plain = refl; full = refl; some = refl }

pub if_not : (b : Bool) → not b ≡ true → b ≡ false
if_not true e = absurd (false≢true e)
if_not false e = refl

unblank : (xs : List ℕ) → list_all is_full xs ≡ true → All (λ x. is_blank x ≡ false) xs
unblank xs e k d lt = if_not (is_blank (get_or xs k d)) (AllPass-from_list_all is_full xs e k d lt)

length_some : (xs : List ℕ) → has_bytes xs ≡ true → 0 < length xs
length_some [] e = absurd (false≢true e)
length_some (x ∷ xs) e = omega arith

-- an item, a space and more bytes
pub item-next : (item more : List ℕ) → All (λ x. is_blank x ≡ false) item → has_bytes item ≡ true →
    items_of (item ++ 32 ∷ more) ≡ item ∷ items_of more
item-next item more full some = ap (filter has_bytes) (slice_split_at is_blank item 32 more full refl) ∙ rw some refl

pub item-last : (item : List ℕ) → All (λ x. is_blank x ≡ false) item → has_bytes item ≡ true → items_of item ≡ item ∷ []
item-last item full some = ap (filter has_bytes) (slice_split_none is_blank item full) ∙ rw some refl

read-more : (text : List BidiUnit) (class : Class) (item : List ℕ) (more : Option (List BidiUnit)) →
    class_of_short item ≡ Some class
    → read_after text (both_read (unit_item item) more) ≡ read_after (text ++ unit_of_class class ∷ []) more
read-more text class item None e = rw e refl
read-more text class item (Some units) e =
    rw e (ap (λ xs. Some xs) (sym (append_assoc text (unit_of_class class ∷ []) units)))

-- these bytes have names of classes, each with a space after it, and are read as this text
pub record NamesSoFar (taken : List ℕ) (text : List BidiUnit) : Type 0 where
  pub reads : (more : List ℕ) → each_read unit_item (items_of (taken ++ more)) ≡
      read_after text (each_read unit_item (items_of more))
  pub plain : AllPass is_plain taken
  pub begins : 0 < length taken → is_blank (get_or taken 0 0) ≡ false

read-none : (more : Option (List BidiUnit)) → more ≡ read_after [] more
read-none None = refl
read-none (Some units) = refl

pub none_so_far : NamesSoFar [] []
none_so_far = record {
  reads = λ more. read-none (each_read unit_item (items_of more));
  plain = λ k d lt. absurd (omega (arith, lt));
  begins = λ lt. absurd (omega (arith, lt));
}

begins-with : (taken item more : List ℕ) → 0 < length item → is_blank (get_or item 0 0) ≡ false →
    (0 < length taken → is_blank (get_or taken 0 0) ≡ false) → is_blank (get_or (taken ++ (item ++ more)) 0 0) ≡ false
begins-with [] [] more some full begins = absurd (omega (arith, some))
begins-with [] (x ∷ item) more some full begins = full
begins-with (x ∷ taken) item more some full begins = begins (omega arith)

own-start : (xs : List ℕ) → 0 < length xs → is_blank (get_or xs 0 0) ≡ false → without_blanks_before xs ≡ xs
own-start [] some full = refl
own-start (x ∷ xs) some full = ap (λ b. drop (cond b (1 + prefix_len is_blank xs) 0) (x ∷ xs)) full

pub own-end : (xs : List ℕ) → 0 < length xs → is_blank (get_or xs (length xs - 1) 0) ≡ false →
    without_trailing_blanks xs ≡ xs
own-end xs some full =
    let whole : take (length xs) xs ≡ xs = take_all (length xs) xs (omega arith) in
    let none : suffix_len is_blank xs ≡ 0 = ap (suffix_len is_blank) (sym whole) ∙
    suffix_len-take_no is_blank xs (length xs) 0 some (omega arith) full in
    ap (λ n. take (length xs - n) xs) none ∙ take_all (length xs - 0) xs (omega arith)

pub trimmed-space : (x : ℕ) → is_blank x ≡ false → without_blanks_before (32 ∷ x ∷ []) ≡ x ∷ []
trimmed-space x full = ap (λ b. drop (1 + cond b (1 + 0) 0) (32 ∷ x ∷ [])) full

-- bytes with no blank at the ends
pub own-trimmed : (xs : List ℕ) → 0 < length xs → is_blank (get_or xs 0 0) ≡ false →
    is_blank (get_or xs (length xs - 1) 0) ≡ false → trimmed xs ≡ xs
own-trimmed xs some first last = ap without_trailing_blanks (own-start xs some first) ∙ own-end xs some last

last-of : (taken item : List ℕ) → 0 < length item → All (λ x. is_blank x ≡ false) item
    → is_blank (get_or (taken ++ item) (length (taken ++ item) - 1) 0) ≡ false
last-of taken item some full =
    let e : length (taken ++ item) - 1 ≡ length taken + (length item - 1) =
    omega (arith, some, length-append taken item) in
    rw (e, get_or-append-add taken item (length item - 1) 0) (full (length item - 1) 0 (omega (arith, some)))

module _ (taken item : List ℕ) (text : List BidiUnit) (class : Class) (so : NamesSoFar taken text)
    (is : item ≡ short_name class) where
  full : All (λ x. is_blank x ≡ false) item
  full = rw is (unblank (short_name class) (name class).full)

  nonempty : has_bytes item ≡ true
  nonempty = rw is (name class).some

  named : class_of_short item ≡ Some class
  named = rw is (name class).read

  plain : AllPass is_plain item
  plain = rw is (AllPass-from_list_all is_plain (short_name class) (name class).plain)

  begins : (more : List ℕ) → is_blank (get_or (taken ++ (item ++ more)) 0 0) ≡ false
  begins more = begins-with taken item more (length_some item nonempty) (full 0 0 (length_some item nonempty)) so.begins

  pub names-next : NamesSoFar (taken ++ (item ++ 32 ∷ [])) (text ++ unit_of_class class ∷ [])
  names-next = record {
    reads = λ more.
        let regroup : (taken ++ (item ++ 32 ∷ [])) ++ more ≡ taken ++ (item ++ 32 ∷ more) = simp append_assoc in
        ap (λ xs. each_read unit_item (items_of xs)) regroup ∙ so.reads (item ++ 32 ∷ more) ∙
        ap (λ items. read_after text (each_read unit_item items)) (item-next item more full nonempty) ∙
        read-more text class item (each_read unit_item (items_of more)) named;
    plain = All-append (λ x. is_plain x ≡ true) taken (item ++ 32 ∷ []) so.plain
        (All-append (λ x. is_plain x ≡ true) item (32 ∷ []) plain (AllPass-from_list_all is_plain (32 ∷ []) refl));
    begins = λ lt. begins (32 ∷ []);
  }

  first : is_blank (get_or (taken ++ item) 0 0) ≡ false
  first =
      let P : List ℕ → Type 0 = λ xs. is_blank (get_or (taken ++ xs) 0 0) ≡ false in
      subst P (append-nil item) (begins [])

  has_bytes_joined : 0 < length (taken ++ item)
  has_bytes_joined = omega (arith, length-append taken item, length_some item nonempty)

  pub names-last : ReadsNames (taken ++ item) (text ++ unit_of_class class ∷ [])
  names-last = record {
    read = so.reads item ∙ ap (λ items. read_after text (each_read unit_item items)) (item-last item full nonempty) ∙
        read-more text class item (Some []) named ∙
        ap (λ xs. Some xs) (append-nil (text ++ unit_of_class class ∷ []));
    some = omega (arith, length-append text (unit_of_class class ∷ []));
    begins = has_bytes_joined;
    full = first;
    trimmed = own-trimmed (taken ++ item) has_bytes_joined first (last-of taken item (length_some item nonempty) full);
    plain = All-append (λ x. is_plain x ≡ true) taken item so.plain plain;
  }

-- one step of the pass over a line, which is at this index: a name and the byte after it
module _ (line : List ℕ) (at count : ℕ) (text : List BidiUnit) (class : Class) (within : at ≤ length line)
    (so : NamesSoFar (take at line) text)
    (has : IsNameAt (take (length line - at) (drop at line)) class count) where
  inside : at + count < length line
  inside = omega (arith, has.inside, ap length (take_rest line at), length-drop at line)

  byte : get_or (take (length line - at) (drop at line)) count 0 ≡ get_or line (at + count) 0
  byte = ap (λ xs. get_or xs count 0) (take_rest line at) ∙ get_or-drop at line count 0

  is : take count (drop at line) ≡ short_name class
  is = ap (take count) (sym (take_rest line at)) ∙ has.name

  pub name_inside : at + count < length line
  name_inside = inside

  space : get_or line (at + count) 0 ≢ 59 → get_or line (at + count) 0 ≡ 32
  space ne = elim (has.end) [
    | inl e ↦ sym byte ∙ e
    | inr e ↦ absurd (ne (sym byte ∙ e))
  ]

  pub name_then_space : get_or line (at + count) 0 ≢ 59 →
      NamesSoFar (take (at + count + 1) line) (text ++ unit_of_class class ∷ [])
  name_then_space ne =
      let e : take (at + count + 1) line ≡ take at line ++ (take count (drop at line) ++ 32 ∷ []) =
      take_more line (at + count) 0 inside ∙ ap (λ x. take (at + count) line ++ x ∷ []) (space ne) ∙
      ap (λ xs. xs ++ 32 ∷ []) (take-add at count line) ∙
      append_assoc (take at line) (take count (drop at line)) (32 ∷ []) in
      rw e (names-next (take at line) (take count (drop at line)) text class so is)

  pub name_then_end : ReadsNames (take (at + count) line) (text ++ unit_of_class class ∷ [])
  name_then_end = rw (take-add at count line) (names-last (take at line) (take count (drop at line)) text class so is)

ends-by : (b : ℕ) (s t : Bool) → s ≡ (b == 32) → t ≡ (b == 59) → (s || t) ≡ true → (b ≡ 32) ⊎ (b ≡ 59)
ends-by b true t e f or = inl (eqb-true b 32 (sym e))
ends-by b false true e f or = inr (eqb-true b 59 (sym f))
ends-by b false false e f or = absurd (false≢true or)

pub ends : (b : ℕ) → (b == 32 || b == 59) ≡ true → (b ≡ 32) ⊎ (b ≡ 59)
ends b e = ends-by b (b == 32) (b == 59) refl refl e

-- a name of so many bytes, by its bytes
pub take-one : (bytes : List ℕ) (a : ℕ) → 4 ≤ length bytes → get_or bytes 0 0 ≡ a → take 1 bytes ≡ a ∷ []
take-one [] a some e = absurd (omega (arith, some))
take-one (x ∷ bytes) a some e = ap (λ y. y ∷ []) e

pub take-two : (bytes : List ℕ) (a b : ℕ) → 4 ≤ length bytes → get_or bytes 0 0 ≡ a → get_or bytes 1 0 ≡ b →
    take 2 bytes ≡ a ∷ b ∷ []
take-two [] a b some e f = absurd (omega (arith, some))
take-two (x ∷ []) a b some e f = absurd (omega (arith, some))
take-two (x ∷ y ∷ bytes) a b some e f = rw (← e, ← f) refl

pub take-three : (bytes : List ℕ) (a b c : ℕ) → 4 ≤ length bytes → get_or bytes 0 0 ≡ a → get_or bytes 1 0 ≡ b →
    get_or bytes 2 0 ≡ c → take 3 bytes ≡ a ∷ b ∷ c ∷ []
take-three [] a b c some e f g = absurd (omega (arith, some))
take-three (x ∷ []) a b c some e f g = absurd (omega (arith, some))
take-three (x ∷ y ∷ []) a b c some e f g = absurd (omega (arith, some))
take-three (x ∷ y ∷ z ∷ bytes) a b c some e f g = rw (← e, ← f, ← g) refl
