-- How bytes are cut after their last complete character.
use Rattle.std.proofs.Common.{◌≡◌, ℕ, zero, suc, ◌+◌, ◌-◌, min, ◌<◌, ◌≤◌, Bool, true, false, if◌then◌else◌, List, [], ◌∷◌, ◌++◌, length, take, drop, refl, ⊎_elim, sym, ap, subst, ◌∙◌, arith, append_assoc, append-nil, length-append, length-drop, take_all}
use Rattle.std.specs.Char.{IsScalar, encode_utf8}
use Rattle.std.specs.Str.{IsUtf8, StartsWithNoChar, is_utf8, encode_utf8_all, all_scalars}
use Rattle.std.specs.Str.Lossy.{utf8_valid_len, valid_len_up_to}
use Rattle.std.proofs.Math.Seq.{take-append_seam, take-append-add, drop-append_seam, paste}
use Rattle.std.proofs.lemmas.List.{drop-take, length-take, nil_from_length, take-append-drop, take-append-le, take-take}
use Rattle.std.proofs.lemmas.List.Edits.{take-paste}
use Rattle.std.specs.List.{copy_within}
use Rattle.std.proofs.lemmas.Str.{IsCharBoundary-from_take, IsUtf8-append, IsUtf8-drop, IsUtf8-encode, IsUtf8-from_is_utf8, IsUtf8-nil, is_utf8-from_IsUtf8, len_utf8_bounds, length-encode, utf8_valid_len_le, utf8_valid_len-IsUtf8}
use Rattle.std.proofs.lemmas.Bool.{and_parts, cases_lt, true≢false}
use borrow.Rule.Slice.PartMut.{post_of, put_mid}
use Rattle.printing.specs.ReadTexts.{utf8_front}
use Rattle.printing.specs.ReadBytes.{IsReadTo}

tested_by : (bs : List ℕ) (n : ℕ) (b : Bool) → is_utf8 (take (suc n) bs) ≡ b → IsUtf8 (take (valid_len_up_to bs n) bs)
    → IsUtf8 (take (if b then suc n else valid_len_up_to bs n) bs)
tested_by bs n true e below = IsUtf8-from_is_utf8 (take (suc n) bs) e
tested_by bs n false e below = below

valid_is_utf8 : (bs : List ℕ) (n : ℕ) → IsUtf8 (take (valid_len_up_to bs n) bs)
valid_is_utf8 bs zero = IsUtf8-nil
valid_is_utf8 bs (suc n) = tested_by bs n (is_utf8 (take (suc n) bs)) refl (valid_is_utf8 bs n)

longest_by : (bs : List ℕ) (n m : ℕ) (b : Bool) → is_utf8 (take (suc n) bs) ≡ b → m ≤ suc n → IsUtf8 (take m bs)
    → (m ≤ n → m ≤ valid_len_up_to bs n) → m ≤ (if b then suc n else valid_len_up_to bs n)
longest_by bs n m true e h is below = h
longest_by bs n m false e h is below = ⊎_elim
    (λ above.
    let same : m ≡ suc n = omega arith in
    let yes : is_utf8 (take (suc n) bs) ≡ true = is_utf8-from_IsUtf8 _ (subst (λ k. IsUtf8 (take k bs)) same is) in
    absurd (true≢false (sym yes ∙ e)))
    below (cases_lt n m)

valid_longest : (bs : List ℕ) (n m : ℕ) → m ≤ n → IsUtf8 (take m bs) → m ≤ valid_len_up_to bs n
valid_longest bs zero m h is = h
valid_longest bs (suc n) m h is =
    longest_by bs n m (is_utf8 (take (suc n) bs)) refl h is (λ below. valid_longest bs n m below is)

-- the longest front that is UTF-8 is UTF-8, and no longer one is
pub front_is : (bs : List ℕ) → IsUtf8 (utf8_front bs)
unfolding utf8_valid_len
front_is bs = valid_is_utf8 bs (length bs)

pub length_front : (bs : List ℕ) → length (utf8_front bs) ≡ utf8_valid_len bs
length_front bs = omega (arith, length-take (utf8_valid_len bs) bs, utf8_valid_len_le bs)

front_longest : (bs : List ℕ) (m : ℕ) → m ≤ length bs → IsUtf8 (take m bs) → m ≤ utf8_valid_len bs
unfolding utf8_valid_len
front_longest bs m h is = valid_longest bs (length bs) m h is

longest_than : (bs xs ys : List ℕ) → xs ++ ys ≡ bs → IsUtf8 xs → length xs ≤ utf8_valid_len bs
longest_than bs xs ys e is =
    let within : length xs ≤ length bs = omega (arith, ap length e, length-append xs ys) in
    front_longest bs (length xs) within (subst IsUtf8 (sym (take-append_seam xs ys) ∙ ap (take (length xs)) e) is)

-- the rest after it begins with no character
pub none_remaining : (bs : List ℕ) → StartsWithNoChar (drop (utf8_valid_len bs) bs)
none_remaining bs c rest scalar begins =
    let all : (utf8_front bs ++ encode_utf8 c) ++ rest ≡ bs =
    append_assoc (utf8_front bs) (encode_utf8 c) rest ∙ ap (λ xs. utf8_front bs ++ xs) (sym begins) ∙
    take-append-drop (utf8_valid_len bs) bs in
    let longer = longest_than bs (utf8_front bs ++ encode_utf8 c) rest all
    (IsUtf8-append _ _ (front_is bs) (IsUtf8-encode c scalar)) in
    absurd (omega (
      arith,
      length_front bs,
      longer,
      length-append (utf8_front bs) (encode_utf8 c),
      length-encode c,
      len_utf8_bounds c,
    ))

-- a text that is not empty begins with a character
begins_by : (bs cs : List ℕ) → 0 < length bs → all_scalars cs ≡ true → encode_utf8_all cs ≡ bs
    → (c : ℕ) × (rest : List ℕ) × IsScalar c × (bs ≡ encode_utf8 c ++ rest)
begins_by bs [] some s e = absurd (omega (arith, some, ap length e))
begins_by bs (c ∷ cs) some s e = (c, encode_utf8_all cs, (and_parts _ _ s).0, sym e)

begins_with_char : (bs : List ℕ) → IsUtf8 bs → 0 < length bs → (c : ℕ) × (rest : List ℕ) × IsScalar c ×
    (bs ≡ encode_utf8 c ++ rest)
begins_with_char bs is some = begins_by bs is.0 some is.1.0 is.1.1

-- the first bytes of the rest begin with no character either, and neither do four or more with others after them
none_first : (xs : List ℕ) (n : ℕ) → StartsWithNoChar xs → StartsWithNoChar (take n xs)
none_first xs n none c rest scalar begins =
    none c (rest ++ drop n xs) scalar (sym (take-append-drop n xs) ∙ ap (λ ys. ys ++ drop n xs) begins ∙
    append_assoc (encode_utf8 c) rest (drop n xs))

none_more : (xs ys : List ℕ) → 4 ≤ length xs → StartsWithNoChar xs → StartsWithNoChar (xs ++ ys)
none_more xs ys four none c rest scalar begins =
    let n = length (encode_utf8 c) in
    let short : n ≤ length xs = omega (arith, length-encode c, len_utf8_bounds c) in
    let front : take n xs ≡ encode_utf8 c = sym (take-append-le n xs ys short) ∙ ap (take n) begins ∙
    take-append_seam (encode_utf8 c) rest in
    none c (drop n xs) scalar (sym (take-append-drop n xs) ∙ ap (λ zs. zs ++ drop n xs) front)

-- the bytes after a text, if the whole is UTF-8
utf8_after : (xs ys : List ℕ) → IsUtf8 xs → IsUtf8 (xs ++ ys) → IsUtf8 ys
utf8_after xs ys is both =
    let within : length xs ≤ length (xs ++ ys) = omega (arith, length-append xs ys) in
    subst IsUtf8 (drop-append_seam xs ys)
    (IsUtf8-drop (xs ++ ys) (length xs) both
    (IsCharBoundary-from_take (xs ++ ys) (length xs) both within (subst IsUtf8 (sym (take-append_seam xs ys)) is)))

no_text : (xs : List ℕ) → StartsWithNoChar xs → IsUtf8 xs → length xs ≡ 0
no_text [] none is = refl
no_text (x ∷ xs) none is = let begins = begins_with_char (x ∷ xs) is (omega arith) in
    absurd (none begins.0 begins.1 begins.2 begins.3)

-- a text before a rest that begins with no character is the longest front
pub front_of : (xs ys : List ℕ) → IsUtf8 xs → StartsWithNoChar ys → utf8_valid_len (xs ++ ys) ≡ length xs
front_of xs ys is none =
    let n = utf8_valid_len (xs ++ ys) in
    let least : length xs ≤ n = longest_than (xs ++ ys) xs ys refl is in
    let m = n - length xs in
    let split : take n (xs ++ ys) ≡ xs ++ take m ys =
    ap (λ k. take k (xs ++ ys)) (let e : n ≡ length xs + m = omega arith in e) ∙ take-append-add xs ys m in
    let more : IsUtf8 (take m ys) = utf8_after xs (take m ys) is (subst IsUtf8 split (front_is (xs ++ ys))) in
    let none_more : length (take m ys) ≡ 0 = no_text (take m ys) (none_first ys m none) more in
    omega (arith, least, none_more, length-take m ys, utf8_valid_len_le (xs ++ ys), length-append xs ys)

pub utf8_front_of : (xs ys : List ℕ) → IsUtf8 xs → StartsWithNoChar ys → utf8_front (xs ++ ys) ≡ xs
utf8_front_of xs ys is none = ap (λ n. take n (xs ++ ys)) (front_of xs ys is none) ∙ take-append_seam xs ys

none_of_none : StartsWithNoChar []
none_of_none c rest scalar begins =
    absurd (omega (arith, ap length begins, length-append (encode_utf8 c) rest, length-encode c, len_utf8_bounds c))

-- no bytes were read yet
pub nothing_cut : IsReadTo [] [] []
nothing_cut = record { remaining = []; joined = refl; utf8 = IsUtf8-nil; none = none_of_none; first = refl }

-- more bytes were read: the stored bytes are all of the rest, or begin no character whatever follows
few_more : (bytes front stored more : List ℕ) (cut : IsReadTo bytes front stored) → length cut.remaining ≤ 4 →
    (let bs = stored ++ more in
    IsReadTo (bytes ++ more) (front ++ utf8_front bs) (take 4 (drop (utf8_valid_len bs) bs)))
few_more bytes front stored more cut few =
    let bs = stored ++ more in
    let all : stored ≡ cut.remaining = cut.first ∙ take_all 4 cut.remaining few in
    record {
      remaining = drop (utf8_valid_len bs) bs;
      joined = append_assoc front (utf8_front bs) _ ∙ ap (λ xs. front ++ xs) (take-append-drop (utf8_valid_len bs) bs)
          ∙ sym (append_assoc front stored more) ∙ ap (λ xs. (front ++ xs) ++ more) all ∙
          ap (λ xs. xs ++ more) cut.joined;
      utf8 = IsUtf8-append front (utf8_front bs) cut.utf8 (front_is bs);
      none = none_remaining bs;
      first = refl;
    }

four_more : (bytes front stored more : List ℕ) (cut : IsReadTo bytes front stored) → 4 ≤ length cut.remaining →
    (let bs = stored ++ more in
    IsReadTo (bytes ++ more) (front ++ utf8_front bs) (take 4 (drop (utf8_valid_len bs) bs)))
four_more bytes front stored more cut four =
    let bs = stored ++ more in
    let four_bytes : length stored ≡ 4 = omega (arith, ap length cut.first, length-take 4 cut.remaining) in
    let none : StartsWithNoChar bs =
    none_more stored more (omega (arith, four_bytes))
    (subst StartsWithNoChar (sym cut.first) (none_first cut.remaining 4 cut.none)) in
    let no_front : utf8_valid_len bs ≡ 0 = front_of [] bs IsUtf8-nil none in
    let same : front ++ utf8_front bs ≡ front = ap (λ n. front ++ take n bs) no_front ∙ append-nil front in
    record {
      remaining = cut.remaining ++ more;
      joined = ap (λ xs. xs ++ (cut.remaining ++ more)) same ∙ sym (append_assoc front cut.remaining more) ∙
          ap (λ xs. xs ++ more) cut.joined;
      utf8 = subst IsUtf8 (sym same) cut.utf8;
      none = none_more cut.remaining more four cut.none;
      first = ap (λ n. take 4 (drop n bs)) no_front ∙ take-append-le 4 stored more (omega (arith, four_bytes))
          ∙ ap (take 4) cut.first ∙ take-take 4 4 cut.remaining (omega arith) ∙
          sym (take-append-le 4 cut.remaining more four);
    }

pub more_cut : (bytes front stored more : List ℕ) → IsReadTo bytes front stored → (let bs = stored ++ more in
    IsReadTo (bytes ++ more) (front ++ utf8_front bs) (take 4 (drop (utf8_valid_len bs) bs)))
more_cut bytes front stored more cut =
    ⊎_elim (λ few. few_more bytes front stored more cut (omega arith)) (four_more bytes front stored more cut)
    (cases_lt (length cut.remaining) 4)

-- the first bytes before `filled` that were not taken, moved to the front
least_first : (xs : List ℕ) (n m : ℕ) → m ≡ min 4 n → take m xs ≡ take 4 (take n xs)
least_first xs n m e = ⊎_elim
    (λ few.
    let same : m ≡ n = omega arith in
    ap (λ k. take k xs) same ∙ sym (take_all 4 (take n xs) (omega (arith, length-take n xs))))
    (λ four. let same : m ≡ 4 = omega arith in ap (λ k. take k xs) same ∙ sym (take-take 4 n xs four))
    (cases_lt n 4)

pub moved_first : (old new : List ℕ) (taken filled stored : ℕ) → taken ≤ filled → filled ≤ length old →
    stored ≡ min 4 (filled - taken)
    → new ≡ copy_within old taken (taken + stored) 0 → take stored new ≡ take 4 (drop taken (take filled old))
moved_first old new taken filled stored below within least moved =
    let rest = drop taken old in
    let remaining = filled - taken in
    let count : taken + stored - taken ≡ stored = omega arith in
    let of_rest : take stored (copy_within old taken (taken + stored) 0) ≡ take stored rest =
    ap (λ n. take stored (paste old 0 rest n)) count
    ∙ ap (λ n. take n (paste old 0 rest stored)) (let e : stored ≡ 0 + stored = omega arith in e) ∙
    take-paste old 0 rest stored (omega arith) (omega (arith, length-drop taken old)) in
    let split : filled ≡ taken + remaining = omega arith in
    ap (take stored) moved ∙ of_rest ∙ least_first rest remaining stored least
    ∙ sym (ap (λ n. take 4 (drop taken (take n old))) split ∙ ap (take 4) (drop-take taken remaining old))

-- what is known once all bytes are read: if no byte is stored, they are UTF-8; otherwise they are not, and the rest
-- comes after their longest front that is UTF-8
pub front_cut : (bytes front stored : List ℕ) → IsReadTo bytes front stored → utf8_front bytes ≡ front
front_cut bytes front stored cut = ap utf8_front (sym cut.joined) ∙ utf8_front_of front cut.remaining cut.utf8 cut.none

none_stored : (bytes front stored : List ℕ) (cut : IsReadTo bytes front stored) → length stored ≡ 0 →
    length cut.remaining ≡ 0
none_stored bytes front stored cut none = omega (arith, none, ap length cut.first, length-take 4 cut.remaining)

pub whole_cut : (bytes front stored : List ℕ) → IsReadTo bytes front stored → length stored ≡ 0 → front ≡ bytes
whole_cut bytes front stored cut none =
    sym (append-nil front) ∙
    ap (λ xs. front ++ xs) (sym (nil_from_length cut.remaining (none_stored bytes front stored cut none))) ∙
    cut.joined

pub broken_cut : (bytes front stored : List ℕ) → IsReadTo bytes front stored → 0 < length stored → ¬ (IsUtf8 bytes)
broken_cut bytes front stored cut some is =
    let whole : length bytes ≡ length front =
    sym (utf8_valid_len-IsUtf8 bytes is) ∙ ap utf8_valid_len (sym cut.joined) ∙
    front_of front cut.remaining cut.utf8 cut.none in
    absurd (omega (
      arith,
      whole,
      ap length cut.joined,
      length-append front cut.remaining,
      some,
      ap length cut.first,
      length-take 4 cut.remaining,
    ))

-- bytes that were read after the stored ones
pub filled_is : (xs ys : List ℕ) (a n k : ℕ) → a ≤ length xs → n ≤ length ys →
    take (a + n) (put_mid a k xs ys) ≡ take a xs ++ take n ys
filled_is xs ys a n k within few =
    let stored : length (take a xs) ≡ a = omega (arith, length-take a xs, within) in
    ap (λ m. take m (put_mid a k xs ys)) (let e : a + n ≡ length (take a xs) + n = omega (arith, stored) in e)
    ∙ take-append-add (take a xs) (ys ++ post_of a k xs) n
    ∙ ap (λ zs. take a xs ++ zs) (take-append-le n ys (post_of a k xs) few)
