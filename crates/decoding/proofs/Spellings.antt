-- Characters in UTF-8, one by one.
use Rattle.std.proofs.Common.{◌≡◌, ℕ, suc, ◌+◌, ◌*◌, ◌/◌, ◌%◌, ◌-◌, ◌<◌, ◌≤◌, List, [], ◌∷◌, ◌++◌, length, get_or, map, take, drop, drop-cons, append-nil, sym, ap, subst, ◌∙◌, arith}
use Rattle.std.proofs.str.Laws.{two, three, four}
use Rattle.std.proofs.str.Faults.{no_char}
use Rattle.std.specs.Char.{encode_utf8, IsScalar}
use Rattle.std.specs.Str.{chars, IsUtf8, StartsWithNoChar}
use Rattle.std.proofs.lemmas.List.{map-append}
use Rattle.std.proofs.lemmas.Str.{chars-append, chars-nil, chars_past_char, encode_same, length-encode, len_utf8_bounds, IsUtf8-append, IsUtf8-encode}
use Rattle.std.specs.Prelude.{Option, None, Some}
use Rattle.std.specs.Option.{MatchOption, SomeIff}
use Rattle.decoding.specs.Encodings.{in_utf8, utf8_text}
use Rattle.decoding.specs.Spelling.{BeginNoChar, Continues, IsOfBytes, IsSpelled}

-- the code of two, three and four bytes
pub of_two : (x y c : ℕ) → 0xC2 ≤ x → x < 0xE0 → Continues y → c ≡ (x - 0xC0) * 0x40 + (y - 0x80) →
    encode_utf8 c ≡ x ∷ y ∷ []
of_two x y c least most f is =
    let p : 192 + c / 64 ≡ x = omega (arith, f.least, f.most) in
    let q : 128 + c % 64 ≡ y = omega (arith, f.least, f.most) in
    two c (omega (arith, f.least, f.most)) (omega (arith, f.least, f.most)) ∙ (λ k. p k ∷ q k ∷ [])

pub of_three : (x y z front c : ℕ) → 0xE0 ≤ x → x < 0xF0 → Continues y → Continues z →
    front ≡ (x - 0xE0) * 0x40 + (y - 0x80) → 0x20 ≤ front → c ≡ front * 0x40 + (z - 0x80)
    → encode_utf8 c ≡ x ∷ y ∷ z ∷ []
of_three x y z front c least most f g at enough is =
    let p : 224 + c / 4096 ≡ x = omega (arith, f.least, f.most, g.least, g.most) in
    let q : 128 + c / 64 % 64 ≡ y = omega (arith, f.least, f.most, g.least, g.most) in
    let r : 128 + c % 64 ≡ z = omega (arith, f.least, f.most, g.least, g.most) in
    three c (omega (arith, f.least, f.most, g.least, g.most)) (omega (arith, f.least, f.most, g.least, g.most)) ∙
    (λ k. p k ∷ q k ∷ r k ∷ [])

pub of_four : (x y z w front back c : ℕ) → 0xF0 ≤ x → Continues y → Continues z → Continues w →
    front ≡ (x - 0xF0) * 0x40 + (y - 0x80) → 0x10 ≤ front
    → back ≡ (z - 0x80) * 0x40 + (w - 0x80) → c ≡ front * 0x1000 + back → encode_utf8 c ≡ x ∷ y ∷ z ∷ w ∷ []
of_four x y z w front back c least f g h at enough end is =
    let p : 240 + c / 262144 ≡ x = omega (arith, f.least, f.most, g.least, g.most, h.least, h.most) in
    let q : 128 + c / 4096 % 64 ≡ y = omega (arith, f.least, f.most, g.least, g.most, h.least, h.most) in
    let r : 128 + c / 64 % 64 ≡ z = omega (arith, f.least, f.most, g.least, g.most, h.least, h.most) in
    let s : 128 + c % 64 ≡ w = omega (arith, f.least, f.most, g.least, g.most, h.least, h.most) in
    four c (omega (arith, f.least, f.most, g.least, g.most, h.least, h.most)) ∙ (λ k. p k ∷ q k ∷ r k ∷ s k ∷ [])

-- the text up to there is one character more
pub text_more : (bs : List ℕ) (at c following : ℕ) → IsUtf8 (take at bs) → IsSpelled bs at (c, following) →
    utf8_text (take following bs) ≡ utf8_text (take at bs) ++ in_utf8 c ∷ []
text_more bs at c following front is =
    let alone : chars (encode_utf8 c) ≡ c ∷ [] =
    chars_past_char (encode_utf8 c) [] c (IsUtf8-encode c is.scalar) (sym (append-nil (encode_utf8 c))) ∙
    ap (λ (cs : List ℕ). c ∷ cs) chars-nil in
    ap utf8_text is.spelled ∙ ap (λ (cs : List ℕ). map in_utf8 cs) (chars-append (take at bs) (encode_utf8 c) front ∙
    ap (λ (cs : List ℕ). chars (take at bs) ++ cs) alone)
    ∙ map-append in_utf8 (chars (take at bs)) (c ∷ [])

pub utf8_more : (bs : List ℕ) (at c following : ℕ) → IsUtf8 (take at bs) → IsSpelled bs at (c, following) →
    IsUtf8 (take following bs)
utf8_more bs at c following front is =
    subst IsUtf8 (sym is.spelled) (IsUtf8-append (take at bs) (encode_utf8 c) front (IsUtf8-encode c is.scalar))

-- a character takes at least one byte
pub forward : (bs : List ℕ) (at c following : ℕ) → IsSpelled bs at (c, following) → at < following
forward bs at c following is = omega (arith, is.following, length-encode c, (len_utf8_bounds c).0)

-- the conversion of a code returns the character of these bytes, or none if they begin no character
pub made : (r : Option ℕ) (code : ℕ) (bs : List ℕ) → SomeIff r (IsScalar code) code → encode_utf8 code ≡ bs →
    MatchOption r (BeginNoChar bs) (IsOfBytes bs)
made None code bs h is =
    λ rest c r s e. h (subst IsScalar (sym (encode_same code c rest r (ap (λ (b : List ℕ). b ++ rest) is ∙ e)).0) s)
made (Some c) code bs h is = record { scalar = subst IsScalar (sym h.1) h.0; bytes_of = ap encode_utf8 h.1 ∙ is }

-- no character begins with these bytes
pub no_second : (x y : ℕ) (rest : List ℕ) → 128 ≤ x → (Continues y → ⊥) → StartsWithNoChar (x ∷ y ∷ rest)
no_second x y rest least stops = no_char (x ∷ y ∷ rest) 0 (λ r.
    let second = r.second least in stops (record { least = omega (arith, second); most = omega (arith, second) }))

pub no_third : (x y z : ℕ) (rest : List ℕ) → 224 ≤ x → (Continues z → ⊥) → StartsWithNoChar (x ∷ y ∷ z ∷ rest)
no_third x y z rest least stops = no_char (x ∷ y ∷ z ∷ rest) 0 (λ r.
    let third = r.third least in stops (record { least = omega (arith, third); most = omega (arith, third) }))

pub no_fourth : (x y z w : ℕ) (rest : List ℕ) → 240 ≤ x → (Continues w → ⊥) → StartsWithNoChar (x ∷ y ∷ z ∷ w ∷ rest)
no_fourth x y z w rest least stops = no_char (x ∷ y ∷ z ∷ w ∷ rest) 0 (λ r.
    let fourth = r.fourth least in stops (record { least = omega (arith, fourth); most = omega (arith, fourth) }))

-- the first bytes of the rest
pub split_one : (bs : List ℕ) (at : ℕ) → at < length bs → drop at bs ≡ get_or bs at 0 ∷ drop (at + 1) bs
split_one bs at lt = drop-cons bs at 0 lt ∙ ap (λ n. get_or bs at 0 ∷ drop n bs) (let e : suc at ≡ at + 1 =
    omega arith in e)

pub split_two : (bs : List ℕ) (at : ℕ) → at + 1 < length bs →
    drop at bs ≡ get_or bs at 0 ∷ get_or bs (at + 1) 0 ∷ drop (at + 2) bs
split_two bs at lt =
    split_one bs at (omega arith)
    ∙ ap (λ (xs : List ℕ). get_or bs at 0 ∷ xs) (split_one bs (at + 1) lt ∙
    ap (λ n. get_or bs (at + 1) 0 ∷ drop n bs) (let e : at + 1 + 1 ≡ at + 2 = omega arith in e))

pub split_three : (bs : List ℕ) (at : ℕ) → at + 2 < length bs →
    drop at bs ≡ get_or bs at 0 ∷ get_or bs (at + 1) 0 ∷ get_or bs (at + 2) 0 ∷ drop (at + 3) bs
split_three bs at lt =
    split_two bs at (omega arith)
    ∙ ap (λ (xs : List ℕ). get_or bs at 0 ∷ get_or bs (at + 1) 0 ∷ xs)
    (split_one bs (at + 2) lt ∙ ap (λ n. get_or bs (at + 2) 0 ∷ drop n bs) (let e : at + 2 + 1 ≡ at + 3 = omega arith in
    e))

pub split_four : (bs : List ℕ) (at : ℕ) → at + 3 < length bs
    → drop at bs ≡ get_or bs at 0 ∷ get_or bs (at + 1) 0 ∷ get_or bs (at + 2) 0 ∷ get_or bs (at + 3) 0 ∷
    drop (at + 4) bs
split_four bs at lt =
    split_three bs at (omega arith)
    ∙ ap (λ (xs : List ℕ). get_or bs at 0 ∷ get_or bs (at + 1) 0 ∷ get_or bs (at + 2) 0 ∷ xs)
    (split_one bs (at + 3) lt ∙ ap (λ n. get_or bs (at + 3) 0 ∷ drop n bs) (let e : at + 3 + 1 ≡ at + 4 = omega arith in
    e))

-- no character begins at an offset if its bytes there begin none
pub unspelled_two : (bs : List ℕ) (at : ℕ) → at + 1 < length bs →
    BeginNoChar (get_or bs at 0 ∷ get_or bs (at + 1) 0 ∷ []) → StartsWithNoChar (drop at bs)
unspelled_two bs at lt none = subst StartsWithNoChar (sym (split_two bs at lt)) (none (drop (at + 2) bs))

pub unspelled_three : (bs : List ℕ) (at : ℕ) → at + 2 < length bs →
    BeginNoChar (get_or bs at 0 ∷ get_or bs (at + 1) 0 ∷ get_or bs (at + 2) 0 ∷ []) → StartsWithNoChar (drop at bs)
unspelled_three bs at lt none = subst StartsWithNoChar (sym (split_three bs at lt)) (none (drop (at + 3) bs))

pub unspelled_four : (bs : List ℕ) (at : ℕ) → at + 3 < length bs
    → BeginNoChar (get_or bs at 0 ∷ get_or bs (at + 1) 0 ∷ get_or bs (at + 2) 0 ∷ get_or bs (at + 3) 0 ∷ []) →
    StartsWithNoChar (drop at bs)
unspelled_four bs at lt none = subst StartsWithNoChar (sym (split_four bs at lt)) (none (drop (at + 4) bs))
