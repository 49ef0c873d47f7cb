-- The characters that begin at the offsets of a text's characters.
use Rattle.std.proofs.Common.{◌≡◌, ◌∙◌, ℕ, zero, suc, ◌+◌, ◌-◌, ◌<◌, ◌≤◌, true, false, Bool, List, [], ◌∷◌, ◌++◌, ap, arith, drop, get_or, inl, inr, length, map, refl, subst, sym, take}
use Rattle.std.specs.Prelude.{Option, Some, None, slice_index, ◌&&◌, ◌⊎◌, if◌then◌else◌, nat_le, nat_lt}
use Rattle.std.specs.Char.{encode_utf8}
use Rattle.std.specs.Char.Utf16.{lone_unit_char, surrogate_pair_char}
use Rattle.std.specs.Option.{unwrap_or}
use Rattle.std.specs.Str.{chars, encode_utf8_all, is_utf8, IsUtf8, StartsWithNoChar}
use Rattle.std.specs.Str.Lossy.{utf8_error_len, utf8_invalid_len, utf8_valid_len, valid_len_up_to}
use Rattle.std.proofs.Math.Seq.{drop-cons, take-append_seam}
use Rattle.std.proofs.Math.Utf8.{scalars}
use Rattle.std.proofs.lemmas.Bool.{and_parts, cases_Bool, cases_lt}
use Rattle.std.proofs.lemmas.List.{append-nil, append_assoc, drop-drop, drop_all, get_or-drop, get_or-map, length-append, length-drop, length-map, length-take-le, take-append-drop, take_all}
use Rattle.std.proofs.lemmas.List.Sums.{sum_by-cons}
use Rattle.std.proofs.lemmas.Str.{chars-nil, encodes-chars, is_utf8-from_IsUtf8, IsUtf8-from_is_utf8, IsUtf8-nil, scalars-chars, utf16_chars-nil, utf16_chars_lone, utf16_chars_pair, utf8_valid_len-IsUtf8, utf8_valid_len_le}
use Rattle.std.proofs.str.Lossy.{utf8_invalid_len_pos}
use Rattle.std.proofs.str.Utf16.{IsPair}
use Rattle.ucdfiles.specs.Tables.{TablesOf, unit_by}
use Rattle.decoding.specs.Encodings.{in_utf16, in_utf8, utf16_text, utf8_text}
use Rattle.decoding.specs.LossyTexts.{chunks, replaced, utf8_lossy_text}
use Rattle.decoding.specs.Offsets.{Spelled, codes_of, offset_of}
use Rattle.decoding.specs.Spelling.{IsSpelled}
use Rattle.decoding.specs.declared.fault.Faults.{Faults}
use Rattle.decoding.specs.declared.fault.Faults.TheVariants.{Rejected, Replaced}
use Rattle.decoding.proofs.LossyChunks.{lossy_step, replaced_some}
use Rattle.decoding.proofs.Utf16Texts.{one_unit, two_units}
use Rattle.sources.proofs.FirstChars.{lossy_fault, lossy_first}
use Rattle.sources.specs.ClassNumbers.{unit_numbered}
use Rattle.sources.specs.NumberedUnits.{numbered_unit}
use Rattle.sources.specs.Sources.{SourceOf, Classes, Codes, Units, Utf16, Utf8, characters_of, source_offset, text_in, units_of}
use Rattle.room.specs.Rooms.{RoomOf, characters_in, offset_in}
use Rattle.room.specs.ShownUnits.{HoldsSource, ReadsCharacters, first_code, utf16_code_at, utf8_code_at}

-- a text begins with a character; the text of the remaining code units follows
pub record Begins (read : List ℕ → List Spelled) (units : List ℕ) : Type 0 where
  pub first : Spelled
  pub splits : read units ≡ first ∷ read (drop first.width units)

module _ (read : List ℕ → List Spelled) (IsRead : List ℕ → Type 0) (none : read [] ≡ []) (begin : (units : List ℕ) →
    IsRead units → 0 < length units → Begins read units)
    (rest : (units : List ℕ) (n : ℕ) → IsRead units → IsRead (drop n units)) where
  -- from the offset of a character on the text is its rest
  text_from : (k : ℕ) (units : List ℕ) → IsRead units → k ≤ length (read units) →
      read (drop (offset_of (read units) k) units) ≡ drop k (read units)
  text_from zero units is le = refl
  text_from (suc k) [] is le = absurd (omega (arith, ap length none, le))
  text_from (suc k) (u ∷ us) is le =
      let b : Begins read (u ∷ us) = begin (u ∷ us) is (omega arith) in
      let w = b.first.width in
      let tail = drop w (u ∷ us) in
      let at : offset_of (read (u ∷ us)) (suc k) ≡ w + offset_of (read tail) k =
      ap (λ (t : List Spelled). offset_of t (suc k)) b.splits ∙
      sum_by-cons (λ (s : Spelled). s.width) b.first (take k (read tail)) in
      ap (λ (n : ℕ). read (drop n (u ∷ us))) at ∙ ap read (sym (drop-drop (offset_of (read tail) k) w (u ∷ us)))
      ∙ text_from k tail (rest (u ∷ us) w is) (omega (arith, le, ap length b.splits)) ∙ sym (ap (drop (suc k)) b.splits)

  -- the character that begins there has its index
  code_from : (k : ℕ) (units : List ℕ) → IsRead units → k < length (read units) →
      first_code (read (drop (offset_of (read units) k) units)) ≡ slice_index (codes_of (read units)) k
  code_from k units is lt =
      let d : Spelled = record { code = 0; width = 0 } in
      ap first_code (text_from k units is (omega (arith, lt)) ∙ drop-cons (read units) k d lt) ∙
      sym (get_or-map (λ (s : Spelled). s.code) (read units) k d 0 lt)

-- a text has a unit for each character
count_units : (tables : TablesOf) (source : SourceOf) → length (units_of tables source) ≡ characters_of source
count_units tables (Codes numbers) = length-map numbers (unit_by tables)
count_units tables (Classes numbers) = length-map numbers unit_numbered
count_units tables (Units numbered) = length-map numbered numbered_unit
count_units tables (Utf8 bytes faults) = length-map (codes_of (text_in (Utf8 bytes faults))) (unit_by tables) ∙
    length-map (text_in (Utf8 bytes faults)) (λ (s : Spelled). s.code)
count_units tables (Utf16 units faults) = length-map (codes_of (utf16_text units)) (unit_by tables) ∙
    length-map (utf16_text units) (λ (s : Spelled). s.code)

-- a room with this text has as many characters, and they begin at the same offsets
record HasOffsetsOf (source : SourceOf) (room : RoomOf) : Type 0 where
  count : characters_in room ≡ characters_of source
  offsets : (k : ℕ) → k ≤ characters_of source → offset_in room k ≡ source_offset source k

has_offsets : (source : SourceOf) (room : RoomOf) → length room.text.units ≡ characters_in room →
    HoldsSource source room → HasOffsetsOf source room
has_offsets source room whole h =
    let same : characters_of h.ask.source ≡ characters_of source = ap characters_of h.is in
    record {
      count = sym whole ∙ ap length h.asked.units ∙ count_units h.tables h.ask.source ∙ same;
      offsets = λ k le. h.asked.offsets k (omega (arith, le, same)) ∙ ap (λ (s : SourceOf). source_offset s k) h.is;
    }

-- the longest front that is well formed
up_to_whole : (bs : List ℕ) (n : ℕ) → is_utf8 (take n bs) ≡ true → valid_len_up_to bs n ≡ n
up_to_whole bs zero t = refl
up_to_whole bs (suc n) t = rw t refl

up_to_next : (bs : List ℕ) (n : ℕ) → is_utf8 (take (suc n) bs) ≡ false →
    valid_len_up_to bs (suc n) ≡ valid_len_up_to bs n
up_to_next bs n f = rw f refl

front_is_text : (bs : List ℕ) (n : ℕ) → is_utf8 (take (valid_len_up_to bs n) bs) ≡ true
front_is_text bs zero = is_utf8-from_IsUtf8 [] IsUtf8-nil
front_is_text bs (suc n) = elim (cases_Bool (is_utf8 (take (suc n) bs))) [
  | inl t ↦ ap (λ (m : ℕ). is_utf8 (take m bs)) (up_to_whole bs (suc n) t) ∙ t
  | inr f ↦ ap (λ (m : ℕ). is_utf8 (take m bs)) (up_to_next bs n f) ∙ front_is_text bs n
]

valid_is_text : (bs : List ℕ) → IsUtf8 (take (utf8_valid_len bs) bs)
unfolding utf8_valid_len
valid_is_text bs = IsUtf8-from_is_utf8 (take (valid_len_up_to bs (length bs)) bs) (front_is_text bs (length bs))

-- bytes that begin with characters
begins_char : (bs cs back : List ℕ) → scalars cs ≡ true → bs ≡ encode_utf8_all cs ++ back →
    0 < length (encode_utf8_all cs) → Begins utf8_lossy_text bs
begins_char bs [] back scalar is some = absurd (omega (arith, some))
begins_char bs (c ∷ cs) back scalar is some =
    let n = length (encode_utf8 c) in
    let tail = encode_utf8_all cs ++ back in
    let same : bs ≡ encode_utf8 c ++ tail = is ∙ append_assoc (encode_utf8 c) (encode_utf8_all cs) back in
    let spelled : IsSpelled bs 0 (c, n) = record {
      scalar = (and_parts _ _ scalar).0;
      following = omega arith;
      inside = omega (arith, ap length same, length-append (encode_utf8 c) tail);
      spelled = ap (take n) same ∙ take-append_seam (encode_utf8 c) tail;
    } in
    record { first = record { code = c; width = n }; splits = lossy_first bs c n spelled }

-- bytes that begin with a fault
begins_fault : (bs : List ℕ) → 0 < length bs → utf8_valid_len bs ≡ 0 → Begins utf8_lossy_text bs
begins_fault bs some valid =
    let n = utf8_invalid_len bs in
    let wide : 0 < n = utf8_invalid_len_pos bs some in
    record {
      first = record { code = 0xFFFD; width = n };
      splits = lossy_step bs some
          ∙ ap (λ (k : ℕ). (utf8_text (take k bs) ++ replaced (utf8_invalid_len (drop k bs))) ++
          utf8_lossy_text (drop (k + utf8_invalid_len (drop k bs)) bs)) valid
          ∙ ap (λ (cs : List ℕ). (map in_utf8 cs ++ replaced n) ++ utf8_lossy_text (drop (0 + n) bs)) chars-nil
          ∙ ap (λ (k : ℕ). replaced n ++ utf8_lossy_text (drop k bs)) {x = 0 + n} {y = n} (omega arith)
          ∙ ap (λ (t : List Spelled). t ++ utf8_lossy_text (drop n bs)) (replaced_some n wide);
    }

begins_utf8 : (bs : List ℕ) → 0 < length bs → Begins utf8_lossy_text bs
begins_utf8 bs some =
    let v = utf8_valid_len bs in
    elim (cases_lt 0 v) [
      | inl below ↦
          let front = take v bs in
          let is : IsUtf8 front = valid_is_text bs in
          let spells : encode_utf8_all (chars front) ≡ front = encodes-chars front is in
          let long : length front ≡ v = length-take-le v bs (utf8_valid_len_le bs) in
          begins_char bs (chars front) (drop v bs) (scalars-chars front is)
          (sym (take-append-drop v bs) ∙ ap (λ (xs : List ℕ). xs ++ drop v bs) (sym spells)) (omega (
            arith,
            ap length spells,
            long,
            below,
          ))
      | inr above ↦ begins_fault bs some (omega (arith, above))
    ]

-- a suffix of bytes, as it is sliced
rest_of : (bs : List ℕ) (at : ℕ) → take (length bs - at) (drop at bs) ≡ drop at bs
rest_of bs at = take_all (length bs - at) (drop at bs) (omega (arith, length-drop at bs))

-- the character that begins at an offset, and U+FFFD if none does
pub code_of_char : (bs : List ℕ) (at c n : ℕ) → IsSpelled (take (length bs - at) (drop at bs)) 0 (c, n) →
    c ≡ utf8_code_at bs at
code_of_char bs at c n is =
    sym (ap first_code (lossy_first (drop at bs) c n (subst (λ (xs : List ℕ). IsSpelled xs 0 (c, n))
    (rest_of bs at) is)))

pub code_of_fault : (bs : List ℕ) (at : ℕ) → at < length bs → StartsWithNoChar (take (length bs - at) (drop at bs)) →
    0xFFFD ≡ utf8_code_at bs at
code_of_fault bs at lt none =
    let remaining = drop at bs in
    sym (ap first_code (lossy_fault remaining (utf8_invalid_len remaining) (omega (arith, lt, length-drop at bs))
    (subst StartsWithNoChar (rest_of bs at) none) refl))

-- a well-formed text is read the same if faults are replaced
no_bytes : utf8_lossy_text [] ≡ utf8_text []
unfolding chunks utf8_valid_len utf8_error_len chars
no_bytes = refl

no_fault : utf8_invalid_len [] ≡ 0
unfolding utf8_error_len
no_fault = refl

no_chunks : utf8_lossy_text [] ≡ []
unfolding chunks utf8_valid_len utf8_error_len chars
no_chunks = refl

well_formed_text : (bs : List ℕ) → IsUtf8 bs → utf8_lossy_text bs ≡ utf8_text bs
well_formed_text [] is = no_bytes
well_formed_text (b ∷ bs) is =
    let all = b ∷ bs in
    let n = length all in
    let none : drop n all ≡ [] = drop_all n all (omega arith) in
    let front = utf8_text (take n all) in
    lossy_step all (omega arith)
    ∙ ap (λ (k : ℕ). (utf8_text (take k all) ++ replaced (utf8_invalid_len (drop k all))) ++
    utf8_lossy_text (drop (k + utf8_invalid_len (drop k all)) all)) (utf8_valid_len-IsUtf8 all is)
    ∙ ap (λ (m : ℕ). (front ++ replaced m) ++ utf8_lossy_text (drop (n + m) all)) (ap utf8_invalid_len none ∙ no_fault)
    ∙ ap (λ (ys : List ℕ). (front ++ []) ++ utf8_lossy_text ys) (drop_all (n + 0) all (omega arith))
    ∙ ap (λ (t : List Spelled). (front ++ []) ++ t) no_chunks
    ∙ append-nil (front ++ []) ∙ append-nil front ∙ ap utf8_text (take_all n all (omega arith))

-- characters of UTF-8
utf8_code_from : (k : ℕ) (bs : List ℕ) → k < length (utf8_lossy_text bs) →
    utf8_code_at bs (offset_of (utf8_lossy_text bs) k) ≡ slice_index (codes_of (utf8_lossy_text bs)) k
utf8_code_from k bs lt =
    code_from utf8_lossy_text (λ _. Unit {0}) no_chunks (λ units _ some. begins_utf8 units some) (λ units n _.
    tt) k bs tt lt

pub reads_utf8 : (room : RoomOf) (bytes : List ℕ) (faults : Faults) → length room.text.units ≡ characters_in room →
    HoldsSource (Utf8 bytes faults) room → ReadsCharacters (utf8_code_at bytes) (Utf8 bytes faults) room
reads_utf8 room bytes Replaced whole h = λ k lt.
    let at = has_offsets (Utf8 bytes Replaced) room whole h in
    let inside : k < length (utf8_lossy_text bytes) = omega (arith, lt, at.count) in
    ap (utf8_code_at bytes) (at.offsets k (omega (arith, inside))) ∙ utf8_code_from k bytes inside
reads_utf8 room bytes Rejected whole h = λ k lt.
    let at = has_offsets (Utf8 bytes Rejected) room whole h in
    let inside : k < length (utf8_text bytes) = omega (arith, lt, at.count) in
    let same : utf8_lossy_text bytes ≡ utf8_text bytes = well_formed_text bytes h.well_formed in
    ap (utf8_code_at bytes) (at.offsets k (omega (arith, inside)) ∙ ap (λ (t : List Spelled). offset_of t k) (sym same))
    ∙ utf8_code_from k bytes (omega (arith, inside, ap length same)) ∙
    ap (λ (t : List Spelled). slice_index (codes_of t) k) same

-- code units have 16 bits
abbrev pub Are16Bits : List ℕ → Type 0
Are16Bits units = (k : ℕ) → get_or units k 0 < 65536

bits_of_rest : (units : List ℕ) (n : ℕ) → Are16Bits units → Are16Bits (drop n units)
bits_of_rest units n are = λ k. omega (arith, get_or-drop n units k 0, are (n + k))

-- two code units are a pair or not
pair_or_not : (u v : ℕ) → IsPair u v ⊎ (IsPair u v → ⊥)
pair_or_not u v = elim (cases_lt u 0xD800) [
  | inl low ↦ inr (λ pair. omega (arith, low, pair.0))
  | inr from ↦ elim (cases_lt u 0xDC00) [
    | inr past ↦ inr (λ pair. omega (arith, past, pair.1))
    | inl upto ↦ elim (cases_lt v 0xDC00) [
      | inl under ↦ inr (λ pair. omega (arith, under, pair.2))
      | inr above ↦ elim (cases_lt v 0xE000) [
        | inl before ↦ inl (from, upto, above, before)
        | inr following ↦ inr (λ pair. omega (arith, following, pair.3))
      ]
    ]
  ]
]

-- a code unit outside of a pair is read as a code point below 65,536
small : (b : Bool) (u : ℕ) → u < 65536 → unwrap_or (if b then None else Some u) 0xFFFD < 65536
small true u lt = omega arith
small false u lt = lt

begins_lone : (u : ℕ) (us : List ℕ) → u < 65536 → (IsPair u (get_or us 0 0) → ⊥) → Begins utf16_text (u ∷ us)
begins_lone u us lt alone =
    let c : ℕ = unwrap_or (lone_unit_char u) 0xFFFD in
    record {
      first = record { code = c; width = 1 };
      splits = ap (λ (os : List (Option ℕ)). map in_utf16 (map (λ (o : Option ℕ). unwrap_or o 0xFFFD) os))
          (utf16_chars_lone u us alone)
          ∙ ap (λ (w : ℕ). record {
            code = c;
            width =
                w;
          } ∷ utf16_text us) (one_unit c (small (nat_le 0xD800 u && nat_lt u 0xE000) u lt));
    }

begins_pair : (u : ℕ) (us : List ℕ) → IsPair u (get_or us 0 0) → Begins utf16_text (u ∷ us)
begins_pair u [] pair = absurd (omega (arith, pair.2))
begins_pair u (v ∷ vs) pair =
    let c : ℕ = surrogate_pair_char u v in
    record {
      first = record { code = c; width = 2 };
      splits = ap (λ (os : List (Option ℕ)). map in_utf16 (map (λ (o : Option ℕ). unwrap_or o 0xFFFD) os))
          (utf16_chars_pair u v vs pair)
          ∙ ap (λ (w : ℕ). record { code = c; width = w } ∷ utf16_text vs) (two_units c (omega arith));
    }

begins_utf16 : (units : List ℕ) → Are16Bits units → 0 < length units → Begins utf16_text units
begins_utf16 [] are some = absurd (omega (arith, some))
begins_utf16 (u ∷ us) are some = elim (pair_or_not u (get_or us 0 0)) [
  | inl pair ↦ begins_pair u us pair
  | inr alone ↦ begins_lone u us (are 0) alone
]

no_units : utf16_text [] ≡ []
no_units = ap (λ (os : List (Option ℕ)). map in_utf16 (map (λ (o : Option ℕ). unwrap_or o 0xFFFD) os)) utf16_chars-nil

-- characters of UTF-16
pub reads_utf16 : (room : RoomOf) (units : List ℕ) (faults : Faults) → Are16Bits units →
    length room.text.units ≡ characters_in room → HoldsSource (Utf16 units faults) room →
    ReadsCharacters (utf16_code_at units) (Utf16 units faults) room
reads_utf16 room units faults are whole h = λ k lt.
    let at = has_offsets (Utf16 units faults) room whole h in
    let inside : k < length (utf16_text units) = omega (arith, lt, at.count) in
    ap (utf16_code_at units) (at.offsets k (omega (arith, inside))) ∙
    code_from utf16_text Are16Bits no_units begins_utf16 bits_of_rest k units are inside
