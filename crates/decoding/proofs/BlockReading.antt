-- Blocks of characters of one code unit each.
use Rattle.std.proofs.Common.{◌≡◌, ℕ, suc, ◌+◌, ◌-◌, ◌<◌, ◌≤◌, List, [], ◌∷◌, ◌++◌, length, get_or, map, set, take, drop, refl, subst, sym, ap, ◌∙◌, inl, inr, arith, take-add}
use Rattle.std.specs.Prelude.{slice_index}
use Rattle.std.specs.Str.{chars, IsAscii, IsUtf8}
use Rattle.std.proofs.lemmas.Bool.{cases_lt}
use Rattle.std.proofs.Math.ListN.{get_or-append}
use Rattle.std.proofs.lemmas.List.{get_or-append-add, get_or-take, length-append, length-map, length-take-le, map-append, take-map, take_more, take_more_set}
use Rattle.std.proofs.lemmas.List.Sums.{sum_by-append, sum_by-cons}
use Rattle.std.proofs.lemmas.Str.{chars-append, chars-IsAscii, chars-nil, encode_ascii, IsUtf8-nil}
use Rattle.std.proofs.Math.Seq.{take-append-add}
use Rattle.std.proofs.lemmas.Slice.{take-put_mid}
use borrow.Rule.Slice.PartMut.{post_of, put_mid}
use Rattle.units.specs.declared.bracket.Unit.{Unit as BidiUnit}
use Rattle.ucdfiles.specs.Tables.{TablesOf, unit_by, units_by}
use Rattle.ucdfiles.specs.UnitStages.{UnitStages, unit_by_stages, unit_stages}
use Rattle.decoding.specs.Decoded.{IsReadUpTo, IsWritten, tables_with}
use Rattle.decoding.specs.Encodings.{in_one_unit, in_utf8, utf8_text}
use Rattle.decoding.specs.Offsets.{Spelled, code_units, codes_of, offset_of}
use Rattle.decoding.specs.Spelling.{IsSpelled}
use Rattle.decoding.specs.declared.reached.Reached.{Reached}
use Rattle.decoding.proofs.OffsetLemmas.{offset-front}
use Rattle.decoding.proofs.Utf8Tests.{utf8_block}
use Rattle.decoding.proofs.Spellings.{forward, text_more, utf8_more}
use Rattle.decoding.proofs.Writing.{written_more, written_none}

-- the unit of one character more
pub unit_more : (stages : UnitStages) (block : List ℕ) (k : ℕ) (units : List BidiUnit) (u : BidiUnit)
    → k < length block → k < length units → u ≡ unit_by_stages stages (get_or block k 0)
    → take k units ≡ map (unit_by_stages stages) (take k block)
    → take (k + 1) (set units k u) ≡ map (unit_by_stages stages) (take (k + 1) block)
unit_more stages block k units u in_block in_units is before =
    take_more_set units k u in_units ∙ ap (λ (us : List BidiUnit). us ++ u ∷ []) before
    ∙ ap (λ (x : BidiUnit). map (unit_by_stages stages) (take k block) ++ x ∷ []) is
    ∙ sym (map-append (unit_by_stages stages) (take k block) (get_or block k 0 ∷ []))
    ∙ ap (map (unit_by_stages stages)) (sym (take_more block k 0 in_block))

codes_of_ones : (cs : List ℕ) → codes_of (map in_one_unit cs) ≡ cs
codes_of_ones [] = refl
codes_of_ones (c ∷ cs) = ap (λ (xs : List ℕ). c ∷ xs) (codes_of_ones cs)

units_of_ones : (cs : List ℕ) → code_units (map in_one_unit cs) ≡ length cs
units_of_ones [] = refl
units_of_ones (c ∷ cs) =
    let rest = units_of_ones cs in
    omega (arith, sum_by-cons (λ (x : Spelled). x.width) (in_one_unit c) (map in_one_unit cs), rest)

-- the offset in a block, and after a text before it
offset_in_block : (cs : List ℕ) (k : ℕ) → k ≤ length cs → offset_of (map in_one_unit cs) k ≡ k
offset_in_block cs k le = ap code_units (take-map in_one_unit k cs) ∙ units_of_ones (take k cs) ∙ length-take-le k cs le

offset_after : (text : List Spelled) (cs : List ℕ) (k : ℕ) → k ≤ length cs →
    offset_of (text ++ map in_one_unit cs) (length text + k) ≡ code_units text + k
offset_after text cs k le =
    ap code_units (take-append-add text (map in_one_unit cs) k)
    ∙ sum_by-append (λ (x : Spelled). x.width) text (take k (map in_one_unit cs))
    ∙ ap (λ n. code_units text + n) (offset_in_block cs k le)

-- a block more is written
written_block : (tables : TablesOf) (text : List Spelled) (cs : List ℕ) (count at : ℕ)
    (units more : List BidiUnit) (starts begins : List ℕ)
    → take (count + length cs) more ≡ take count units ++ units_by tables cs
    → ((k : ℕ) → k < count → slice_index begins k ≡ slice_index starts k)
    → ((k : ℕ) → k < length cs → slice_index begins (count + k) ≡ at + k)
    → IsWritten tables text (record { characters = count; code_units = at }) units starts
    → IsWritten tables (text ++ map in_one_unit cs) (record {
      characters = count + length cs;
      code_units = at + length cs;
    }) more begins
written_block tables text cs count at units more starts begins known front back w = record {
  characters = omega (arith, w.characters, length-append text (map in_one_unit cs), length-map cs in_one_unit);
  code_units = omega (
    arith,
    w.code_units,
    sum_by-append (λ (x : Spelled). x.width) text (map in_one_unit cs),
    units_of_ones cs,
  );
  units = known ∙ ap (λ (us : List BidiUnit). us ++ units_by tables cs) w.units
      ∙ ap (λ (xs : List ℕ). units_by tables (codes_of text) ++ units_by tables xs) (sym (codes_of_ones cs))
      ∙ sym (map-append (unit_by tables) (codes_of text) (codes_of (map in_one_unit cs)))
      ∙ ap (units_by tables) (sym (map-append (λ (x : Spelled). x.code) text (map in_one_unit cs)));
  starts = λ k lt. elim (cases_lt k count) [
    | inl below ↦ front k below ∙ w.starts k (omega (arith, below, w.characters)) ∙
        sym (offset-front text (map in_one_unit cs) k (omega (arith, below, w.characters)))
    | inr above ↦
        let small : k - count < length cs =
        omega (arith, above, lt, length-append text (map in_one_unit cs), length-map cs in_one_unit, w.characters) in
        let here : k ≡ count + (k - count) = omega (arith, above) in
        let there : length text + (k - count) ≡ k = omega (arith, above, w.characters) in
        ap (slice_index begins) here ∙ back (k - count) small ∙ ap (λ n. n + (k - count)) w.code_units ∙
        sym (offset_after text cs (k - count) (omega (arith, small))) ∙
        ap (offset_of (text ++ map in_one_unit cs)) there
  ];
}

-- what a list has before and in a part that is written
before_part : (a k : ℕ) (xs ys : List ℕ) (i : ℕ) → i < a → a ≤ length xs →
    slice_index (put_mid a k xs ys) i ≡ slice_index xs i
before_part a k xs ys i below inside =
    get_or-append (take a xs) (ys ++ post_of a k xs) 0 i (omega (arith, below, length-take-le a xs inside))
    ∙ get_or-take a xs i 0 below

in_part : (a k : ℕ) (xs ys : List ℕ) (i : ℕ) → i < length ys → a ≤ length xs →
    slice_index (put_mid a k xs ys) (a + i) ≡ slice_index ys i
in_part a k xs ys i within inside =
    ap (λ n. slice_index (put_mid a k xs ys) (n + i)) (sym (length-take-le a xs inside))
    ∙ get_or-append-add (take a xs) (ys ++ post_of a k xs) i 0
    ∙ get_or-append ys (post_of a k xs) 0 i within

-- a block more is written, into parts of the columns
pub written_part : (stages : UnitStages) (text : List Spelled) (cs : List ℕ) (n m : ℕ) (before : Reached)
    (units new : List BidiUnit) (starts offsets : List ℕ)
    → length cs ≡ n → new ≡ map (unit_by_stages stages) cs → length offsets ≡ n
    → ((k : ℕ) → k < n → slice_index offsets k ≡ before.code_units + k)
    → before.characters + n ≤ length units → before.characters + n ≤ length starts
    → IsWritten (tables_with stages) text before units starts
    → IsWritten (tables_with stages) (text ++ map in_one_unit cs) (record {
      characters = before.characters + n;
      code_units = before.code_units + n;
    }) (put_mid before.characters m units new) (put_mid before.characters m starts offsets)
written_part stages text cs n m before units new starts offsets long is many rising in_units in_starts w =
    let count : ℕ = before.characters in
    let size : length new ≡ n = ap length is ∙ length-map cs (unit_by_stages stages) ∙ long in
    subst (λ (k : ℕ). IsWritten (tables_with stages) (text ++ map in_one_unit cs) (record {
      characters = count + k;
      code_units = before.code_units + k;
    }) (put_mid count m units new) (put_mid count m starts offsets)) long
    (written_block (tables_with stages) text cs count before.code_units units (put_mid count m units new) starts
    (put_mid count m starts offsets)
    (take-put_mid count m units new (count + length cs) (omega (arith, size, long)) (omega (arith, in_units)) ∙
    ap (λ (us : List BidiUnit). take count units ++ us) is)
    (λ k lt. before_part count m starts offsets k lt (omega (arith, in_starts)))
    (λ k lt. in_part count m starts offsets k (omega (arith, lt, long, many)) (omega (arith, in_starts)) ∙
    rising k (omega (arith, lt, long)))
    w)

-- the mirror images of the tables play no part
pub written_with : (tables : TablesOf) (text : List Spelled) (reached : Reached) (units : List BidiUnit)
    (starts : List ℕ)
    → IsWritten (tables_with (unit_stages tables)) text reached units starts → IsWritten tables text reached units starts
written_with tables text reached units starts w = record {
  characters = w.characters;
  code_units = w.code_units;
  units = w.units;
  starts = w.starts;
}

pub written_from : (tables : TablesOf) (text : List Spelled) (reached : Reached) (units : List BidiUnit)
    (starts : List ℕ)
    → IsWritten tables text reached units starts → IsWritten (tables_with (unit_stages tables)) text reached units starts
written_from tables text reached units starts w = record {
  characters = w.characters;
  code_units = w.code_units;
  units = w.units;
  starts = w.starts;
}

-- ASCII is spelled by one byte for each character
ascii_one : (c : ℕ) → c < 128 → in_utf8 c ≡ in_one_unit c
ascii_one c small = ap (λ (bytes : List ℕ). let s : Spelled = record { code = c; width = length bytes } in s)
    (encode_ascii c small)

ascii_ones : (cs : List ℕ) → IsAscii cs → map in_utf8 cs ≡ map in_one_unit cs
ascii_ones [] ascii = refl
ascii_ones (c ∷ cs) ascii =
    ap (λ (s : Spelled). s ∷ map in_utf8 cs) (ascii_one c (ascii 0))
    ∙ ap (λ (xs : List Spelled). in_one_unit c ∷ xs) (ascii_ones cs (λ i. ascii (suc i)))

text_of_ascii : (cs : List ℕ) → IsAscii cs → utf8_text cs ≡ map in_one_unit cs
text_of_ascii cs ascii = ap (λ (xs : List ℕ). map in_utf8 xs) (chars-IsAscii cs ascii) ∙ ascii_ones cs ascii

-- the text up to the end of a block of ASCII
text_block : (bs : List ℕ) (at n : ℕ) → IsUtf8 (take at bs) → IsAscii (take n (drop at bs)) →
    utf8_text (take (at + n) bs) ≡ utf8_text (take at bs) ++ map in_one_unit (take n (drop at bs))
text_block bs at n front ascii =
    ap utf8_text (take-add at n bs)
    ∙ ap (λ (cs : List ℕ). map in_utf8 cs) (chars-append (take at bs) (take n (drop at bs)) front)
    ∙ map-append in_utf8 (chars (take at bs)) (chars (take n (drop at bs)))
    ∙ ap (λ (xs : List Spelled). utf8_text (take at bs) ++ xs) (text_of_ascii (take n (drop at bs)) ascii)

-- a block of ASCII is read after the characters before it
pub read_block : (stages : UnitStages) (bs : List ℕ) (n : ℕ) (before : Reached)
    (units more : List BidiUnit) (starts begins : List ℕ)
    → before.code_units + n ≤ length bs → IsAscii (take n (drop before.code_units bs))
    → IsReadUpTo stages bs before units starts
    → IsWritten (tables_with stages)
    (utf8_text (take before.code_units bs) ++ map in_one_unit (take n (drop before.code_units bs))) (record {
      characters = before.characters + n;
      code_units = before.code_units + n;
    }) more begins
    → IsReadUpTo stages bs (record {
      characters = before.characters + n;
      code_units = before.code_units + n;
    }) more begins
read_block stages bs n before units more starts begins inside ascii r w = record {
  few = omega (arith, r.few);
  inside = inside;
  front = utf8_block bs before.code_units n r.front ascii;
  written = subst (λ (xs : List Spelled). IsWritten (tables_with stages) xs (record {
    characters = before.characters + n;
    code_units = before.code_units + n;
  }) more begins) (sym (text_block bs before.code_units n r.front ascii)) w;
}

-- a character is read after the characters before it
pub read_char : (stages : UnitStages) (bs : List ℕ) (c following : ℕ) (before : Reached) (units : List BidiUnit)
    (starts : List ℕ) (u : BidiUnit)
    → before.characters < length units → before.characters < length starts → u ≡ unit_by_stages stages c
    → IsSpelled bs before.code_units (c, following) → IsReadUpTo stages bs before units starts
    → IsReadUpTo stages bs (record {
      characters = before.characters + 1;
      code_units = following;
    }) (set units before.characters u) (set starts before.characters before.code_units)
read_char stages bs c following before units starts u in_units in_starts is spelled r =
    let at : ℕ = before.code_units in
    let more = forward bs at c following spelled in
    let next : Reached = record { characters = before.characters + 1; code_units = following } in
    record {
      few = omega (arith, more, r.few);
      inside = spelled.inside;
      front = utf8_more bs at c following r.front spelled;
      written = subst (λ (xs : List Spelled). IsWritten (tables_with stages) xs next (set units before.characters u)
          (set starts before.characters at)) (sym (text_more bs at c following r.front spelled))
          (written_more (tables_with stages) (utf8_text (take at bs)) (in_utf8 c) before.characters at units starts u
          next in_units in_starts is refl spelled.following r.written);
    }

-- nothing is read yet
pub read_none : (stages : UnitStages) (bs : List ℕ) (units : List BidiUnit) (starts : List ℕ) →
    IsReadUpTo stages bs (record { characters = 0; code_units = 0 }) units starts
read_none stages bs units starts = record {
  few = omega arith;
  inside = omega arith;
  front = IsUtf8-nil;
  written = subst (λ (cs : List ℕ). IsWritten (tables_with stages) (map in_utf8 cs) (record {
    characters = 0;
    code_units = 0;
  }) units starts) (sym chars-nil) (written_none (tables_with stages) units starts);
}
