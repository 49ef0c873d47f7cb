-- A text that was laid out is broken at the characters that begin at the breaks.
use Rattle.std.proofs.Common.{◌≡◌, ◌∙◌, ◌+◌, ◌<◌, ◌≤◌, ℕ, suc, List, [], ◌∷◌, ap, arith, drop, get_or, inl, inr, length, map, refl, sym}
use Rattle.std.specs.Prelude.{Ok, Err, slice_index}
use Rattle.std.proofs.lemmas.Bool.{cases_lt}
use Rattle.std.proofs.lemmas.List.{get_or-map, length-map}
use Rattle.units.proofs.Positions.{get_or-positions_from, length-positions_from}
use Rattle.units.specs.Layout.{TextLayout, layout_of}
use Rattle.units.specs.Limits.{LimitsOf}
use Rattle.units.specs.Positions.{positions_from}
use Rattle.units.specs.declared.bracket.Unit.{Unit as BidiUnit}
use Rattle.units.specs.declared.level.Direction.{Direction}
use Rattle.ucdfiles.specs.Tables.{TablesOf, unit_by, units_by}
use Rattle.lines.proofs.Lengths.{length-levels}
use Rattle.decoding.specs.Offsets.{Spelled, AreStarts, IsSpelledOut, codes_of, offset_of}
use Rattle.decoding.specs.Starts.{AreOffsets}
use Rattle.decoding.proofs.OffsetLemmas.{offsets_of_text}
use Rattle.sources.specs.Asks.{AskOf}
use Rattle.sources.specs.ClassNumbers.{unit_numbered}
use Rattle.sources.specs.NumberedUnits.{numbered_unit}
use Rattle.sources.specs.Sources.{SourceOf, Codes, Classes, Units, Utf8, Utf16, characters_of, source_offset, text_in, units_of}
use Rattle.room.specs.Leaving.{BreaksAreTaken, IsBrokenAsAsked, Leaves}
use Rattle.room.specs.Rooms.{RoomOf, TextOf, offset_in}
use Rattle.room.proofs.Encoded.{text_spelled}

-- offsets rise up to that of the end
abbrev RisesTo : (ℕ → ℕ) → ℕ → Type 0
RisesTo offset n = (j k : ℕ) → j < k → k ≤ n → offset j < offset k

-- all characters are below the end
abbrev AreBelow : List ℕ → ℕ → Type 0
AreBelow indices n = (i : ℕ) → i < length indices → slice_index indices i < n

-- equal offsets are those of one character
one_character : (offset : ℕ → ℕ) (n j k : ℕ) → RisesTo offset n → j ≤ n → k ≤ n → offset j ≡ offset k → j ≡ k
one_character offset n j k rise first second same = elim (cases_lt j k) [
  | inl below ↦ absurd (omega (arith, rise j k below second, same))
  | inr above ↦ elim (cases_lt k j) [
    | inl under ↦ absurd (omega (arith, rise k j under first, same))
    | inr equal ↦ omega (arith, above, equal)
  ]
]

-- so lists of characters with equal offsets are equal
same_characters : (offset : ℕ → ℕ) (n : ℕ) (is js : List ℕ) → RisesTo offset n → AreBelow is n → AreBelow js n →
    map offset is ≡ map offset js → is ≡ js
same_characters offset n [] [] rise few more same = refl
same_characters offset n [] (j ∷ js) rise few more same = absurd (let none = ap length same in omega (arith, none))
same_characters offset n (i ∷ is) [] rise few more same = absurd (let none = ap length same in omega (arith, none))
same_characters offset n (i ∷ is) (j ∷ js) rise few more same =
    let below : i < n = few 0 (omega arith) in
    let under : j < n = more 0 (omega arith) in
    let first : offset i ≡ offset j = ap (λ (xs : List ℕ). slice_index xs 0) same in
    let head : i ≡ j = one_character offset n i j rise (omega (arith, below)) (omega (arith, under)) first in
    let tail : is ≡ js =
    same_characters offset n is js rise (λ k lt. few (suc k) (omega (arith, lt))) (λ k lt. more (suc k) (omega (arith, lt)))
    (ap (drop 1) same) in
    rw (head, tail) refl

-- the offsets of characters are the same by two functions that agree up to the end
same_offsets : (one other : ℕ → ℕ) (n : ℕ) (is : List ℕ) → ((k : ℕ) → k ≤ n → one k ≡ other k) → AreBelow is n →
    map one is ≡ map other is
same_offsets one other n [] agree few = refl
same_offsets one other n (i ∷ is) agree few =
    let below : i < n = few 0 (omega arith) in
    rw (agree i (omega (arith, below)), same_offsets one other n is agree (λ k lt. few (suc k) (omega (arith, lt)))) refl

-- the offsets of a text in code units rise
spelled_rises : (text : List Spelled) → IsSpelledOut text → RisesTo (offset_of text) (length text)
spelled_rises text spelled j k lt le =
    let n : ℕ = length text + 1 in
    let starts : List ℕ = map (offset_of text) (positions_from 0 n) in
    let len : length (positions_from 0 n) ≡ n = length-positions_from 0 n in
    let at : AreStarts text starts = λ p inside.
    let here : p < n = omega (arith, inside) in
    get_or-map (offset_of text) (positions_from 0 n) p 0 0 (omega (arith, here, len)) ∙
    ap (offset_of text) {x = get_or (positions_from 0 n) p 0} {y = p} (omega (
      arith,
      get_or-positions_from 0 n p 0 here,
    )) in
    let whole : length starts ≡ n = length-map (positions_from 0 n) (offset_of text) ∙ len in
    let offsets : AreOffsets (length text) starts = offsets_of_text text starts spelled at (omega (arith, whole)) in
    let rise : slice_index starts j < slice_index starts k = offsets.rising j k lt le in
    omega (arith, rise, at j (omega (arith, lt, le)), at k le)

source_rises : (source : SourceOf) → RisesTo (source_offset source) (characters_of source)
source_rises (Codes numbers) j k lt le = lt
source_rises (Classes numbers) j k lt le = lt
source_rises (Units numbered) j k lt le = lt
source_rises (Utf8 bytes faults) j k lt le =
    spelled_rises (text_in (Utf8 bytes faults)) (text_spelled (Utf8 bytes faults)) j k lt le
source_rises (Utf16 units faults) j k lt le =
    spelled_rises (text_in (Utf16 units faults)) (text_spelled (Utf16 units faults)) j k lt le

-- a text has a unit for each character
length_spelled : (tables : TablesOf) (text : List Spelled) → length (units_by tables (codes_of text)) ≡ length text
length_spelled tables text = length-map (codes_of text) (unit_by tables) ∙ length-map text (λ (s : Spelled). s.code)

length_units : (tables : TablesOf) (source : SourceOf) → length (units_of tables source) ≡ characters_of source
length_units tables (Codes numbers) = length-map numbers (unit_by tables)
length_units tables (Classes numbers) = length-map numbers unit_numbered
length_units tables (Units numbered) = length-map numbered numbered_unit
length_units tables (Utf8 bytes faults) = length_spelled tables (text_in (Utf8 bytes faults))
length_units tables (Utf16 units faults) = length_spelled tables (text_in (Utf16 units faults))

-- two layouts of one text are equal
alike : (text : TextOf) (limits : LimitsOf) (units : List BidiUnit) (direction : Direction) (indices others : List ℕ)
    → text.limits ≡ limits → text.units ≡ units → text.direction ≡ direction → indices ≡ others
    → layout_of text.limits text.units text.direction indices ≡ layout_of limits units direction others
alike text limits units direction indices others same_limits same_units same_direction same =
    ap (λ (l : LimitsOf). layout_of l text.units text.direction indices) same_limits
    ∙ ap (λ (us : List BidiUnit). layout_of limits us text.direction indices) same_units
    ∙ ap (λ (d : Direction). layout_of limits units d indices) same_direction
    ∙ ap (λ (is : List ℕ). layout_of limits units direction is) same

-- a room that took a text contains its layout, broken as it is asked for
pub broken_as_asked : (ask : AskOf) (tables : TablesOf) (old new : RoomOf) → Leaves ask tables old new (Ok tt) →
    IsBrokenAsAsked ask tables new
broken_as_asked ask tables old new leaves indices inside begin =
    let broken = leaves.broken in
    let text = leaves.text in
    let n : ℕ = characters_of ask.source in
    let count : length new.layout.levels ≡ n =
    ap (λ (v : TextLayout). length v.levels) broken.laid_out ∙
    length-levels new.text.limits new.text.units new.text.direction broken.indices ∙ ap length text.units ∙
    length_units tables ask.source in
    let few : AreBelow broken.indices n =
    λ i lt. let below = (broken.inside.inside i lt).before_end in omega (arith, below, count) in
    let begun : map (source_offset ask.source) broken.indices ≡ ask.breaks =
    sym (same_offsets (offset_in new) (source_offset ask.source) n broken.indices text.offsets few) ∙ broken.begin in
    let same : broken.indices ≡ indices =
    same_characters (source_offset ask.source) n broken.indices indices (source_rises ask.source) few
    (λ i lt. (inside.inside i lt).before_end) (begun ∙ sym begin) in
    broken.laid_out
    ∙ alike new.text ask.limits (units_of tables ask.source) ask.direction broken.indices indices text.limits text.units
    text.direction same

-- this holds of each room that took a text
pub breaks_are_taken : BreaksAreTaken
breaks_are_taken ask tables old new (Ok done) leaves = broken_as_asked ask tables old new leaves
breaks_are_taken ask tables old new (Err fault) leaves = tt
