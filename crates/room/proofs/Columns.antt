-- What is known of the columns after a text in code units was decoded into them.
use Rattle.std.proofs.Common.{◌≡◌, ◌∙◌, ◌<◌, ◌≤◌, ◌+◌, ◌-◌, ℕ, List, ap, arith, length, subst, sym, take}
use Rattle.std.specs.Prelude.{slice_index}
use Rattle.std.proofs.lemmas.List.{get_or-take, length-take-le}
use Rattle.units.specs.declared.bracket.Unit.{Unit as BidiUnit}
use Rattle.ucdfiles.specs.Tables.{TablesOf}
use Rattle.decoding.specs.Decoded.{AreDecoded}
use Rattle.decoding.specs.Offsets.{code_units}
use Rattle.decoding.specs.Starts.{AreOffsets}
use Rattle.decoding.proofs.BreakIndices.{last_start}
use Rattle.decoding.proofs.OffsetLemmas.{few_characters, offsets_of_text}
use Rattle.sources.specs.Sources.{SourceOf, IsEncoded, characters_of, size_of, source_offset, text_in, units_of}
use Rattle.room.proofs.Encoded.{characters_encoded, offset_encoded, text_spelled, units_encoded}

-- the offsets at the front of a column
offsets_front : (starts : List ℕ) (n : ℕ) → AreOffsets n starts →
    AreOffsets (length (take (n + 1) starts) - 1) (take (n + 1) starts)
offsets_front starts n o =
    let len : length (take (n + 1) starts) ≡ n + 1 = length-take-le (n + 1) starts (omega (arith, o.inside)) in
    record {
      inside = omega (arith, len);
      first = get_or-take (n + 1) starts 0 0 (omega arith) ∙ o.first;
      rising = λ j k lt le.
          let rise : slice_index starts j < slice_index starts k = o.rising j k lt (omega (arith, le, len)) in
          omega (
            arith,
            rise,
            get_or-take (n + 1) starts j 0 (omega (arith, lt, le, len)),
            get_or-take (n + 1) starts k 0 (omega (arith, le, len)),
          );
    }

-- the fronts of the columns have the units of n characters, and where these begin in the source
pub record AreFronts (tables : TablesOf) (source : SourceOf) (n capacity : ℕ) (starts : List ℕ)
    (units_front : List BidiUnit) (starts_front : List ℕ) : Type 0 where
  pub few : n ≤ capacity
  pub offsets : AreOffsets n starts
  pub last : slice_index starts n ≡ size_of source
  pub len_units : length units_front ≡ n
  pub len_starts : length starts_front ≡ n + 1
  pub front : AreOffsets (length units_front) starts_front
  pub front_last : slice_index starts_front (length units_front) ≡ size_of source
  pub count : n ≡ characters_of source
  pub begin : (k : ℕ) → k ≤ n → slice_index starts_front k ≡ source_offset source k
  pub units : units_front ≡ units_of tables source

module _ (tables : TablesOf) (source : SourceOf) (n capacity : ℕ) (units : List BidiUnit) (starts : List ℕ)
    (encoded : IsEncoded source) (d : AreDecoded tables (text_in source) n units starts)
    (whole : code_units (text_in source) ≡ size_of source) (fits : size_of source ≤ capacity)
    (units_len : length units ≡ capacity) (starts_len : length starts ≡ capacity + 1) where
  pub fronts_of : (us : List BidiUnit) (ss : List ℕ) → us ≡ units → ss ≡ starts →
      AreFronts tables source n capacity starts (take n us) (take (n + 1) ss)
  fronts_of us ss same_units same_starts =
      let text = text_in source in
      let spelled = text_spelled source in
      let few : n ≤ capacity = omega (arith, d.count, few_characters text spelled, whole, fits) in
      let offsets : AreOffsets n starts =
      subst (λ (k : ℕ). AreOffsets k starts) (sym d.count) (offsets_of_text text starts spelled d.starts (omega (
        arith,
        d.count,
        few,
        starts_len,
      ))) in
      let last : slice_index starts n ≡ size_of source = ap (slice_index starts) d.count ∙
      last_start text starts d.starts ∙ whole in
      let len_units : length (take n us) ≡ n =
      length-take-le n us (omega (arith, few, units_len, ap length same_units)) in
      let len_starts : length (take (n + 1) ss) ≡ n + 1 =
      length-take-le (n + 1) ss (omega (arith, few, starts_len, ap length same_starts)) in
      record {
        few = few;
        offsets = offsets;
        last = last;
        len_units = len_units;
        len_starts = len_starts;
        front = subst (λ (k : ℕ). AreOffsets k (take (n + 1) ss)) {x = length (take (n + 1) ss) - 1} {y =
            length (take n us)} (omega (arith, len_starts, len_units))
            (offsets_front ss n (subst (AreOffsets n) (sym same_starts) offsets));
        front_last = ap (slice_index (take (n + 1) ss)) len_units ∙ get_or-take (n + 1) ss n 0 (omega arith) ∙
            ap (λ (xs : List ℕ). slice_index xs n) same_starts ∙ last;
        count = d.count ∙ sym (characters_encoded source encoded);
        begin = λ k le. get_or-take (n + 1) ss k 0 (omega (arith, le)) ∙
            ap (λ (xs : List ℕ). slice_index xs k) same_starts
            ∙ d.starts k (omega (arith, le, d.count)) ∙ sym (offset_encoded source encoded k);
        units = ap (take n) same_units ∙ d.units ∙ sym (units_encoded source encoded tables);
      }
