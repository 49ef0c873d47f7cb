-- One more character is written.
use Rattle.std.proofs.Common.{◌≡◌, ℕ, ◌+◌, ◌<◌, List, [], ◌∷◌, ◌++◌, length, get_or, subst, take, set, refl, sym, ap, ◌∙◌, inl, inr, arith}
use Rattle.std.specs.Prelude.{slice_index}
use Rattle.std.proofs.lemmas.Bool.{cases_eq}
use Rattle.std.proofs.lemmas.List.{append_assoc, get_or-set_same, get_or-set_other, map-append, take_more, take_more_set, length_push}
use Rattle.std.proofs.lemmas.List.Sums.{sum_by_push}
use Rattle.units.specs.declared.bracket.Unit.{Unit as BidiUnit}
use Rattle.ucdfiles.specs.Tables.{TablesOf, unit_by, units_by}
use Rattle.decoding.specs.Decoded.{AreDecoded, IsWritten}
use Rattle.decoding.specs.Offsets.{Spelled, code_units, codes_of, offset_of}
use Rattle.decoding.specs.declared.reached.Reached.{Reached}
use Rattle.decoding.proofs.OffsetLemmas.{offset-following, offset-end, offset-front}

-- the offsets of one character more
pub starts_more : (text : List Spelled) (s : Spelled) (starts : List ℕ) (n at : ℕ) → n ≡ length text →
    at ≡ code_units text → n < length starts
    → ((k : ℕ) → k < length text → slice_index starts k ≡ offset_of text k)
    → (k : ℕ) → k < length (text ++ s ∷ []) → slice_index (set starts n at) k ≡ offset_of (text ++ s ∷ []) k
starts_more text s starts n at count is room below k lt = elim (cases_eq k n) [
  | inl e ↦ ap (slice_index (set starts n at)) e ∙ get_or-set_same starts n at 0 room ∙ is ∙
      sym (offset-following text (s ∷ [])) ∙ ap (offset_of (text ++ s ∷ [])) (sym (e ∙ count))
  | inr ne ↦
      let fewer : k < length text = omega (arith, length_push text s, count, lt, ne) in
      get_or-set_other starts n k at 0 ne ∙ below k fewer ∙ sym (offset-front text (s ∷ []) k (omega (arith, fewer)))
]

-- one character more
pub written_more : (tables : TablesOf) (text : List Spelled) (s : Spelled) (n at : ℕ) (units : List BidiUnit)
    (starts : List ℕ) (u : BidiUnit) (next : Reached)
    → n < length units → n < length starts → u ≡ unit_by tables s.code → next.characters ≡ n + 1 →
    next.code_units ≡ at + s.width
    → IsWritten tables text (record { characters = n; code_units = at }) units starts
    → IsWritten tables (text ++ s ∷ []) next (set units n u) (set starts n at)
written_more tables text s n at units starts u next in_units in_starts is count reached w = record {
  characters = omega (arith, length_push text s, w.characters, count);
  code_units = reached ∙ ap (λ x. x + s.width) w.code_units ∙ sym (sum_by_push (λ (x : Spelled). x.width) text s);
  units = ap (λ k. take k (set units n u)) count ∙ take_more_set units n u in_units ∙ ap (λ us. us ++ u ∷ []) w.units
      ∙ ap (λ x. units_by tables (codes_of text) ++ x ∷ []) is
      ∙ sym (map-append (unit_by tables) (codes_of text) (s.code ∷ []))
      ∙ ap (units_by tables) (sym (map-append (λ (x : Spelled). x.code) text (s ∷ [])));
  starts = starts_more text s starts n at w.characters w.code_units in_starts w.starts;
}

-- the offset of the end is written after the others
pub decoded_whole : (tables : TablesOf) (text : List Spelled) (reached : Reached) (units : List BidiUnit)
    (starts : List ℕ)
    → reached.characters < length starts → IsWritten tables text reached units starts
    → AreDecoded tables text reached.characters units (set starts reached.characters reached.code_units)
decoded_whole tables text reached units starts room w = record {
  count = w.characters;
  units = w.units;
  starts = λ k le. elim (cases_eq k reached.characters) [
    | inl e ↦ ap (slice_index (set starts reached.characters reached.code_units)) e ∙
        get_or-set_same starts reached.characters reached.code_units 0 room
        ∙ w.code_units ∙ sym (offset-end text) ∙ ap (offset_of text) (sym (e ∙ w.characters))
    | inr ne ↦ get_or-set_other starts reached.characters k reached.code_units 0 ne ∙
        w.starts k (omega (arith, w.characters, le, ne))
  ];
}

-- the next character of a text is written after the characters before it
pub written_next : (tables : TablesOf) (front text : List Spelled) (k : ℕ) (s : Spelled) (n at : ℕ)
    (units : List BidiUnit) (starts : List ℕ) (u : BidiUnit)
    → k < length text → s ≡ get_or text k s → n < length units → n < length starts → u ≡ unit_by tables s.code
    → IsWritten tables (front ++ take k text) (record { characters = n; code_units = at }) units starts
    → IsWritten tables (front ++ take (k + 1) text) (record {
      characters = n + 1;
      code_units =
          at + s.width;
    }) (set units n u) (set starts n at)
written_next tables front text k s n at units starts u lt read in_units in_starts is w =
    let longer : (front ++ take k text) ++ s ∷ [] ≡ front ++ take (k + 1) text =
    append_assoc front (take k text) (s ∷ []) ∙
    ap (λ (xs : List Spelled). front ++ xs) (ap (λ (x : Spelled). take k text ++ x ∷ []) read ∙
    sym (take_more text k s lt)) in
    subst (λ (xs : List Spelled). IsWritten tables xs (record {
      characters = n + 1;
      code_units =
          at + s.width;
    }) (set units n u) (set starts n at)) longer
    (written_more tables (front ++ take k text) s n at units starts u (record {
      characters = n + 1;
      code_units =
          at + s.width;
    }) in_units in_starts is refl refl w)

-- nothing is written yet
pub written_none : (tables : TablesOf) (units : List BidiUnit) (starts : List ℕ) →
    IsWritten tables [] (record { characters = 0; code_units = 0 }) units starts
written_none tables units starts = record {
  characters = refl;
  code_units = refl;
  units = refl;
  starts =
      λ k lt. absurd (omega (arith, lt));
}
