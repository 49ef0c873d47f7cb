use Rattle.std.proofs.Common.{◌≡◌, ◌∙◌, ◌<◌, ◌+◌, ℕ, List, [], arith, ap, get_or, inl, inr, length, set, subst, sym, take}
use Rattle.std.specs.Option.{unwrap_or}
use Rattle.std.specs.Char.Escape.{encode_utf16}
use Rattle.std.proofs.lemmas.Bool.{cases_eq}
use Rattle.units.specs.declared.bracket.Unit.{Unit as BidiUnit}
use Rattle.ucdfiles.specs.UnitStages.{UnitStages, unit_by_stages}
use Rattle.decoding.specs.Decoded.{IsWritten}
use Rattle.decoding.specs.Encodings.{in_utf16, utf16_text, IsPaired}
use Rattle.decoding.specs.Offsets.{Spelled}
use Rattle.decoding.proofs.Utf16Texts.{at_end, at_next, units_of_utf16, whole_text, is_some}
use Rattle.decoding.proofs.Writing.{decoded_whole, written_next}
use Rattle.decoding.proofs.utf16.decode_units.Goals as goal

pub loop-at-preserved : goal.loop-at-preserved
loop-at-preserved c =
    let l = c.loop-at in
    let text = c.args.text.now in
    let found = c.char_at-found in
    let d = c.in-Some.c in
    let next = at_next text l.count l.at found.result.0 found.result.1 found.ensures.first found.ensures.following
    found.ensures.forward found.ensures.inside l.invariant.reached in
    let same : d ≡ unwrap_or found.result.0 0xFFFD = c.in-Some.ensures.0 in
    let read : in_utf16 d ≡ get_or (utf16_text text) l.count (in_utf16 d) =
    subst (λ (x : ℕ). in_utf16 x ≡ get_or (utf16_text text) l.count (in_utf16 x)) (sym same) next.read in
    let unit = unit_by_stages c.units-borrowed.result d in
    let is = ap (λ (s : UnitStages). unit_by_stages s d) c.units-borrowed.ensures in
    let following : found.result.1 ≡ l.at + length (encode_utf16 d) = found.ensures.following ∙
    ap (λ (x : ℕ). l.at + length (encode_utf16 x)) (sym same) in
    let below : l.count < length text = omega (arith, l.invariant.reached.few, c.loop-at-test.true) in
    record {
      reached = next.later;
      written = subst (λ (us : List BidiUnit). IsWritten c.args.tables.now (take (l.count + 1) (utf16_text text))
          (record { characters = l.count + 1; code_units = found.result.1 }) us (set l.starts l.count l.at))
          (sym c.write_char-classes.ensures.units)
          (subst (λ (x : ℕ). IsWritten c.args.tables.now (take (l.count + 1) (utf16_text text))
          (record { characters = l.count + 1; code_units = x }) (set l.units l.count unit)
          (set l.starts l.count l.at)) (sym following)
          (written_next c.args.tables.now [] (utf16_text text) l.count (in_utf16 d) l.count l.at l.units l.starts
          unit next.within read (omega (arith, below, l.auto.units, c.requires.units))
          (omega (arith, below, l.auto.starts, c.requires.starts)) is l.invariant.written));
      classes = c.write_char-classes.ensures.classes;
      paired = λ rejected k lt. elim (cases_eq k l.count) [
        | inl e ↦ subst (IsPaired text) (sym e) (λ none. is_some d (sym (c.in-Some.ensures.1 rejected) ∙
            sym next.spelled ∙ none))
        | inr ne ↦ l.invariant.paired rejected k (omega (arith, lt, ne))
      ];
    }

pub returns-clause-well_formed : goal.returns-clause-well_formed
returns-clause-well_formed c rejected k lt =
    c.loop-at.invariant.paired rejected k (omega (
      arith,
      lt,
      at_end c.args.text.now c.loop-at.count c.loop-at.at c.loop-at-test.false c.loop-at.invariant.reached,
    ))

pub returns-clause-decoded : goal.returns-clause-decoded
returns-clause-decoded c =
    let l = c.loop-at in
    let text = c.args.text.now in
    decoded_whole c.args.tables.now (utf16_text text) (record {
      characters = l.count;
      code_units =
          l.at;
    }) l.units l.starts
    (omega (arith, l.invariant.reached.few, l.invariant.reached.inside, l.auto.starts, c.requires.starts))
    (subst (λ (xs : List Spelled). IsWritten c.args.tables.now xs (record {
      characters = l.count;
      code_units =
          l.at;
    }) l.units l.starts)
    (whole_text text l.count l.at c.loop-at-test.false l.invariant.reached) l.invariant.written)

pub returns-clause-whole : goal.returns-clause-whole
returns-clause-whole c =
    units_of_utf16 c.args.text.now c.loop-at.count c.loop-at.at c.loop-at-test.false c.loop-at.invariant.reached
