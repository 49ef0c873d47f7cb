use Rattle.std.proofs.Common.{◌∙◌, ◌+◌, ◌-◌, ◌<◌, ℕ, List, ap, arith, length, map, refl, set, subst, sym, take}
use Rattle.std.proofs.lemmas.Str.{chars-nil, IsUtf8-nil}
use Rattle.ucdfiles.specs.UnitStages.{UnitStages, unit_by_stages}
use Rattle.decoding.specs.Decoded.{IsWritten}
use Rattle.decoding.specs.Encodings.{in_utf8, utf8_text}
use Rattle.decoding.specs.Offsets.{Spelled}
use Rattle.decoding.proofs.Spellings.{forward, text_more, utf8_more}
use Rattle.decoding.proofs.Writing.{written_more, written_none}
use Rattle.decoding.proofs.utf8.decode_well_formed.Goals as goal

pub loop-at-init : goal.loop-at-init
loop-at-init c = record {
  few = omega arith;
  inside = omega arith;
  front = IsUtf8-nil;
  written = subst (λ (cs : List ℕ). IsWritten c.args.tables.now (map in_utf8 cs) (record {
    characters = 0;
    code_units =
        0;
  }) c.args.units.now c.args.starts.now) (sym chars-nil)
      (written_none c.args.tables.now c.args.units.now c.args.starts.now);
}

pub loop-at-smaller : goal.loop-at-smaller
loop-at-smaller c =
    let more = forward c.args.bytes.now c.loop-at.at c.known_char_at-c.result.0 c.known_char_at-c.result.1
    c.known_char_at-c.ensures in
    let less : length c.args.bytes.now - c.known_char_at-c.result.1 < length c.args.bytes.now - c.loop-at.at =
    omega (arith, more, c.loop-at-test.true) in
    less

pub loop-at-preserved : goal.loop-at-preserved
loop-at-preserved c =
    let l = c.loop-at in
    let bytes = c.args.bytes.now in
    let tables = c.args.tables.now in
    let d = c.known_char_at-c.result.0 in
    let following = c.known_char_at-c.result.1 in
    let is = c.known_char_at-c.ensures in
    let more = forward bytes l.at d following is in
    let unit = c.write_unit.ensures ∙ ap (λ (s : UnitStages). unit_by_stages s d) c.units-borrowed.ensures in
    record {
      few = omega (arith, more, l.invariant.few);
      inside = is.inside;
      front = utf8_more bytes l.at d following l.invariant.front is;
      written = subst (λ (xs : List Spelled). IsWritten tables xs (record {
        characters = l.count + 1;
        code_units =
            following;
      }) (set l.units l.count c.write_unit.new.unit) (set l.starts l.count l.at))
          (sym (text_more bytes l.at d following l.invariant.front is))
          (written_more tables (utf8_text (take l.at bytes)) (in_utf8 d) l.count l.at l.units l.starts
          c.write_unit.new.unit (record { characters = l.count + 1; code_units = following })
          (omega (arith, l.invariant.few, c.loop-at-test.true, l.auto.units, c.requires.units)) (omega (
            arith,
            l.invariant.few,
            c.loop-at-test.true,
            l.auto.starts,
            c.requires.starts,
          ))
          unit refl is.following l.invariant.written);
    }
