use Rattle.std.proofs.Common.{arith, ap, sym, ◌∙◌, ◌<◌, ◌+◌, ◌++◌, ◌∷◌, [], ℕ, List, length, set, take, subst}
use Rattle.std.specs.Char.{encode_utf8}
use Rattle.ucdfiles.specs.UnitStages.{UnitStages, unit_by_stages}
use Rattle.std.proofs.lemmas.Iterator.{YieldsList-from_chars}
use Rattle.std.proofs.lemmas.Iterator.Consumers.{YieldsList-turn, YieldsList-end}
use Rattle.std.proofs.lemmas.List.{append-nil, length_push, take_all}
use Rattle.decoding.specs.Decoded.{IsWritten}
use Rattle.decoding.specs.Encodings.{in_utf8, utf8_text}
use Rattle.decoding.specs.Offsets.{Spelled, code_units, offset_of}
use Rattle.decoding.proofs.OffsetLemmas.{offset_le, offset_more}
use Rattle.decoding.proofs.Utf8Texts.{length-utf8_text, read_utf8, units_of_text}
use Rattle.decoding.proofs.Writing.{written_next}
use Rattle.decoding.proofs.utf8.fill_str.Goals as goal

pub loop-c-init : goal.loop-c-init
loop-c-init c = record {
  characters = omega arith;
  code_units = omega arith;
  written = λ front w.
      subst (λ (xs : List Spelled). IsWritten c.args.tables.now xs c.args.before c.args.units.now c.args.starts.now)
      (sym (append-nil front)) w;
}

pub bounds-units-characters : goal.bounds-units-characters
bounds-units-characters c =
    let t = YieldsList-turn (YieldsList-from_chars c.args.text.now c.utf8.text cc) c.loop-c.yielded _
    c.loop-c.yielded_by _ _ c.in-Some.c c.in-Some.is c.next.ensures.steps in
    omega (arith, t.0, c.loop-c.invariant.characters, c.requires.units, c.loop-c.auto.units)

pub bounds-starts-characters : goal.bounds-starts-characters
bounds-starts-characters c =
    let t = YieldsList-turn (YieldsList-from_chars c.args.text.now c.utf8.text cc) c.loop-c.yielded _
    c.loop-c.yielded_by _ _ c.in-Some.c c.in-Some.is c.next.ensures.steps in
    omega (arith, t.0, c.loop-c.invariant.characters, c.requires.starts, c.loop-c.auto.starts)

pub overflow_cast-starts : goal.overflow_cast-starts
overflow_cast-starts c =
    let text = c.args.text.now in
    omega (
      arith,
      c.loop-c.invariant.code_units,
      offset_le (utf8_text text) (length c.loop-c.yielded),
      units_of_text text c.utf8.text,
      c.requires.small,
    )

pub overflow_add-code_units : goal.overflow_add-code_units
overflow_add-code_units c =
    let text = c.args.text.now in
    omega (
      arith,
      c.loop-c.invariant.code_units,
      offset_le (utf8_text text) (length c.loop-c.yielded),
      units_of_text text c.utf8.text,
      c.requires.small,
      c.len_utf8-code_units.ensures.upper_bound,
    )

pub loop-c-preserved : goal.loop-c-preserved
loop-c-preserved c =
    let l = c.loop-c in
    let text = c.args.text.now in
    let d = c.in-Some.c in
    let n = length l.yielded in
    let t = YieldsList-turn (YieldsList-from_chars text c.utf8.text cc) l.yielded _ l.yielded_by _ _ d c.in-Some.is
    c.next.ensures.steps in
    let one = length_push l.yielded d in
    let lt : n < length (utf8_text text) = omega (arith, t.0, length-utf8_text text) in
    let read = read_utf8 text n d t.0 t.1 in
    let wide = ap (λ x. l.code_units + x) c.len_utf8-code_units.ensures.len in
    let is = c.write_unit.ensures ∙ ap (λ (s : UnitStages). unit_by_stages s d) c.units-borrowed.ensures in
    let in_units : l.characters < length l.units =
    omega (arith, t.0, l.invariant.characters, c.requires.units, l.auto.units) in
    let in_starts : l.characters < length l.starts =
    omega (arith, t.0, l.invariant.characters, c.requires.starts, l.auto.starts) in
    record {
      characters = omega (arith, one, l.invariant.characters);
      code_units = wide ∙ omega (arith, l.invariant.code_units, offset_more (utf8_text text) n (in_utf8 d) lt read) ∙
          ap (λ k. c.args.before.code_units + offset_of (utf8_text text) k) (sym one);
      written = λ front w.
          subst (λ (x : ℕ). IsWritten c.args.tables.now (front ++ take (length (l.yielded ++ d ∷ [])) (utf8_text text))
          (record { characters = l.characters + 1; code_units = x }) (set l.units l.characters c.write_unit.new.unit)
          (set l.starts l.characters l.code_units)) (sym wide)
          (subst (λ (k : ℕ). IsWritten c.args.tables.now (front ++ take k (utf8_text text)) (record {
            characters =
                l.characters + 1;
            code_units = l.code_units + length (encode_utf8 d);
          })
          (set l.units l.characters c.write_unit.new.unit) (set l.starts l.characters l.code_units)) (sym one)
          (written_next c.args.tables.now front (utf8_text text) n (in_utf8 d) l.characters l.code_units l.units
          l.starts c.write_unit.new.unit lt read in_units in_starts is (l.invariant.written front w)));
    }

pub returns-clause-characters : goal.returns-clause-characters
returns-clause-characters c =
    let t = YieldsList-end (YieldsList-from_chars c.args.text.now c.utf8.text cc) c.loop-c.yielded _ c.loop-c.yielded_by
    _ _ c.in-None.is c.next.ensures.steps in
    omega (arith, t.1, c.loop-c.invariant.characters)

pub returns-clause-code_units : goal.returns-clause-code_units
returns-clause-code_units c =
    let text = c.args.text.now in
    let t = YieldsList-end (YieldsList-from_chars text c.utf8.text cc) c.loop-c.yielded _ c.loop-c.yielded_by _ _
    c.in-None.is c.next.ensures.steps in
    let all = ap code_units (take_all (length c.loop-c.yielded) (utf8_text text) (omega (
      arith,
      t.1,
      length-utf8_text text,
    ))) in
    omega (arith, all, units_of_text text c.utf8.text, c.loop-c.invariant.code_units)

pub returns-clause-written : goal.returns-clause-written
returns-clause-written c = λ front w.
    let l = c.loop-c in
    let text = c.args.text.now in
    let t = YieldsList-end (YieldsList-from_chars text c.utf8.text cc) l.yielded _ l.yielded_by _ _ c.in-None.is
    c.next.ensures.steps in
    subst (λ (xs : List Spelled). IsWritten c.args.tables.now (front ++ xs) (record {
      characters = l.characters;
      code_units = l.code_units;
    }) l.units l.starts)
    (take_all (length l.yielded) (utf8_text text) (omega (arith, t.1, length-utf8_text text)))
    (l.invariant.written front w)
