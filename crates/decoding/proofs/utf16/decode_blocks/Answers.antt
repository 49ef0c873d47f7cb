use Rattle.std.proofs.Common.{◌+◌, ◌++◌, List, arith, drop, inl, inr, map, subst, sym, take}
use Rattle.std.proofs.lemmas.Bool.{cases_lt}
use Rattle.ucdfiles.specs.UnitStages.{UnitStages}
use Rattle.decoding.specs.Decoded.{tables_with, IsWritten}
use Rattle.decoding.specs.Encodings.{in_one_unit, utf16_text}
use Rattle.decoding.specs.Offsets.{Spelled}
use Rattle.decoding.proofs.BlockReading.{written_from, written_with}
use Rattle.decoding.proofs.Utf16Blocks.{apart_in_block, at_block}
use Rattle.decoding.proofs.utf16.decode_blocks.Goals as goal

pub decode_block-classes-requires-clause-scalars : goal.decode_block-classes-requires-clause-scalars
decode_block-classes-requires-clause-scalars c = (c.begins_block.ensures c.scalars-test.true).1

pub scalars-preserved : goal.scalars-preserved
scalars-preserved c =
    let l = c.scalars in
    let text = c.args.text.now in
    let tables = c.args.tables.now in
    let stages = c.units-borrowed.result in
    let begins = c.begins_block.ensures c.scalars-test.true in
    let block = at_block text l.count l.at 8 begins.0 (λ k. omega (arith, c.type_inv.text k))
    (apart_in_block text l.at 8 begins.0 begins.1) l.invariant.reached in
    let before = written_from tables (take l.count (utf16_text text)) (record {
      characters = l.count;
      code_units = l.at;
    }) l.units l.starts l.invariant.written in
    let after = c.decode_block-classes.ensures.written (take l.count (utf16_text text))
    (subst (λ (s : UnitStages). IsWritten (tables_with s) (take l.count (utf16_text text)) (record {
      characters = l.count;
      code_units = l.at;
    }) l.units l.starts) (sym c.units-borrowed.ensures) before) in
    record {
      from = omega (arith, l.invariant.from);
      reached = block.later;
      written = subst (λ (xs : List Spelled). IsWritten tables xs (record {
        characters = l.count + 8;
        code_units = l.at + 8;
      }) c.decode_block-classes.new.units c.decode_block-classes.new.starts) (sym block.read)
          (written_with tables _ _ _ _ (subst (λ (s : UnitStages). IsWritten (tables_with s)
          (take l.count (utf16_text text) ++ map in_one_unit (take 8 (drop l.at text))) (record {
            characters = l.count + 8;
            code_units = l.at + 8;
          }) c.decode_block-classes.new.units c.decode_block-classes.new.starts) c.units-borrowed.ensures after));
      paired = λ k from to. elim (cases_lt k l.count) [
        | inl below ↦ l.invariant.paired k from below
        | inr later ↦ block.paired k (omega (arith, later)) to
      ];
      classes = c.decode_block-classes.ensures.classes;
    }
