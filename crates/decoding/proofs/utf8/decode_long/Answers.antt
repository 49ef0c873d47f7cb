use Rattle.std.proofs.Common.{arith, List, ℕ, subst, take}
use Rattle.std.proofs.lemmas.List.{take_all}
use Rattle.ucdfiles.specs.UnitStages.{UnitStages}
use Rattle.decoding.specs.Decoded.{IsReadUpTo, IsWritten}
use Rattle.decoding.specs.Encodings.{utf8_text}
use Rattle.decoding.proofs.BlockReading.{written_with}
use Rattle.decoding.proofs.Writing.{decoded_whole}
use Rattle.decoding.proofs.utf8.decode_long.Goals as goal

pub returns-clause-decoded : goal.returns-clause-decoded
returns-clause-decoded c =
    let bytes = c.args.bytes.now in
    let tables = c.args.tables.now in
    let reached = c.decode_blocks-passed in
    let r = subst (λ (s : UnitStages). IsReadUpTo s bytes reached.result.reached reached.new.units reached.new.starts)
    c.units-borrowed.ensures reached.ensures.read in
    decoded_whole tables (utf8_text bytes) reached.result.reached reached.new.units reached.new.starts
    (omega (arith, r.few, r.inside, reached.ensures.starts_len, c.requires.starts))
    (subst (λ (bs : List ℕ). IsWritten tables (utf8_text bs) reached.result.reached reached.new.units reached.new.starts)
    (take_all reached.result.reached.code_units bytes reached.ensures.whole)
    (written_with tables (utf8_text (take reached.result.reached.code_units bytes)) reached.result.reached reached.new.units
    reached.new.starts r.written))
