use Rattle.std.proofs.Common.{◌++◌, [], List, ap, arith, drop, refl, subst, sym, ◌∙◌}
use Rattle.decoding.specs.Decoded.{IsWritten}
use Rattle.decoding.specs.LossyTexts.{first_chunk}
use Rattle.decoding.specs.Offsets.{Spelled, code_units}
use Rattle.decoding.proofs.LossyReading.{read_whole}
use Rattle.decoding.proofs.Writing.{decoded_whole, written_none}
use Rattle.decoding.proofs.lossy.decode_utf8_lossy.Goals as goal

pub loop-reached-init : goal.loop-reached-init
loop-reached-init c = record {
  few = omega arith;
  inside = omega arith;
  read = ([], record { written = written_none c.args.tables.now c.args.units.now c.args.starts.now; rest = refl });
}

pub loop-reached-preserved : goal.loop-reached-preserved
loop-reached-preserved c =
    let l = c.loop-reached in
    let e = c.fill_chunk-reached.ensures in
    let before = l.invariant.read in
    record {
      few = e.few;
      inside = e.inside;
      read = (before.0 ++ first_chunk (drop l.reached.code_units c.args.bytes.now), e.read before.0 before.1);
    }

pub returns-clause-decoded : goal.returns-clause-decoded
returns-clause-decoded c =
    let l = c.loop-reached in
    let read = l.invariant.read in
    let text = read_whole c.args.tables.now c.args.bytes.now read.0 l.reached l.units l.starts c.loop-reached-test.false
    read.1 in
    decoded_whole c.args.tables.now _ l.reached l.units l.starts
    (omega (arith, l.invariant.few, l.invariant.inside, l.auto.starts, c.requires.starts))
    (subst (λ (xs : List Spelled). IsWritten c.args.tables.now xs l.reached l.units l.starts) (sym text) read.1.written)

pub returns-clause-whole : goal.returns-clause-whole
returns-clause-whole c =
    let l = c.loop-reached in
    let read = l.invariant.read in
    let text = read_whole c.args.tables.now c.args.bytes.now read.0 l.reached l.units l.starts c.loop-reached-test.false
    read.1 in
    ap code_units text ∙ sym read.1.written.code_units ∙ omega (arith, l.invariant.inside, c.loop-reached-test.false)
