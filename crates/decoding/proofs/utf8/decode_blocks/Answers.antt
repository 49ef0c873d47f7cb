use Rattle.decoding.proofs.BlockReading.{read_none}
use Rattle.decoding.proofs.utf8.decode_blocks.Goals as goal

pub loop-passed-init : goal.loop-passed-init
loop-passed-init c = record {
  read = read_none c.args.borrowed.now c.args.bytes.now c.args.units.now c.args.starts.now;
  classes = c.none.ensures;
}
