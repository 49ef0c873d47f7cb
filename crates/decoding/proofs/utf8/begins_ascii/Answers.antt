use Rattle.std.proofs.Common.{arith}
use Rattle.decoding.proofs.utf8.begins_ascii.Goals as goal

pub returns-then-bytes-at-lt128 : goal.returns-then-bytes-at-lt128
returns-then-bytes-at-lt128 c = λ ascii. (
  omega arith,
  c.is_ascii.ensures ascii,
)
