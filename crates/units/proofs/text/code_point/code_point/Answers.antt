use Rattle.std.proofs.Common.{arith}
use Rattle.units.proofs.CodePoints.{small_before, Reads-more}
use Rattle.units.proofs.text.code_point.code_point.Goals as goal

pub overflow_mul-value : goal.overflow_mul-value
overflow_mul-value c =
    omega (arith, small_before c.loop-byte.byte-index c.loop-byte.value (omega arith) c.loop-byte.invariant.small)

pub overflow_add-value : goal.overflow_add-value
overflow_add-value c =
    omega (
      arith,
      small_before c.loop-byte.byte-index c.loop-byte.value (omega arith) c.loop-byte.invariant.small,
      c.in-Some.ensures,
    )

pub loop-byte-preserved : goal.loop-byte-preserved
loop-byte-preserved c =
    Reads-more c.args.field.now c.loop-byte.byte-index c.loop-byte.value c.in-Some.digit c.loop-byte-test.true
    c.loop-byte.invariant c.in-Some.ensures
