use Rattle.std.proofs.Common.{arith, ap, length}
use Rattle.explicit.proofs.Holders.Taken.{entries-few, level-bound}
use Rattle.explicit.proofs.theorems.entries_are_few.Goals as goal

pub returns-clause-defined : goal.returns-clause-defined
returns-clause-defined c = λ depth cs para qs low.
    omega (arith, entries-few depth cs para qs, level-bound depth cs para qs depth (omega arith) low)

pub returns-clause-retained : goal.returns-clause-retained
returns-clause-retained c = λ depth cs para low qs stack is.
    omega (
      arith,
      ap length is.entries,
      entries-few depth cs para qs,
      level-bound depth cs para qs depth (omega arith) low,
    )
