use Rattle.resolve.proofs.pair_direction.Insides.pair_direction.Goals as goal

pub returns-then-finds-clause-passed : goal.returns-then-finds-clause-passed
returns-then-finds-clause-passed g c = λ o d le has. record {
  embedding = c.finds.ensures.passed o d le has.embedding;
  opposite = has.opposite;
}

pub returns-then-not-finds-clause-passed : goal.returns-then-not-finds-clause-passed
returns-then-not-finds-clause-passed g c = λ o d le has.
    record {
      embedding = c.finds.ensures.passed o d le has.embedding;
      opposite =
          c.finds-2.ensures.passed o d le has.opposite;
    }

pub returns-then-counts_as-clause-passed : goal.returns-then-counts_as-clause-passed
returns-then-counts_as-clause-passed g c = λ o d le has.
    record {
      embedding = c.finds.ensures.passed o d le has.embedding;
      opposite =
          c.finds-2.ensures.passed o d le has.opposite;
    }

pub returns-else-counts_as-clause-passed : goal.returns-else-counts_as-clause-passed
returns-else-counts_as-clause-passed g c = λ o d le has.
    record {
      embedding = c.finds.ensures.passed o d le has.embedding;
      opposite =
          c.finds-2.ensures.passed o d le has.opposite;
    }
