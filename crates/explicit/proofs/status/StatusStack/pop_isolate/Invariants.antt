use Rattle.std.proofs.Common.{◌≡◌, ◌+◌, ◌≤◌}
use Rattle.explicit.specs.StatusStacks.{before_isolate, entry_count}
use Rattle.explicit.proofs.status.StatusStack.pop_isolate.Given as goal

abbrev pub invariant-loop-entry : goal.invariant-loop-entry
invariant-loop-entry g l = record {
  same_front : before_isolate l.self.entries.items ≡ before_isolate l.initial.self.entries.items;
  isolates : l.self.overflow_isolates ≡ l.initial.self.overflow_isolates;
  embeddings : l.self.overflow_embeddings ≡ l.initial.self.overflow_embeddings;
  valid : l.self.valid_isolates ≡ l.initial.self.valid_isolates;
  more : l.fn.steps ≤ l.steps;
  taken : l.steps + entry_count l.self ≡ l.fn.steps + entry_count l.initial.self;
}

abbrev pub decreases-loop-entry : goal.decreases-loop-entry
decreases-loop-entry g l = entry_count l.self
