use Rattle.std.proofs.Common.{sym, ap, ◌∙◌, arith}
use Rattle.explicit.specs.StatusStacks.{before_isolate}
use Rattle.explicit.proofs.Holders.ClosingIsolate.{before-isolate, before-other}
use Rattle.explicit.proofs.status.StatusStack.pop_isolate.Goals as goal

pub loop-entry-preserved : goal.loop-entry-preserved
loop-entry-preserved g c = record {
  same_front = sym (before-other c.pop.new.self.items c.in-Some.entry c.if-entry.false) ∙
      ap before_isolate (sym c.in-Some.ensures.items) ∙ c.loop-entry.invariant.same_front;
  isolates = c.loop-entry.invariant.isolates;
  embeddings = c.loop-entry.invariant.embeddings;
  valid = c.loop-entry.invariant.valid;
  more = omega (arith, c.tick.ensures, c.loop-entry.invariant.more);
  taken = omega (arith, c.tick.ensures, c.loop-entry.invariant.taken, c.in-Some.ensures.len);
}

pub returns-then-entry-clause-popped : goal.returns-then-entry-clause-popped
returns-then-entry-clause-popped g c = sym (before-isolate c.pop.new.self.items c.in-Some.entry c.if-entry.true) ∙
    ap before_isolate (sym c.in-Some.ensures.items) ∙ c.loop-entry.invariant.same_front
