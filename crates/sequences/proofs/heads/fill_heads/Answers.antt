use Rattle.std.proofs.Common.{arith, rules, ap, sym, subst, ◌≡◌, ℕ, List, ◌≤◌, ◌∙◌, ◌++◌, true, false, length, take}
use Rattle.std.proofs.lemmas.List.{length-set, length-take-le, take_more_set}
use Rattle.units.specs.Runs.{begins_sequence, remains, size_of}
use Rattle.sequences.specs.Heads.{column_of}
use Rattle.sequences.proofs.Filled.{links_are, links_lead_on, linked_is}
use Rattle.sequences.proofs.HeadPasses.{IsRun, Stored, stored_past, last_remains, stored_room, stored_push, stored_count, stored_few, stored_end, head_pass_at, head_pass_joined, head_pass_next}
use Rattle.sequences.proofs.Once.{begins_remains}
use Rattle.sequences.proofs.heads.fill_heads.Goals as goal

pub write_linked-written-requires-clause-linked : goal.write_linked-written-requires-clause-linked
write_linked-written-requires-clause-linked g c =
    let links = c.args.positions.now.links.now in
    links_lead_on c.args.t.now links c.requires.links_fit c.requires.links c.len.ensures.leveled

pub write_linked-written-requires-clause-room : goal.write_linked-written-requires-clause-room
write_linked-written-requires-clause-room g c =
    let links = c.args.positions.now.links.now in
    let follow = linked_is c.args.t.now links c.requires.links_fit c.requires.links c.loop-p.p in
    omega (
      arith,
      ap length follow,
      length-take-le c.loop-p.end c.loop-p.column c.loop-p.invariant.column_fit,
      stored_room c.loop-p.invariant.follow.stored c.len.ensures.leveled c.len.ensures.nested (omega arith)
          (search rules),
    )

pub make_head-requires-clause-small : goal.make_head-requires-clause-small
make_head-requires-clause-small g c =
    let links = c.args.positions.now.links.now in
    let follow = linked_is c.args.t.now links c.requires.links_fit c.requires.links c.loop-p.p in
    omega (
      arith,
      ap length follow,
      length-take-le c.loop-p.end c.loop-p.column c.loop-p.invariant.column_fit,
      stored_room c.loop-p.invariant.follow.stored c.len.ensures.leveled c.len.ensures.nested (omega arith)
          (search rules),
    )

pub make_head-requires-clause-positions : goal.make_head-requires-clause-positions
make_head-requires-clause-positions g c =
    let links = c.args.positions.now.links.now in
    let follow = linked_is c.args.t.now links c.requires.links_fit c.requires.links c.loop-p.p in
    omega (arith, ap length follow)

pub loop-p-preserved-then-begins : goal.loop-p-preserved-then-begins
loop-p-preserved-then-begins g c =
    let t = c.args.t.now in
    let links = c.args.positions.now.links.now in
    let p : ℕ = c.loop-p.p in
    let column : List ℕ = take c.loop-p.end c.loop-p.column in
    let stored = c.loop-p.invariant.follow.stored in
    let h = c.len.ensures.leveled in
    let n = c.len.ensures.nested in
    let begins : begins_sequence t p ≡ true = sym c.begins.ensures ∙ c.if-begins.true in
    let few : c.loop-p.count ≤ p =
    stored_few t p c.loop-p.count c.loop-p.end c.loop-p.heads c.loop-p.column stored c.loop-p.invariant.heads_fit
    c.loop-p.invariant.column_fit in
    let follow = linked_is t links c.requires.links_fit c.requires.links p in
    let written = c.write_linked-written.ensures in
    let last : ℕ = c.write_linked-written.result.last in
    let run : IsRun t p last =
    λ k low high. sym (links_are t links c.requires.links_fit c.requires.links k) ∙ written.stretch.each k low high in
    let pushed = stored_push stored _ c.make_head.result _ c.loop-p.end begins c.make_head.ensures
    (sym (length-take-le c.loop-p.end c.loop-p.column c.loop-p.invariant.column_fit))
    (take_more_set c.loop-p.heads c.loop-p.count c.make_head.result (omega arith))
    (written.column ∙ ap (λ (ps : List ℕ). column ++ ps) follow) in
    record {
      within = omega (arith, written.stretch.within, c.requires.links_fit);
      follow = head_pass_at t last _ _ (stored_past t h n p last run written.stretch.later _ _ pushed)
          (last_remains t h n p last run written.stretch.later (begins_remains t h n p begins));
      heads_fit = omega (arith, length-set c.loop-p.heads c.loop-p.count c.make_head.result);
      column_fit = omega (
        arith,
        written.end,
        ap length follow,
        length-take-le c.loop-p.end c.loop-p.column c.loop-p.invariant.column_fit,
        stored_room stored h n (omega arith) begins,
        c.loop-p.auto.column,
        c.write_linked-written.auto.column,
        c.requires.column_room,
      );
      steps = omega (
        arith,
        written.steps,
        written.end,
        written.stretch.later,
        c.add.ensures,
        c.loop-p.invariant.steps,
      );
    }

pub loop-p-preserved-then-is_some : goal.loop-p-preserved-then-is_some
loop-p-preserved-then-is_some g c =
    let t = c.args.t.now in
    let p : ℕ = c.loop-p.p in
    let passed = c.pass_joined-p.ensures in
    let b : begins_sequence t p ≡ false = sym c.begins.ensures ∙ c.if-begins.false in
    let r : remains t p ≡ true = search rules in
    record {
      within = omega (arith, passed.within, c.len-then-is_some.ensures.value);
      follow = head_pass_joined t c.len.ensures.leveled c.len.ensures.nested c.args.positions.now.joined.now
          c.requires.joined c.pass_joined-p.result (omega (arith, passed.within, c.len-then-is_some.ensures.value)) p
          (omega (arith, passed.later)) r b passed.passed _ _ c.loop-p.invariant.follow.stored;
      heads_fit = c.loop-p.invariant.heads_fit;
      column_fit = c.loop-p.invariant.column_fit;
      steps = omega (arith, passed.steps, c.tick.ensures, c.loop-p.invariant.steps);
    }

pub loop-p-preserved : goal.loop-p-preserved
loop-p-preserved g c =
    let t = c.args.t.now in
    let p : ℕ = c.loop-p.p in
    let b : begins_sequence t p ≡ false = sym c.begins.ensures ∙ c.if-begins.false in
    let r : remains t p ≡ false = search rules in
    record {
      within = omega arith;
      follow = head_pass_next c.loop-p.invariant.follow b r;
      heads_fit = c.loop-p.invariant.heads_fit;
      column_fit = c.loop-p.invariant.column_fit;
      steps = omega (arith, c.tick-else-is_some.ensures, c.loop-p.invariant.steps);
    }

pub returns : goal.returns
returns g c =
    let t = c.args.t.now in
    let all : c.loop-p.p ≡ size_of t = omega arith in
    let P : ℕ → Type 0 = λ k. Stored t k (take c.loop-p.count c.loop-p.heads) (take c.loop-p.end c.loop-p.column) in
    let w : P (size_of t) = subst P all c.loop-p.invariant.follow.stored in
    let end : c.loop-p.end ≡ length (column_of t) =
    stored_end t (size_of t) c.loop-p.count c.loop-p.end c.loop-p.heads c.loop-p.column w
    c.loop-p.invariant.heads_fit c.loop-p.invariant.column_fit in
    record {
      count = stored_count t (size_of t) c.loop-p.count c.loop-p.end c.loop-p.heads c.loop-p.column w
          c.loop-p.invariant.heads_fit c.loop-p.invariant.column_fit;
      heads = w.heads_are;
      column = ap (λ k. take k c.loop-p.column) (sym end) ∙ w.column_is;
      steps = omega arith;
    }
