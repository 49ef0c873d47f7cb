use Rattle.std.proofs.Common.{arith, ap, sym, ◌≡◌, ◌∙◌, ℕ, None, length, take, ◌++◌}
use Rattle.std.proofs.lemmas.List.{get_or_default}
use Rattle.sequences.specs.Links.{link_at, linked}
use Rattle.sequences.proofs.Links.{pushed_to, pushed_within}
use Rattle.sequences.proofs.heads.write_linked.Goals as goal

pub loop-at-init : goal.loop-at-init
loop-at-init g c =
    let links = c.args.links.now in
    let s = c.write_stretch-last.ensures in
    let last : ℕ = c.write_stretch-last.result in
    let read : c.get-at.result ≡ link_at links last = c.get-at.ensures ∙ c.index-links-last.is ∙
    get_or_default links last c.index-links-last.result None s.stretch.within in
    record {
      pushed = pushed_to links c.requires.linked _ _ last s.column c.get-at.result read;
      end = omega (arith, s.rest, ap (λ o. length (linked links o)) read);
      steps = omega (arith, s.steps, s.rest, s.stretch.later, ap (λ o. length (linked links o)) read);
    }

pub write_stretch-q-requires-clause-first : goal.write_stretch-q-requires-clause-first
write_stretch-q-requires-clause-first g c =
    pushed_within c.requires.linked c.loop-at.invariant.pushed c.in-Some.p c.in-Some.is

pub write_stretch-q-requires-clause-room : goal.write_stretch-q-requires-clause-room
write_stretch-q-requires-clause-room g c =
    omega (
      arith,
      c.requires.room,
      c.loop-at.invariant.end,
      ap (λ o. length (linked c.args.links.now o)) c.in-Some.is,
      c.loop-at.auto.column,
      c.write_stretch-last.auto.column,
    )

pub loop-at-smaller : goal.loop-at-smaller
loop-at-smaller g c =
    let links = c.args.links.now in
    let s = c.write_stretch-q.ensures in
    let q : ℕ = c.write_stretch-q.result in
    let read : c.get-at-in-Some.result ≡ link_at links q = c.get-at-in-Some.ensures ∙ c.index-links-q.is ∙
    get_or_default links q c.index-links-q.result None s.stretch.within in
    omega (arith, s.rest, ap (λ o. length (linked links o)) read, ap (λ o. length (linked links o)) c.in-Some.is)

pub loop-at-preserved : goal.loop-at-preserved
loop-at-preserved g c =
    let links = c.args.links.now in
    let s = c.write_stretch-q.ensures in
    let q : ℕ = c.write_stretch-q.result in
    let read : c.get-at-in-Some.result ≡ link_at links q = c.get-at-in-Some.ensures ∙ c.index-links-q.is ∙
    get_or_default links q c.index-links-q.result None s.stretch.within in
    record {
      pushed = pushed_to links c.requires.linked _ _ q
          (s.column ∙ ap (λ o. take c.loop-at.end c.loop-at.column ++ linked links o) (sym c.in-Some.is) ∙
          c.loop-at.invariant.pushed.all) c.get-at-in-Some.result read;
      end = omega (
        arith,
        s.rest,
        c.loop-at.invariant.end,
        ap (λ o. length (linked links o)) read,
        ap (λ o. length (linked links o)) c.in-Some.is,
      );
      steps = omega (
        arith,
        s.steps,
        s.rest,
        s.stretch.later,
        c.loop-at.invariant.steps,
        ap (λ o. length (linked links o)) read,
        ap (λ o. length (linked links o)) c.in-Some.is,
      );
    }
