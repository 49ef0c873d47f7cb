use Rattle.std.proofs.Common.{◌≡◌, Bool, true, Option, Some, None, get_or, drop-cons, refl, sym, ◌∙◌, rules}
use Rattle.std.specs.Prelude.{IfSome}
use Rattle.std.specs.Option.{option_eq, option_or}
use Rattle.units.specs.declared.level.Direction.{Direction}
use Rattle.units.specs.declared.level.Direction.TheVariants.{Auto}
use Rattle.bidtests.specs.Readings.{expected_of}
use Rattle.bidtests.specs.Comparisons.{HasNoWrongPlace}
use Rattle.bidtests.proofs.SameLayout.{passed-over}
use Rattle.bidtests.proofs.compare.judge_expected.Goals as goal

-- what holds of a direction, if there is one, holds of an equal one
at-equal : (eq : Direction → Direction → Bool) (found : Option Direction) (d : Direction) (P : Direction → Type 0)
    → ((a b : Direction) → eq a b ≡ true → a ≡ b) → option_eq eq found (Some d) ≡ true → IfSome found P → P d
at-equal eq None d P same is holds = absurd cc
at-equal eq (Some e) d P same is holds = rw (← same e d is) holds

-- what holds of each direction, if there is one, holds of the first of them
of-first : (a b : Option Direction) (P : Direction → Type 0) → IfSome a P → IfSome b P → IfSome (option_or a b) P
of-first None b P remaining right = right
of-first (Some d) b P remaining right = remaining

pub loop-direction-preserved-then-eq : goal.loop-direction-preserved-then-eq
loop-direction-preserved-then-eq c =
    let d = get_or c.args.expected.directions.now c.loop-direction.direction-index Auto in
    let right : HasNoWrongPlace c.args.limits (expected_of c.args.expected) d =
    at-equal _ c.loop-direction.right d (HasNoWrongPlace c.args.limits (expected_of c.args.expected)) (λ a b h.
    search rules) (sym c.eq.ensures ∙ c.if-eq.true) c.loop-direction.invariant.right in
    record {
      rest = c.loop-direction.invariant.rest ∙
          passed-over c.args.limits (expected_of c.args.expected) c.args.expected.directions.now
          c.loop-direction.direction-index Auto c.loop-direction-test.true right;
      right = c.loop-direction.invariant.right;
      room = c.loop-direction.invariant.room;
    }

pub loop-direction-preserved : goal.loop-direction-preserved
loop-direction-preserved c = record {
  rest = c.loop-direction.invariant.rest ∙
      passed-over c.args.limits (expected_of c.args.expected) c.args.expected.directions.now
      c.loop-direction.direction-index Auto c.loop-direction-test.true c.in-Agrees.ensures.compares.0;
  right = rw c.or-right.ensures
      (of-first c.loop-direction.right c.in-Agrees.also_under _ c.loop-direction.invariant.right
      c.in-Agrees.ensures.compares.1);
  room = c.compare.ensures.room ∙ c.loop-direction.invariant.room;
}

pub returns-in-Differs-clause-fault : goal.returns-in-Differs-clause-fault
returns-in-Differs-clause-fault c =
    rw (
      c.loop-direction.invariant.rest,
      drop-cons c.args.expected.directions.now c.loop-direction.direction-index Auto c.loop-direction-test.true,
      c.in-Differs.ensures.compares,
    ) refl
