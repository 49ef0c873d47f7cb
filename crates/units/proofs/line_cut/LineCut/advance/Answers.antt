use Rattle.std.proofs.Common.{◌-◌, ◌+◌, ◌≡◌, ◌≢◌, arith, append_assoc, inl, inr, refl}
use Rattle.std.proofs.lemmas.List.Elements.{All-take}
use Rattle.units.proofs.LineCuttingSteps.{fails_on, never_failed, never_long, within, feeds_none, feeds_before, through_feed, feed_within, feed_at, reaches_feed}
use Rattle.units.proofs.line_cut.LineCut.advance.Goals as goal

pub returns-in-Failed-clause-represents : goal.returns-in-Failed-clause-represents
returns-in-Failed-clause-represents c =
    λ b s. fails_on _ b _ (rw (← c.self.view_is) c.in-Failed.is) (c.begin.ensures.represents b s)

pub returns-in-Failed-clause-through : goal.returns-in-Failed-clause-through
returns-in-Failed-clause-through c =
    λ b lines rest s cut.
    absurd (never_failed _ b lines rest (rw (← c.self.view_is) c.in-Failed.is) (c.begin.ensures.represents b s) cut)

pub returns-in-Failed-clause-line : goal.returns-in-Failed-clause-line
returns-in-Failed-clause-line c =
    λ b lines rest s cut.
    absurd (never_failed _ b lines rest (rw (← c.self.view_is) c.in-Failed.is) (c.begin.ensures.represents b s) cut)

pub returns-in-None-clause-line : goal.returns-in-None-clause-line
returns-in-None-clause-line c = λ b lines rest s cut. inr (feeds_none _ c.in-None.ensures, refl)

pub returns-in-None-clause-whole : goal.returns-in-None-clause-whole
returns-in-None-clause-whole c = λ b lines s over. refl

pub returns-in-None-clause-through : goal.returns-in-None-clause-through
returns-in-None-clause-through c = λ b lines rest s cut. All-take (λ x. x ≢ 10) _ _ (feeds_none _ c.in-None.ensures)

pub hold-requires : goal.hold-requires
hold-requires c = record {
  within = within _ c.begin.ensures.open (rw (← c.self.view_is) c.in_default.not-Failed);
  feeds = feeds_none _ c.in-None.ensures;
}

pub hold-requires-in-Some : goal.hold-requires-in-Some
hold-requires-in-Some c = record {
  within = within _ c.begin.ensures.open (rw (← c.self.view_is) c.in_default.not-Failed);
  feeds = feeds_before _ _ c.in-Some.ensures;
}

pub returns-in-Some : goal.returns-in-Some
returns-in-Some c = record {
  used = feed_within _ _ c.in-Some.ensures;
  some = λ h. omega arith;
  through = λ b lines rest s cut.
      let e : (c.in-Some.n + 1) - 1 ≡ c.in-Some.n = omega arith in
      rw e (feeds_before _ _ c.in-Some.ensures);
  line = λ b lines rest s cut. inl (feed_at _ _ c.in-Some.ensures);
  whole = λ b lines s over.
      absurd (never_long _ b lines (within _ c.begin.ensures.open (rw (← c.self.view_is) c.in_default.not-Failed))
      (c.begin.ensures.represents b s) over);
  reaches = reaches_feed _ _ _ c.end.ensures.ended (feed_at _ _ c.in-Some.ensures);
  represents = λ b s. rw (
    through_feed _ _ c.in-Some.ensures,
    ← append_assoc,
  ) (c.end.ensures.represents _
      (c.hold-in-Some.ensures.represents b (c.begin.ensures.represents b s)));
}
