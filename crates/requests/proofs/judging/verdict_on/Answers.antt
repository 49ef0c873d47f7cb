use Rattle.std.proofs.Common.{rules, ◌≡◌, inr, refl}
use Rattle.requests.proofs.judging.verdict_on.Goals as goal

pub returns-in-Ok-clause-verdict : goal.returns-in-Ok-clause-verdict
returns-in-Ok-clause-verdict g c =
    let read = c.in-Ok.ensures.verdict in
    (read.0, g.met.F.Files.gave_all _ _ _ _ _ _ c.in_ok-source.ensures.opened read.1 c.in-Ok.ensures.whole, read.2)

pub returns-clause-fault : goal.returns-clause-fault
returns-clause-fault g c =
    let given = c.in-Err.ensures.given in
    let failed : g.F.Source.ByteSource.failures c.judge_reader.new.source ≡ 1 = search rules in
    rw c.unread-unread.ensures (
      refl,
      inr (given.0, g.met.F.Files.gave_up _ _ _ _ _ _ c.in_ok-source.ensures.opened given.1 failed),
    )
