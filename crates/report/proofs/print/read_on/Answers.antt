use Rattle.std.proofs.Common.{◌≡◌, rules}
use Rattle.report.proofs.print.read_on.Goals as goal

pub returns-in-Err : goal.returns-in-Err
returns-in-Err g c =
    let given = g.met.S.ByteSource.gives_joined _ _ _ _ _ c.loop.invariant.1 c.in-Err.ensures.none_given in
    let failed : g.S.ByteSource.failures c.read.new.self ≡ 1 = search rules in
    (_, given, failed)

pub returns-in-Ok-eq0 : goal.returns-in-Ok-eq0
returns-in-Ok-eq0 g c =
    let given = g.met.S.ByteSource.gives_joined _ _ _ _ _ c.loop.invariant.1 c.in-Ok-eq0.ensures.given in
    let ended : g.S.ByteSource.ended c.read.new.self = search rules in
    (_, given, ended)

pub loop-preserved : goal.loop-preserved
loop-preserved g c = (_, g.met.S.ByteSource.gives_joined _ _ _ _ _ c.loop.invariant.1 c.in-Ok.ensures.given)
