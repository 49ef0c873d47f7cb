use Rattle.std.proofs.Common.{rules, ◌≡◌, ℕ, List, ◌++◌, take, ap, ◌∙◌, append-nil, inr, refl, subst}
use Rattle.requests.proofs.reading.bytes_in_file.Goals as goal

pub returns-in-Err-clause-fault : goal.returns-in-Err-clause-fault
returns-in-Err-clause-fault g c =
    let opened = c.loop-source.invariant.is in
    let given = g.met.F.Source.ByteSource.gives_joined _ _ _ _ _ c.loop-source.invariant.given
    c.in-Err.ensures.none_given in
    let failed : g.F.Source.ByteSource.failures c.read.new.self ≡ 1 = search rules in
    rw c.unread-unread.ensures (refl, inr (_, g.met.F.Files.gave_up _ _ _ _ _ _ opened given failed))

pub returns-in-Ok-eq0-clause-begins : goal.returns-in-Ok-eq0-clause-begins
returns-in-Ok-eq0-clause-begins g c =
    let given = subst (λ (xs : List ℕ). g.F.Source.ByteSource.gives c.loop-source.invariant.opened xs c.read.new.self)
    (ap (λ k. c.loop-source.bytes.items ++ take k c.read.new.buf) c.in-Ok-eq0.field-0-test ∙
    append-nil c.loop-source.bytes.items)
    (g.met.F.Source.ByteSource.gives_joined _ _ _ _ _ c.loop-source.invariant.given c.in-Ok-eq0.ensures.given) in
    g.met.F.Files.gave _ _ _ _ _ _ c.loop-source.invariant.is given

pub returns-in-Ok-eq0-clause-bytes : goal.returns-in-Ok-eq0-clause-bytes
returns-in-Ok-eq0-clause-bytes g c =
    let opened = c.loop-source.invariant.is in
    let given = subst (λ (xs : List ℕ). g.F.Source.ByteSource.gives c.loop-source.invariant.opened xs c.read.new.self)
    (ap (λ k. c.loop-source.bytes.items ++ take k c.read.new.buf) c.in-Ok-eq0.field-0-test ∙
    append-nil c.loop-source.bytes.items)
    (g.met.F.Source.ByteSource.gives_joined _ _ _ _ _ c.loop-source.invariant.given c.in-Ok-eq0.ensures.given) in
    let ended : g.F.Source.ByteSource.ended c.read.new.self = search rules in
    g.met.F.Files.gave_all _ _ _ _ _ _ opened given ended
