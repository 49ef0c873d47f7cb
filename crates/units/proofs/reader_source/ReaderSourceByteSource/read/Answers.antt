use Rattle.std.proofs.Common.{rules, ◌≡◌, ◌<◌, length, refl, take}
use Rattle.units.specs.declared.reader_source.State.TheVariants.{Open}
use Rattle.units.specs.Provides.{Provides-nothing}
use Rattle.units.proofs.SourceReads.{Provides-taken, Provides-failed}
use Rattle.units.proofs.reader_source.ReaderSourceByteSource.read.Goals as goal

pub returns-in-Ended-clause-given : goal.returns-in-Ended-clause-given
returns-in-Ended-clause-given g c = Provides-nothing _ _ _

pub returns-in-Failed-clause-none_given : goal.returns-in-Failed-clause-none_given
returns-in-Failed-clause-none_given g c = Provides-nothing _ _ _

pub returns-then-n-self-clause-none_given : goal.returns-then-n-self-clause-none_given
returns-then-n-self-clause-none_given g c =
    let is : c.args.self.now.state ≡ Open = search rules in
    let limit : c.args.self.now.limit ≡ c.self.inside.limit = search rules in
    let taken = take c.in-Ok.n c.read.new.buf in
    let more : c.self.inside.limit < length taken = search rules in
    rw limit (Provides-failed _ _ c.self.inside.limit _ _ is (λ _. (taken, search rules, more)))

pub returns-in-Err-clause-none_given : goal.returns-in-Err-clause-none_given
returns-in-Err-clause-none_given g c =
    let is : c.args.self.now.state ≡ Open = search rules in
    let limit : c.args.self.now.limit ≡ c.self.inside.limit = search rules in
    rw limit (Provides-failed _ _ c.self.inside.limit _ _ is (λ e. absurd (c.by_kind.ensures.within e)))

pub returns-in-Ok-eq0-clause-given : goal.returns-in-Ok-eq0-clause-given
returns-in-Ok-eq0-clause-given g c =
    let is : c.args.self.now.state ≡ Open = search rules in
    Provides-taken _ _ _ _ _ _ _ is refl (search rules) (search rules)

pub returns-else-n-self-clause-given : goal.returns-else-n-self-clause-given
returns-else-n-self-clause-given g c =
    let is : c.args.self.now.state ≡ Open = search rules in
    Provides-taken _ _ _ _ _ _ _ is (search rules) (search rules) (search rules)
