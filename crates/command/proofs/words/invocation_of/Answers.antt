use Rattle.std.proofs.Common.{◌≡◌, List, Result, Ok, Err, IsErrAnd, subst, sym}
use Rattle.clap.specs.Walk.{Text, texts}
use Rattle.command.specs.CommandLine.{IsReadAs, WordsMakeNone}
use Rattle.command.specs.declared.rejection.NoRequest.{NoRequest}
use Rattle.command.specs.declared.rejection.WordsFault.{WordsFault}
use Rattle.command.specs.declared.rejection.WordsFault.TheVariants as fault
use Rattle.command.specs.declared.invocation.Invocation.{Invocation}
use Rattle.command.proofs.words.invocation_of.Goals as goal

passed_on : (words : List Text) (r : Result Invocation WordsFault) (why : NoRequest) →
    IsErrAnd r (λ given. given ≡ fault.NoRequest why)
    → WordsMakeNone words why → IsReadAs words r
passed_on words (Ok invocation) why same none = absurd same
passed_on words (Err given) why same none = subst (λ (f : WordsFault). IsReadAs words (Err f)) (sym same) none

pub returns-in_err-invocation_or_rejection : goal.returns-in_err-invocation_or_rejection
returns-in_err-invocation_or_rejection c =
    passed_on (texts c.args.words.now) _ c.in_err-invocation_or_rejection.field-0.0
    c.from_residual-in_err-invocation_or_rejection.ensures.1
    (_, c.in_ok-matches.ensures.met, c.in_err-invocation_or_rejection.ensures.rejection)

pub returns : goal.returns
returns c = (_, c.in_ok-matches.ensures.met, c.in_ok-invocation_or_rejection.ensures.invocation)
