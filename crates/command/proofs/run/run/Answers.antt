use Rattle.std.proofs.Common.{◌≡◌, ℕ, List, Result, Ok, subst}
use Rattle.command.specs.declared.rejection.WordsFault.{WordsFault}
use Rattle.clap.specs.Walk.{texts}
use Rattle.command.specs.CommandLine.{IsRead, IsReadAs}
use Rattle.command.specs.declared.invocation.Invocation.{Invocation}
use Rattle.command.proofs.run.run.Goals as goal

read_so : (words : List (List ℕ)) (read : Result Invocation WordsFault) (invocation : Invocation) →
    read ≡ Ok invocation → IsReadAs words read → IsRead words invocation
read_so words read invocation e h = subst (λ (r : Result Invocation WordsFault). IsReadAs words r) e h

pub returns-clause-no : goal.returns-clause-no
returns-clause-no g c = λ one.
    let asked = c.run_as_read.ensures.no one in
    (asked.0, read_so (texts c.args.words.now) c.invocation_of.result asked.0 asked.1 c.invocation_of.ensures, asked.2)
