use Rattle.std.proofs.Common.{refl}
use Rattle.command.proofs.run.run_as_read.Goals as goal

pub returns-in-Err-NoRequest-clause-ended : goal.returns-in-Err-NoRequest-clause-ended
returns-in-Err-NoRequest-clause-ended g c =
    rw (c.in-Err-NoRequest.is, c.in-Err-NoRequest.field-0-is, ← c.in-Err-NoRequest.why-is) (record {
      status_is = c.say_no_request.ensures.status;
      written = c.say_no_request.ensures.written;
      unprinted = refl;
      says = c.say_no_request.ensures.noted;
    })
