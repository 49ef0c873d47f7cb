use Rattle.sources.proofs.FirstChars.{lossy_fault, lossy_first, some_width}
use Rattle.sources.proofs.splitting.first_of_lossy.Goals as goal

pub returns-in-Some-clause-first : goal.returns-in-Some-clause-first
returns-in-Some-clause-first c = lossy_first c.args.bytes.now c.in-Some.found.0 c.in-Some.found.1 c.in-Some.ensures

pub returns-in-Some-clause-forward : goal.returns-in-Some-clause-forward
returns-in-Some-clause-forward c = some_width c.args.bytes.now c.in-Some.found.0 c.in-Some.found.1 c.in-Some.ensures

pub returns-in-None-clause-first : goal.returns-in-None-clause-first
returns-in-None-clause-first c =
    lossy_fault c.args.bytes.now c.fault_width.result c.requires c.in-None.ensures c.fault_width.ensures.width
