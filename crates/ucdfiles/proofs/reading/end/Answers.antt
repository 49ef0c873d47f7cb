use Rattle.std.proofs.lemmas.Result.{MatchResult-weaker}
use Rattle.ucdfiles.proofs.Ends.{end-none, end-ok, end-err}
use Rattle.ucdfiles.proofs.reading.end.Goals as goal

pub returns-in-None-clause-ok : goal.returns-in-None-clause-ok
returns-in-None-clause-ok g c =
    λ b r. end-none (g.T.LineTable.represents c.args.table.now) (g.T.LineTable.represents c.args.table.now)
    g.T.LineTable.fault c.args.splitter.now b r (c.in-None.ensures.last b r.cuts)

pub returns-in-Some-clause-ok : goal.returns-in-Some-clause-ok
returns-in-Some-clause-ok g c =
    MatchResult-weaker c.add.result c.add.ensures.ok (λ x adds b r.
    end-ok (g.T.LineTable.represents c.args.table.now) (g.T.LineTable.represents c.add.new.self) g.T.LineTable.fault
    c.args.splitter.now b r (c.in-Some.number, c.in-Some.text) (c.in-Some.ensures.last b r.cuts) adds) (λ e t. t)

pub returns-in-Some-clause-err : goal.returns-in-Some-clause-err
returns-in-Some-clause-err g c =
    MatchResult-weaker c.add.result c.add.ensures.err (λ x t. t) (λ e rejects b r.
    end-err (g.T.LineTable.represents c.args.table.now) (g.T.LineTable.represents c.add.new.self) g.T.LineTable.fault
    c.args.splitter.now b r (c.in-Some.number, c.in-Some.text) (c.in-Some.ensures.last b r.cuts) e rejects)
