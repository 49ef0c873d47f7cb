use Rattle.std.proofs.Common.{◌≡◌, sym, subst, take, length, arith, ◌∙◌}
use Rattle.std.proofs.lemmas.List.{take_all}
use Rattle.units.proofs.Options.{is_some_false}
use Rattle.bidtests.specs.FileKinds.{stored_tables}
use Rattle.bidtests.proofs.SplitterSteps.{if-no-error}
use Rattle.report.specs.Reporting.{Reporting, Reports}
use Rattle.report.proofs.ByteSteps.{if-error, takes, takes-ended}
use Rattle.report.proofs.report.Report.take.Goals as goal

pub returns-then-is_some-clause-reports : goal.returns-then-is_some-clause-reports
returns-then-is_some-clause-reports c = λ terms kind reported b r.
    let piece = c.args.piece.now in
    let inside = c.self.inside in
    let state : Reporting = record {
      tables = stored_tables inside.kind;
      cutting = inside.splitter;
      lines = inside.lines;
      malformed = inside.malformed;
    } in
    let P : Reporting → Type 0 = λ j. Reports terms kind j reported b in
    let all : take (length piece) piece ≡ piece = take_all (length piece) piece (omega arith) in
    rw all (takes-ended state c.forget.new.self c.forget.new.self c.forget.ensures piece (sym c.is_some.ensures ∙
    c.if-is_some.true) terms kind reported b (subst P (sym c.self.view_is) r))

pub returns-clause-reports : goal.returns-clause-reports
returns-clause-reports c = λ terms kind reported b r.
    let inside = c.self.inside in
    let state : Reporting = record {
      tables = stored_tables inside.kind;
      cutting = inside.splitter;
      lines = inside.lines;
      malformed = inside.malformed;
    } in
    let P : Reporting → Type 0 = λ j. Reports terms kind j reported b in
    takes state c.forget.new.self c.report_cut.new.lines c.forget.ensures c.kind.result c.kind.ensures
    (is_some_false inside.malformed (sym c.is_some.ensures ∙ c.if-is_some.false))
    c.take.follows.lender-at-none c.err-self-inside.result c.args.piece.now c.take.result.0 c.take.result.1
    c.take.ensures.used c.take.ensures.through c.take.ensures.outcome
    c.take.follows.holds-at-none (c.err-self-inside.ensures.value ∙ c.report_cut.ensures.malformed)
    (λ none. if-no-error _ c.report_cut.result (sym c.err-self-inside.ensures.value ∙ none) c.report_cut.ensures.after)
    (λ m some. if-error _ c.report_cut.result m (sym c.err-self-inside.ensures.value ∙ some) c.report_cut.ensures.ended)
    terms kind reported b (subst P (sym c.self.view_is) r)
