use Rattle.std.proofs.Common.{sym, subst, ap, not, ◌∙◌}
use Rattle.units.proofs.Options.{is_some_false}
use Rattle.bidtests.specs.FileKinds.{stored_tables}
use Rattle.bidtests.proofs.SplitterSteps.{if-no-error}
use Rattle.report.specs.Reporting.{Reporting, Reports}
use Rattle.report.proofs.ByteSteps.{if-error, ends, ends-ended}
use Rattle.report.proofs.report.Report.finish.Goals as goal

pub returns-then-is_none : goal.returns-then-is_none
returns-then-is_none c = λ terms kind reported b r.
    let inside = c.self.inside in
    let state : Reporting = record {
      tables = stored_tables inside.kind;
      cutting = inside.splitter;
      lines = inside.lines;
      malformed = inside.malformed;
    } in
    let P : Reporting → Type 0 = λ j. Reports terms kind j reported b in
    ends state c.forget.new.self c.report_last.new.lines c.forget.ensures c.kind.result c.kind.ensures
    (is_some_false inside.malformed (c.is_none.ensures ∙ ap not c.if-is_none.true))
    c.err-self-inside.result c.finish-last.result c.finish-last.ensures.last (c.err-self-inside.ensures.value ∙
    c.report_last.ensures.malformed)
    (λ none. if-no-error _ c.report_last.result (sym c.err-self-inside.ensures.value ∙
    none) c.report_last.ensures.after)
    (λ m some. if-error _ c.report_last.result m (sym c.err-self-inside.ensures.value ∙
    some) c.report_last.ensures.ended)
    terms kind reported b (subst P (sym c.self.view_is) r)

pub returns-else-is_none : goal.returns-else-is_none
returns-else-is_none c = λ terms kind reported b r.
    let inside = c.self.inside in
    let state : Reporting = record {
      tables = stored_tables inside.kind;
      cutting = inside.splitter;
      lines = inside.lines;
      malformed = inside.malformed;
    } in
    let P : Reporting → Type 0 = λ j. Reports terms kind j reported b in
    ends-ended state c.forget.new.self c.forget.new.self c.forget.ensures (c.is_none.ensures ∙
    ap not c.if-is_none.false) terms kind reported b (subst P (sym c.self.view_is) r)
