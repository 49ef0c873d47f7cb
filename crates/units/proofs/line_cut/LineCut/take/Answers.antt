use Rattle.std.proofs.Common.{refl, ap, ◌∙◌, ◌+◌, sym}
use Rattle.units.specs.Lines.{saturated}
use Rattle.units.specs.LineCutting.{Cutting}
use Rattle.units.proofs.LineCuttingSteps.{returns_more, returns_line, returns_too_long}
use Rattle.units.proofs.line_cut.LineCut.take.Goals as goal

pub returns-in-Within : goal.returns-in-Within
returns-in-Within c = (
  (refl, λ _. tt, c.advance-used.ensures.represents),
  record {
    used = c.advance-used.ensures.used;
    some = c.advance-used.ensures.some;
    through = c.advance-used.ensures.through;
    line = c.advance-used.ensures.line;
    whole = c.advance-used.ensures.whole;
    short = tt;
    outcome = λ b s. returns_more c.advance-used.new.self b _ _
        (c.advance-used.ensures.represents b s) c.advance-used.ensures.reaches
        (sym (ap (λ (v : Cutting). v.phase) c.self.view_is) ∙ c.in-Within.is);
    after = tt;
  },
)

pub returns-in-Ended : goal.returns-in-Ended
returns-in-Ended c = (
  (refl, λ _. tt, c.advance-used.ensures.represents),
  record {
    used = c.advance-used.ensures.used;
    some = c.advance-used.ensures.some;
    through = c.advance-used.ensures.through;
    line = c.advance-used.ensures.line;
    whole = c.advance-used.ensures.whole;
    short = c.text-text.ensures.short;
    outcome = λ b s. returns_line c.advance-used.new.self b _ _
        (c.advance-used.ensures.represents b s) c.advance-used.ensures.reaches
        _ c.text-text.result (sym (ap (λ (v : Cutting). v.phase) c.self.view_is) ∙
        c.in-Ended.is) (ap (λ (v : Cutting). v.done) c.self.view_is) c.text-text.ensures.stored;
    after = tt;
  },
)

pub returns-in-Failed : goal.returns-in-Failed
returns-in-Failed c = (
  (refl, λ _. tt, c.advance-used.ensures.represents),
  record {
    used = c.advance-used.ensures.used;
    some = c.advance-used.ensures.some;
    through = c.advance-used.ensures.through;
    line = c.advance-used.ensures.line;
    whole = c.advance-used.ensures.whole;
    short = tt;
    outcome = λ b s. returns_too_long c.advance-used.new.self b _ _
        (c.advance-used.ensures.represents b s) c.advance-used.ensures.reaches
        _ (sym (ap (λ (v : Cutting). v.phase) c.self.view_is) ∙ c.in-Failed.is) (c.saturating_add-number.ensures ∙
        ap (λ (v : Cutting). saturated (v.done + 1)) c.self.view_is);
    after = tt;
  },
)
