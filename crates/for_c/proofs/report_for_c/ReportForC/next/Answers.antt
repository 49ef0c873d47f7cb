use Rattle.std.proofs.Common.{◌++◌, refl, sym, ap, ◌∙◌, append-nil}
use Rattle.for_c.proofs.CasesReturned.{returns-all}
use Rattle.for_c.proofs.report_for_c.ReportForC.next.Goals as goal

-- if no case remains, it has returned all
pub returns-in-None : goal.returns-in-None
returns-in-None c =
    let none = c.in-None.ensures in
    record {
      next = tt;
      unchanged = none.1;
      reason = (
        refl,
        λ limits kind ended returned bytes h.
            sym (append-nil returned) ∙ ap (λ ws. returned ++ ws) (sym none.0) ∙
            returns-all limits kind ended c.args.self.now returned bytes h,
      );
    }
