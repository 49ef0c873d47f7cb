use Rattle.std.proofs.Common.{rules}
use Rattle.std.specs.Io.KnownBytes.{Appends}
use Rattle.explain.specs.Explained.{explained_classes}
use Rattle.requests.proofs.FirstFaults.{printing_fails}
use Rattle.requests.specs.Parts.{AreDone, classes_parts}
use Rattle.requests.proofs.performing.explain_classes.Goals as goal

pub returns-in_err-print_explained_classes-clause-fault : goal.returns-in_err-print_explained_classes-clause-fault
returns-in_err-print_explained_classes-clause-fault g c =
    let done : AreDone (classes_parts c.args.word.now) =
    (c.in_ok-classes.ensures.short, ((c.in_ok-classes.classes.items, c.in_ok-classes.ensures.classes), tt)) in
    printing_fails (classes_parts c.args.word.now) _ _ _ _ done c.from_residual-in_err-print_explained_classes.ensures.1

pub returns-clause-printed : goal.returns-clause-printed
returns-clause-printed g c =
    let noted : Appends (g.W.Write.contents c.args.out.now) (g.W.Write.contents c.print_explained_classes.new.w)
    (explained_classes c.in_ok-classes.classes.items c.args.direction) = search rules in
    record {
      short = c.in_ok-classes.ensures.short;
      classes = c.in_ok-classes.classes.items;
      named = c.in_ok-classes.ensures.classes;
      noted = noted;
    }
