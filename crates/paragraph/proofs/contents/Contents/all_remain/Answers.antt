use Rattle.std.proofs.Common.{ap, ◌∙◌}
use Rattle.std.specs.Prelude.{not}
use Rattle.units.specs.Classes.{is_removed}
use Rattle.paragraph.proofs.ClassKinds.{none_where_not_any}
use Rattle.paragraph.proofs.contents.Contents.all_remain.Goals as goal

pub returns : goal.returns
returns c = λ cs is. ap not (c.has_removed.ensures cs is.classes) ∙ none_where_not_any is_removed cs
