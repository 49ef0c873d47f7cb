use Rattle.std.proofs.Common.{ap, ◌∙◌}
use Rattle.std.specs.Prelude.{not}
use Rattle.units.specs.Classes.{is_initiator}
use Rattle.paragraph.proofs.ClassKinds.{none_where_not_any}
use Rattle.paragraph.proofs.contents.Contents.is_flat.Goals as goal

pub returns : goal.returns
returns c = λ cs is. ap not (c.has_initiator.ensures cs is.classes) ∙ none_where_not_any is_initiator cs
