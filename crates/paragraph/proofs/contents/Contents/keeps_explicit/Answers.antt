use Rattle.std.proofs.Common.{◌≡◌, Bool, List, refl}
use Rattle.std.specs.Prelude.{◌&&◌, not}
use Rattle.std.specs.List.{list_any}
use Rattle.units.specs.Classes.{is_initiator}
use Rattle.units.specs.declared.class.Class.{Class}
use Rattle.paragraph.specs.Contents.{has_none}
use Rattle.paragraph.specs.LeftToRight.{may_leave}
use Rattle.paragraph.proofs.ClassKinds.{none_where_not_any}
use Rattle.paragraph.proofs.contents.Contents.keeps_explicit.Goals as goal

all_three : (cs : List Class) (begins a b x : Bool) → x ≡ begins → a ≡ list_any is_initiator cs →
    b ≡ list_any may_leave cs →
    (x && a && not b) ≡ (begins && list_any is_initiator cs && has_none may_leave cs)
all_three cs begins a b x hx ha hb = rw (hx, ha, hb, none_where_not_any may_leave cs) refl

pub returns : goal.returns
returns c = λ cs is.
    all_three cs _ c.has_initiator.result c.may_leave.result c.begins_at_zero.result c.begins_at_zero.ensures
    (c.has_initiator.ensures cs is.classes) (c.may_leave.ensures cs is.classes)
