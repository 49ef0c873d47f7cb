use Rattle.std.proofs.Common.{ap, ◌∙◌, ◌≡◌, Bool, List}
use Rattle.std.specs.Prelude.{◌&&◌, not}
use Rattle.std.specs.List.{list_all, list_any}
use Rattle.units.specs.Classes.{is_initiator}
use Rattle.units.specs.declared.class.Class.{Class}
use Rattle.explicit.specs.Uniform.{may_rise_at_even, may_rise_at_odd}
use Rattle.paragraph.proofs.ClassKinds.{none_where_not_any}
use Rattle.paragraph.proofs.contents.Contents.keeps.Goals as goal

both : (cs : List Class) (test : Class → Bool) (a b : Bool) → a ≡ list_any is_initiator cs → b ≡ list_any test cs →
    (not a && not b) ≡ (list_all (λ c. not (is_initiator c)) cs && list_all (λ c. not (test c)) cs)
both cs test a b ha hb =
    ap (λ x. not x && not b) ha ∙ ap (λ x. not (list_any is_initiator cs) && not x) hb
    ∙ ap (λ x. x && not (list_any test cs)) (none_where_not_any is_initiator cs)
    ∙ ap (λ x. list_all (λ c. not (is_initiator c)) cs && x) (none_where_not_any test cs)

pub returns-in-Zero : goal.returns-in-Zero
returns-in-Zero c = rw c.in-Zero.is λ cs is. both cs may_rise_at_even _ _ (c.has_initiator.ensures cs is.classes)
    (c.may_rise_at_even.ensures cs is.classes)

pub returns-in-One : goal.returns-in-One
returns-in-One c = rw c.in-One.is λ cs is. both cs may_rise_at_odd _ _ (c.has_initiator-in-One.ensures cs is.classes)
    (c.may_rise_at_odd.ensures cs is.classes)
