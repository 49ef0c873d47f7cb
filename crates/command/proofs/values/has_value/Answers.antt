use Rattle.std.proofs.Common.{◌≡◌, Option, None, Some, is_some, option_map, ap, refl, sym, ◌∙◌}
use Rattle.command.proofs.values.has_value.Goals as goal

is_some-mapped : {A B : Type 0} (f : A → B) (o : Option A) → is_some (option_map f o) ≡ is_some o
is_some-mapped f None = refl
is_some-mapped f (Some x) = refl

pub returns : goal.returns
returns c = c.is_some.ensures ∙ sym (is_some-mapped (λ text. text.now) c.text_of.result) ∙ ap is_some c.text_of.ensures
