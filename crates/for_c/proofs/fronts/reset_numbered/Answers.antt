use Rattle.std.proofs.Common.{◌≡◌, ◌∙◌, ℕ, ap, get_or, rules, sym}
use Rattle.std.proofs.lemmas.List.{get_or-map, get_or_default, length-map}
use Rattle.std.specs.Option.{unwrap_or}
use Rattle.units.specs.declared.class.Class.{Class}
use Rattle.units.specs.declared.class.Class.TheVariants.{L}
use Rattle.sources.specs.ClassNumbers.{class_numbered}
use Rattle.for_c.specs.Fronts.{classes_numbered}
use Rattle.for_c.proofs.fronts.reset_numbered.Goals as goal

pub returns : goal.returns
returns c =
    let numbers = c.args.classes.now in
    let class_of : ℕ → Class = λ number. unwrap_or (class_numbered number) L in
    c.reset_levels_by.ensures (classes_numbered numbers) (record {
      len = length-map numbers class_of;
      each = λ p item class low is returned.
          let own : class ≡ class_of item = search rules in
          let number : item ≡ get_or numbers p 0 = is ∙ get_or_default numbers p item 0 low in
          own ∙ ap class_of number ∙ sym (get_or-map class_of numbers p 0 L low);
    })
