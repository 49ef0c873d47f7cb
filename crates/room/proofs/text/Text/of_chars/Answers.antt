use Rattle.std.proofs.Common.{◌≡◌, ◌∙◌, ap, length}
use Rattle.std.proofs.lemmas.List.{length-map}
use Rattle.units.specs.Layout.{TextLayout}
use Rattle.lines.proofs.Lengths.{length-levels}
use Rattle.room.proofs.text.Text.of_chars.Goals as goal

pub invariant_of-result : goal.invariant_of-result
invariant_of-result c =
    let codes : c.deref-2.result.now ≡ c.args.chars.items = c.deref-2.ensures.value ∙ c.in_ok-codes.ensures.codes ∙
    c.deref.ensures.value in
    record {
      whole = ap (λ (layout : TextLayout). length layout.levels) c.in_ok-room.ensures ∙ length-levels _ _ _ _ ∙
          length-map _ _ ∙ ap length codes;
    }
