use Rattle.std.proofs.Common.{◌≡◌, sym, ◌∙◌}
use Rattle.units.specs.declared.class.Class.TheVariants.{R}
use Rattle.resolve.specs.declared.weak.Context.{Context}
use Rattle.resolve.proofs.Keeping.{through_w3-letter, decided-letter, by_context-letter}
use Rattle.resolve.proofs.weak.Context.take_arabic_letter.Goals as goal

pub returns : goal.returns
returns c =
    let x : Context = c.args.self.now in
    let made : c.take-made.result ≡ R = c.take-made.ensures.value ∙ through_w3-letter x.preceding in
    record {
      value = λ rest. made ∙ sym (by_context-letter x rest);
      past = λ rest. cc (made, through_w3-letter x.preceding, decided-letter x rest, c.take-made.ensures.past);
    }
