use Rattle.std.proofs.Common.{◌≡◌, ◌∷◌, suc, length, sym, ap, ◌∙◌, arith}
use Rattle.std.proofs.lemmas.Bool.{eqb-false}
use Rattle.units.specs.Paragraphs.{paragraphs_of}
use Rattle.explicit.proofs.LevelsComputed.OneCutting.{paragraphs_of_split}
use Rattle.explicit.proofs.cutting.ParagraphsIterator.next.Goals as goal

pub returns-clause-steps : goal.returns-clause-steps
returns-clause-steps c =
    let text = c.self.inside.rest.now in
    let some = eqb-false (length text) 0 (sym c.is_empty.ensures ∙ c.if-is_empty.false) in
    let split = paragraphs_of_split text (omega (arith, some)) in
    let parts : paragraphs_of text ≡ c.split_at.result.0.now ∷ paragraphs_of c.split_at.result.1.now =
    rw (c.split_at.ensures.front, c.split_at.ensures.back, c.first_length.ensures.value) split in
    sym c.self.view_is ∙ parts

pub returns-clause-goes : goal.returns-clause-goes
returns-clause-goes c =
    let fewer : length c.args.self.now ≡ suc (length (paragraphs_of c.split_at.result.1.now)) =
    ap length (returns-clause-steps c) in
    record { on = λ _. (tt, tt, omega (arith, fewer)); keeps = tt; rests = λ _. tt }
