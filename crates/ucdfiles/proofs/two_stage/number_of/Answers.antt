use Rattle.std.proofs.Common.{◌≡◌, ◌+◌, ◌-◌, ◌*◌, ◌/◌, ◌∙◌, sym, ap, arith, length, get_or, take, drop}
use Rattle.std.proofs.lemmas.List.{take_all, length-drop, get_or-drop}
use Rattle.ucdfiles.proofs.Painting.{pointwise-exact}
use Rattle.ucdfiles.proofs.two_stage.number_of.Goals as goal

pub returns-then-eq-clause-block : goal.returns-then-eq-clause-block
returns-then-eq-clause-block g c k d lt =
    let slice = c.deref.result.now in
    let len = c.len-len.result in
    let last = drop (len - 128) slice in
    let at : (len / 128 - 1) * 128 + k ≡ len - 128 + k = omega arith in
    let whole : take (length slice - (len - 128)) last ≡ last =
    take_all (length slice - (len - 128)) last (omega (arith, length-drop (len - 128) slice)) in
    let same : take (length slice - (len - 128)) last ≡ c.args.block.now =
    pointwise-exact g.V.PartialEq.eq c.requires.exact (take (length slice - (len - 128)) last) c.args.block.now
    (sym c.if-eq.ensures) in
    rw (← c.deref.ensures.value, at) (sym (get_or-drop (len - 128) slice k d) ∙
    ap (λ l. get_or l k d) (sym whole ∙ same))
