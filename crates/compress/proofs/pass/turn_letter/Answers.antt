use Rattle.std.proofs.Common.{arith, ap, sym, ◌∙◌, ◌≡◌, ◌-◌, ◌<◌, ℕ, suc, false, List}
use Rattle.units.specs.declared.bracket.Unit.{Unit as BidiUnit}
use Rattle.compress.specs.Laid.{stack_of}
use Rattle.compress.specs.Squeeze.{Stack, added, joins}
use Rattle.compress.proofs.Counting.{at}
use Rattle.compress.proofs.Laying.{adds_chosen, laid_push}
use Rattle.compress.proofs.Passing.{strong_unmarked, unjoined}
use Rattle.compress.proofs.Unchanged.{unchanged_after}
use Rattle.compress.proofs.pass.turn_letter.Goals as goal

pub returns-clause-stack : goal.returns-clause-stack
returns-clause-stack c = λ us end laid next apart.
    let d = c.args.direction in
    let m : ℕ = c.args.m in
    let u : BidiUnit = at c.args.para.now c.args.p in
    let chosen : List BidiUnit = c.args.chosen.now in
    let starts : List BidiUnit = c.args.starts.now in
    let same : c.popped-count.result ≡ m = omega (arith, c.if-count-m.false, c.popped-count.ensures.within) in
    let unmarked = strong_unmarked u.class c.requires.letter in
    let last : 0 < m → joins d (at chosen (m - 1)) u ≡ false = λ lt.
    let e : m ≡ suc (m - 1) = omega arith in
    unjoined d (at chosen (m - 1)) u apart.remains unmarked (apart.stopped (m - 1) e) in
    adds_chosen us d chosen starts m c.args.p end u c.stored.result c.requires.chosen c.requires.starts c.stored.ensures next last
    ∙ ap (λ (st : Stack). added d st u)
    (ap (λ n. stack_of us chosen starts n c.args.p) (sym same) ∙ c.popped-count.ensures.stack us starts c.args.p laid)

pub returns-clause-laid : goal.returns-clause-laid
returns-clause-laid c = λ us end laid next.
    laid_push us c.args.starts.now c.args.m c.args.p end c.stored.result c.requires.starts c.stored.ensures next.later next.within laid

pub returns-clause-unchanged : goal.returns-clause-unchanged
returns-clause-unchanged c = unchanged_after c.args.chosen.now c.args.starts.now c.args.m (at c.args.para.now c.args.p) c.stored.result
