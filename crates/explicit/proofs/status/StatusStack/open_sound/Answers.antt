use Rattle.std.proofs.Common.{◌+◌, sym, ap, ◌∙◌}
use Rattle.units.specs.Classes.{is_isolate_initiator}
use Rattle.explicit.proofs.Holders.Represented.{retained-bounded, asked-is, entry-is, sound-rejected, sound-taken}
use Rattle.explicit.proofs.status.StatusStack.open_sound.Goals as goal

pub current-level-requires : goal.current-level-requires
current-level-requires c = let b = retained-bounded c.args.self.now c.requires.retained in b.some

pub returns-then-get-by-clause-opened : goal.returns-then-get-by-clause-opened
returns-then-get-by-clause-opened c = λ cs para qs p e o r.
    let read = ap (λ n. n + c.rise-by.result) c.get.ensures.value in
    let l = asked-is c.args.depth cs para qs p c.args.self.now c.args.class c.args.odd c.current-level.result _ r e o
    c.current-level.ensures.value (read ∙ c.rise-by.ensures.value) in
    let t = sound-taken c.args.depth cs para qs p c.args.self.now r _ l c.requires.sound c.if-get-by.true in
    c.take.ensures.opened c.args.depth cs para qs p t
    (entry-is c.args.depth cs para qs p c.args.class c.raised.result c.overridden_by.result
    c.is_isolate_initiator.result t e (c.raised.ensures ∙
    (sym read ∙ l)) c.overridden_by.ensures c.is_isolate_initiator.ensures) r

pub returns-else-get-by-clause-opened : goal.returns-else-get-by-clause-opened
returns-else-get-by-clause-opened c = λ cs para qs p e o r.
    let read = ap (λ n. n + c.rise-by.result) c.get.ensures.value in
    let l = asked-is c.args.depth cs para qs p c.args.self.now c.args.class c.args.odd c.current-level.result _ r e o
    c.current-level.ensures.value (read ∙ c.rise-by.ensures.value) in
    let t = sound-rejected c.args.depth cs para qs p c.args.self.now r _ l c.requires.sound c.if-get-by.false in
    c.reject.ensures.opened c.args.depth cs para qs p t (c.is_isolate_initiator-else-get-by.ensures ∙
    ap is_isolate_initiator e) r
