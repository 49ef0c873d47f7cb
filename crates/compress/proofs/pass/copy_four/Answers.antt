use Rattle.std.proofs.Common.{◌≡◌, ◌+◌, ◌≤◌, ◌++◌, ◌-◌, ℕ, List, length, take, drop, arith, ap, sym, ◌∙◌, take-add}
use Rattle.std.proofs.lemmas.List.{append_assoc, length-drop, length-take-le}
use Rattle.std.proofs.lemmas.Slice.{take-put_mid, drop-put_mid}
use Rattle.units.specs.declared.bracket.Unit.{Unit as BidiUnit}
use Rattle.compress.proofs.pass.copy_four.Goals as goal

-- the part of a list that a copy of four reads
four_of : (xs new : List BidiUnit) (p : ℕ) → new ≡ take (p + 4 - p) (drop p xs) → new ≡ take 4 (drop p xs)
four_of xs new p e = e ∙ ap (λ k. take k (drop p xs)) {y = 4} (omega arith)

length_of : (xs new : List BidiUnit) (p : ℕ) → p + 4 ≤ length xs → new ≡ take (p + 4 - p) (drop p xs) → length new ≡ 4
length_of xs new p within e =
    ap length (four_of xs new p e) ∙ length-take-le 4 (drop p xs) (omega (arith, length-drop p xs, within))

pub returns-clause-copied : goal.returns-clause-copied
returns-clause-copied c front h =
    let new : List BidiUnit = c.copy_from_slice.new.self in
    let rest : List BidiUnit = c.args.rest.now in
    let len = length_of rest new c.args.p c.requires.from c.copy_from_slice.ensures.after in
    take-put_mid (c.args.m + c.args.p) (c.args.m + c.args.p + 4 - (c.args.m + c.args.p)) c.args.chosen.now new
    (c.args.m + (c.args.p + 4)) (omega (arith, len)) (omega (arith, c.requires.from, c.requires.to))
    ∙ ap (λ xs. xs ++ new) h
    ∙ append_assoc front (take c.args.p rest) new
    ∙ ap (λ xs. front ++ xs)
    (ap (λ xs. take c.args.p rest ++ xs) (four_of rest new c.args.p c.copy_from_slice.ensures.after)
    ∙ sym (take-add c.args.p 4 rest))

pub returns-clause-after : goal.returns-clause-after
returns-clause-after c =
    let len = length_of c.args.rest.now c.copy_from_slice.new.self c.args.p c.requires.from
    c.copy_from_slice.ensures.after in
    drop-put_mid (c.args.m + c.args.p) (c.args.m + c.args.p + 4 - (c.args.m + c.args.p)) c.args.chosen.now
    c.copy_from_slice.new.self (c.args.m + length c.args.rest.now) (omega (arith, c.requires.from))
    (omega (arith, c.requires.from, c.requires.to)) (omega (arith, len))
