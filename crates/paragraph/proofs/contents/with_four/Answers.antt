use Rattle.std.proofs.Common.{arith, ◌+◌, refl, ℕ}
use Rattle.paragraph.proofs.Scan.{set_more}
use Rattle.paragraph.proofs.contents.with_four.Goals as goal

pub returns : goal.returns
returns c =
    let us = c.args.text.now in
    let p : ℕ = c.args.p in
    let one = set_more c.with-one.result us p (p + 1) refl (omega arith) (c.with-one.ensures _ c.requires.before) in
    let two = set_more c.with-two.result us (p + 1) (p + 2) (omega arith) (omega arith) (c.with-two.ensures _ one) in
    let three = set_more c.with-three.result us (p + 2) (p + 3) (omega arith) (omega arith)
    (c.with-three.ensures _ two) in
    set_more c.with.result us (p + 3) (p + 4) (omega arith) (omega arith) (c.with.ensures _ three)
