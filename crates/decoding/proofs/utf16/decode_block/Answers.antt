use Rattle.std.proofs.Common.{◌≡◌, ◌≤◌, ◌+◌, ◌-◌, ◌∙◌, ℕ, ap, arith, drop, length, map, take}
use Rattle.std.proofs.lemmas.List.{length-drop, length-map, length-take-le}
use Rattle.ucdfiles.specs.UnitStages.{unit_by_stages}
use Rattle.decoding.proofs.BlockReading.{written_part}
use Rattle.decoding.proofs.Gathering.{classes_after}
use Rattle.decoding.proofs.utf16.decode_block.Goals as goal

pub returns-clause-written : goal.returns-clause-written
returns-clause-written c front w =
    let stages = c.args.borrowed.now in
    let text = c.args.text.now in
    let count = c.args.before.characters in
    let at = c.args.before.code_units in
    let block = take 8 (drop at text) in
    let long : length block ≡ 8 =
    length-take-le 8 (drop at text) (omega (arith, length-drop at text, c.requires.block)) in
    let is = c.look_up_block-own.ensures.units ∙
    ap (λ (n : ℕ). map (unit_by_stages stages) (take n (drop at text))) {x = at + 8 - at} {y = 8} (omega arith) in
    let units : count + 8 ≤ length c.args.units.now =
    omega (arith, c.requires.few, c.requires.block, c.requires.units) in
    let starts : count + 8 ≤ length c.args.starts.now =
    omega (arith, c.requires.few, c.requires.block, c.requires.starts) in
    let offsets = c.write_offsets.new.starts in
    let many : length offsets ≡ 8 = omega (arith, starts, c.write_offsets.auto.starts) in
    written_part stages front block 8 (count + 8 - count) c.args.before c.args.units.now
    c.look_up_block-own.new.units c.args.starts.now offsets long is many
    (λ k lt. c.write_offsets.ensures.offsets k (omega (arith, lt, many, c.write_offsets.ensures.len))) units starts w

pub returns-clause-classes : goal.returns-clause-classes
returns-clause-classes c =
    let count = c.args.before.characters in
    let own = c.look_up_block-own in
    let block = take (c.args.before.code_units + 8 - c.args.before.code_units)
    (drop c.args.before.code_units c.args.text.now) in
    let long : length own.new.units ≡ 8 = ap length own.ensures.units ∙
    length-map block (unit_by_stages c.args.borrowed.now) ∙
    length-take-le (c.args.before.code_units + 8 - c.args.before.code_units)
    (drop c.args.before.code_units c.args.text.now)
    (omega (arith, length-drop c.args.before.code_units c.args.text.now, c.requires.block)) ∙ omega arith in
    classes_after c.args.units.now own.new.units count (count + 8 - count) 8 c.joined.result long
    (omega (arith, c.requires.few, c.requires.block, c.requires.units))
    (c.joined.ensures _ _ c.requires.classes own.ensures.classes)
