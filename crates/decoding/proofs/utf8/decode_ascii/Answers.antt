use Rattle.std.proofs.Common.{◌≡◌, ◌≤◌, ◌+◌, ◌-◌, ◌∙◌, ℕ, ap, arith, drop, length, map, take}
use Rattle.std.proofs.lemmas.List.{length-drop, length-map, length-take-le}
use Rattle.ucdfiles.specs.UnitStages.{unit_by_stages}
use Rattle.decoding.specs.Encodings.{utf8_text}
use Rattle.decoding.proofs.Gathering.{classes_after}
use Rattle.decoding.proofs.BlockReading.{read_block, written_part}
use Rattle.decoding.proofs.utf8.decode_ascii.Goals as goal

pub returns-clause-read : goal.returns-clause-read
returns-clause-read c =
    let stages = c.args.borrowed.now in
    let text = c.args.bytes.now in
    let count = c.args.before.reached.characters in
    let at = c.args.before.reached.code_units in
    let block = take 16 (drop at text) in
    let long : length block ≡ 16 =
    length-take-le 16 (drop at text) (omega (arith, length-drop at text, c.requires.remaining)) in
    let is = c.write_ascii-own.ensures.units ∙
    ap (λ (n : ℕ). map (unit_by_stages stages) (take n (drop at text))) {x = at + 16 - at} {y = 16} (omega arith) in
    let units : count + 16 ≤ length c.args.units.now =
    omega (arith, c.requires.read.few, c.requires.remaining, c.requires.units) in
    let starts : count + 16 ≤ length c.args.starts.now =
    omega (arith, c.requires.read.few, c.requires.remaining, c.requires.starts) in
    let offsets = c.write_offsets.new.starts in
    let many : length offsets ≡ 16 = omega (arith, starts, c.write_offsets.auto.starts) in
    read_block stages text 16 c.args.before.reached c.args.units.now _ c.args.starts.now _ c.requires.remaining c.requires.ascii
    c.requires.read
    (written_part stages (utf8_text (take at text)) block 16 (count + 16 - count) c.args.before.reached c.args.units.now
    c.write_ascii-own.new.units c.args.starts.now offsets long is many
    (λ k lt. c.write_offsets.ensures.offsets k (omega (arith, lt, many, c.write_offsets.ensures.len))) units
    starts c.requires.read.written)

pub returns-clause-classes : goal.returns-clause-classes
returns-clause-classes c =
    let count = c.args.before.reached.characters in
    let at = c.args.before.reached.code_units in
    let text = c.args.bytes.now in
    let own = c.write_ascii-own in
    let block = take (at + 16 - at) (drop at text) in
    let long : length own.new.units ≡ 16 = ap length own.ensures.units ∙
    length-map block (unit_by_stages c.args.borrowed.now) ∙
    length-take-le (at + 16 - at) (drop at text) (omega (arith, length-drop at text, c.requires.remaining)) ∙ omega arith in
    classes_after c.args.units.now own.new.units count (count + 16 - count) 16 c.joined.result long
    (omega (arith, c.requires.read.few, c.requires.remaining, c.requires.units))
    (c.joined.ensures _ _ c.requires.classes own.ensures.classes)
