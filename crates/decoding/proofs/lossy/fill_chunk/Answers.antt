use Rattle.std.proofs.Common.{arith, refl}
use Rattle.decoding.proofs.LossyChunks.{chunk_from, chunk_within}
use Rattle.decoding.proofs.LossyReading.{read_chunk}
use Rattle.decoding.proofs.Utf8Texts.{chars_le}
use Rattle.decoding.proofs.lossy.fill_chunk.Goals as goal

pub fill_str-reached-requires-clause-units : goal.fill_str-reached-requires-clause-units
fill_str-reached-requires-clause-units c =
    let steps = c.in-Some.ensures.steps in
    let chunk = chunk_from c.args.bytes.now c.args.before.code_units c.utf8_chunks.result.rest.now
    c.in-Some.chunk.valid.now c.valid.result.now c.in-Some.chunk.invalid.now c.in-Some.chunk.invalid.now
    c.next.new.self.rest.now
    c.utf8_chunks.ensures.rest c.valid.ensures refl steps.0 steps.3.0 steps.3.1 in
    let within = chunk_within c.args.bytes.now c.valid.result.now c.in-Some.chunk.invalid.now c.next.new.self.rest.now
    c.args.before.code_units c.requires.remaining chunk in
    omega (
      arith,
      within.inside,
      within.some,
      chars_le c.valid.result.now c.valid.utf8,
      c.requires.few,
      c.requires.units,
    )

pub fill_str-reached-requires-clause-starts : goal.fill_str-reached-requires-clause-starts
fill_str-reached-requires-clause-starts c =
    let steps = c.in-Some.ensures.steps in
    let chunk = chunk_from c.args.bytes.now c.args.before.code_units c.utf8_chunks.result.rest.now
    c.in-Some.chunk.valid.now c.valid.result.now c.in-Some.chunk.invalid.now c.in-Some.chunk.invalid.now
    c.next.new.self.rest.now
    c.utf8_chunks.ensures.rest c.valid.ensures refl steps.0 steps.3.0 steps.3.1 in
    let within = chunk_within c.args.bytes.now c.valid.result.now c.in-Some.chunk.invalid.now c.next.new.self.rest.now
    c.args.before.code_units c.requires.remaining chunk in
    omega (
      arith,
      within.inside,
      within.some,
      chars_le c.valid.result.now c.valid.utf8,
      c.requires.few,
      c.requires.starts,
    )

pub fill_str-reached-requires-clause-small : goal.fill_str-reached-requires-clause-small
fill_str-reached-requires-clause-small c =
    let steps = c.in-Some.ensures.steps in
    let chunk = chunk_from c.args.bytes.now c.args.before.code_units c.utf8_chunks.result.rest.now
    c.in-Some.chunk.valid.now c.valid.result.now c.in-Some.chunk.invalid.now c.in-Some.chunk.invalid.now
    c.next.new.self.rest.now
    c.utf8_chunks.ensures.rest c.valid.ensures refl steps.0 steps.3.0 steps.3.1 in
    let within = chunk_within c.args.bytes.now c.valid.result.now c.in-Some.chunk.invalid.now c.next.new.self.rest.now
    c.args.before.code_units c.requires.remaining chunk in
    omega (arith, within.inside, within.some, chars_le c.valid.result.now c.valid.utf8, c.requires.small)

pub fill_replaced-requires-clause-units : goal.fill_replaced-requires-clause-units
fill_replaced-requires-clause-units c =
    let steps = c.in-Some.ensures.steps in
    let chunk = chunk_from c.args.bytes.now c.args.before.code_units c.utf8_chunks.result.rest.now
    c.in-Some.chunk.valid.now c.valid.result.now c.in-Some.chunk.invalid.now c.invalid.result.now
    c.next.new.self.rest.now
    c.utf8_chunks.ensures.rest c.valid.ensures c.invalid.ensures steps.0 steps.3.0 steps.3.1 in
    let within = chunk_within c.args.bytes.now c.valid.result.now c.invalid.result.now c.next.new.self.rest.now
    c.args.before.code_units c.requires.remaining chunk in
    omega (
      arith,
      within.inside,
      within.some,
      chars_le c.valid.result.now c.valid.utf8,
      c.fill_str-reached.ensures.characters,
      c.fill_str-reached.ensures.code_units,
      c.fill_str-reached.ensures.units_len,
      c.fill_str-reached.ensures.starts_len,
      c.requires.few,
      c.requires.units,
    )

pub fill_replaced-requires-clause-starts : goal.fill_replaced-requires-clause-starts
fill_replaced-requires-clause-starts c =
    let steps = c.in-Some.ensures.steps in
    let chunk = chunk_from c.args.bytes.now c.args.before.code_units c.utf8_chunks.result.rest.now
    c.in-Some.chunk.valid.now c.valid.result.now c.in-Some.chunk.invalid.now c.invalid.result.now
    c.next.new.self.rest.now
    c.utf8_chunks.ensures.rest c.valid.ensures c.invalid.ensures steps.0 steps.3.0 steps.3.1 in
    let within = chunk_within c.args.bytes.now c.valid.result.now c.invalid.result.now c.next.new.self.rest.now
    c.args.before.code_units c.requires.remaining chunk in
    omega (
      arith,
      within.inside,
      within.some,
      chars_le c.valid.result.now c.valid.utf8,
      c.fill_str-reached.ensures.characters,
      c.fill_str-reached.ensures.code_units,
      c.fill_str-reached.ensures.units_len,
      c.fill_str-reached.ensures.starts_len,
      c.requires.few,
      c.requires.starts,
    )

pub fill_replaced-requires-clause-small : goal.fill_replaced-requires-clause-small
fill_replaced-requires-clause-small c =
    let steps = c.in-Some.ensures.steps in
    let chunk = chunk_from c.args.bytes.now c.args.before.code_units c.utf8_chunks.result.rest.now
    c.in-Some.chunk.valid.now c.valid.result.now c.in-Some.chunk.invalid.now c.invalid.result.now
    c.next.new.self.rest.now
    c.utf8_chunks.ensures.rest c.valid.ensures c.invalid.ensures steps.0 steps.3.0 steps.3.1 in
    let within = chunk_within c.args.bytes.now c.valid.result.now c.invalid.result.now c.next.new.self.rest.now
    c.args.before.code_units c.requires.remaining chunk in
    omega (
      arith,
      within.inside,
      within.some,
      chars_le c.valid.result.now c.valid.utf8,
      c.fill_str-reached.ensures.characters,
      c.fill_str-reached.ensures.code_units,
      c.fill_str-reached.ensures.units_len,
      c.fill_str-reached.ensures.starts_len,
      c.requires.small,
    )

pub returns-clause-more : goal.returns-clause-more
returns-clause-more c =
    let steps = c.in-Some.ensures.steps in
    let chunk = chunk_from c.args.bytes.now c.args.before.code_units c.utf8_chunks.result.rest.now
    c.in-Some.chunk.valid.now c.valid.result.now c.in-Some.chunk.invalid.now c.invalid.result.now
    c.next.new.self.rest.now
    c.utf8_chunks.ensures.rest c.valid.ensures c.invalid.ensures steps.0 steps.3.0 steps.3.1 in
    let within = chunk_within c.args.bytes.now c.valid.result.now c.invalid.result.now c.next.new.self.rest.now
    c.args.before.code_units c.requires.remaining chunk in
    omega (
      arith,
      within.inside,
      within.some,
      chars_le c.valid.result.now c.valid.utf8,
      c.fill_str-reached.ensures.characters,
      c.fill_str-reached.ensures.code_units,
      c.fill_str-reached.ensures.units_len,
      c.fill_str-reached.ensures.starts_len,
      c.fill_replaced.ensures.characters,
      c.fill_replaced.ensures.code_units,
    )

pub returns-clause-inside : goal.returns-clause-inside
returns-clause-inside c =
    let steps = c.in-Some.ensures.steps in
    let chunk = chunk_from c.args.bytes.now c.args.before.code_units c.utf8_chunks.result.rest.now
    c.in-Some.chunk.valid.now c.valid.result.now c.in-Some.chunk.invalid.now c.invalid.result.now
    c.next.new.self.rest.now
    c.utf8_chunks.ensures.rest c.valid.ensures c.invalid.ensures steps.0 steps.3.0 steps.3.1 in
    let within = chunk_within c.args.bytes.now c.valid.result.now c.invalid.result.now c.next.new.self.rest.now
    c.args.before.code_units c.requires.remaining chunk in
    omega (
      arith,
      within.inside,
      within.some,
      chars_le c.valid.result.now c.valid.utf8,
      c.fill_str-reached.ensures.characters,
      c.fill_str-reached.ensures.code_units,
      c.fill_str-reached.ensures.units_len,
      c.fill_str-reached.ensures.starts_len,
      c.fill_replaced.ensures.characters,
      c.fill_replaced.ensures.code_units,
    )

pub returns-clause-few : goal.returns-clause-few
returns-clause-few c =
    let steps = c.in-Some.ensures.steps in
    let chunk = chunk_from c.args.bytes.now c.args.before.code_units c.utf8_chunks.result.rest.now
    c.in-Some.chunk.valid.now c.valid.result.now c.in-Some.chunk.invalid.now c.invalid.result.now
    c.next.new.self.rest.now
    c.utf8_chunks.ensures.rest c.valid.ensures c.invalid.ensures steps.0 steps.3.0 steps.3.1 in
    let within = chunk_within c.args.bytes.now c.valid.result.now c.invalid.result.now c.next.new.self.rest.now
    c.args.before.code_units c.requires.remaining chunk in
    omega (
      arith,
      within.inside,
      within.some,
      chars_le c.valid.result.now c.valid.utf8,
      c.fill_str-reached.ensures.characters,
      c.fill_str-reached.ensures.code_units,
      c.fill_str-reached.ensures.units_len,
      c.fill_str-reached.ensures.starts_len,
      c.fill_replaced.ensures.characters,
      c.fill_replaced.ensures.code_units,
      c.requires.few,
    )

pub returns-clause-read : goal.returns-clause-read
returns-clause-read c front r =
    let steps = c.in-Some.ensures.steps in
    let chunk = chunk_from c.args.bytes.now c.args.before.code_units c.utf8_chunks.result.rest.now
    c.in-Some.chunk.valid.now c.valid.result.now c.in-Some.chunk.invalid.now c.invalid.result.now
    c.next.new.self.rest.now
    c.utf8_chunks.ensures.rest c.valid.ensures c.invalid.ensures steps.0 steps.3.0 steps.3.1 in
    let within = chunk_within c.args.bytes.now c.valid.result.now c.invalid.result.now c.next.new.self.rest.now
    c.args.before.code_units c.requires.remaining chunk in
    read_chunk c.args.tables.now c.args.bytes.now front c.valid.result.now c.invalid.result.now c.next.new.self.rest.now
    c.args.before c.fill_replaced.result c.args.units.now c.fill_replaced.new.units c.args.starts.now
    c.fill_replaced.new.starts c.requires.remaining chunk
    (omega (arith, c.fill_str-reached.ensures.code_units, c.fill_replaced.ensures.code_units)) r
    (c.fill_replaced.ensures.written _ (c.fill_str-reached.ensures.written front r.written))
