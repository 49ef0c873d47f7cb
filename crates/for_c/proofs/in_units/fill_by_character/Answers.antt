use Rattle.std.proofs.Common.{◌≡◌, ◌∙◌, ◌<◌, ◌≤◌, ◌+◌, ℕ, List, Option, None, ap, arith, get_or, inl, inr, length}
use Rattle.std.proofs.lemmas.Bool.{cases_lt}
use Rattle.std.proofs.lemmas.List.{get_or_default}
use Rattle.units.specs.Layout.{TextLayout}
use Rattle.room.specs.Rooms.{characters_in, offset_in}
use Rattle.room.specs.Looking.{size_in}
use Rattle.room.proofs.LevelPass.{at_inside, one_more}
use Rattle.for_c.specs.LevelBytes.{level_byte}
use Rattle.for_c.proofs.in_units.fill_by_character.Goals as goal

pub loop-k-preserved : goal.loop-k-preserved
loop-k-preserved c =
    let room = c.args.room.now in
    let l = c.loop-k in
    let levels : c.levels-levels.result.now ≡ room.layout.levels = c.levels-levels.ensures ∙
    ap (λ (v : TextLayout). v.levels) c.layout-layout.ensures.layout in
    let within : l.k < length c.levels-levels.result.now = omega (arith, c.loop-k-test.true, l.auto.k-end) in
    let inside : l.k < characters_in room = omega (arith, ap length levels, within) in
    let whole : offset_in room (l.k + 1) ≤ size_in room = elim (cases_lt (l.k + 1) (characters_in room)) [
      | inl lt ↦ let up = c.offsets_rise.ensures.rising (l.k + 1) (characters_in room) lt (omega arith) in
          omega (arith, up)
      | inr ge ↦ let same = ap (offset_in room) {x = l.k + 1} {y = characters_in room} (omega (arith, ge, inside)) in
          omega (arith, same)
    ] in
    let fits : c.offset_of-to.result ≤ length l.out =
    omega (arith, whole, c.offset_of-to.ensures, l.auto.out, c.requires) in
    let item : c.index-levels-k.result ≡ get_or room.layout.levels l.k None = c.index-levels-k.is ∙
    get_or_default c.levels-levels.result.now l.k c.index-levels-k.result None within ∙
    ap (λ (vs : List (Option ℕ)). get_or vs l.k None) levels in
    let level : c.byte_of.result ≡ level_byte (get_or room.layout.levels l.k None) =
    c.byte_of.ensures ∙ ap level_byte item in (
      c.offset_of-to.ensures,
      one_more room c.offsets_rise.ensures.rising level_byte 0 l.out c.put.new.out l.k l.from c.offset_of-to.result
          c.byte_of.result l.invariant.0 c.offset_of-to.ensures inside fits level c.put.ensures.put c.put.ensures.others
          l.invariant.1,
    )

pub returns-clause-levels : goal.returns-clause-levels
returns-clause-levels c at k is =
    let room = c.args.room.now in
    let l = c.loop-k in
    let levels : c.levels-levels.result.now ≡ room.layout.levels = c.levels-levels.ensures ∙
    ap (λ (v : TextLayout). v.levels) c.layout-layout.ensures.layout in
    let all : l.k ≡ characters_in room = omega (arith, ap length levels, c.loop-k-test.false, l.auto.k-end) in
    let end = ap (offset_in room) {x = l.k} {y = characters_in room} all in
    let inside = at_inside room c.offsets_rise.ensures.rising at k is in
    l.invariant.1 at k (omega (arith, inside, end, l.invariant.0)) is
