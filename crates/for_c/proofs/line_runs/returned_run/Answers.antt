use Rattle.std.proofs.Common.{◌≤◌, ap, arith, inl, inr}
use Rattle.std.proofs.lemmas.Bool.{cases_lt}
use Rattle.room.specs.Rooms.{offset_in}
use Rattle.for_c.proofs.line_runs.returned_run.Goals as goal

pub run_for_c-requires : goal.run_for_c-requires
run_for_c-requires c =
    let room = c.args.room.now in
    let run = c.args.run in
    let reported : offset_in room run.start ≤ offset_in room run.end = elim (cases_lt run.start run.end) [
      | inl lt ↦ let up = c.offsets_rise.ensures.rising run.start run.end lt c.requires.inside in omega (arith, up)
      | inr ge ↦ let same = ap (offset_in room) {x = run.start} {y = run.end} (omega (arith, ge, c.requires.forward)) in
          omega (arith, same)
    ] in
    rw c.in_units.ensures reported
