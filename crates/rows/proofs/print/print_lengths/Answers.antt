use Rattle.std.proofs.Common.{◌≡◌, ◌∙◌, ◌+◌, ◌-◌, ◌≤◌, ℕ, List, length, take, ap, arith}
use Rattle.std.specs.List.{flat_map}
use Rattle.std.proofs.lemmas.List.{length-take}
use Rattle.units.specs.Limits.{standard}
use Rattle.units.specs.Positions.{positions_from}
use Rattle.printing.proofs.Appending.{Appends-to}
use Rattle.printing.proofs.Printing.{nothing_printed, one_more_printed}
use Rattle.rows.specs.RowTexts.{cases_text}
use Rattle.rows.specs.declared.letter.Letter.{Letter}
use Rattle.rows.specs.Exhaustive.{cases_between, cases_of_length}
use Rattle.rows.proofs.JoinedTexts.{text-between}
use Rattle.rows.proofs.RoomsUnchanged.{room-unchanged, room-still}
use Rattle.rows.proofs.RowTextsOf.{few-of-length}
use Rattle.rows.proofs.print.print_lengths.Goals as goal

pub loop-len-init : goal.loop-len-init
loop-len-init g c = record {
  printed = rw c.least-len.ensures (nothing_printed _ _ _);
  stays =
      omega (arith, c.least-len.ensures);
  room = room-unchanged _;
}

pub print_length-requires-clause-few : goal.print_length-requires-clause-few
print_length-requires-clause-few g c =
    let within : c.loop-len.len ≤ c.args.texts.now.greatest =
    omega (arith, c.loop-len-test.true, c.greatest-len-end.ensures.value) in
    let size : length (take c.loop-len.len c.loop-len.row) ≡ c.loop-len.len =
    omega (arith, length-take c.loop-len.len c.loop-len.row, c.loop-len.auto.row, c.requires.row) in
    rw (c.alphabet-alphabet.ensures, size) (few-of-length c.args.texts.now c.loop-len.len c.requires.counted within)

pub loop-len-preserved : goal.loop-len-preserved
loop-len-preserved g c =
    let within : c.loop-len.len ≤ c.args.texts.now.greatest =
    omega (arith, c.loop-len-test.true, c.greatest-len-end.ensures.value) in
    let size : length (take c.loop-len.len c.loop-len.row) ≡ c.loop-len.len =
    omega (arith, length-take c.loop-len.len c.loop-len.row, c.loop-len.auto.row, c.requires.row) in
    let from : c.args.texts.now.least ≤ c.loop-len.len = omega (arith, c.least-len.ensures, c.loop-len.auto.len) in
    let same = ap (λ (n : ℕ).
    cases_text standard c.args.kind (cases_of_length c.alphabet-alphabet.result.now c.args.directions.now n)) size
    in
    record {
      printed = one_more_printed _ _ _ _ _ _ from c.loop-len.invariant.printed
          (Appends-to _ _ _ _ same c.in_ok-print_length.ensures.printed);
      stays = omega arith;
      room = room-still _ _ _ c.loop-len.invariant.room c.print_length.ensures.room;
    }

pub returns-clause-printed : goal.returns-clause-printed
returns-clause-printed g c =
    let alphabet = c.alphabet-alphabet.result.now in
    let directions = c.args.directions.now in
    let least = c.args.texts.now.least in
    let end = c.args.texts.now.greatest + 1 in
    let count : c.loop-len.len - least ≡ end - least =
    omega (
      arith,
      c.loop-len-test.false,
      c.greatest-len-end.ensures.value,
      c.least-len.ensures,
      c.loop-len.auto.len,
      c.loop-len.invariant.stays,
    ) in
    let text = λ (n : ℕ). cases_text standard c.args.kind (cases_of_length alphabet directions n) in
    let path = ap (λ (n : ℕ). flat_map text (positions_from least n)) count
    ∙ text-between standard c.args.kind (cases_of_length alphabet directions) least end
    ∙ ap (λ (al : List Letter).
    cases_text standard c.args.kind (cases_between (cases_of_length al directions) least end))
    c.alphabet-alphabet.ensures in
    Appends-to _ _ _ _ path c.loop-len.invariant.printed.grown
