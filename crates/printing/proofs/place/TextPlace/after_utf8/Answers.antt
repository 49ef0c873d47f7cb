use Rattle.std.proofs.Common.{◌+◌, ◌∙◌, [], ap, length}
use Rattle.std.specs.List.{count_by}
use Rattle.printing.specs.ReadTexts.{utf8_front}
use Rattle.printing.specs.TextPlaces.{ends_line}
use Rattle.printing.proofs.TextPlaces.{after_more}
use Rattle.printing.proofs.place.TextPlace.after_utf8.Goals as goal

pub returns : goal.returns
returns c =
    let same = c.as_bytes.ensures.value ∙ c.utf8_front.ensures in
    after_more _ _ [] (utf8_front c.args.bytes.now) c.start.ensures (record {
      line = c.after.ensures.line ∙ ap (λ xs. c.start.result.line + count_by ends_line xs) same;
      offset = c.after.ensures.offset ∙ ap (λ xs. c.start.result.offset + length xs) same;
    })
