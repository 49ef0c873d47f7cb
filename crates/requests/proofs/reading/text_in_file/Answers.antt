use Rattle.std.proofs.Common.{rules}
use Rattle.std.specs.Str.{IsUtf8}
use Rattle.std.proofs.lemmas.Str.{chars_from_encodes}
use Rattle.requests.proofs.reading.text_in_file.Goals as goal

pub returns-in-Ok-clause-text : goal.returns-in-Ok-clause-text
returns-in-Ok-clause-text g c =
    let utf8 : IsUtf8 c.in_ok-bytes.bytes.items = search rules in
    record {
      bytes = c.in_ok-bytes.bytes.items;
      begins = c.in_ok-bytes.ensures.begins;
      read = c.in_ok-bytes.ensures.bytes;
      utf8 = utf8;
      text_is = search (rules, chars_from_encodes);
    }
