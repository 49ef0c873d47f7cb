use Rattle.std.proofs.Common.{◌≡◌, ◌≤◌, arith, length, refl, subst, sym}
use Rattle.std.specs.Char.{encode_utf8}
use Rattle.std.specs.List.{flat_map}
use Rattle.std.proofs.lemmas.List.{get_or_past}
use Rattle.units.specs.Layout.{LineLayout}
use Rattle.lines.specs.Layouts.{line_at, no_line}
use Rattle.room.specs.ShownUnits.{shown_units_of, utf8_code_at}
use Rattle.room.specs.Written.{WritesWhole}
use Rattle.for_c.proofs.shown.write_shown_utf8.Goals as goal

pub returns-then-line_count-k : goal.returns-then-line_count-k
returns-then-line_count-k c =
    let room = c.args.room.now in
    let past : length room.layout.lines ≤ c.args.k = omega (arith, c.line_count.ensures, c.if-line_count-k.true) in
    let none : line_at room.layout c.args.k ≡ no_line = get_or_past room.layout.lines c.args.k no_line past in
    record {
      shown = λ _. subst (λ (l : LineLayout).
          WritesWhole (flat_map (shown_units_of encode_utf8 (utf8_code_at c.args.text.now) c.args.tables.now room)
          l.order) 0 c.args.out.now c.args.out.now) (sym none) (record {
            count = refl;
            written = λ _. refl;
            following = refl;
            unchanged = λ _. refl;
          });
      other = λ ne. absurd (ne (omega (arith, c.text_len.ensures, c.if-text-text_len.false)));
    }
