use Rattle.std.proofs.Common.{◌≡◌, ◌≤◌, arith, length, refl, subst, sym}
use Rattle.std.proofs.lemmas.List.{get_or_past}
use Rattle.units.specs.Layout.{LineLayout}
use Rattle.lines.specs.Layouts.{line_at, no_line}
use Rattle.room.specs.Showing.{AreShown}
use Rattle.room.specs.Written.{Writes}
use Rattle.for_c.proofs.shown.write_shown.Goals as goal

pub returns-then-line_count-k : goal.returns-then-line_count-k
returns-then-line_count-k c =
    let room = c.args.room.now in
    let past : length room.layout.lines ≤ c.args.k = omega (arith, c.line_count.ensures, c.if-line_count-k.true) in
    let none : line_at room.layout c.args.k ≡ no_line = get_or_past room.layout.lines c.args.k no_line past in
    record {
      shown = λ _. subst (λ (l : LineLayout).
          Writes (length l.order) (AreShown c.args.tables.now room c.args.codes.now l.order) 0 c.args.out.now
          c.args.out.now) (sym none) (record {
            count = refl;
            written = λ _ i lt. absurd (omega (arith, lt));
            following = refl;
            unchanged = λ _. refl;
          });
      other = λ ne. absurd (ne (omega (arith, c.characters.ensures, c.if-codes-characters.false)));
    }
