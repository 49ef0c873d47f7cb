use Rattle.std.proofs.Common.{◌≡◌, ◌∙◌, ap, length, map, sym}
use Rattle.std.proofs.lemmas.List.{length-map}
use Rattle.units.specs.Isolates.{level_of_para}
use Rattle.units.specs.Layout.{TextLayout, layout_of, para_levels_of}
use Rattle.lines.specs.LineBreaks.{BreaksView}
use Rattle.bidtests.specs.LaidOut.{IsLaidOut}
use Rattle.bidtests.proofs.SameLayout.{also-laid-out}
use Rattle.bidtests.proofs.laid_out.lay_out_under.Goals as goal

pub returns : goal.returns
unfolding layout_of
returns c =
    let text = c.args.text.now in
    let limits = c.args.limits in
    let laid : IsLaidOut limits text c.lay_out_into_with.new.room c.args.direction = record {
      filled = rw c.unwrap.ensures at c.lay_out_into_with.ensures.filled;
      layout = (rw c.unwrap.ensures at c.lay_out_into_with.ensures.laid_out)
          ∙ ap (λ (breaks : BreaksView).
          layout_of limits text c.args.direction breaks.positions) c.no_breaks-breaks.ensures;
    } in
    let paras : map level_of_para c.para_levels.result.now ≡ para_levels_of text c.args.direction =
    c.para_levels.ensures ∙ ap (λ (v : TextLayout). v.paras) (c.layout.ensures ∙ laid.layout) in
    record {
      laid_out = laid;
      same = also-laid-out limits text c.lay_out_into_with.new.room c.args.direction c.direction_by_level.result _ paras
          c.direction_by_level.ensures.level laid;
      known = λ one. c.direction_by_level.ensures.one (sym (length-map c.para_levels.result.now level_of_para)
          ∙ ap length (c.para_levels.ensures ∙ ap (λ (v : TextLayout). v.paras) c.layout.ensures) ∙ one);
      room = c.lay_out_into_with.ensures.room;
    }
