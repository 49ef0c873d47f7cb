use Rattle.std.proofs.Common.{◌≡◌, map, length, ap, sym, ◌∙◌, rules}
use Rattle.std.proofs.lemmas.List.{length-map}
use Rattle.units.specs.Isolates.{level_of_para}
use Rattle.units.specs.Layout.{TextLayout, layout_of, para_levels_of}
use Rattle.units.specs.Paragraphs.{paragraphs_of}
use Rattle.bidtests.specs.Comparisons.{HasNoWrongPlace}
use Rattle.bidtests.specs.Readings.{expected_of}
use Rattle.bidtests.proofs.SameLayout.{also-right}
use Rattle.bidtests.proofs.compare.compare_with.Goals as goal

pub returns-in-None : goal.returns-in-None
unfolding layout_of
returns-in-None c =
    λ limits direction laid.
    let right : HasNoWrongPlace limits (expected_of c.args.expected) direction = search rules in
    let paras : map level_of_para c.para_levels-in-None.result.now ≡ para_levels_of c.args.expected.text.now direction =
    c.para_levels-in-None.ensures ∙ ap (λ (v : TextLayout). v.paras) laid in (
      right,
      also-right limits (expected_of c.args.expected) direction c.direction_by_level.result
          (map level_of_para c.para_levels-in-None.result.now) paras c.direction_by_level.ensures.level right,
      λ one. c.direction_by_level.ensures.one (sym (length-map c.para_levels-in-None.result.now level_of_para) ∙
          ap length paras ∙ length-map (paragraphs_of c.args.expected.text.now) _ ∙ one),
    )
