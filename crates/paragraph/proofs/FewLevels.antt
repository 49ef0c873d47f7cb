-- A flat paragraph by few of its units.
use Rattle.std.specs.Prelude.{ℕ, Option, true, ◌++◌, ◌≡◌, List, [], length, drop}
use Rattle.std.proofs.Common.{ap, sym, ◌∙◌}
use Rattle.std.proofs.Math.Seq.{drop-append_seam}
use Rattle.std.proofs.lemmas.List.{append-nil}
use Rattle.units.specs.Classes.{classes_of, is_removed}
use Rattle.units.specs.declared.bracket.Unit.{Unit as BidiUnit}
use Rattle.compress.specs.Laid.{RemainAll}
use Rattle.paragraph.proofs.FlatLevels.{none_from, unit_remains}
use Rattle.paragraph.specs.Contents.{has_none}

-- X9: if no class of a paragraph is removed, all its units remain
pub all_remain : (us : List BidiUnit) → has_none is_removed (classes_of us) ≡ true → RemainAll us
all_remain us none p lt = unit_remains us p lt (none_from is_removed (classes_of us) none)

-- the levels of the few units are the last of a paragraph's column, with none after them
pub few_levels : (first : ℕ) (before few after levels : List (Option ℕ)) → length before ≡ first → after ≡ [] → few ≡ levels → drop first (before ++ (few ++ after)) ≡ levels
few_levels first before few after levels long none e =
    ap (λ k. drop k (before ++ (few ++ after))) (sym long) ∙ drop-append_seam before (few ++ after) ∙ ap (λ ls. few ++ ls) none ∙ append-nil few ∙ e
