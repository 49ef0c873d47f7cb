-- The rules of a sequence, one after another.
use Rattle.std.specs.Prelude.{Option, ℕ, ◌≡◌, List}
use Rattle.std.proofs.Common.{ap, ◌∙◌, subst}
use Rattle.units.specs.Classes.{classes_at}
use Rattle.units.specs.Layout.{after_brackets, after_rules, brackets_of}
use Rattle.units.specs.Neutral.{after_neutral}
use Rattle.units.specs.Runs.{SequenceView, direction_of}
use Rattle.units.specs.Weak.{after_weak}
use Rattle.units.specs.declared.bracket.Unit.{Unit as BidiUnit}
use Rattle.units.specs.declared.class.Class.{Class}
use Rattle.resolve.specs.InOrder.{AfterEach, AreColumnsInOrder, AreResolved}
use Rattle.resolve.specs.Paired.{HoldsPairsAfterWeak, RewritesByBrackets}
use Rattle.resolve.specs.Pairs.{HoldsPairs, HoldsPairsOf}
use Rattle.resolve.specs.Raised.{Raises}
use Rattle.resolve.specs.Resolved.{Resolves}
use Rattle.resolve.specs.Rewritten.{Rewrites}
use Rattle.resolve.proofs.Resolved.{levels_from}

module _ (most_open : ℕ) (s : SequenceView) (us : List BidiUnit) (before old weak : List Class)
    (copy : classes_at old s.positions ≡ classes_at before s.positions)
    (by_weak : Rewrites (after_weak s.sos) s.positions old weak) where
  abbrev own : List Class
  own = classes_at before s.positions

  weakened : classes_at weak s.positions ≡ after_weak s.sos own
  weakened = by_weak.values ∙ ap (after_weak s.sos) copy

  pub resolves_by : (paired new : List Class) (old_levels levels : List (Option ℕ)) →
      RewritesByBrackets most_open s us before weak paired →
      Rewrites (after_neutral (direction_of s.level) s.sos s.eos) s.positions paired new →
      Raises s.level new s.positions old_levels levels →
      Resolves most_open s us before old new old_levels levels
  resolves_by paired new old_levels levels brackets neutral raised =
      let last : classes_at new s.positions ≡ after_rules most_open s us own =
      neutral.values ∙ ap (after_neutral (direction_of s.level) s.sos s.eos) (brackets.values ∙
      ap (after_brackets most_open s us own) weakened) in
      record {
        levels = levels_from most_open s us before new old_levels levels last raised;
        other_levels = raised.others;
        classes = last;
        other_classes = λ p h. neutral.others p h ∙ brackets.others p h ∙ by_weak.others p h;
      }

  pub pairs_by : (table : List (Option ℕ)) → HoldsPairs most_open s.positions us weak table →
      HoldsPairsAfterWeak most_open s us before table
  pairs_by table stored = let P : List Class → Type 0 =
      λ cs. HoldsPairsOf most_open s.positions (brackets_of s us cs) table in subst P weakened stored

pub resolved-in-order : (most_open : ℕ) (s : SequenceView) (us : List BidiUnit) (before old_classes : List Class)
    (old_levels : List (Option ℕ)) (after : AfterEach) →
    AreColumnsInOrder most_open s us before old_classes old_levels after →
    AreResolved most_open s us before old_classes old_levels after
resolved-in-order most_open s us before old_classes old_levels after remaining = record {
  resolved = resolves_by most_open s us before old_classes after.weak remaining.copy remaining.weak after.paired
      after.neutral old_levels after.levels (remaining.paired most_open us remaining.closers) remaining.neutral
      remaining.levels;
  pairs = pairs_by most_open s us before old_classes after.weak remaining.copy remaining.weak after.closers
      remaining.closers;
}
