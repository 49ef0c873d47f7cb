-- What a room shows after its scratch was written.
use Rattle.std.proofs.Common.{◌≡◌, ◌∙◌, ◌+◌, ℕ, Bool, List, ap, length, map, subst, sym, take, true, false}
use Rattle.std.specs.Prelude.{slice_index}
use Rattle.std.specs.Box.{boxed_slice_items}
use Rattle.std.proofs.lemmas.List.{map-id}
use Rattle.units.specs.Layout.{TextLayout, layout_of}
use Rattle.units.specs.declared.bracket.Unit.{Unit as BidiUnit}
use Rattle.lines.proofs.Lengths.{length-levels}
use Rattle.lines.specs.LineBreaks.{AreBreaks}
use Rattle.lines.specs.Scratches.{layout_in}
use Rattle.room.specs.Insides.{offsets_if, seen}
use Rattle.room.specs.Rooms.{IsBrokenAt, offset_by}
use Rattle.room.specs.declared.room.Room.TheInside.{Inside}

-- it shows these units, broken at the breaks
pub record Shows (a : Inside) (us : List BidiUnit) (breaks : List ℕ) : Type 0 where
  pub count : length (layout_in a.scratch).levels ≡ length us
  pub units : (seen a).text.units ≡ us
  pub broken : IsBrokenAt breaks (seen a)

module _ (a : Inside) (us : List BidiUnit) (indices : List ℕ) (laid : layout_in a.scratch ≡
    layout_of a.limits us a.direction indices) (front : take (length us) (boxed_slice_items a.units) ≡ us) where
  count : length (layout_in a.scratch).levels ≡ length us
  count = ap (λ (v : TextLayout). length v.levels) laid ∙ length-levels a.limits us a.direction indices

  units : (seen a).text.units ≡ us
  units = ap (λ (k : ℕ). take k (boxed_slice_items a.units)) count ∙ front

  inside : AreBreaks indices (length us) → AreBreaks indices (length (layout_in a.scratch).levels)
  inside are = subst (AreBreaks indices) (sym count) are

  -- characters begin at their positions
  pub shows_plain : AreBreaks indices (length us) → a.spelled ≡ false → Shows a us indices
  shows_plain are plain =
      record {
        count = count;
        units = units;
        broken = record {
          indices = indices;
          inside = inside are;
          begin = ap (λ (b : Bool).
              map (offset_by (offsets_if b (take (length (layout_in a.scratch).levels + 1)
              (boxed_slice_items a.starts)))) indices) plain ∙ map-id indices;
          laid_out = laid ∙ ap (λ (xs : List BidiUnit). layout_of a.limits xs a.direction indices) (sym units);
        };
      }

  -- they begin at these offsets
  pub starts_shown : (starts : List ℕ) → take (length us + 1) (boxed_slice_items a.starts) ≡ starts →
      take (length (layout_in a.scratch).levels + 1) (boxed_slice_items a.starts) ≡ starts
  starts_shown starts begin = ap (λ (k : ℕ). take (k + 1) (boxed_slice_items a.starts)) count ∙ begin

  pub shows_spelled : AreBreaks indices (length us) → (starts breaks : List ℕ) → a.spelled ≡ true →
      take (length us + 1) (boxed_slice_items a.starts) ≡ starts
      → map (slice_index starts) indices ≡ breaks → Shows a us breaks
  shows_spelled are starts breaks spelled begin found =
      record {
        count = count;
        units = units;
        broken = record {
          indices = indices;
          inside = inside are;
          begin = ap (λ (b : Bool).
              map (offset_by (offsets_if b (take (length (layout_in a.scratch).levels + 1)
              (boxed_slice_items a.starts)))) indices) spelled
              ∙ ap (λ (xs : List ℕ). map (slice_index xs) indices) (starts_shown starts begin) ∙ found;
          laid_out = laid ∙ ap (λ (xs : List BidiUnit). layout_of a.limits xs a.direction indices) (sym units);
        };
      }
