-- Breaks that are rejected, if characters begin at the same offsets.
use Rattle.std.proofs.Common.{◌≡◌, ◌∙◌, ◌≤◌, ℕ, List, sym}
use Rattle.std.specs.Prelude.{slice_index}
use Rattle.sources.specs.Asks.{AskOf}
use Rattle.room.specs.Boundaries.{IsBoundary, RejectsBreaks}
use Rattle.room.specs.Leaving.{Fits, Rejects}
use Rattle.room.specs.Rooms.{RoomOf}
use Rattle.sources.specs.Sources.{IsWellFormed, characters_of, size_of, source_offset}
use Rattle.room.specs.declared.fault.LayoutFault.{LayoutFault}
use Rattle.room.specs.declared.fault.LayoutFault.TheVariants.{NoOffsets, TooLong, IllFormed, Break, BreakInside}

module _ (f g : ℕ → ℕ) (n : ℕ) (same : (k : ℕ) → k ≤ n → f k ≡ g k) where
  boundary : (at : ℕ) → IsBoundary f n at → IsBoundary g n at
  boundary at b = record { index = b.index; inside = b.inside; begins = sym (same b.index b.inside) ∙ b.begins }

  of_boundary : (at : ℕ) → IsBoundary g n at → IsBoundary f n at
  of_boundary at b = record { index = b.index; inside = b.inside; begins = same b.index b.inside ∙ b.begins }

  pub rejects_alike : (size : ℕ) (breaks : List ℕ) (fault : LayoutFault) → RejectsBreaks f n size breaks fault →
      RejectsBreaks g n size breaks fault
  rejects_alike size breaks NoOffsets h = absurd h
  rejects_alike size breaks TooLong h = absurd h
  rejects_alike size breaks (IllFormed at) h = absurd h
  rejects_alike size breaks (Break fault) h = h
  rejects_alike size breaks (BreakInside index) h = (
    h.0,
    record {
      inside = h.1.inside;
      between = λ b. h.1.between (of_boundary (slice_index breaks index) b);
      earlier = λ i lt. boundary (slice_index breaks i) (h.1.earlier i lt);
    },
  )

-- a text whose characters are well formed is rejected for its breaks
pub rejects_text : (ask : AskOf) (room : RoomOf) (fault : LayoutFault) → Fits ask.source room → IsWellFormed ask.source
    → RejectsBreaks (source_offset ask.source) (characters_of ask.source) (size_of ask.source) ask.breaks fault →
    Rejects ask room fault
rejects_text ask room NoOffsets fits is h = absurd h
rejects_text ask room TooLong fits is h = absurd h
rejects_text ask room (IllFormed at) fits is h = absurd h
rejects_text ask room (Break fault) fits is h = (fits, λ _. is, h)
rejects_text ask room (BreakInside index) fits is h = (fits, λ _. is, h)
