-- The ends of lines: breaks, and the ends of paragraphs (P1).
use Rattle.std.specs.Prelude.{ℕ, zero, suc, ◌+◌, ◌-◌, ◌<◌, ◌≤◌, ◌≡◌, Bool, true, false, List, length, slice_index}
use Rattle.units.specs.Classes.{class_at, classes_of, is_separator}
use Rattle.units.specs.Reordering.{begins_line}
use Rattle.units.specs.declared.bracket.Unit.{Unit as BidiUnit}
use Rattle.units.specs.declared.class.Class.{Class}
use Rattle.lines.specs.Bounds.{bound_at, first_bound}
use Rattle.lines.specs.declared.bounds.Bound.{Bound}

-- P1: the paragraph that begins at start ends after its first separator, or at the end of the text
pub record IsParagraphAt (own : List Class) (start end : ℕ) : Type 0 where
  pub above : start < end
  pub within : end ≤ length own
  pub joined : (p : ℕ) → start < p → p < end → is_separator (class_at own (p - 1)) ≡ false
  pub closed : end < length own → is_separator (class_at own (end - 1)) ≡ true

-- P1: the start of the paragraph with the number k, from the ends of the paragraphs
abbrev pub paragraph_start : List ℕ → ℕ → ℕ
paragraph_start ends zero = 0
paragraph_start ends (suc k) = slice_index ends k

-- the list rises
abbrev pub Rises : List ℕ → Type 0
Rises ends = (j k : ℕ) → j < k → k < length ends → slice_index ends j < slice_index ends k

-- P1: the ends of the paragraphs of the text up to the position, in order
pub record AreParagraphEnds (own : List Class) (ends : List ℕ) (position : ℕ) : Type 0 where
  pub each : (k : ℕ) → k < length ends → IsParagraphAt own (paragraph_start ends k) (slice_index ends k)
  pub last : paragraph_start ends (length ends) ≡ position

-- the line that begins at start ends where the next one begins, or at the stop
pub record EndsLineAt (test : ℕ → Bool) (start end stop : ℕ) : Type 0 where
  pub above : start < end
  pub within : end ≤ stop
  pub none : (p : ℕ) → start < p → p < end → test p ≡ false
  pub here : end < stop → test end ≡ true

-- exactly the breaks up to the position have been passed
pub record BreaksArePassed (breaks : List ℕ) (passed position : ℕ) : Type 0 where
  pub following : (k : ℕ) → k < passed → k < length breaks → slice_index breaks k ≤ position
  pub ahead : passed < length breaks → position < slice_index breaks passed

-- the bounds after the first one are the ends of the lines of the text up to the position, in order
pub record AreLineEnds (own : List Class) (breaks : List ℕ) (lines position : ℕ) (bounds : List Bound) : Type 0 where
  pub first : bound_at bounds 0 ≡ first_bound
  pub cut : (k : ℕ) → k < lines →
      EndsLineAt (begins_line own breaks) (bound_at bounds k).position (bound_at bounds (k + 1)).position (length own)
  pub last : (bound_at bounds lines).position ≡ position

-- P1: the ends of all paragraphs of the text
abbrev pub AreAllParagraphEnds : List BidiUnit → List ℕ → Type 0
AreAllParagraphEnds text ends = AreParagraphEnds (classes_of text) ends (length text)

-- the ends of all lines of the text
abbrev pub AreAllLineEnds : List BidiUnit → List ℕ → ℕ → List Bound → Type 0
AreAllLineEnds text breaks lines bounds = AreLineEnds (classes_of text) breaks lines (length text) bounds

-- the ends of all lines of the text, for some breaks
abbrev pub AreEndsOfLines : List BidiUnit → ℕ → List Bound → Type 0
AreEndsOfLines text lines bounds = (breaks : List ℕ) × AreAllLineEnds text breaks lines bounds
