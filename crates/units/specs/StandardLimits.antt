-- The rules that name a limit, with the numbers of the standard written out: 125 levels (BD2), 63 open brackets (BD16).
use Rattle.std.specs.Prelude.{◌≡◌, Option, ℕ, Bool, true, false, ◌&&◌, ◌==◌, nat_le, if◌then◌else◌, List, length, filter, fold, map, Some, None, unwrap_or}
use Rattle.std.specs.List.{flat_map, zip}
use Rattle.std.specs.Option.{option_map}
use Rattle.units.specs.Classes.{class_at, classes_of, classes_at, is_removed, is_separator}
use Rattle.units.specs.Positions.{positions_of, first_from, is_before}
use Rattle.units.specs.Paragraphs.{paragraphs_of}
use Rattle.units.specs.Isolates.{partner_of, para_level_of}
use Rattle.units.specs.Explicit.{State, chain, wanted_level, override_of}
use Rattle.units.specs.Runs.{LeveledView, SequenceView, sequences_of, direction_of}
use Rattle.units.specs.Weak.{after_weak}
use Rattle.units.specs.Brackets.{is_open, bracket_at, open_before, pairs_before, closer_of, after_paired}
use Rattle.units.specs.Neutral.{after_neutral}
use Rattle.units.specs.Implicit.{implicit_level}
use Rattle.units.specs.Layout.{TextLayout, brackets_of, current_of, layout_of, value_beside, para_levels_of, text_layout}
use Rattle.units.specs.Limits.{standard}
use Rattle.units.specs.declared.class.Class.{Class}
use Rattle.units.specs.declared.bracket.Bracket.{Bracket}
use Rattle.units.specs.declared.bracket.Unit.{Unit as BidiUnit}
use Rattle.units.specs.declared.level.Direction.{Direction}

-- X2 to X5c: the state inside the initiator at q; q overflows above level 125 and inside an initiator that overflows
unfoldable pub entered_to_125 : List Class → State → ℕ → State
entered_to_125 cs s q =
    let wanted = wanted_level cs s.level q in
    if s.sound && nat_le wanted 125
    then record { level = wanted; override = override_of (class_at cs q); sound = true }
    else record { level = s.level; override = s.override; sound = false }

-- X1: the state inside these initiators, the outermost first
abbrev pub state_to_125 : List Class → ℕ → List ℕ → State
state_to_125 cs para_level qs =
    fold (entered_to_125 cs) (record { level = para_level; override = None; sound = true }) qs

-- X1 to X9: the level and the current class of p, as in Explicit
unfoldable pub explicit_at_to_125 : List Class → ℕ → ℕ → Option (ℕ × Class)
explicit_at_to_125 cs para_level p =
    let own = class_at cs p in
    let s = state_to_125 cs para_level (chain cs p) in
    if is_removed own then None
    else if is_separator own then Some (para_level, own)
    else Some (s.level, unwrap_or s.override own)

-- X1 to X9: the same of all positions
abbrev pub explicit_to_125 : List Class → ℕ → List (Option (ℕ × Class))
explicit_to_125 cs para_level = map (explicit_at_to_125 cs para_level) (positions_of cs)

-- a paragraph with the levels of X1 to X9 and the partners of BD9
abbrev pub leveled_to_125 : List Class → ℕ → LeveledView
leveled_to_125 cs para_level = record {
  classes = cs;
  levels = map (option_map (λ place. place.0)) (explicit_to_125 cs para_level);
  partners = map (partner_of cs) (positions_of cs);
  base = para_level;
}

-- BD16: p is an opening bracket at which 63 are open
abbrev pub has_63_open : List Bracket → ℕ → Bool
has_63_open bs p = is_open (bracket_at bs p) && (length (open_before bs p) == 63)

-- the first opening bracket at which 63 are open
unfoldable pub stop_at_63 : List Bracket → Option ℕ
stop_at_63 bs = first_from (has_63_open bs) 0 (length bs)

-- BD16: the pairs that count: those that end before the stop
unfoldable pub pairs_of_63 : List Bracket → List (ℕ × ℕ)
pairs_of_63 bs = filter (λ pair. is_before pair.1 (stop_at_63 bs)) (pairs_before bs (length bs))

-- BD14 to N0: the classes of a sequence after N0, by those before W1 and those after W7
abbrev pub after_brackets_of_63 : SequenceView → List BidiUnit → List Class → List Class → List Class
after_brackets_of_63 s us before weak =
    let pairs = pairs_of_63 (brackets_of s us weak) in
    after_paired (direction_of s.level) s.sos before (closer_of pairs) weak

-- W1 to I2: the resolved levels of a sequence, by the classes before W1
abbrev pub standard_levels_of_sequence : SequenceView → List BidiUnit → List Class → List ℕ
standard_levels_of_sequence s us before =
    let bracketed = after_brackets_of_63 s us before (after_weak s.sos before) in
    map (implicit_level s.level) (after_neutral (direction_of s.level) s.sos s.eos bracketed)

-- the positions of a sequence with their resolved levels, by the current classes of the paragraph
abbrev pub standard_levels_in : List BidiUnit → List Class → SequenceView → List (ℕ × ℕ)
standard_levels_in us current s = zip s.positions (standard_levels_of_sequence s us (classes_at current s.positions))

-- X1 to I2: the resolved levels of a paragraph, none if a position is removed
unfoldable pub standard_resolved_levels : List BidiUnit → ℕ → List (Option ℕ)
standard_resolved_levels us para_level =
    let cs = classes_of us in
    let current = current_of (explicit_to_125 cs para_level) in
    let sequences = sequences_of (leveled_to_125 cs para_level) in
    map (value_beside (flat_map (standard_levels_in us current) sequences)) (positions_of us)

-- P1 to I2: the resolved levels of a text
abbrev pub standard_text_levels : List BidiUnit → Direction → List (Option ℕ)
standard_text_levels text direction =
    flat_map (λ us. standard_resolved_levels us (para_level_of (classes_of us) direction)) (paragraphs_of text)

-- P1 to L2: the layout of a text under a direction, broken at these positions
unfoldable pub standard_layout : List BidiUnit → Direction → List ℕ → TextLayout
standard_layout text direction breaks =
    text_layout (classes_of text) breaks (para_levels_of text direction) (standard_text_levels text direction)

-- P1 to L2: with the standard limits the layout is that of the rules with the numbers in them
abbrev pub IsStandardLayout : List BidiUnit → Direction → List ℕ → Type 0
IsStandardLayout text direction breaks =
    layout_of standard text direction breaks ≡ standard_layout text direction breaks
