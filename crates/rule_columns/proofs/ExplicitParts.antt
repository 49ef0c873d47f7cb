-- The parts of P2 to X10, composed.
use Rattle.std.specs.Prelude.{Option, None, ℕ, ◌≡◌, List, refl}
use Rattle.units.specs.Classes.{classes_of}
use Rattle.units.specs.Explicit.{explicit_of}
use Rattle.units.specs.Isolates.{first_strong, para_level_of}
use Rattle.units.specs.Limits.{standard}
use Rattle.units.specs.Runs.{SequenceView, leveled_of, sequences_of}
use Rattle.units.specs.declared.bracket.Unit.{Unit as BidiUnit}
use Rattle.units.specs.declared.class.Class.{Class}
use Rattle.units.specs.declared.level.Direction.{Direction}
use Rattle.rule_columns.specs.Columns.{ExplicitOf, explicit_part}

abbrev of_parts : ℕ → Option ℕ → List (Option (ℕ × Class)) → List SequenceView → ExplicitOf
of_parts level first leveled all = record {
  para_level = level;
  first_strong = first;
  leveled = leveled;
  sequences =
      all;
}

pub explicit_from : (us : List BidiUnit) (direction : Direction) (level : ℕ) (first : Option ℕ)
    (leveled : List (Option (ℕ × Class))) (all : List SequenceView) →
    level ≡ para_level_of (classes_of us) direction → first ≡ first_strong (classes_of us) None →
    leveled ≡ explicit_of standard.depth (classes_of us) level →
    all ≡ sequences_of (leveled_of standard.depth (classes_of us) level) →
    of_parts level first leveled all ≡ explicit_part us direction
explicit_from us direction level first leveled all e f g h = rw (g, h, f, e) refl
