-- The runs whose classes depend on both of their sides (W5, N1).
use Rattle.std.specs.Prelude.{Bool, not, List}
use Rattle.units.specs.Classes.{class_at, is_terminator, is_neutral}
use Rattle.units.specs.Neutral.{by_sides}
use Rattle.units.specs.Weak.{at_each, by_w5, class_by_run}
use Rattle.units.specs.declared.class.Class.{Class}
use Rattle.rule_columns.specs.declared.runs.RunKind.{RunKind}
use Rattle.rule_columns.specs.declared.runs.RunKind.TheVariants.{Terminators, Neutrals}

-- a class of such a run: ET (W5), or a neutral (N1)
abbrev pub in_run : RunKind → Class → Bool
in_run Terminators = is_terminator
in_run Neutrals = is_neutral

-- any other class
abbrev pub ends_run : RunKind → Class → Bool
ends_run run c = not (in_run run c)

-- the class that replaces a class of a run between these classes: EN beside an EN (W5); the direction of both sides if
-- they agree, and else the same class (N1)
abbrev pub taken_by : RunKind → Class → Class → Class → Class
taken_by Terminators c = by_w5
taken_by Neutrals c = by_sides c

-- each class of a run is replaced with the rule's result for this class and the classes just before and just after the
-- run
abbrev pub each_in_run : (Class → Bool) → (Class → Class → Class → Class) → Class → Class → List Class → List Class
each_in_run kind rule start end cs = at_each (λ k. class_by_run kind (rule (class_at cs k)) start end cs k) cs
