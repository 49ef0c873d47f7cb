use Rattle.std.proofs.Common.{refl}
use Rattle.units.specs.Brackets.{stop_of, bracket_pairs_of}
use Rattle.units.specs.Explicit.{entered, explicit_at}
use Rattle.units.specs.Layout.{resolved_levels, layout_of}
use Rattle.units.specs.StandardLimits.{entered_to_125, explicit_at_to_125, stop_at_63, pairs_of_63, standard_resolved_levels, standard_layout}
use Rattle.units.proofs.limits.standard_limits_are_the_standard.Goals as goal

pub returns-clause-states : goal.returns-clause-states
unfolding entered entered_to_125
returns-clause-states c = λ cs s q. refl

pub returns-clause-levels : goal.returns-clause-levels
unfolding entered entered_to_125 explicit_at explicit_at_to_125
returns-clause-levels c = λ cs para. refl

pub returns-clause-pairs : goal.returns-clause-pairs
unfolding stop_of stop_at_63 bracket_pairs_of pairs_of_63
returns-clause-pairs c = λ bs. refl

pub returns-clause-layouts : goal.returns-clause-layouts
unfolding entered entered_to_125 explicit_at explicit_at_to_125 stop_of stop_at_63 bracket_pairs_of pairs_of_63
    resolved_levels standard_resolved_levels layout_of standard_layout
returns-clause-layouts c = λ text direction breaks. refl
