-- The tables that the lines of a faultless file state.
use Rattle.std.proofs.Common.{arith, ◌≡◌, ◌≤◌, ℕ, Option, None, Some, List, [], map, refl}
use Rattle.std.specs.Option.{option_map, unwrap_or}
use Rattle.std.specs.List.{find}
use Rattle.units.specs.Text.{lines_of}
use Rattle.units.specs.declared.class.Class.{Class}
use Rattle.units.specs.declared.class.Class.TheVariants.{L}
use Rattle.ucdfiles.specs.Faults.{first_fault}
use Rattle.ucdfiles.specs.Spans.{holds, value_by, value_in, revalued}
use Rattle.ucdfiles.specs.Statements.{Stated, AreStatedBy}
use Rattle.ucdfiles.specs.ClassFile.{class_fault, class_line_says, class_file_fault, class_of, StatesClasses}
use Rattle.ucdfiles.specs.PairFiles.{mirror_fault, mirror_in, pair_line_says, mirror_file_fault, mirror_of, StatesMirrors}
use Rattle.ucdfiles.specs.declared.span.Span.{Span}
use Rattle.ucdfiles.proofs.Rising.{find-revalued}
use Rattle.ucdfiles.proofs.PairValues.{value_of-pairs}
use Rattle.ucdfiles.proofs.Stating.{value_in-represents}

pub states-classes : (bytes : List ℕ) (stated : Stated Class) (classes : ℕ → Class) →
    first_fault class_fault [] (lines_of bytes) ≡ None → AreStatedBy class_line_says stated (lines_of bytes)
    → ((c : ℕ) → c ≤ 0x10FFFF → classes c ≡ unwrap_or (value_in stated.data_lines stated.default_lines c) L) →
    StatesClasses bytes classes
unfolding class_file_fault class_of
states-classes bytes stated classes none represents looks = grind (arith, value_in-represents)

glyph-revalued : (o : Option (Span ℕ)) → unwrap_or (value_by (option_map (revalued (λ (c : ℕ). Some c)) o) None) None ≡
    value_by o None
glyph-revalued None = refl
glyph-revalued (Some span) = refl

pub states-mirrors : (bytes : List ℕ) (stated : Stated ℕ) (images : List (Span (Option ℕ))) (mirrored : ℕ → Option ℕ) →
    first_fault mirror_fault [] (lines_of bytes) ≡ None
    → AreStatedBy (pair_line_says mirror_in) stated (lines_of bytes) →
    images ≡ map (revalued (λ (c : ℕ). Some c)) stated.data_lines
    → ((c : ℕ) → c ≤ 0x10FFFF → mirrored c ≡ unwrap_or (value_by (find (holds c) images) None) None) →
    StatesMirrors bytes mirrored
unfolding mirror_file_fault mirror_of
states-mirrors bytes stated images mirrored none represents same looks =
    grind (arith, find-revalued, glyph-revalued, value_of-pairs)
