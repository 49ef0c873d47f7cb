-- White space at the end of a line (L1), from that end on.
use Rattle.std.proofs.Common.{◌≡◌, ℕ, ◌+◌, Bool, true, false, cond, Option, Some, List, suc, refl, ◌∙◌}
use Rattle.std.specs.Prelude.{not, ◌&&◌, ◌||◌}
use Rattle.units.specs.declared.class.Class.{Class}
use Rattle.units.specs.declared.class.Class.TheVariants.{BN, B, S, WS, LRE, LRO, RLE, RLO, PDF, LRI, RLI, FSI, PDI}
use Rattle.units.specs.Classes.{class_at, is_removed}
use Rattle.units.specs.Positions.{first_from}
use Rattle.units.specs.Classes.{is_line_separator}
use Rattle.units.specs.Reordering.{is_trailing_space, ends_spaces}
use Rattle.lines.specs.Spaces.{resets_before}

-- a position at which spaces end
abbrev pub is_end : List Class → ℕ → Bool
is_end own q = not (is_removed (class_at own q)) && not (is_trailing_space (class_at own q))

-- spaces before p are reset
abbrev pub resets_at : List Class → ℕ → ℕ → Bool
resets_at own p count = ends_spaces own (first_from (is_end own) p count)

class_ends : (c : Class) (later : Bool) →
    cond (not (is_removed c) && not (is_trailing_space c)) (is_line_separator c) later ≡ resets_before c later
class_ends S later = refl
class_ends B later = refl
class_ends WS later = refl
class_ends LRI later = refl
class_ends RLI later = refl
class_ends FSI later = refl
class_ends PDI later = refl
class_ends LRE later = refl
class_ends RLE later = refl
class_ends LRO later = refl
class_ends RLO later = refl
class_ends PDF later = refl
class_ends BN later = refl
class_ends _ later = refl

ends_if : (own : List Class) (p : ℕ) (b : Bool) (o : Option ℕ) →
    ends_spaces own (cond b (Some p) o) ≡ cond b (is_line_separator (class_at own p)) (ends_spaces own o)
ends_if own p true o = refl
ends_if own p false o = refl

pub resets_at-suc : (own : List Class) (p count : ℕ) →
    resets_at own p (suc count) ≡ resets_before (class_at own p) (resets_at own (p + 1) count)
resets_at-suc own p count =
    ends_if own p (is_end own p) (first_from (is_end own) (p + 1) count) ∙
    class_ends (class_at own p) (resets_at own (p + 1) count)

-- whether a class can be reset
abbrev pub may_reset : Class → Bool
may_reset c = is_line_separator c || is_trailing_space c

pub class_reset : (c : Class) (later : Bool) →
    (is_line_separator c || (is_trailing_space c && later)) ≡ (resets_before c later && may_reset c)
class_reset S later = refl
class_reset B later = refl
class_reset WS true = refl
class_reset WS false = refl
class_reset LRI true = refl
class_reset LRI false = refl
class_reset RLI true = refl
class_reset RLI false = refl
class_reset FSI true = refl
class_reset FSI false = refl
class_reset PDI true = refl
class_reset PDI false = refl
class_reset _ true = refl
class_reset _ false = refl
