-- Whether the positions of a paragraph keep its level.
use Rattle.std.proofs.Common.{◌≡◌, ℕ, List, false, true, ap, sym, ◌∙◌}
use Rattle.std.specs.Prelude.{◌&&◌, find}
use Rattle.units.specs.Classes.{is_strong}
use Rattle.units.specs.Isolates.{para_level_of}
use Rattle.units.specs.declared.class.Class.{Class}
use Rattle.units.specs.declared.level.Direction.{Direction}
use Rattle.explicit.proofs.FlatParagraph.{para_level_of-flat}
use Rattle.explicit.specs.SideLevels.{level_under}
use Rattle.explicit.specs.Uniform.{may_rise}
use Rattle.paragraph.specs.Contents.{are_flat, has_none, keeps_level}
use Rattle.paragraph.specs.FirstSides.{side_by}
use Rattle.paragraph.proofs.FirstSides.{level_under-flat}
use Rattle.paragraph.proofs.FlatLevels.{flat_from}

-- if a class begins an embedding or an isolate, it isn't known that the level stays
pub not_flat : (cs : List Class) (level : ℕ) → are_flat cs ≡ false → keeps_level level cs ≡ false
not_flat cs level deep = ap (λ flat. flat && has_none (may_rise level) cs) deep

-- P2, P3: if no class does, the side of the first strong class gives the paragraph's level
pub level_if_flat : (cs : List Class) (direction : Direction) → are_flat cs ≡ true →
    level_under direction (side_by (find is_strong cs)) ≡ para_level_of cs direction
level_if_flat cs direction flat =
    level_under-flat cs direction ∙ sym (para_level_of-flat cs direction (flat_from cs flat))
