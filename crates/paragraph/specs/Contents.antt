-- The contents of a paragraph that decide which rules have something to do.
use Rattle.std.specs.Prelude.{ℕ, ◌+◌, ◌≤◌, Bool, ◌≡◌, ◌&&◌, not, true, List, drop, find, length, take}
use Rattle.std.specs.List.{list_all}
use Rattle.units.specs.Classes.{classes_of, is_strong}
use Rattle.units.specs.declared.bracket.Unit.{Unit as BidiUnit}
use Rattle.units.specs.declared.class.Class.{Class}
use Rattle.units.specs.declared.level.Direction.{Direction}
use Rattle.units.specs.declared.level.ParaLevel.{ParaLevel}
use Rattle.units.specs.Isolates.{level_of_para, para_level_of}
use Rattle.explicit.specs.FirstParagraph.{first_length}
use Rattle.explicit.specs.Flat.{is_flat}
use Rattle.explicit.specs.Uniform.{may_rise}
use Rattle.paragraph.specs.ClassSets.{IsSetOf}
use Rattle.paragraph.specs.FirstSides.{side_by}
use Rattle.paragraph.specs.declared.class_set.ClassSet.{ClassSet}
use Rattle.paragraph.specs.declared.contents.Contents.{Contents}
use Rattle.paragraph.specs.declared.contents.FirstParagraph.{FirstParagraph}

-- none of the classes passes the test
abbrev pub has_none : (Class → Bool) → List Class → Bool
has_none test cs = list_all (λ c. not (test c)) cs

-- no class is an initiator
abbrev pub are_flat : List Class → Bool
are_flat cs = list_all is_flat cs

-- X1 to I2: these classes leave each position at the paragraph's level
abbrev pub keeps_level : ℕ → List Class → Bool
keeps_level para_level cs = are_flat cs && has_none (may_rise para_level) cs

-- P2 to I2: the same for the level of a paragraph with these classes under this direction
abbrev pub keeps_own : Direction → List Class → Bool
keeps_own direction cs = keeps_level (para_level_of cs direction) cs

-- it does so, and this is the paragraph's level
pub record IsUniformLevel (direction : Direction) (cs : List Class) (level : ParaLevel) : Type 0 where
  pub keeps : keeps_own direction cs ≡ true
  pub para : level_of_para level ≡ para_level_of cs direction

-- P1: the first paragraph of a text continues after its first n units, which have these classes
pub record IsFront (n : ℕ) (classes : ClassSet) (text : List BidiUnit) : Type 0 where
  pub within : n ≤ length text
  pub goes_on : first_length text ≡ n + first_length (drop n text)
  pub set : IsSetOf classes (classes_of (take n text))

-- the contents of a paragraph with these classes, and the side of its first strong class (P2, isolates ignored)
pub record Describes (contents : Contents) (cs : List Class) : Type 0 where
  pub classes : IsSetOf contents.classes cs
  pub side : contents.side ≡ side_by (find is_strong cs)

-- P1: the first paragraph of a text, and its contents
pub record IsFirstOf (first : FirstParagraph) (text : List BidiUnit) : Type 0 where
  pub length : first.length ≡ first_length text
  pub contents : Describes first.contents (classes_of (take first.length text))
