-- Names of classes with one space between them, as rows of classes have them in their usual form.
use Rattle.std.specs.Prelude.{◌≡◌, ◌<◌, ℕ, Bool, false, ◌&&◌, not, ◌==◌, List, length, take, get_or, Some, ◌⊎◌}
use Rattle.std.specs.List.{AllPass}
use Rattle.units.specs.ClassNames.{short_name}
use Rattle.units.specs.Text.{is_blank, items_of, each_read, trimmed as without_blanks}
use Rattle.units.specs.declared.class.Class.{Class}
use Rattle.units.specs.declared.bracket.Unit.{Unit as BidiUnit}
use Rattle.bidtests.specs.ClassesFile.{unit_item}

-- the bytes begin with the name of this class, of this length, and then a space or a `;`
pub record IsNameAt (bytes : List ℕ) (class : Class) (count : ℕ) : Type 0 where
  pub some : 0 < count
  pub inside : count < length bytes
  pub name : take count bytes ≡ short_name class
  pub end : (get_or bytes count 0 ≡ 32) ⊎ (get_or bytes count 0 ≡ 59)

-- a byte that ends no field, and begins no comment and no directive
abbrev pub is_plain : ℕ → Bool
is_plain b = not (b == 59) && (not (b == 35) && not (b == 64))

-- the items of these plain bytes are read as this text, and no blank is at the ends
pub record ReadsNames (names : List ℕ) (text : List BidiUnit) : Type 0 where
  pub read : each_read unit_item (items_of names) ≡ Some text
  pub some : 0 < length text
  pub begins : 0 < length names
  pub full : is_blank (get_or names 0 0) ≡ false
  pub trimmed : without_blanks names ≡ names
  pub plain : AllPass is_plain names
