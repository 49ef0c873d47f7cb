-- The items of printed rows, read back: names of classes, levels and positions.
use Rattle.std.proofs.Common.{◌≡◌, ◌≢◌, ℕ, ◌<◌, ◌≤◌, ◌==◌, true, Bool, Option, Some, None, List, length, refl, sym, ap, ◌∙◌, arith}
use Rattle.std.specs.Prelude.{◌&&◌, not, nat_le, nat_lt, codes}
use Rattle.std.specs.List.{list_all}
use Rattle.std.specs.Borrow.{Bor}
use Rattle.std.specs.Fmt.{decimal}
use Rattle.std.specs.Option.{option_map}
use Rattle.std.proofs.lemmas.Bool.{and_parts}
use Rattle.std.proofs.lemmas.Bool.Decides.{nat_tests}
use Rattle.std.proofs.lemmas.Fmt.{length-decimal-le}
use Rattle.units.specs.ClassNames.{short_name, class_of_short}
use Rattle.units.specs.declared.bracket.Unit.{Unit as BidiUnit}
use Rattle.units.specs.declared.class.Class.{Class}
use Rattle.units.specs.declared.class.Class.TheVariants.{L}
use Rattle.ucdfiles.specs.Tables.{TablesOf, unit_by}
use Rattle.printing.specs.LevelsText.{level_text}
use Rattle.bidtests.specs.CharactersFile.{character_item}
use Rattle.bidtests.specs.ClassesFile.{level_item, order_item, unit_item, unit_of_class}
use Rattle.bidtests.specs.declared.kind.Kind.{Kind}
use Rattle.bidtests.specs.declared.kind.Kind.TheVariants.{Classes, Characters}
use Rattle.rows.specs.Letters.{IsLetterOf, letter_name, unit_of}
use Rattle.rows.specs.declared.letter.Letter.{Letter}
use Rattle.rows.specs.declared.letter.Letter.TheVariants as letter
use Rattle.rows.proofs.HexNumbers.{code-few, code-item, code-read}
use Rattle.rows.proofs.Items.{IsItem, IsItemByte, all-tested}
use Rattle.rows.proofs.LevelBounds.{IsLevel}
use Rattle.rows.proofs.ReadNumbers.{number-read, decimal-item, decimal-no_word}

abbrev is_item_byte : ℕ → Bool
is_item_byte b = nat_le 48 b && (not (b == 59) && not (b == 64))

abbrev is_item : List ℕ → Bool
is_item bs = nat_lt 0 (length bs) && list_all is_item_byte bs

tested-byte : (b : ℕ) → is_item_byte b ≡ true → IsItemByte b
tested-byte b test =
    let low : 48 ≤ b = grind (arith, nat_tests) in
    let within : b ≢ 59 = λ e. grind (arith, nat_tests) in
    let plain : b ≢ 64 = λ e. grind (arith, nat_tests) in
    record { above = low; within = within; plain = plain }

tested-item : (bs : List ℕ) → is_item bs ≡ true → IsItem bs
tested-item bs test =
    let both = and_parts (nat_lt 0 (length bs)) (list_all is_item_byte bs) test in
    let some : 0 < length bs = grind (arith, nat_tests) in
    record { some = some; bytes = all-tested IsItemByte is_item_byte tested-byte bs both.1 }

-- the properties of a name
record IsName (class : Class) : Type 0 where
  pub test : is_item (short_name class) ≡ true
  pub few : nat_le (length (short_name class)) 3 ≡ true
  pub read : class_of_short (short_name class) ≡ Some class

name : (class : Class) → IsName class
name L = record { test = refl; few = refl; read = refl }
name _ = record { test = refl; few = refl; read = refl }

pub name-item : (kind : Kind) (l : Letter) → IsLetterOf kind l → IsItem (letter_name l)
name-item Classes (letter.Class class) is = tested-item (short_name class) (name class).test
name-item Classes (letter.Character code unit) is = absurd is
name-item (Characters tables) (letter.Class class) is = absurd is
name-item (Characters tables) (letter.Character code unit) is = code-item code is.0

pub name-few : (kind : Kind) (l : Letter) → IsLetterOf kind l → length (letter_name l) ≤ 6
name-few Classes (letter.Class class) is = let test = (name class).few in grind (arith, nat_tests)
name-few Classes (letter.Character code unit) is = absurd is
name-few (Characters tables) (letter.Class class) is = absurd is
name-few (Characters tables) (letter.Character code unit) is = code-few code is.0

pub class-read : (l : Letter) → IsLetterOf Classes l → unit_item (letter_name l) ≡ Some (unit_of l)
class-read (letter.Class class) is = ap (option_map unit_of_class) (name class).read
class-read (letter.Character code unit) is = absurd is

pub character-read : (tables : Bor TablesOf) (l : Letter) → IsLetterOf (Characters tables) l
    → character_item (unit_by tables.now) (letter_name l) ≡ Some (unit_of l)
character-read tables (letter.Class class) is = absurd is
character-read tables (letter.Character code unit) is =
    ap (option_map (unit_by tables.now)) (code-read code is.0) ∙ ap (λ (u : BidiUnit). Some u) (sym is.1)

pub level-item : (level : Option ℕ) → IsLevel level → IsItem (level_text level)
level-item None within = tested-item (codes "x") refl
level-item (Some n) within = decimal-item n (omega arith)

pub level-few : (level : Option ℕ) → IsLevel level → length (level_text level) ≤ 3
level-few None within = omega arith
level-few (Some n) within = length-decimal-le 3 n (omega arith) (omega arith) (omega arith)

pub level-read : (level : Option ℕ) → IsLevel level → level_item (level_text level) ≡ Some level
level-read None within = refl
level-read (Some n) within =
    rw (decimal-no_word n 120 (omega arith) (omega arith))
    (ap (option_map (λ (m : ℕ). Some m)) (number-read 126 n within (omega arith)))

pub position-item : (p : ℕ) → p < 4096 → IsItem (decimal p)
position-item p within = decimal-item p (omega arith)

pub position-few : (p : ℕ) → p < 4096 → length (decimal p) ≤ 4
position-few p within = length-decimal-le 4 p (omega arith) (omega arith) (omega arith)

pub position-read : (p : ℕ) → p < 4096 → order_item (decimal p) ≡ Some p
position-read p within = number-read 65535 p (omega arith) (omega arith)
