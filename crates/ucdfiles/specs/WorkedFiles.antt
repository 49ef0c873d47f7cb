-- Worked lines and files, and what the definitions compute of them.
use Rattle.std.specs.Prelude.{ℕ, ◌≡◌, List, [], ◌∷◌, ◌++◌, Some, None, refl, codes, ⊤}
use Rattle.unicode_normalization.proofs.Computing.{unicode_normalization}
use Rattle.units.specs.Text.{decided_lines}
use Rattle.units.specs.declared.class.Class.TheVariants.{L, R, AL, AN}
use Rattle.ucdfiles.specs.ClassFile.{class_line_says, class_fault, class_file_fault, class_of}
use Rattle.ucdfiles.specs.PairFiles.{bracket_file_fault, mirror_file_fault, bracket_of, mirror_of, pair_line_says, IsEquivalent}
use Rattle.ucdfiles.specs.Faults.{first_fault}
use Rattle.ucdfiles.specs.declared.sided_bracket.BracketSide.TheVariants.{Open, Close}
use Rattle.ucdfiles.specs.declared.fault.TableFault.TheVariants.{CodePoint, Backwards, ClassName, Fields, Overlap, Twice, BracketKind}

-- what the rows of classes compute with, as one name
unfoldable pub classes_compute : ⊤
unfolding class_file_fault class_of class_line_says
classes_compute = tt

-- what the rows of brackets and mirror images compute with
unfoldable pub pairs_compute : ⊤
unfolding bracket_file_fault mirror_file_fault bracket_of mirror_of pair_line_says
pairs_compute = tt

-- a line feed
abbrev lf : List ℕ
lf = 10 ∷ []

-- ---- DerivedBidiClass.txt

-- a data line takes no long name
pub long_name_in_data : class_file_fault (codes "0041 ; Left_To_Right") ≡ Some (ClassName 1)
unfolding classes_compute
long_name_in_data = refl

-- a default line takes one
pub default_line : class_file_fault (codes "# @missing: 0041; Right_To_Left") ≡ None
unfolding classes_compute
default_line = refl

-- and states its class
pub default_class : class_of (codes "# @missing: 0041; Right_To_Left") 0x41 ≡ R
unfolding classes_compute
default_class = refl

-- or a short name
pub short_name_in_default : class_of (codes "# @missing: 0041; AL") 0x41 ≡ AL
unfolding classes_compute
short_name_in_default = refl

-- a range that ends before it begins
pub backwards : class_file_fault (codes "0042..0041 ; L") ≡ Some (Backwards 1)
unfolding classes_compute
backwards = refl

-- a code point has at least four digits
pub two_digits : class_file_fault (codes "41 ; L") ≡ Some (CodePoint 1)
unfolding classes_compute
two_digits = refl

-- and is at most 10FFFF
pub above_the_last : class_file_fault (codes "110000 ; L") ≡ Some (CodePoint 1)
unfolding classes_compute
above_the_last = refl

-- a range has no blanks inside
pub blanks_in_range : class_file_fault (codes "0041 .. 0042 ; L") ≡ Some (CodePoint 1)
unfolding classes_compute
blanks_in_range = refl

-- a data line has two fields
pub three_fields : class_file_fault (codes "0041 ; L ; L") ≡ Some (Fields 1)
unfolding classes_compute
three_fields = refl

-- the comment of a data line is free
pub free_comment : class_file_fault (codes "0041 ; L # @missing: zz") ≡ None
unfolding classes_compute
free_comment = refl

-- an empty file states a table
pub empty_file : class_file_fault [] ≡ None
unfolding classes_compute
empty_file = refl

-- every character then has the class L
pub empty_file_class : (c : ℕ) → class_of [] c ≡ L
unfolding classes_compute
empty_file_class c = refl

-- a surrogate may be in a range
pub surrogates : class_file_fault (codes "D800..DFFF ; L") ≡ None
unfolding classes_compute
surrogates = refl

-- ranges that have one code point in common, the last of one
pub overlap_at_last : class_file_fault (codes "0040..0045 ; L" ++ lf ++ codes "0030..0040 ; R" ++ lf ++ codes "0050") ≡
    Some (Overlap 2)
unfolding classes_compute
overlap_at_last = refl

-- the fault is that of the later line
pub overlap_far_away : class_file_fault (lf ++ lf ++ lf ++ codes "0040..0045 ; L" ++ lf ++ lf ++ lf ++ lf ++ lf ++
    codes "0045 ; R" ++ lf) ≡ Some (Overlap 9)
unfolding classes_compute
overlap_far_away = refl

-- code points are compared by value
pub overlap_by_value : class_file_fault (codes "0041 ; L" ++ lf ++ codes "000041 ; L") ≡ Some (Overlap 2)
unfolding classes_compute
overlap_by_value = refl

-- two default lines and a data line
abbrev defaults : List ℕ
defaults = codes "# @missing: 0000..10FFFF; Left_To_Right" ++ lf ++ codes "# @missing: 0590..05FF; R" ++ lf ++
    codes "05D0 ; AN" ++ lf

-- default lines may overlap
pub defaults_overlap : class_file_fault defaults ≡ None
unfolding classes_compute
defaults_overlap = refl

-- a data line comes before them
pub data_before_defaults : class_of defaults 0x5D0 ≡ AN
unfolding classes_compute
data_before_defaults = refl

-- the last default line that contains the code point decides
pub last_default : class_of defaults 0x5D1 ≡ R
unfolding classes_compute
last_default = refl

-- the first decides if no other contains it
pub first_default : class_of defaults 0x41 ≡ L
unfolding classes_compute
first_default = refl

-- no later bytes change a line that has ended
pub ended_line : first_fault class_fault [] (decided_lines (codes "0041 ; XX" ++ lf)) ≡ Some (ClassName 1)
unfolding classes_compute
ended_line = refl

-- later bytes can change a line that has begun
pub begun_line : first_fault class_fault [] (decided_lines (codes "0041 ; XX")) ≡ None
unfolding classes_compute
begun_line = refl

-- ---- BidiBrackets.txt

-- the third field is `o` or `c`
pub bracket_kind : bracket_file_fault (codes "0028; 0029; n") ≡ Some (BracketKind 1)
unfolding pairs_compute
bracket_kind = refl

-- a character has one line
pub bracket_twice : bracket_file_fault (codes "0028; 0029; o" ++ lf ++ codes "0028; 0029; o" ++ lf) ≡ Some (Twice 2)
unfolding pairs_compute
bracket_twice = refl

-- by its value
pub bracket_twice_by_value : bracket_file_fault (codes "0028; 0029; o" ++ lf ++ codes "000028; 0029; c") ≡
    Some (Twice 2)
unfolding pairs_compute
bracket_twice_by_value = refl

-- the second field of a closing line is checked
pub closing_line : bracket_file_fault (codes "0029; 0041; c") ≡ None
unfolding pairs_compute
closing_line = refl

-- and not used: a closing bracket has its own key
pub closing_bracket : bracket_of (codes "0029; 0041; c") 0x29 ≡ Some (record { side = Close; keyed_by = 0x29 })
unfolding pairs_compute
closing_bracket = refl

-- it makes no bracket
pub no_bracket : bracket_of (codes "0029; 0041; c") 0x41 ≡ None
unfolding pairs_compute
no_bracket = refl

-- four pairs of brackets
abbrev brackets : List ℕ
brackets =
    codes "0028; 0029; o" ++ lf ++ codes "0029; 0028; c" ++ lf ++ codes "005B; 005D; o" ++ lf ++
    codes "005D; 005B; c" ++ lf ++ codes "2329; 232A; o" ++ lf ++ codes "232A; 2329; c" ++ lf ++
    codes "3008; 3009; o" ++ lf
    ++ codes "3009; 3008; c" ++ lf

-- brackets and their counterparts
pub bracket_lines : bracket_file_fault brackets ≡ None
unfolding pairs_compute
bracket_lines = refl

-- an opening bracket has the key of its counterpart
pub angle_opens : bracket_of brackets 0x2329 ≡ Some (record { side = Open; keyed_by = 0x232A })
unfolding pairs_compute
angle_opens = refl

-- this one is closed by another character
pub angle_closes : bracket_of brackets 0x3009 ≡ Some (record { side = Close; keyed_by = 0x3009 })
unfolding pairs_compute
angle_closes = refl

-- which is canonically equivalent to its counterpart
pub angles_equivalent : IsEquivalent 0x232A 0x3009
unfolding unicode_normalization
angles_equivalent = refl

-- a parenthesis
pub parenthesis_opens : bracket_of brackets 0x28 ≡ Some (record { side = Open; keyed_by = 0x29 })
unfolding pairs_compute
parenthesis_opens = refl

-- and a square bracket
pub square_closes : bracket_of brackets 0x5D ≡ Some (record { side = Close; keyed_by = 0x5D })
unfolding pairs_compute
square_closes = refl

-- are not equivalent
pub parenthesis_square : ¬ IsEquivalent 0x29 0x5D
unfolding unicode_normalization
parenthesis_square e = cc

-- ---- BidiMirroring.txt

-- a surrogate has no image and is no image
pub mirror_surrogate : mirror_file_fault (codes "0028; D800") ≡ Some (CodePoint 1)
unfolding pairs_compute
mirror_surrogate = refl

-- a data line has two fields
pub mirror_fields : mirror_file_fault (codes "0028") ≡ Some (Fields 1)
unfolding pairs_compute
mirror_fields = refl

-- the image of a character
pub mirror_image : mirror_of (codes "0028; 0029" ++ lf ++ codes "0029; 0028") 0x29 ≡ Some 0x28
unfolding pairs_compute
mirror_image = refl

-- a character without a line has none
pub no_image : mirror_of (codes "0028; 0029" ++ lf ++ codes "0029; 0028") 0x41 ≡ None
unfolding pairs_compute
no_image = refl
