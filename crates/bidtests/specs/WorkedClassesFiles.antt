-- Examples of class files, and what the definitions compute for them: each line ends with LF.
use Rattle.std.specs.Prelude.{ℕ, ◌≡◌, List, [], ◌∷◌, refl, codes, ⊤}
use Rattle.std.specs.List.{flat_map}
use Rattle.units.specs.RowWords.{layouts_compute}
use Rattle.units.specs.Limits.{standard}
use Rattle.units.specs.Lines.{ended}
use Rattle.units.specs.declared.level.Direction.TheVariants.{Auto, Ltr, Rtl}
use Rattle.bidtests.specs.Verdicts.{verdict_on}
use Rattle.bidtests.specs.ClassesFile.{classes_line, classes_verdict}
use Rattle.bidtests.specs.ThreeDirections.{three_classes_line, three_verdict_of}
use Rattle.bidtests.specs.declared.kind.Kind.TheVariants.{Classes}
use Rattle.bidtests.specs.declared.verdict.Place.TheVariants.{Levels, Order}
use Rattle.bidtests.specs.declared.verdict.Cause.TheVariants.{LevelItem, OrderItem, ClassItem, BitSet, NoExpectation, Directive}
use Rattle.bidtests.specs.declared.verdict.Verdict.TheVariants.{Yes, Malformed, Wrong}

-- what the examples unfold, as one name
unfoldable pub classes_files_compute : ⊤
unfolding classes_verdict verdict_on classes_line layouts_compute
classes_files_compute = tt

-- a file with these lines
abbrev pub written : List (List ℕ) → List ℕ
written lines = flat_map ended lines

-- a file without lines has no rows
pub empty_classes_file : classes_verdict standard [] ≡ Yes 0 0
unfolding classes_files_compute
empty_classes_file = refl

-- under RTL the level is 2; auto and LTR are right
pub level_differs_rtl : classes_verdict standard (written (codes "@Levels: 0" ∷ codes "@Reorder: 0" ∷ codes "L; 7" ∷
    [])) ≡ Wrong 3 Rtl (Levels 0)
unfolding classes_files_compute
level_differs_rtl = refl

-- two paragraphs, the first at level 1
pub two_paragraphs : classes_verdict standard
    (written (codes "@Levels: 1 1 0" ∷ codes "@Reorder: 1 0 2" ∷ codes "R B L; 1" ∷ [])) ≡ Yes 1 1
unfolding classes_files_compute
two_paragraphs = refl

-- a row with no list in force
pub no_lists : classes_verdict standard (written (codes "L; 7" ∷ [])) ≡ Malformed 1 NoExpectation
unfolding classes_files_compute
no_lists = refl

-- a level above 126
pub level_too_high : classes_verdict standard (written (codes "@Levels: 127" ∷ [])) ≡ Malformed 1 LevelItem
unfolding classes_files_compute
level_too_high = refl

-- a bit set above 15, or with a leading zero
pub bit_sixteen : classes_verdict standard (written (codes "@Levels: 0" ∷ codes "@Reorder: 0" ∷ codes "L; 16" ∷ [])) ≡
    Malformed 3 BitSet
unfolding classes_files_compute
bit_sixteen = refl

pub bits_with_zero : classes_verdict standard (written (codes "@Levels: 0" ∷ codes "@Reorder: 0" ∷ codes "L; 07" ∷ []))
    ≡ Malformed 3 BitSet
unfolding classes_files_compute
bits_with_zero = refl

-- bit 8 names AutoRtl, under which a paragraph without a strong class is at level 1, and one with L at 0
pub neutral_auto_rtl : classes_verdict standard (written (codes "@Levels: 1" ∷ codes "@Reorder: 0" ∷ codes "ON; 8" ∷
    [])) ≡ Yes 1 1
unfolding classes_files_compute
neutral_auto_rtl = refl

pub neutral_auto : classes_verdict standard (written (codes "@Levels: 1" ∷ codes "@Reorder: 0" ∷ codes "ON; 9" ∷ [])) ≡
    Wrong 3 Auto (Levels 0)
unfolding classes_files_compute
neutral_auto = refl

pub strong_auto_rtl : classes_verdict standard (written (codes "@Levels: 0" ∷ codes "@Reorder: 0" ∷ codes "L; 8" ∷ []))
    ≡ Yes 1 1
unfolding classes_files_compute
strong_auto_rtl = refl

-- if no row may ask for AutoRtl, 8 is not a bit set
pub bit_eight_of_three : three_verdict_of standard Classes
    (written (codes "@Levels: 0" ∷ codes "@Reorder: 0" ∷ codes "L; 8" ∷ [])) ≡ Malformed 3 BitSet
unfolding classes_files_compute three_classes_line
bit_eight_of_three = refl

-- an FSI without a strong class acts as LRI under AutoRtl too
pub isolate_auto_rtl : classes_verdict standard
    (written (codes "@Levels: 1 2 1" ∷ codes "@Reorder: 2 1 0" ∷ codes "FSI ON PDI; 8" ∷ [])) ≡ Yes 1 1
unfolding classes_files_compute
isolate_auto_rtl = refl

-- an order that ends too early
pub order_too_short : classes_verdict standard (written (codes "@Levels: 0 0" ∷ codes "@Reorder: 0" ∷ codes "L L; 2" ∷
    [])) ≡ Wrong 3 Ltr (Order 1)
unfolding classes_files_compute
order_too_short = refl

-- two directions at level 0
pub left_to_right : classes_verdict standard
    (written (codes "@Levels: 0 1 1" ∷ codes "@Reorder: 0 2 1" ∷ codes "L R AL; 3" ∷ [])) ≡ Yes 1 2
unfolding classes_files_compute
left_to_right = refl

-- one direction at level 1
pub right_to_left : classes_verdict standard
    (written (codes "@Levels: 2 1 1" ∷ codes "@Reorder: 2 1 0" ∷ codes "L R AL; 4" ∷ [])) ≡ Yes 1 1
unfolding classes_files_compute
right_to_left = refl

-- X9: a removed position has no level and is in no order
pub removed : classes_verdict standard (written (codes "@Levels: x" ∷ codes "@Reorder:" ∷ codes "LRE; 7" ∷ [])) ≡
    Yes 1 3
unfolding classes_files_compute
removed = refl

-- an item that is not the short name of a class
pub other_name : classes_verdict standard (written (codes "L l; 9" ∷ [])) ≡ Malformed 1 ClassItem
unfolding classes_files_compute
other_name = refl

-- BD13: R and R are not joined across an embedding
pub across_embedding : classes_verdict standard (written (codes "@Levels: 1 0 x 2 x 0 1" ∷ codes "@Reorder: 0 1 3 5 6" ∷
    codes "R ON LRE L PDF ON R; 2" ∷ [])) ≡ Yes 1 1
unfolding classes_files_compute
across_embedding = refl

-- BD13: R and R are joined across an isolate
pub across_isolate : classes_verdict standard
    (written (codes "@Levels: 1 1 1 2 1 1 1" ∷ codes "@Reorder: 6 5 4 3 2 1 0" ∷ codes "R ON LRI L PDI ON R; 2" ∷ [])) ≡
    Yes 1 1
unfolding classes_files_compute
across_isolate = refl

-- L1: the blank at the end has the paragraph's level by its own class
pub blank_at_end : classes_verdict standard
    (written (codes "@Levels: 0 x 1 0" ∷ codes "@Reorder: 0 2 3" ∷ codes "L RLO R WS; 2" ∷ [])) ≡ Yes 1 1
unfolding classes_files_compute
blank_at_end = refl

-- X5c: the FSI acts as RLI, and its content doesn't affect the paragraph's level
pub first_strong_isolate : classes_verdict standard (written (codes "@Levels: 0 1 0 0" ∷ codes "@Reorder: 0 1 2 3" ∷
    codes "FSI R PDI L; 1" ∷ [])) ≡ Yes 1 1
unfolding classes_files_compute
first_strong_isolate = refl

-- each separator has the level of its paragraph
pub separators_at_zero : classes_verdict standard
    (written (codes "@Levels: 0 0 0" ∷ codes "@Reorder: 0 1 2" ∷ codes "B B B; 7" ∷ [])) ≡ Wrong 3 Rtl (Levels 0)
unfolding classes_files_compute
separators_at_zero = refl

-- X6a: a PDI without an isolate closes no embedding
pub pdi_without_isolate : classes_verdict standard
    (written (codes "@Levels: x 1 2" ∷ codes "@Reorder: 2 1" ∷ codes "RLE PDI L; 2" ∷ [])) ≡ Yes 1 1
unfolding classes_files_compute
pdi_without_isolate = refl

-- the first line that is wrong or malformed decides
pub least_line : classes_verdict standard (written (codes "@Levels: 0" ∷ codes "@Reorder: 0" ∷ codes "L; 4" ∷
    codes "L; 4" ∷ codes "L; 16" ∷ [])) ≡ Wrong 3 Rtl (Levels 0)
unfolding classes_files_compute
least_line = refl

-- `@Type:` is ignored, and `@Level:` is not a directive
pub other_directive : classes_verdict standard (written (codes "@Type: 1" ∷ codes "@Level: 0" ∷ [])) ≡
    Malformed 2 Directive
unfolding classes_files_compute
other_directive = refl

-- a row with levels and no order in force
pub order_missing : classes_verdict standard (written (codes "@Levels: 0" ∷ codes "L; 7" ∷ [])) ≡
    Malformed 2 NoExpectation
unfolding classes_files_compute
order_missing = refl

-- a number has no leading zero
pub leading_zero : classes_verdict standard (written (codes "@Levels: 00" ∷ [])) ≡ Malformed 1 LevelItem
unfolding classes_files_compute
leading_zero = refl

-- a position above 65,535
pub position_too_high : classes_verdict standard (written (codes "@Reorder: 65536" ∷ [])) ≡ Malformed 1 OrderItem
unfolding classes_files_compute
position_too_high = refl

-- each B is a paragraph
pub only_separators : classes_verdict standard
    (written (codes "@Levels: 1 1 1" ∷ codes "@Reorder: 0 1 2" ∷ codes "B B B; 4" ∷ [])) ≡ Yes 1 1
unfolding classes_files_compute
only_separators = refl

-- the nearest lists are in force
pub nearest_lists : classes_verdict standard (written (codes "@Levels: 1" ∷ codes "@Reorder: 1" ∷ codes "@Levels: 0" ∷
    codes "@Reorder: 0" ∷ codes "L; 1" ∷ codes "@Levels: 1" ∷ codes "R; 3" ∷ [])) ≡ Yes 2 3
unfolding classes_files_compute
nearest_lists = refl

-- X4: at depth 1 the LRE, which asks for level 2, overflows
pub depth_of_one : classes_verdict (record {
  depth = 1;
  brackets =
      63;
}) (written (codes "@Levels: x x 1" ∷ codes "@Reorder: 2" ∷ codes "RLE LRE R; 2" ∷ [])) ≡ Yes 1 1
unfolding classes_files_compute
depth_of_one = refl

-- at the depth of the standard it doesn't
pub depth_of_the_standard : classes_verdict standard
    (written (codes "@Levels: x x 3" ∷ codes "@Reorder: 2" ∷ codes "RLE LRE R; 2" ∷ [])) ≡ Yes 1 1
unfolding classes_files_compute
depth_of_the_standard = refl

pub depth_differs : classes_verdict standard
    (written (codes "@Levels: x x 1" ∷ codes "@Reorder: 2" ∷ codes "RLE LRE R; 2" ∷ [])) ≡ Wrong 3 Ltr (Levels 2)
unfolding classes_files_compute
depth_differs = refl
