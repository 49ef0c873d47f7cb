-- Four code points and their units.
use Rattle.std.proofs.Common.{◌≡◌, ℕ, suc, ◌+◌, ◌*◌, ◌<◌, ◌≤◌, true, false, List, [], ◌∷◌, length, get_or, map, set, refl, sym, ap, subst, ◌∙◌, arith, rules}
use Rattle.std.specs.Prelude.{◌||◌, Bool, slice_index_or}
use Rattle.std.specs.Char.{IsScalar}
use Rattle.std.specs.List.{list_any}
use Rattle.std.proofs.lemmas.Bool.{false≢true}
use Rattle.units.specs.Classes.{classes_of}
use Rattle.units.specs.declared.bracket.Bracket.{Bracket}
use Rattle.units.specs.declared.bracket.Unit.{Unit as BidiUnit}
use Rattle.units.specs.declared.class.Class.{Class}
use Rattle.units.specs.declared.class.Class.TheVariants.{L, ON}
use Rattle.ucdfiles.specs.Stages.{Stages}
use Rattle.ucdfiles.specs.Tables.{class_by, AreNeutral, AreOfBlock}
use Rattle.ucdfiles.specs.UnitStages.{UnitStages, unit_by_stages}
use Rattle.paragraph.specs.ClassSets.{IsSetOf, is_class}
use Rattle.paragraph.specs.declared.class_set.ClassSet.{ClassSet}
use Rattle.decoding.specs.PlainUnits.{of_class, plain_unit}

-- each of four items is written
all_set : {X : Type 0} (us : List X) (a b c d : X) → length us ≡ 4 →
    set (set (set (set us 0 a) 1 b) 2 c) 3 d ≡ a ∷ b ∷ c ∷ d ∷ []
all_set [] a b c d long = absurd (omega (arith, long))
all_set (v ∷ []) a b c d long = absurd (omega (arith, long))
all_set (v ∷ w ∷ []) a b c d long = absurd (omega (arith, long))
all_set (v ∷ w ∷ x ∷ []) a b c d long = absurd (omega (arith, long))
all_set (v ∷ w ∷ x ∷ y ∷ []) a b c d long = refl
all_set (v ∷ w ∷ x ∷ y ∷ z ∷ rest) a b c d long = absurd (omega (arith, long))

pub all_written : {X : Type 0} (us : List X) (a b c d e f g h : X) → length us ≡ 4 → a ≡ e → b ≡ f → c ≡ g → d ≡ h →
    set (set (set (set us 0 a) 1 b) 2 c) 3 d ≡ e ∷ f ∷ g ∷ h ∷ []
all_written us a b c d e f g h long i j k l = rw i (rw j (rw k (rw l (all_set us e f g h long))))

four_items : (xs : List ℕ) → length xs ≡ 4 →
    get_or xs 0 0 ∷ get_or xs 1 0 ∷ get_or xs 2 0 ∷ get_or xs 3 0 ∷ [] ≡ xs
four_items [] long = absurd (omega (arith, long))
four_items (v ∷ []) long = absurd (omega (arith, long))
four_items (v ∷ w ∷ []) long = absurd (omega (arith, long))
four_items (v ∷ w ∷ x ∷ []) long = absurd (omega (arith, long))
four_items (v ∷ w ∷ x ∷ y ∷ []) long = refl
four_items (v ∷ w ∷ x ∷ y ∷ z ∷ rest) long = absurd (omega (arith, long))

pub items_of_four : (xs : List ℕ) (a b c d : ℕ) → length xs ≡ 4 → a ≡ get_or xs 0 0 → b ≡ get_or xs 1 0
    → c ≡ get_or xs 2 0 → d ≡ get_or xs 3 0 → a ∷ b ∷ c ∷ d ∷ [] ≡ xs
items_of_four xs a b c d long e f g h = rw e (rw f (rw g (rw h (four_items xs long))))

-- the class of an ASCII character is in the first block
pub of_ascii : (table : Stages Class) (ascii : List Class) (code : ℕ) → AreOfBlock table 0 ascii → code < 128 →
    slice_index_or ascii code L ≡ class_by table code
of_ascii table ascii code block small =
    block.values code small ∙ ap (class_by table) {x = 0 * 128 + code} {y = code} (omega arith)

-- the units of four classes are those of the code points that have these classes
pub plain_four : (stages : UnitStages) (codes : List ℕ) (a b c d : Class) → length codes ≡ 4
    → a ≡ class_by stages.classes (get_or codes 0 0) → b ≡ class_by stages.classes (get_or codes 1 0)
    → c ≡ class_by stages.classes (get_or codes 2 0) → d ≡ class_by stages.classes (get_or codes 3 0)
    → of_class a ∷ of_class b ∷ of_class c ∷ of_class d ∷ [] ≡ map (plain_unit stages) codes
plain_four stages [] a b c d long e f g h = absurd (omega (arith, long))
plain_four stages (v ∷ []) a b c d long e f g h = absurd (omega (arith, long))
plain_four stages (v ∷ w ∷ []) a b c d long e f g h = absurd (omega (arith, long))
plain_four stages (v ∷ w ∷ x ∷ []) a b c d long e f g h = absurd (omega (arith, long))
plain_four stages (v ∷ w ∷ x ∷ y ∷ []) a b c d long e f g h = rw e (rw f (rw g (rw h refl)))
plain_four stages (v ∷ w ∷ x ∷ y ∷ z ∷ rest) a b c d long e f g h = absurd (omega (arith, long))

-- brackets have no part in the classes
same_classes : (stages : UnitStages) (codes : List ℕ) →
    classes_of (map (plain_unit stages) codes) ≡ classes_of (map (unit_by_stages stages) codes)
same_classes stages [] = refl
same_classes stages (c ∷ cs) = ap (λ (ds : List Class). class_by stages.classes c ∷ ds) (same_classes stages cs)

pub set_of_four : (stages : UnitStages) (codes : List ℕ) (units : List BidiUnit) (a b c d : Class) (set : ClassSet)
    → of_class a ∷ of_class b ∷ of_class c ∷ of_class d ∷ [] ≡ map (plain_unit stages) codes
    → units ≡ map (unit_by_stages stages) codes → IsSetOf set (a ∷ b ∷ c ∷ d ∷ []) → IsSetOf set (classes_of units)
set_of_four stages codes units a b c d set plain is s =
    subst (λ (cs : List Class). IsSetOf set cs)
    (ap classes_of plain ∙ same_classes stages codes ∙ ap classes_of (sym is)) s

first_false : (a b : Bool) → (a || b) ≡ false → a ≡ false
first_false true b e = e
first_false false b e = refl

second_false : (a b : Bool) → (a || b) ≡ false → b ≡ false
second_false true b e = absurd (false≢true (sym e))
second_false false b e = e

-- none of these code points is a bracket if none of their classes is ON
pub no_brackets : (stages : UnitStages) (codes : List ℕ) → AreNeutral stages.classes stages.brackets
    → ((k : ℕ) → k < length codes → IsScalar (get_or codes k 0))
    → list_any (is_class ON) (classes_of (map (plain_unit stages) codes)) ≡ false
    → map (plain_unit stages) codes ≡ map (unit_by_stages stages) codes
no_brackets stages [] neutral scalars none = refl
no_brackets stages (c ∷ cs) neutral scalars none =
    let class : Class = class_by stages.classes c in
    let first = first_false (is_class ON class) _ none in
    let scalar : IsScalar c = scalars 0 (omega arith) in
    let most : c ≤ 0x10FFFF = search rules in
    let bracket = neutral c most (λ e. false≢true (sym first ∙ ap (is_class ON) e)) in
    let rest = no_brackets stages cs neutral (λ k lt. scalars (suc k) (omega (arith, lt)))
    (second_false (is_class ON class) _ none) in
    ap (λ (b : Bracket). let u : BidiUnit = record { class = class; bracket = b } in
    u ∷ map (plain_unit stages) cs) (sym bracket)
    ∙ ap (λ (us : List BidiUnit). unit_by_stages stages c ∷ us) rest
