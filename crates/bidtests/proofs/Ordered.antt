-- The directions that a row names are in order.
use Rattle.std.proofs.Common.{◌≡◌, ℕ, zero, suc, ◌<◌, Bool, true, false, Option, None, Some, List, [], ◌∷◌, length, ap, subst, ◌∙◌, arith, get_or}
use Rattle.std.specs.Prelude.{⊤, if◌then◌else◌, IfSome, nat_eq, nat_lt, ◌==◌, codes, drop}
use Rattle.std.specs.List.{slice_get, Contains, AllPairs, starts_with}
use Rattle.std.proofs.lemmas.Option.{slice_get-get_or, get_or_from_slice_get, slice_get_within, same_Some}
use Rattle.std.proofs.lemmas.List.Kept.{AllPairs-filter}
use Rattle.units.specs.Text.{longest_line, content_of, fields_of, items_of, each_read, number_up_to}
use Rattle.units.specs.declared.bracket.Unit.{Unit as BidiUnit}
use Rattle.units.specs.declared.level.Direction.{Direction}
use Rattle.units.specs.declared.level.Direction.TheVariants.{Auto, Ltr, Rtl, AutoRtl}
use Rattle.bidtests.specs.declared.verdict.Cause.TheVariants.{LineTooLong, Directive}
use Rattle.bidtests.specs.Verdicts.{Finding, Silent, Row, Faulty}
use Rattle.bidtests.specs.ClassesFile.{ClassesLine, Nothing, LevelsAre, OrderIs, RowOf, Broken, directions_in_order, directions_of, directions_by, names_direction, bit_set, levels_directive, order_directive, directive, level_item, order_item, classes_row_as_read, classes_row_of_items, unit_item, classes_row, classes_content, classes_line, row_under, comes_to}
use Rattle.bidtests.specs.Headline.{ComesBefore}

-- the number of directions before a direction
abbrev turn : Direction → ℕ
turn Auto = 0
turn Ltr = 1
turn Rtl = 2
turn AutoRtl = 3

turn-at : (i : ℕ) (d : Direction) → slice_get directions_in_order i ≡ Some d → i ≡ turn d
turn-at zero d e = ap turn (same_Some _ _ e)
turn-at (suc zero) d e = ap turn (same_Some _ _ e)
turn-at (suc (suc zero)) d e = ap turn (same_Some _ _ e)
turn-at (suc (suc (suc zero))) d e = ap turn (same_Some _ _ e)
turn-at (suc (suc (suc (suc i)))) d e = absurd (cc)

-- no direction comes before itself, and no two come before each other
pub never-after : (d e : Direction) → ComesBefore d e → ComesBefore e d → ⊥
never-after d e b c =
    absurd (omega (arith, b.2, c.2, turn-at b.0 d b.3, turn-at b.1 e b.4, turn-at c.0 e c.3, turn-at c.1 d c.4))

in_order : AllPairs ComesBefore directions_in_order
in_order i j d lt within = (
  i,
  j,
  lt,
  slice_get-get_or directions_in_order i d (omega arith),
  slice_get-get_or directions_in_order j d within,
)

-- in a list of directions in order, the earlier one comes before the later one
pub earlier-before : (ds : List Direction) → AllPairs ComesBefore ds → (i j : ℕ) (d e : Direction) → i < j →
    slice_get ds i ≡ Some d → slice_get ds j ≡ Some e → ComesBefore d e
earlier-before ds ordered i j d e lt at also =
    let pair = ordered i j d lt (slice_get_within ds j e also) in
    let first : get_or ds i d ≡ d = get_or_from_slice_get ds i d d at in
    let second : get_or ds j d ≡ e = get_or_from_slice_get ds j e d also in
    let P : Direction → Type 0 = λ x. ComesBefore x (get_or ds j d) in
    subst (λ y. ComesBefore d y) second (subst P first pair)

-- an item of a list has an index, and an item with an index is in the list
pub contained-at : (ds : List Direction) (d : Direction) → Contains ds d → (i : ℕ) × (slice_get ds i ≡ Some d)
contained-at ds d h = (h.0, slice_get-get_or ds h.0 d h.1 ∙ ap (λ x. Some x) h.2)

pub at-contained : (ds : List Direction) (i : ℕ) (d : Direction) → slice_get ds i ≡ Some d → Contains ds d
at-contained ds i d e = (i, slice_get_within ds i d e, get_or_from_slice_get ds i d d e)

-- a row, if it is one, names its directions in order
abbrev pub IsOrdered : Finding → Type 0
IsOrdered Silent = ⊤
IsOrdered (Faulty cause) = ⊤
IsOrdered (Row expected) = AllPairs ComesBefore expected.directions

abbrev RowOrdered : ClassesLine → Type 0
RowOrdered (RowOf text directions) = AllPairs ComesBefore directions
RowOrdered _ = ⊤

pub one-direction : (d : Direction) → AllPairs ComesBefore (d ∷ [])
one-direction d i j e lt within = absurd (omega arith)

pub if-either : {A : Type 0} (P : A → Type 0) (t : Bool) (a b : A) → P a → P b → P (if t then a else b)
if-either P true a b h k = h
if-either P false a b h k = k

bits-ordered : (bits : Option ℕ) → IfSome (directions_by bits) (AllPairs ComesBefore)
bits-ordered None = tt
bits-ordered (Some bits) =
    let P : Option (List Direction) → Type 0 = λ o. IfSome o (AllPairs ComesBefore) in
    if-either P (bits == 0) None (Some (directions_of bits)) tt
    (AllPairs-filter ComesBefore (names_direction bits) directions_in_order in_order)

row-ordered : (text : Option (List BidiUnit)) (directions : Option (List Direction)) →
    IfSome directions (AllPairs ComesBefore) → RowOrdered (classes_row_as_read text directions)
row-ordered None directions h = tt
row-ordered (Some text) None h = tt
row-ordered (Some text) (Some directions) h = h

items-ordered : (names : List (List ℕ)) (bits : List ℕ) → RowOrdered (classes_row_of_items bit_set names bits)
items-ordered [] bits = tt
items-ordered (name ∷ names) bits =
    row-ordered (each_read unit_item (name ∷ names)) (bit_set bits) (bits-ordered (number_up_to 15 bits))

data-ordered : (fields : List (List ℕ)) → RowOrdered (classes_row fields)
data-ordered [] = tt
data-ordered (names ∷ []) = tt
data-ordered (names ∷ bits ∷ []) = items-ordered (items_of names) bits
data-ordered (names ∷ bits ∷ more ∷ fields) = tt

levels-ordered : (o : Option (List (Option ℕ))) → RowOrdered (levels_directive o)
levels-ordered None = tt
levels-ordered (Some levels) = tt

order-ordered : (o : Option (List ℕ)) → RowOrdered (order_directive o)
order-ordered None = tt
order-ordered (Some order) = tt

directive-ordered : (content : List ℕ) → RowOrdered (directive content)
directive-ordered content =
    let levels = levels_directive (each_read level_item (items_of (drop 8 content))) in
    let order = order_directive (each_read order_item (items_of (drop 9 content))) in
    let third = if starts_with nat_eq content (codes "@Reorder:") then order else Broken Directive in
    let second = if starts_with nat_eq content (codes "@Levels:") then levels else third in
    if-either RowOrdered (starts_with nat_eq content (codes "@Type:")) Nothing second tt
    (if-either RowOrdered (starts_with nat_eq content (codes "@Levels:")) levels third
    (levels-ordered (each_read level_item (items_of (drop 8 content))))
    (if-either RowOrdered (starts_with nat_eq content (codes "@Reorder:")) order (Broken Directive)
    (order-ordered (each_read order_item (items_of (drop 9 content)))) tt))

content-ordered : (content : List ℕ) → RowOrdered (classes_content bit_set content)
content-ordered [] = tt
content-ordered (b ∷ bs) =
    if-either RowOrdered (b == 64) (directive (b ∷ bs)) (classes_row (fields_of (b ∷ bs))) (directive-ordered (b ∷ bs))
    (data-ordered (fields_of (b ∷ bs)))

line-ordered : (line : List ℕ) → RowOrdered (classes_line line)
unfolding classes_line
line-ordered line = if-either RowOrdered (nat_lt longest_line (length line)) (Broken LineTooLong)
    (classes_content bit_set (content_of line)) tt (content-ordered (content_of line))

row_under-ordered : (text : List BidiUnit) (directions : List Direction) (levels : Option (List (Option ℕ)))
    (order : Option (List ℕ)) → AllPairs ComesBefore directions
    → IsOrdered (row_under text directions levels order)
row_under-ordered text directions None order h = tt
row_under-ordered text directions (Some levels) None h = tt
row_under-ordered text directions (Some levels) (Some order) h = h

finding-ordered : (levels : Option (List (Option ℕ))) (order : Option (List ℕ)) (noted : ClassesLine) →
    RowOrdered noted → IsOrdered (comes_to levels order noted)
finding-ordered levels order Nothing h = tt
finding-ordered levels order (LevelsAre _) h = tt
finding-ordered levels order (OrderIs _) h = tt
finding-ordered levels order (Broken cause) h = tt
finding-ordered levels order (RowOf text directions) h = row_under-ordered text directions levels order h

pub classes-ordered : (levels : Option (List (Option ℕ))) (order : Option (List ℕ)) (line : List ℕ) →
    IsOrdered (comes_to levels order (classes_line line))
classes-ordered levels order line = finding-ordered levels order (classes_line line) (line-ordered line)
