-- Short items, read one after another, and what makes bytes one of them.
use Rattle.std.proofs.Common.{◌≡◌, ℕ, ◌+◌, ◌-◌, ◌*◌, ◌<◌, ◌≤◌, true, false, Option, None, Some, List, [], ◌∷◌, ◌++◌, length, get_or, take, drop, refl, sym, ap, ◌∙◌, arith, append_assoc, length-append, length-drop, inl, inr, All}
use Rattle.std.proofs.lemmas.List.{take_all, take_rest, take-append-drop, drop_more, length-take}
use Rattle.std.specs.Prelude.{◌⊎◌}
use Rattle.units.specs.Text.{is_blank, has_bytes, items_of, each_read, both_read}
use Rattle.std.proofs.lemmas.Bool.{ne_eqb, le-leb}
use Rattle.units.specs.Text.{number_up_to}
use Rattle.bidtests.specs.ClassesFile.{level_item, order_item}
use Rattle.bidtests.specs.ShortItems.{IsFirstItem, read_after}
use Rattle.bidtests.proofs.Filling.{Fills}
use Rattle.bidtests.proofs.NamesRead.{item-next, item-last}

second-of : {P Q : Type 0} → P ⊎ Q → (P → ⊥) → Q
second-of (inl p) none = absurd (none p)
second-of (inr q) none = q

module _ {A : Type 0} (reading : List ℕ → Option A) where
  value-next : (items : List A) (item : List ℕ) (value : A) (more : Option (List A)) → reading item ≡ Some value →
      read_after items (both_read (reading item) more) ≡ read_after (items ++ value ∷ []) more
  value-next items item value None e = rw e refl
  value-next items item value (Some values) e =
      rw e (ap (λ xs. Some xs) (sym (append_assoc items (value ∷ []) values)))

  some_bytes : (xs : List ℕ) → 0 < length xs → has_bytes xs ≡ true
  some_bytes [] h = absurd (omega (arith, h))
  some_bytes (x ∷ xs) h = refl

  module _ (field remaining : List ℕ) (items : List A) (value : A) (count : ℕ)
      (fills : Fills reading field remaining items) (first : IsFirstItem reading remaining value count) where
    item_bytes : has_bytes (take count remaining) ≡ true
    item_bytes =
        some_bytes (take count remaining) (omega (arith, first.some, first.inside, length-take count remaining))

    room : 2 * length items + length remaining ≤ length field
    room = fills.more (omega (arith, first.some, first.inside))

    pub first-last : count ≡ length remaining → Fills reading field [] (items ++ value ∷ [])
    first-last all =
        let whole : take count remaining ≡ remaining = take_all count remaining (omega (arith, all)) in
        let only : items_of remaining ≡ take count remaining ∷ [] =
        ap items_of (sym whole) ∙ item-last (take count remaining) first.full item_bytes in
        record {
          read = sym (value-next items (take count remaining) value (Some []) first.read) ∙
              ap (λ xs. read_after items (each_read reading xs)) (sym only) ∙ fills.read;
          room = omega (arith, room, first.some, first.inside, length-append items (value ∷ []));
          more = λ lt. absurd (omega (arith, lt));
        }

    pub first-next : (rest : List ℕ) → rest ≡ take (length remaining - (count + 1)) (drop (count + 1) remaining)
        → (count ≡ length remaining → ⊥) → Fills reading field rest (items ++ value ∷ [])
    first-next rest is not_all =
        let below : count < length remaining = omega (arith, first.inside, not_all) in
        let space : get_or remaining count 0 ≡ 32 = second-of first.end not_all in
        let dropped : rest ≡ drop (count + 1) remaining = is ∙ take_rest remaining (count + 1) in
        let whole : remaining ≡ take count remaining ++ 32 ∷ rest =
        sym (take-append-drop count remaining) ∙
        ap (λ xs. take count remaining ++ xs) (drop_more remaining count 0 below ∙
        ap (λ x. x ∷ drop (count + 1) remaining) space ∙ ap (λ xs. 32 ∷ xs) (sym dropped)) in
        let cut : items_of remaining ≡ take count remaining ∷ items_of rest =
        ap items_of whole ∙ item-next (take count remaining) rest first.full item_bytes in
        let less : length rest ≡ length remaining - (count + 1) = ap length dropped ∙
        length-drop (count + 1) remaining in
        record {
          read =
              sym (value-next items (take count remaining) value (each_read reading (items_of rest)) first.read) ∙
              ap (λ xs. read_after items (each_read reading xs)) (sym cut) ∙ fills.read;
          room = omega (arith, room, below, first.some, length-append items (value ∷ []));
          more = λ lt. omega (arith, room, below, less, first.some, length-append items (value ∷ []));
        }

-- an item of one byte
one-byte : (bytes : List ℕ) (b : ℕ) → 1 ≤ length bytes → get_or bytes 0 0 ≡ b → take 1 bytes ≡ b ∷ []
one-byte [] b some e = absurd (omega (arith, some))
one-byte (x ∷ bytes) b some e = ap (λ y. y ∷ []) e

only-one : (b : ℕ) → is_blank b ≡ false → All (λ x. is_blank x ≡ false) (b ∷ [])
only-one b full k d lt =
    let e : k ≡ 0 = omega (arith, lt) in
    rw e full

pub one-item : {A : Type 0} (reading : List ℕ → Option A) (bytes : List ℕ) (b : ℕ) (value : A) → 1 ≤ length bytes →
    (1 ≡ length bytes) ⊎ (get_or bytes 1 0 ≡ 32) → get_or bytes 0 0 ≡ b → is_blank b ≡ false
    → reading (b ∷ []) ≡ Some value → IsFirstItem reading bytes value 1
one-item reading bytes b value some end at full read =
    let e : take 1 bytes ≡ b ∷ [] = one-byte bytes b some at in
    record {
      some = omega arith;
      inside = some;
      full = rw e (only-one b full);
      end = end;
      read = rw e read;
    }

pub digit-full : (b : ℕ) → 48 ≤ b → b ≤ 57 → is_blank b ≡ false
digit-full b low high = rw (
  ne_eqb b 32 (λ e. absurd (omega (arith, e, low))),
  ne_eqb b 9 (λ e. absurd (omega (
    arith,
    e,
    low,
  ))),
  ne_eqb b 13 (λ e. absurd (omega (arith, e, low))),
) refl

digit-number : (greatest b : ℕ) → 48 ≤ b → b ≤ 57 → 9 ≤ greatest → number_up_to greatest (b ∷ []) ≡ Some (b - 48)
digit-number greatest b low high most =
    let value : 0 * 10 + (b - 48) ≡ b - 48 = omega arith in
    rw (le-leb 48 b low, le-leb b 57 high, value, le-leb (b - 48) greatest (omega (arith, high, most))) refl

pub order-digit : (b : ℕ) → 48 ≤ b → b ≤ 57 → order_item (b ∷ []) ≡ Some (b - 48)
order-digit b low high = digit-number 65535 b low high (omega arith)

pub level-digit : (b : ℕ) → 48 ≤ b → b ≤ 57 → level_item (b ∷ []) ≡ Some (Some (b - 48))
level-digit b low high =
    rw (ne_eqb b 120 (λ e. absurd (omega (arith, e, high))), digit-number 126 b low high (omega arith)) refl
