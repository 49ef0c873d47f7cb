-- Columns that are written whole, and what follows from a result.
use Rattle.std.proofs.Common.{◌≡◌, List, length, sym, ◌∙◌, arith}
use Rattle.std.specs.Prelude.{Result, Ok, Err, OnOk}
use Rattle.std.specs.Box.{boxed_slice_items, boxed_slice_with_items}
use Rattle.std.specs.declared.boxed.BoxedSlice.{BoxedSlice}
use Rattle.std.proofs.lemmas.List.{take-append-le, take_all}

-- a column that is written whole
pub refilled : {A Z : Type 0} (column : BoxedSlice A Z) (xs : List A) → length xs ≡ length (boxed_slice_items column) →
    boxed_slice_items (boxed_slice_with_items column xs) ≡ xs
refilled column xs len =
    let same : length xs ≡ column.items.len = len ∙ sym column.items.ok.0 in
    take-append-le column.items.len xs _ (omega (arith, same)) ∙ take_all column.items.len xs (omega (arith, same))

-- what follows from a success
pub on_ok : {T E P Q : Type 0} (r : Result T E) → (P → Q) → OnOk r P → OnOk r Q
on_ok (Ok x) then h = then h
on_ok (Err e) then h = h
