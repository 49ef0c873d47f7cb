-- Fields with a semicolon between each two, read back.
use Rattle.std.proofs.Common.{◌≡◌, ◌≢◌, ℕ, List, [], ◌∷◌, refl, ap, ◌∙◌, arith}
use Rattle.std.specs.List.{All}
use Rattle.std.proofs.lemmas.List.Elements.{All-nil, All-cons, All-head, All-tail, All-append, All-weaker}
use Rattle.units.specs.Text.{cut_at, each_trimmed, fields_of}
use Rattle.rows.specs.RowTexts.{in_fields}
use Rattle.rows.proofs.Between.{IsField}
use Rattle.rows.proofs.Contents.{cut-first, uncut}
use Rattle.rows.proofs.LineTexts.{IsFieldByte, IsLineByte, line-field}

apart : (bs : List ℕ) → IsField bs → All (λ b. b ≢ 59) bs
apart bs field = All-weaker IsFieldByte (λ b. b ≢ 59) (λ b h. h.separator) bs field.bytes

cut-fields : (field : List ℕ) (fields : List (List ℕ)) → All IsField (field ∷ fields) →
    cut_at 59 (in_fields (field ∷ fields)) ≡ field ∷ fields
cut-fields field [] are = uncut 59 field (apart field (All-head IsField field [] are))
cut-fields field (next ∷ fields) are =
    cut-first 59 field (in_fields (next ∷ fields)) (apart field (All-head IsField field (next ∷ fields) are))
    ∙ ap (λ (fs : List (List ℕ)). field ∷ fs) (cut-fields next fields (All-tail IsField field (next ∷ fields) are))

all-trimmed : (fields : List (List ℕ)) → All IsField fields → each_trimmed fields ≡ fields
all-trimmed [] are = refl
all-trimmed (field ∷ fields) are =
    rw ((All-head IsField field fields are).trim) (ap (λ (fs : List (List ℕ)).
    field ∷ fs) (all-trimmed fields (All-tail IsField field fields are)))

pub fields-read : (field : List ℕ) (fields : List (List ℕ)) → All IsField (field ∷ fields) →
    fields_of (in_fields (field ∷ fields)) ≡ field ∷ fields
fields-read field fields are = ap each_trimmed (cut-fields field fields are) ∙ all-trimmed (field ∷ fields) are

pub fields-bytes : (fields : List (List ℕ)) → All IsField fields → All IsLineByte (in_fields fields)
fields-bytes [] are = All-nil IsLineByte
fields-bytes (field ∷ []) are = All-weaker IsFieldByte IsLineByte line-field field (All-head IsField field [] are).bytes
fields-bytes (field ∷ next ∷ fields) are =
    All-append IsLineByte field (59 ∷ in_fields (next ∷ fields))
    (All-weaker IsFieldByte IsLineByte line-field field (All-head IsField field (next ∷ fields) are).bytes)
    (All-cons IsLineByte 59 (in_fields (next ∷ fields)) (record { printed = omega arith; comment = λ e. omega arith })
    (fields-bytes (next ∷ fields) (All-tail IsField field (next ∷ fields) are)))
