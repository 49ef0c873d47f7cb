-- Lines and fields that are read completely.
use Rattle.std.proofs.Common.{◌≡◌, ◌≢◌, ℕ, ◌-◌, ◌<◌, ◌==◌, false, List, [], ◌∷◌, ◌++◌, length, get_or, refl, ap, ◌∙◌, arith, eq-eqb, ne_eqb}
use Rattle.std.specs.List.{All, position_or_len, suffix_len}
use Rattle.std.proofs.lemmas.List.{take_all}
use Rattle.std.proofs.lemmas.List.Elements.{All-weaker}
use Rattle.std.proofs.lemmas.List.Sums.{position_or_len_is, suffix_len_is}
use Rattle.std.proofs.lemmas.List.Splits.{slice_split_at, slice_split_none}
use Rattle.units.specs.Text.{is_blank, trimmed, without_blanks_before, without_trailing_blanks, content_of, cut_at}

-- neither end is a blank
pub record HasNoBlankEnds (bs : List ℕ) : Type 0 where
  pub some : 0 < length bs
  pub first : is_blank (get_or bs 0 0) ≡ false
  pub last : is_blank (get_or bs (length bs - 1) 0) ≡ false

before-whole : (bs : List ℕ) → is_blank (get_or bs 0 0) ≡ false → without_blanks_before bs ≡ bs
before-whole [] first = refl
before-whole (b ∷ bs) first = rw first refl

following-whole : (bs : List ℕ) → HasNoBlankEnds bs → without_trailing_blanks bs ≡ bs
following-whole bs ends =
    let none : suffix_len is_blank bs ≡ length bs - length bs =
    suffix_len_is is_blank bs (length bs) 0 (omega arith) (λ k le lt. absurd (omega arith)) (λ some. ends.last) in
    take_all (length bs - suffix_len is_blank bs) bs (omega (arith, none))

pub trimmed-whole : (bs : List ℕ) → HasNoBlankEnds bs → trimmed bs ≡ bs
trimmed-whole bs ends = ap without_trailing_blanks (before-whole bs ends.first) ∙ following-whole bs ends

-- the content of a line without a comment is the line
pub content-whole : (line : List ℕ) → All (λ b. b ≢ 35) line → HasNoBlankEnds line → content_of line ≡ line
content-whole line free ends =
    let none : position_or_len (λ b. b == 35) line ≡ length line =
    position_or_len_is (λ b. b == 35) line (length line) 0 (omega arith) (λ k lt.
    ne_eqb (get_or line k 0) 35 (free k 0 lt)) (λ lt. absurd (omega arith)) in
    ap trimmed (take_all (position_or_len (λ b. b == 35) line) line (omega (arith, none))) ∙ trimmed-whole line ends

pub uncut : (separator : ℕ) (bs : List ℕ) → All (λ b. b ≢ separator) bs → cut_at separator bs ≡ bs ∷ []
uncut separator bs free =
    slice_split_none (λ b. b == separator) bs (All-weaker (λ b. b ≢ separator) (λ b. (b == separator) ≡ false) (λ b ne.
    ne_eqb b separator ne) bs free)

-- a piece before a separator
pub cut-first : (separator : ℕ) (bs rest : List ℕ) → All (λ b. b ≢ separator) bs →
    cut_at separator (bs ++ separator ∷ rest) ≡ bs ∷ cut_at separator rest
cut-first separator bs rest free =
    slice_split_at (λ b. b == separator) bs separator rest
    (All-weaker (λ b. b ≢ separator) (λ b. (b == separator) ≡ false) (λ b ne. ne_eqb b separator ne) bs free)
    (eq-eqb separator separator refl)
