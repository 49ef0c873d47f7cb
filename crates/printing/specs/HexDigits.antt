-- The upper-case hex digits of a code point, in two parts.
use Rattle.std.specs.Prelude.{ℕ, ◌==◌, ◌/◌, ◌%◌, if◌then◌else◌, true, List, [], ◌∷◌}
use Rattle.std.specs.Fmt.{digit_glyph, digits}

-- the digits before the last four, which are those of `front`; no digits if `front` is 0
abbrev pub front_digits : ℕ → List ℕ
front_digits front = if front == 0 then [] else digits 16 true front

-- the last four digits
abbrev pub last_digits : ℕ → List ℕ
last_digits code =
    digit_glyph true (code / 4096 % 16) ∷ digit_glyph true (code / 256 % 16) ∷ digit_glyph true (code / 16 % 16) ∷
    digit_glyph true (code % 16) ∷ []
