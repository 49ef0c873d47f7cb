-- How a code point is padded.
use Rattle.std.proofs.Common.{append-nil, ◌≡◌, ℕ, ◌-◌, ◌^◌, true, false, List, [], ◌++◌, length, ap, arith}
use Rattle.std.specs.Prelude.{replicate}
use Rattle.std.specs.Fmt.{padded_integral, char_count, format_spec, digits}
use Rattle.printing.specs.LevelsText.{code_text}

padded_at : (ds : List ℕ) → padded_integral (format_spec 32 0 4 4 (2 ^ 64 - 1)) false [] ds ≡
    replicate (4 - length ds) 48 ++ ds
unfolding padded_integral char_count
padded_at ds = rw append-nil (ap (λ k. replicate k 48 ++ ds) (omega arith))

pub padded_code : (c : ℕ) → padded_integral (format_spec 32 0 4 4 (2 ^ 64 - 1)) false [] (digits 16 true c) ≡
    code_text c
unfolding code_text
padded_code c = padded_at (digits 16 true c)
