-- Texts of no code units.
use Rattle.std.proofs.Common.{◌≡◌, ℕ, List, [], ◌∷◌, arith, length, refl}
use Rattle.std.specs.Str.{chars}
use Rattle.std.specs.Str.Lossy.{utf8_error_len, utf8_valid_len}
use Rattle.std.proofs.lemmas.Str.{utf16_chars-nil}
use Rattle.ucdfiles.specs.Tables.{TablesOf}
use Rattle.decoding.specs.declared.fault.Faults.{Faults}
use Rattle.decoding.specs.declared.fault.Faults.TheVariants.{Rejected, Replaced}
use Rattle.decoding.specs.LossyTexts.{chunks}
use Rattle.sources.specs.Sources.{Utf16, Utf8, units_of}

-- they have no characters
pub no_bytes : (tables : TablesOf) (bytes : List ℕ) (faults : Faults) → length bytes ≡ 0 →
    units_of tables (Utf8 bytes faults) ≡ []
unfolding chunks utf8_valid_len utf8_error_len chars
no_bytes tables [] Rejected none = refl
no_bytes tables [] Replaced none = refl
no_bytes tables (x ∷ xs) faults none = absurd (omega (arith, none))

pub no_units : (tables : TablesOf) (text : List ℕ) (faults : Faults) → length text ≡ 0 →
    units_of tables (Utf16 text faults) ≡ []
no_units tables [] faults none = rw utf16_chars-nil refl
no_units tables (x ∷ xs) faults none = absurd (omega (arith, none))
