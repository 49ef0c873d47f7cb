-- Texts in code units, as the characters that these spell.
use Rattle.std.proofs.Common.{◌≡◌, ℕ, arith, length, refl}
use Rattle.ucdfiles.specs.Tables.{TablesOf, units_by}
use Rattle.decoding.specs.Offsets.{IsSpelledOut, codes_of, offset_of}
use Rattle.decoding.specs.declared.fault.Faults.TheVariants.{Rejected, Replaced}
use Rattle.decoding.proofs.LossyChunks.{lossy_spelled}
use Rattle.decoding.proofs.Utf16Texts.{utf16_spelled}
use Rattle.decoding.proofs.Utf8Texts.{utf8_spelled}
use Rattle.sources.specs.Sources.{SourceOf, Codes, Classes, Units, Utf8, Utf16, IsEncoded, characters_of, source_offset, text_in, units_of}

-- each character takes some code unit
pub text_spelled : (source : SourceOf) → IsSpelledOut (text_in source)
text_spelled (Codes numbers) = λ k d lt. absurd (omega (arith, lt))
text_spelled (Classes numbers) = λ k d lt. absurd (omega (arith, lt))
text_spelled (Units numbered) = λ k d lt. absurd (omega (arith, lt))
text_spelled (Utf8 bytes Rejected) = utf8_spelled bytes
text_spelled (Utf8 bytes Replaced) = lossy_spelled bytes
text_spelled (Utf16 units faults) = utf16_spelled units

pub characters_encoded : (source : SourceOf) → IsEncoded source → characters_of source ≡ length (text_in source)
characters_encoded (Codes numbers) is = absurd cc
characters_encoded (Classes numbers) is = absurd cc
characters_encoded (Units numbered) is = absurd cc
characters_encoded (Utf8 bytes faults) is = refl
characters_encoded (Utf16 units faults) is = refl

pub offset_encoded : (source : SourceOf) → IsEncoded source → (k : ℕ) →
    source_offset source k ≡ offset_of (text_in source) k
offset_encoded (Codes numbers) is k = absurd cc
offset_encoded (Classes numbers) is k = absurd cc
offset_encoded (Units numbered) is k = absurd cc
offset_encoded (Utf8 bytes faults) is k = refl
offset_encoded (Utf16 units faults) is k = refl

pub units_encoded : (source : SourceOf) → IsEncoded source → (tables : TablesOf) →
    units_of tables source ≡ units_by tables (codes_of (text_in source))
units_encoded (Codes numbers) is tables = absurd cc
units_encoded (Classes numbers) is tables = absurd cc
units_encoded (Units numbered) is tables = absurd cc
units_encoded (Utf8 bytes faults) is tables = refl
units_encoded (Utf16 units faults) is tables = refl
