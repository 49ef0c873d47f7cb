-- A source as lists, read through its references.
use Rattle.sources.specs.Sources.{SourceOf, Codes, Classes, Units, Utf8, Utf16}
use Rattle.sources.specs.declared.source.Source.{Source}
use Rattle.sources.specs.declared.source.Source.TheVariants.{Codes as GivenCodes, Classes as GivenClasses, Units as GivenUnits, Utf8 as GivenUtf8, Utf16 as GivenUtf16}

-- the text that a source refers to
abbrev pub source_seen : Source → SourceOf
source_seen (GivenCodes numbers) = Codes numbers.now
source_seen (GivenClasses numbers) = Classes numbers.now
source_seen (GivenUnits numbered) = Units numbered.now
source_seen (GivenUtf8 bytes faults) = Utf8 bytes.now faults
source_seen (GivenUtf16 units faults) = Utf16 units.now faults
