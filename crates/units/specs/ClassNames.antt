-- The names of the values of Bidi_Class: short and long, one table.
use Rattle.std.specs.Prelude.{Option, ℕ, Bool, List, [], ◌∷◌, codes}
use Rattle.std.specs.Str.{bytes_eq}
use Rattle.std.specs.List.{find}
use Rattle.units.specs.declared.class.Class.{Class}
use Rattle.units.specs.declared.class.Class.TheVariants.{L, R, AL, EN, ES, ET, AN, CS, NSM, BN, B, S, WS, ON, LRE, LRO, RLE, RLO, PDF, LRI, RLI, FSI, PDI}

-- the short names
abbrev pub short_name : Class → List ℕ
short_name L = codes "L"
short_name R = codes "R"
short_name AL = codes "AL"
short_name EN = codes "EN"
short_name ES = codes "ES"
short_name ET = codes "ET"
short_name AN = codes "AN"
short_name CS = codes "CS"
short_name NSM = codes "NSM"
short_name BN = codes "BN"
short_name B = codes "B"
short_name S = codes "S"
short_name WS = codes "WS"
short_name ON = codes "ON"
short_name LRE = codes "LRE"
short_name LRO = codes "LRO"
short_name RLE = codes "RLE"
short_name RLO = codes "RLO"
short_name PDF = codes "PDF"
short_name LRI = codes "LRI"
short_name RLI = codes "RLI"
short_name FSI = codes "FSI"
short_name PDI = codes "PDI"

-- the long names
abbrev pub long_name : Class → List ℕ
long_name L = codes "Left_To_Right"
long_name R = codes "Right_To_Left"
long_name AL = codes "Arabic_Letter"
long_name EN = codes "European_Number"
long_name ES = codes "European_Separator"
long_name ET = codes "European_Terminator"
long_name AN = codes "Arabic_Number"
long_name CS = codes "Common_Separator"
long_name NSM = codes "Nonspacing_Mark"
long_name BN = codes "Boundary_Neutral"
long_name B = codes "Paragraph_Separator"
long_name S = codes "Segment_Separator"
long_name WS = codes "White_Space"
long_name ON = codes "Other_Neutral"
long_name LRE = codes "Left_To_Right_Embedding"
long_name LRO = codes "Left_To_Right_Override"
long_name RLE = codes "Right_To_Left_Embedding"
long_name RLO = codes "Right_To_Left_Override"
long_name PDF = codes "Pop_Directional_Format"
long_name LRI = codes "Left_To_Right_Isolate"
long_name RLI = codes "Right_To_Left_Isolate"
long_name FSI = codes "First_Strong_Isolate"
long_name PDI = codes "Pop_Directional_Isolate"

-- all values
abbrev pub classes : List Class
classes =
    L ∷ R ∷ AL ∷ EN ∷ ES ∷ ET ∷ AN ∷ CS ∷ NSM ∷ BN ∷ B ∷ S ∷ WS ∷ ON ∷ LRE ∷ LRO ∷ RLE ∷ RLO ∷ PDF ∷ LRI ∷ RLI ∷ FSI
    ∷ PDI ∷ []

-- the class has this short name
abbrev pub is_short_name : List ℕ → Class → Bool
is_short_name name class = bytes_eq (short_name class) name

-- the class has this long name
abbrev pub is_long_name : List ℕ → Class → Bool
is_long_name name class = bytes_eq (long_name class) name

-- the class that has this short name
abbrev pub class_of_short : List ℕ → Option Class
class_of_short name = find (is_short_name name) classes

-- the class that has this long name
abbrev pub class_of_long : List ℕ → Option Class
class_of_long name = find (is_long_name name) classes
