-- The forms of hard texts, and the letters from which the texts of each form are drawn. A letter that is in a list
-- twice is drawn twice as often.
use Rattle.std.specs.Prelude.{ℕ, List, [], ◌∷◌}
use Rattle.units.specs.declared.class.Class.{Class}
use Rattle.units.specs.declared.class.Class.TheVariants.{L, R, AL, EN, ES, ET, AN, CS, NSM, BN, B, S, WS, ON, LRE, RLE, LRO, RLO, PDF, LRI, RLI, FSI, PDI}
use Rattle.rows.specs.declared.form.Form.{Form}
use Rattle.rows.specs.declared.form.Form.TheVariants.{Nest, Brackets, Marks, Numbers, Isolates, Separators}

-- the classes of a form; classes carry no brackets
abbrev pub form_classes : Form → List Class
form_classes Nest =
    LRE ∷ RLE ∷ LRO ∷ RLO ∷ LRE ∷ RLE ∷ LRI ∷ RLI ∷ FSI ∷ LRI ∷ RLI ∷ PDF ∷ PDF ∷ PDI ∷ PDI ∷ L ∷ R ∷ AL ∷ EN ∷ AN ∷
    NSM ∷ ON ∷ BN ∷ []
form_classes Brackets = []
form_classes Marks =
    NSM ∷ NSM ∷ NSM ∷ NSM ∷ L ∷ R ∷ AL ∷ EN ∷ AN ∷ ET ∷ ON ∷ LRI ∷ RLI ∷ FSI ∷ PDI ∷ PDI ∷ LRO ∷ RLO ∷ PDF ∷ BN ∷ []
form_classes Numbers = EN ∷ EN ∷ EN ∷ AN ∷ AN ∷ ES ∷ ES ∷ CS ∷ CS ∷ ET ∷ ET ∷ AL ∷ R ∷ L ∷ NSM ∷ ON ∷ BN ∷ []
form_classes Isolates = FSI ∷ FSI ∷ RLI ∷ LRI ∷ PDI ∷ PDI ∷ PDI ∷ L ∷ R ∷ AL ∷ EN ∷ BN ∷ ON ∷ []
form_classes Separators =
    S ∷ S ∷ B ∷ WS ∷ WS ∷ WS ∷ L ∷ R ∷ AL ∷ EN ∷ AN ∷ ON ∷ LRI ∷ RLI ∷ FSI ∷ PDI ∷ RLE ∷ PDF ∷ BN ∷ []

-- the characters of a form
abbrev pub form_characters : Form → List ℕ
form_characters Nest =
    0x202A ∷ 0x202B ∷ 0x202D ∷ 0x202E ∷ 0x202A ∷ 0x202B ∷ 0x2066 ∷ 0x2067 ∷ 0x2068 ∷ 0x2066 ∷ 0x2067 ∷ 0x202C ∷
    0x202C ∷ 0x2069 ∷ 0x2069 ∷ 0x0061 ∷ 0x05D0 ∷ 0x0627 ∷ 0x0031 ∷ 0x0661 ∷ 0x0300 ∷ 0x0021 ∷ 0x1D173 ∷ []
form_characters Brackets =
    0x0028 ∷ 0x0028 ∷ 0x0028 ∷ 0x0028 ∷ 0x0028 ∷ 0x0028 ∷ 0x0028 ∷ 0x0028 ∷ 0x0028 ∷ 0x0028 ∷ 0x005B ∷ 0x005B ∷
    0x005B ∷ 0x005B ∷ 0x005B ∷ 0x005B ∷ 0x2329 ∷ 0x2329 ∷ 0x2329 ∷ 0x2329 ∷ 0x3008 ∷ 0x3008 ∷ 0x3008 ∷ 0x3008 ∷
    0xFF08 ∷ 0xFF08 ∷ 0xFF08 ∷ 0xFF08 ∷ 0xFF08 ∷ 0xFF08 ∷ 0x2768 ∷ 0x0029 ∷ 0x005D ∷ 0x232A ∷ 0x3009 ∷ 0xFF09 ∷
    0x0061 ∷ 0x05D0 ∷ 0x0627 ∷ 0x10400 ∷ 0x10800 ∷ 0x0031 ∷ 0x0661 ∷ 0x0300 ∷ 0x0021 ∷ 0x2067 ∷ 0x2069 ∷ []
form_characters Marks =
    0x0300 ∷ 0x05B0 ∷ 0x1D167 ∷ 0xE0100 ∷ 0x0061 ∷ 0x05D0 ∷ 0x0627 ∷ 0x0031 ∷ 0x0661 ∷ 0x0025 ∷ 0x0021 ∷ 0x0028 ∷
    0x0029 ∷ 0x005B ∷ 0x005D ∷ 0x2066 ∷ 0x2067 ∷ 0x2068 ∷ 0x2069 ∷ 0x2069 ∷ 0x202D ∷ 0x202E ∷ 0x202C ∷ 0x200B ∷ []
form_characters Numbers =
    0x0031 ∷ 0x06F1 ∷ 0x1D7CE ∷ 0x0661 ∷ 0x10E60 ∷ 0x002B ∷ 0x002D ∷ 0x002C ∷ 0x003A ∷ 0x0025 ∷ 0x20AC ∷ 0x0627 ∷
    0x05D0 ∷ 0x0061 ∷ 0x0300 ∷ 0x0021 ∷ 0x200B ∷ []
form_characters Isolates =
    0x2068 ∷ 0x2068 ∷ 0x2067 ∷ 0x2066 ∷ 0x2069 ∷ 0x2069 ∷ 0x2069 ∷ 0x0061 ∷ 0x10400 ∷ 0x05D0 ∷ 0x10800 ∷ 0x0627 ∷
    0x1EE00 ∷ 0x0031 ∷ 0x200B ∷ 0x1D173 ∷ 0x0021 ∷ []
form_characters Separators =
    0x0009 ∷ 0x001F ∷ 0x2029 ∷ 0x000A ∷ 0x0020 ∷ 0x2003 ∷ 0x3000 ∷ 0x0061 ∷ 0x05D0 ∷ 0x0627 ∷ 0x0031 ∷ 0x0661 ∷
    0x0021 ∷ 0x2066 ∷ 0x2067 ∷ 0x2068 ∷ 0x2069 ∷ 0x202B ∷ 0x202C ∷ 0x200B ∷ []
