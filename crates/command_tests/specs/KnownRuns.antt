-- What is printed for small files, and for a class.
use Rattle.std.specs.Prelude.{ℕ, List, [], ◌∷◌, ◌++◌, codes}

-- alef and LF, in UTF-8
abbrev pub alef_line : List ℕ
alef_line = 215 ∷ 144 ∷ 10 ∷ []

-- what each rule does to one neutral, ON, whose paragraph has no strong character
abbrev pub neutral_explained : List ℕ
neutral_explained =
    codes "paragraph 0 level 0: no strong character\n"
    ++ codes "position code class level X W1 W2 W3 W4 W5 W6 W7 N0 N1 N2 I L1\n"
    ++ codes "0 - ON 0 . . . . . . . . . L . . .\n"
    ++ codes "sequence 0 level 0 sos L eos L: 0\n"
    ++ codes "order 0\n"

-- the row at the third line of a file, with this neutral, under auto, whose expected level and position are 0
abbrev pub neutral_row_explained : List ℕ
neutral_row_explained =
    codes "line 3: auto\n"
    ++ neutral_explained
    ++ codes "claimed levels: 0\n"
    ++ codes "defined levels: 0\n"
    ++ codes "claimed order: 0\n"
    ++ codes "defined order: 0\n"
