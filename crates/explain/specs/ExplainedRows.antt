-- Worked texts, and what `explain` prints of them.
use Rattle.std.specs.Prelude.{◌≡◌, [], ◌∷◌, ◌++◌, codes, refl}
use Rattle.std.specs.Fmt.{digits}
use Rattle.units.specs.RowWords.{layouts_compute, plain, opens, shuts}
use Rattle.units.specs.declared.class.Class.TheVariants.{L, R, EN, B, WS, ON, LRE, LRO, RLE, PDF}
use Rattle.units.specs.declared.level.Direction.TheVariants.{Auto, Ltr, Rtl}
use Rattle.printing.specs.LevelsText.{code_text}
use Rattle.rule_columns.specs.Columns.{columns_of}
use Rattle.explain.specs.Explained.{explained_classes, explained_units}
use Rattle.explain.specs.Headings.{columns_text}
use Rattle.rule_columns.specs.Passes.{rewritten, implicit_of, closers_of}

-- an embedding splits the text into three sequences; the number in the last one follows L (W7)
pub embedding_in_the_middle : explained_classes (R ∷ ON ∷ LRE ∷ L ∷ PDF ∷ EN ∷ []) Auto
    ≡ codes "paragraph 0 level 1: R at 0\n" ++ columns_text
    ++ codes "0 - R 1 . . . . . . . . . . . . .\n"
    ++ codes "1 - ON 1 . . . . . . . . . . R . .\n"
    ++ codes "2 - LRE x . . . . . . . . . . . . .\n"
    ++ codes "3 - L 2 . . . . . . . . . . . . .\n"
    ++ codes "4 - PDF x . . . . . . . . . . . . .\n"
    ++ codes "5 - EN 1 . . . . . . . L . . . 2 .\n"
    ++ codes "sequence 0 level 1 sos R eos L: 0 1\n"
    ++ codes "sequence 1 level 2 sos L eos L: 3\n"
    ++ codes "sequence 2 level 1 sos L eos R: 5\n"
    ++ codes "order 3 5 1 0\n"
unfolding layouts_compute columns_of rewritten implicit_of closers_of digits
embedding_in_the_middle = refl

-- a pair of brackets around a number
pub brackets_round_a_number : explained_units (1488 ∷ 40 ∷ 49 ∷ 41 ∷ []) (plain R ∷ opens 41 ∷ plain EN ∷ shuts 41 ∷
    []) Auto
    ≡ codes "paragraph 0 level 1: R at 0\n" ++ columns_text
    ++ codes "0 05D0 R 1 . . . . . . . . . . . . .\n"
    ++ codes "1 0028 ON 1 . . . . . . . . R . . . .\n"
    ++ codes "2 0031 EN 1 . . . . . . . . . . . 2 .\n"
    ++ codes "3 0029 ON 1 . . . . . . . . R . . . .\n"
    ++ codes "sequence 0 level 1 sos R eos R: 0 1 2 3\n"
    ++ codes "pair 1 3\n"
    ++ codes "order 3 2 1 0\n"
unfolding layouts_compute columns_of rewritten implicit_of closers_of digits code_text
brackets_round_a_number = refl

-- positions continue in the second paragraph, and sequences are numbered from 0 again
pub two_paragraphs_explained : explained_classes (WS ∷ B ∷ ON ∷ []) Rtl
    ≡ codes "paragraph 0 level 1: given\n" ++ columns_text
    ++ codes "0 - WS 1 . . . . . . . . . R . . .\n"
    ++ codes "1 - B 1 . . . . . . . . . R . . .\n"
    ++ codes "sequence 0 level 1 sos R eos R: 0 1\n"
    ++ codes "order 1 0\n"
    ++ codes "paragraph 1 level 1: given\n" ++ columns_text
    ++ codes "2 - ON 1 . . . . . . . . . R . . .\n"
    ++ codes "sequence 0 level 1 sos R eos R: 2\n"
    ++ codes "order 2\n"
unfolding layouts_compute columns_of rewritten implicit_of closers_of digits
two_paragraphs_explained = refl

-- white space at the line's end takes the paragraph's level (L1)
pub white_space_last : explained_classes (RLE ∷ WS ∷ []) Ltr
    ≡ codes "paragraph 0 level 0: given\n" ++ columns_text
    ++ codes "0 - RLE x . . . . . . . . . . . . .\n"
    ++ codes "1 - WS 1 . . . . . . . . . R . . 0\n"
    ++ codes "sequence 0 level 1 sos R eos R: 1\n"
    ++ codes "order 1\n"
unfolding layouts_compute columns_of rewritten implicit_of closers_of digits
white_space_last = refl

-- an override
pub overridden : explained_classes (LRO ∷ R ∷ []) Rtl
    ≡ codes "paragraph 0 level 1: given\n" ++ columns_text
    ++ codes "0 - LRO x . . . . . . . . . . . . .\n"
    ++ codes "1 - R 2 L . . . . . . . . . . . .\n"
    ++ codes "sequence 0 level 2 sos L eos L: 1\n"
    ++ codes "order 1\n"
unfolding layouts_compute columns_of rewritten implicit_of closers_of digits
overridden = refl

-- no strong character
pub no_strong : explained_classes (ON ∷ []) Auto
    ≡ codes "paragraph 0 level 0: no strong character\n" ++ columns_text
    ++ codes "0 - ON 0 . . . . . . . . . L . . .\n"
    ++ codes "sequence 0 level 0 sos L eos L: 0\n"
    ++ codes "order 0\n"
unfolding layouts_compute columns_of rewritten implicit_of closers_of digits
no_strong = refl

-- an empty text has no paragraph
pub empty_text : explained_classes [] Auto ≡ []
unfolding layouts_compute
empty_text = refl
