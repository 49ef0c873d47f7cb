-- What `explain` prints of a text, as bytes: for each paragraph its heading, a line for each position, and its foot.
use Rattle.std.specs.Prelude.{Option, ℕ, ◌+◌, List, [], ◌∷◌, ◌++◌, length, map, take, sum_by, Some, None, slice_get, slice_index_or}
use Rattle.std.specs.Option.{option_map}
use Rattle.units.specs.Classes.{class_at}
use Rattle.units.specs.Layout.{no_unit}
use Rattle.units.specs.Paragraphs.{paragraphs_of}
use Rattle.units.specs.Runs.{SequenceView}
use Rattle.units.specs.declared.bracket.Bracket.TheVariants.{No}
use Rattle.units.specs.declared.bracket.Unit.{Unit as BidiUnit}
use Rattle.units.specs.declared.class.Class.{Class}
use Rattle.units.specs.declared.class.Class.TheVariants.{L}
use Rattle.units.specs.declared.level.Direction.{Direction}
use Rattle.ucdfiles.specs.Tables.{TablesOf, units_by}
use Rattle.resolve.specs.Pairs.{closer_in}
use Rattle.printing.specs.LevelsText.{printed}
use Rattle.rule_columns.specs.Columns.{ColumnsOf, column_after, columns_of}
use Rattle.explain.specs.Feet.{sequence_text, pair_text, order_text}
use Rattle.explain.specs.Headings.{heading_text, decider_of}
use Rattle.explain.specs.PositionText.{position_text}
use Rattle.explain.specs.declared.position.PositionLevels.{PositionLevels}
use Rattle.rule_columns.specs.declared.rule.Rule.{Rule}
use Rattle.rule_columns.specs.declared.rule.Rule.TheVariants as rule

-- the rules that change classes, in the order of their application
abbrev pub rules_of_classes : List Rule
rules_of_classes =
    rule.X ∷ rule.W1 ∷ rule.W2 ∷ rule.W3 ∷ rule.W4 ∷ rule.W5 ∷ rule.W6 ∷ rule.W7 ∷ rule.N0 ∷ rule.N1 ∷ rule.N2 ∷ []

-- a position's original class, and its class after each rule
abbrev pub classes_through : ColumnsOf → List BidiUnit → ℕ → List Class
classes_through columns para p =
    (slice_index_or para p no_unit).class ∷ map (λ r. class_at (column_after columns r) p) rules_of_classes

-- a position's levels: after X1 to X9, after I1 and I2, after L1
abbrev pub levels_through : ColumnsOf → ℕ → PositionLevels
levels_through columns p = record {
  explicit = option_map (λ x. x.0) (slice_index_or columns.explicit.leveled p None);
  implicit = slice_index_or columns.implicit p None;
  line = slice_index_or columns.shown.levels p None;
}

-- the line of the position p of a paragraph that begins at start of the text
abbrev pub position_text_at : List ℕ → List BidiUnit → ColumnsOf → ℕ → ℕ → List ℕ
position_text_at chars para columns start p =
    position_text (start + p) (slice_get chars (start + p)) (classes_through columns para p) (levels_through columns p)

-- what a read past the last sequence gives; no caller reads there
abbrev pub no_sequence : SequenceView
no_sequence = record { positions = []; level = 0; sos = L; eos = L; extent = 0 }

-- X10: the line of the sequence with the number k
abbrev pub sequence_line : ColumnsOf → ℕ → ℕ → List ℕ
sequence_line columns start k = sequence_text k start (slice_index_or columns.explicit.sequences k no_sequence)

-- the line of a pair, if there is one
abbrev pub pair_if : ℕ → ℕ → Option ℕ → List ℕ
pair_if start opener None = []
pair_if start opener (Some closer) = pair_text (start + opener) (start + closer)

-- BD16: the line of the pair that opens at p, if there is one
abbrev pub pair_at : ColumnsOf → ℕ → ℕ → List ℕ
pair_at columns start p = pair_if start p (closer_in columns.closers p)

-- the sequences, the bracket pairs in the order of their openers, and the line's order
abbrev pub foot_text : ColumnsOf → ℕ → ℕ → List ℕ
foot_text columns start size =
    printed (sequence_line columns start) 0 (length columns.explicit.sequences)
    ++ printed (pair_at columns start) 0 size
    ++ order_text start columns.shown.order

-- a paragraph with the number k that begins at start of the text
abbrev pub paragraph_explained : List ℕ → List BidiUnit → ColumnsOf → Direction → ℕ → ℕ → List ℕ
paragraph_explained chars para columns direction start k =
    heading_text k columns.explicit.para_level (decider_of direction para start columns.explicit.first_strong)
    ++ printed (position_text_at chars para columns start) 0 (length para)
    ++ foot_text columns start (length para)

-- the same, with the results of each rule for that paragraph
abbrev pub explained_from : List ℕ → List BidiUnit → Direction → ℕ → ℕ → List ℕ
explained_from chars para direction start k =
    paragraph_explained chars para (columns_of para direction) direction start k

-- P1: where the paragraph with the number k begins: after all earlier ones
abbrev pub start_of : List (List BidiUnit) → ℕ → ℕ
start_of paragraphs k = sum_by length (take k paragraphs)

-- P1: the paragraph with the number k, of these
abbrev pub explained_paragraph : List ℕ → Direction → List (List BidiUnit) → ℕ → List ℕ
explained_paragraph chars direction paragraphs k =
    let para = slice_index_or paragraphs k [] in
    explained_from chars para direction (start_of paragraphs k) k

-- a text of these units: its paragraphs (P1), one after another; chars is empty if only the units are known
abbrev pub explained_units : List ℕ → List BidiUnit → Direction → List ℕ
explained_units chars text direction =
    printed (explained_paragraph chars direction (paragraphs_of text)) 0 (length (paragraphs_of text))

-- what is printed of a text, with tables
abbrev pub explained : TablesOf → List ℕ → Direction → List ℕ
explained tables chars direction = explained_units chars (units_by tables chars) direction

-- the unit of a class, which has no bracket
abbrev pub plain_unit : Class → BidiUnit
plain_unit class = record { class = class; bracket = No }

-- what is printed of a row of classes, none of which has a bracket
abbrev pub explained_classes : List Class → Direction → List ℕ
explained_classes classes direction = explained_units [] (map plain_unit classes) direction
