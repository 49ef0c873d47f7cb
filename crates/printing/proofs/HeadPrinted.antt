-- What is printed of a text is what is printed of its first paragraph, and after it what is printed of the rest.
use Rattle.std.proofs.Common.{◌≡◌, ℕ, zero, suc, ◌+◌, ◌-◌, ◌<◌, ◌≤◌, Bool, true, false, Option, Some, None, List, [], ◌∷◌, ◌++◌, length, map, get_or, refl, sym, ap, ◌∙◌, inl, inr, arith, append-nil, ne_eqb}
use Rattle.std.specs.Prelude.{filter, ◌||◌}
use Rattle.std.specs.declared.num.NonZeroU16.{NonZeroU16}
use Rattle.std.proofs.lemmas.Bool.{cases_Bool}
use Rattle.std.proofs.lemmas.List.{length-map, map-append}
use Rattle.units.specs.Classes.{class_at, classes_of, is_separator}
use Rattle.units.specs.Isolates.{para_level_of}
use Rattle.units.specs.Layout.{LineLayout, TextLayout, layout_of, line_of, lines_cut_at}
use Rattle.units.specs.Limits.{LimitsOf, standard}
use Rattle.units.specs.Paragraphs.{EndsWithSeparator, SeparatorOnlyLast}
use Rattle.units.specs.Positions.{positions_from}
use Rattle.units.specs.Reordering.{after_resets, begins_line, cuts_of}
use Rattle.units.specs.declared.bracket.Unit.{Unit as BidiUnit}
use Rattle.units.specs.declared.level.Direction.{Direction}
use Rattle.ucdfiles.specs.Tables.{TablesOf, mirror_by, unit_by, units_by}
use Rattle.lines.specs.Layouts.{no_line}
use Rattle.lines.proofs.Lengths.{length-levels}
use Rattle.printing.specs.Following.{levels_after, one_paragraph_after, paragraph_after, position_after, printed_as, printed_after}
use Rattle.printing.specs.Columns.{is_column_break}
use Rattle.printing.specs.LevelsText.{paragraph_text, printed, text_at_position, text_of_paragraph}
use Rattle.printing.specs.UnfinishedParagraphs.{Follows}
use Rattle.printing.specs.PrintedTexts.{breaks_of, lines_text}
use Rattle.printing.specs.ReorderText.{reorder_text}
use Rattle.printing.specs.declared.form.Form.{Form}
use Rattle.printing.specs.declared.form.Form.TheVariants.{Levels, Reorder}
use Rattle.printing.specs.declared.passed.Passed.{Passed}
use Rattle.printing.proofs.HeadBreaks.{AreBelow, following}
use Rattle.printing.proofs.HeadColumns.{columns_joined}
use Rattle.printing.proofs.HeadLayout.{joined_layouts, layout_joined, paragraph_alone, plain_at}
use Rattle.printing.proofs.HeadLines.{lines_of_some}
use Rattle.printing.proofs.HeadOrders.{layout_below}
use Rattle.printing.proofs.HeadTexts.{levels_joined, printed_same, reorder_joined}

none_pass : (test : ℕ → Bool) (s count n : ℕ) → s + count ≡ n → ((q : ℕ) → s ≤ q → q < n → test q ≡ false) →
    filter test (positions_from s count) ≡ []
none_pass test s zero n e none = refl
none_pass test s (suc count) n e none =
    rw (none s (omega arith) (omega arith)) (none_pass test (s + 1) count n (omega arith) (λ q low high.
    none q (omega arith) high))

below_filtered : (test : ℕ → Bool) (s count n : ℕ) → s + count ≡ n → AreBelow n (filter test (positions_from s count))
below_filtered test s zero n e = tt
below_filtered test s (suc count) n e =
    elim (cases_Bool (test s)) [
      | inl unchanged ↦ rw unchanged (omega arith, below_filtered test (s + 1) count n (omega arith))
      | inr remaining ↦ rw remaining (below_filtered test (s + 1) count n (omega arith))
    ]

or_none : (a : Bool) → a ≡ false → (a || false) ≡ false
or_none false h = refl
or_none true h = cc

no_cuts : (us : List BidiUnit) → SeparatorOnlyLast us → (k : ℕ) → k ≡ length (classes_of us) → 0 < k →
    filter (begins_line (classes_of us) []) (positions_from 1 (k - 1)) ≡ []
no_cuts us only k same some = none_pass (begins_line (classes_of us) []) 1 (k - 1) k (omega arith) (λ q low high.
    ap (λ t. t || is_separator (class_at (classes_of us) (q - 1)) || false) (ne_eqb q 0 (omega arith))
    ∙ or_none (is_separator (class_at (classes_of us) (q - 1))) (plain_at us only (q - 1) (omega arith)))

-- without further breaks a paragraph is one line
pub one_layout : (limits : LimitsOf) (direction : Direction) (us : List BidiUnit) → 0 < length us →
    SeparatorOnlyLast us →
    (let levels : List (Option ℕ) = (layout_of limits us direction []).levels in
    let one : TextLayout = record {
      paras = para_level_of (classes_of us) direction ∷ [];
      levels = levels;
      lines =
          line_of levels 0 (length us) ∷ [];
    } in
    layout_of limits us direction [] ≡ one)
unfolding layout_of
one_layout limits direction us some only =
    let n : length (classes_of us) ≡ length us = length-map us (λ (u : BidiUnit). u.class) in
    let long : length (layout_of limits us direction []).levels ≡ length us = length-levels limits us direction [] in
    let levels : List (Option ℕ) = (layout_of limits us direction []).levels in
    let paras = ap (λ pieces. map (λ ws. para_level_of (classes_of ws) direction) pieces)
    (paragraph_alone us some only) in
    let lines : lines_cut_at levels (cuts_of (classes_of us) []) ≡ line_of levels 0 (length us) ∷ [] =
    ap (lines_cut_at levels) (no_cuts us only (length (classes_of us)) refl (omega arith))
    ∙ lines_of_some levels [] (omega arith) ∙ ap (λ k. line_of levels 0 k ∷ []) long in
    ap (λ (ps : List ℕ). let l : TextLayout = record {
      paras = ps;
      levels = levels;
      lines =
          lines_cut_at levels (cuts_of (classes_of us) []);
    } in l) paras
    ∙ ap (λ (ls : List LineLayout). let l : TextLayout = record {
      paras = para_level_of (classes_of us) direction ∷ [];
      levels = levels;
      lines = ls;
    } in l) lines

-- the line of the paragraph and the lines of its positions
pub one_printed : (passed : Passed) (chars : List ℕ) (us : List BidiUnit) (level n : ℕ) (levels : List (Option ℕ)) →
    n ≡ length chars →
    levels_after passed chars us (let one : TextLayout = record {
      paras = level ∷ [];
      levels = levels;
      lines =
          line_of levels 0 n ∷ [];
    } in one)
    ≡ one_paragraph_after passed level chars us levels
one_printed passed chars us level n levels e =
    let z : passed.paragraphs + 0 ≡ passed.paragraphs = omega arith in
    append-nil (paragraph_text (passed.paragraphs + 0) level ++ printed (position_after passed chars us levels) 0 n)
    ∙ ap (λ k. paragraph_text k level ++ printed (position_after passed chars us levels) 0 n) z
    ∙ ap (λ k. paragraph_text passed.paragraphs level ++ printed (position_after passed chars us levels) 0 k) e

levels_follow : (passed next : Passed) (chars others : List ℕ) (us vs : List BidiUnit) (direction : Direction) →
    length us ≡ length chars → SeparatorOnlyLast us → EndsWithSeparator us → 0 < length us → 0 < length vs →
    Follows passed (length chars) next →
    levels_after passed (chars ++ others) (us ++ vs) (layout_of standard (us ++ vs) direction [])
    ≡ levels_after passed chars us (layout_of standard us direction []) ++
    levels_after next others vs (layout_of standard vs direction [])
levels_follow passed next chars others us vs direction e only ends some more f =
    let x : TextLayout = layout_of standard us direction [] in
    let y : TextLayout = layout_of standard vs direction [] in
    let level : ℕ = para_level_of (classes_of us) direction in
    let line : LineLayout = line_of x.levels 0 (length us) in
    let one : TextLayout = record { paras = level ∷ []; levels = x.levels; lines = line ∷ [] } in
    let is : x ≡ one = one_layout standard direction us some only in
    let whole : layout_of standard (us ++ vs) direction [] ≡ joined_layouts (length chars) one y =
    layout_joined standard direction us vs [] [] only ends tt more ∙
    ap (λ (l : TextLayout). joined_layouts (length us) l y) is ∙ ap (λ k. joined_layouts k one y) e in
    ap (levels_after passed (chars ++ others) (us ++ vs)) whole
    ∙ levels_joined chars others us vs x.levels y.levels e (length-levels standard us direction [] ∙
    e) passed next level y.paras line y.lines f.characters_are f.paragraphs refl e
    ∙ ap (λ (l : TextLayout). levels_after passed chars us l ++ levels_after next others vs y) (sym is)

breaks_joined : (us vs : List BidiUnit) (columns : Option NonZeroU16) → EndsWithSeparator us →
    breaks_of (us ++ vs) columns ≡ breaks_of us columns ++ following (length us) (breaks_of vs columns)
breaks_joined us vs None ends = refl
breaks_joined us vs (Some columns) ends = columns_joined us vs columns.value ends

breaks_below : (us : List BidiUnit) (columns : Option NonZeroU16) → AreBelow (length us) (breaks_of us columns)
breaks_below us None = tt
breaks_below us (Some columns) =
    below_filtered (is_column_break us columns.value) 0 (length us) (length us) (omega arith)

reorder_follow : (images : ℕ → Option ℕ) (chars others : List ℕ) (us vs : List BidiUnit) (direction : Direction)
    (columns : Option NonZeroU16) → length us ≡ length chars → SeparatorOnlyLast us → EndsWithSeparator us →
    0 < length vs →
    lines_text images (chars ++ others) (us ++ vs) direction (breaks_of (us ++ vs) columns)
    ≡ lines_text images chars us direction (breaks_of us columns) ++
    lines_text images others vs direction (breaks_of vs columns)
reorder_follow images chars others us vs direction columns e only ends more =
    let bs : List ℕ = breaks_of us columns in
    let cs : List ℕ = breaks_of vs columns in
    let x : TextLayout = layout_of standard us direction bs in
    let y : TextLayout = layout_of standard vs direction cs in
    ap (λ at. reorder_text images (chars ++ others) (us ++ vs) (layout_of standard (us ++ vs) direction at))
    (breaks_joined us vs columns ends)
    ∙ ap (λ (l : TextLayout). reorder_text images (chars ++ others) (us ++ vs) l)
    (layout_joined standard direction us vs bs cs only ends (breaks_below us columns) more)
    ∙ ap (λ k. reorder_text images (chars ++ others) (us ++ vs) (joined_layouts k x y)) e
    ∙ reorder_joined images chars others us vs x y e (length-levels standard us direction bs ∙
    e) (rw (← e) (layout_below standard us direction bs))

-- nothing is printed of an empty text
pub nothing_after : (form : Form) (passed : Passed) (tables : TablesOf) (direction : Direction) →
    printed_after form passed tables [] direction ≡ []
unfolding printed_after layout_of after_resets
nothing_after Levels passed tables direction = refl
nothing_after (Reorder None) passed tables direction = refl
nothing_after (Reorder (Some columns)) passed tables direction = refl

-- if the rest is not empty
rest_follows : (form : Form) (passed next : Passed) (tables : TablesOf) (chars others : List ℕ)
    (direction : Direction) → SeparatorOnlyLast (units_by tables chars) → EndsWithSeparator (units_by tables chars) →
    0 < length chars → 0 < length others → Follows passed (length chars) next →
    printed_after form passed tables (chars ++ others) direction ≡ printed_after form passed tables chars direction ++
    printed_after form next tables others direction
unfolding printed_after
rest_follows Levels passed next tables chars others direction only ends some more f =
    let us : List BidiUnit = units_by tables chars in
    let vs : List BidiUnit = units_by tables others in
    let e : length us ≡ length chars = length-map chars (unit_by tables) in
    let m : length vs ≡ length others = length-map others (unit_by tables) in
    ap (λ (ws : List BidiUnit). levels_after passed (chars ++ others) ws (layout_of standard ws direction []))
    (map-append (unit_by tables) chars others)
    ∙ levels_follow passed next chars others us vs direction e only ends (omega arith) (omega arith) f
rest_follows (Reorder columns) passed next tables chars others direction only ends some more f =
    let us : List BidiUnit = units_by tables chars in
    let vs : List BidiUnit = units_by tables others in
    let e : length us ≡ length chars = length-map chars (unit_by tables) in
    let m : length vs ≡ length others = length-map others (unit_by tables) in
    ap (λ (ws : List BidiUnit). lines_text (mirror_by tables.mirrors) (chars ++
    others) ws direction (breaks_of ws columns)) (map-append (unit_by tables) chars others)
    ∙ reorder_follow (mirror_by tables.mirrors) chars others us vs direction columns e only ends (omega arith)

pub paragraph_follows : (form : Form) (passed next : Passed) (tables : TablesOf) (chars others : List ℕ)
    (direction : Direction) → SeparatorOnlyLast (units_by tables chars) → EndsWithSeparator (units_by tables chars) →
    0 < length chars → Follows passed (length chars) next →
    printed_after form passed tables (chars ++ others) direction ≡ printed_after form passed tables chars direction ++
    printed_after form next tables others direction
paragraph_follows form passed next tables chars [] direction only ends some f =
    ap (λ cs. printed_after form passed tables cs direction) (append-nil chars)
    ∙ sym (ap (λ v. printed_after form passed tables chars direction ++ v) (nothing_after form next tables direction) ∙
    append-nil (printed_after form passed tables chars direction))
paragraph_follows form passed next tables chars (c ∷ cs) direction only ends some f =
    rest_follows form passed next tables chars (c ∷ cs) direction only ends some (omega arith) f

-- the whole text comes after nothing
pub printed_whole : (form : Form) (passed : Passed) (tables : TablesOf) (chars : List ℕ) (direction : Direction) →
    passed.paragraphs ≡ 0 → passed.characters ≡ 0 →
    printed_after form passed tables chars direction ≡ printed_as form tables chars direction
unfolding printed_after
printed_whole Levels passed tables chars direction p c =
    let us : List BidiUnit = units_by tables chars in
    let layout : TextLayout = layout_of standard us direction [] in
    let at : (q : ℕ) → position_after passed chars us layout.levels q ≡ text_at_position chars us layout.levels q = λ q.
    let e : passed.characters + q ≡ q = omega arith in rw e refl in
    let of : (k : ℕ) → paragraph_after passed chars us layout k ≡ text_of_paragraph chars us layout k = λ k.
    let e : passed.paragraphs + k ≡ k = omega arith in
    let line : LineLayout = get_or layout.lines k no_line in
    let level : ℕ = get_or layout.paras k 0 in
    ap (λ n. paragraph_text n level ++ printed (position_after passed chars us layout.levels) line.start line.end) e
    ∙ ap (λ v. paragraph_text k level ++ v) (printed_same (position_after passed chars us layout.levels)
    (text_at_position chars us layout.levels) line.start (line.end - line.start)
    (line.start + (line.end - line.start)) refl (λ q _. at q)) in
    printed_same (paragraph_after passed chars us layout) (text_of_paragraph chars us layout) 0
    (length layout.lines - 0) (0 + (length layout.lines - 0)) refl (λ k _. of k)
printed_whole (Reorder columns) passed tables chars direction p c = refl

-- a paragraph, from its layout
pub paragraph_printed : (passed : Passed) (chars : List ℕ) (us : List BidiUnit) (direction : Direction) →
    0 < length us → SeparatorOnlyLast us → length us ≡ length chars →
    one_paragraph_after passed (get_or (layout_of standard us direction []).paras 0 0) chars us
    (layout_of standard us direction []).levels
    ≡ levels_after passed chars us (layout_of standard us direction [])
paragraph_printed passed chars us direction some only e =
    let x : TextLayout = layout_of standard us direction [] in
    let is = one_layout standard direction us some only in
    ap (λ (l : TextLayout). one_paragraph_after passed (get_or l.paras 0 0) chars us x.levels) is
    ∙ sym (ap (levels_after passed chars us) is ∙
    one_printed passed chars us (para_level_of (classes_of us) direction) (length us) x.levels e)
