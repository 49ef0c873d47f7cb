-- What is printed of a text, from its first paragraph and the rest.
use Rattle.std.proofs.Common.{◌≡◌, ℕ, zero, suc, ◌+◌, ◌-◌, ◌<◌, Option, None, List, [], ◌∷◌, ◌++◌, length, map, get_or, refl, sym, ap, ◌∙◌, arith, append-nil}
use Rattle.std.specs.List.{flat_map}
use Rattle.std.proofs.lemmas.Grind.{flat_map-append}
use Rattle.std.proofs.lemmas.List.{get_or-map, get_or_append_left, get_or-append-add, length-map}
use Rattle.units.specs.Layout.{LineLayout, TextLayout, no_unit}
use Rattle.units.specs.Positions.{positions_from}
use Rattle.units.specs.declared.bracket.Unit.{Unit as BidiUnit}
use Rattle.lines.specs.Layouts.{no_line}
use Rattle.printing.specs.Following.{levels_after, paragraph_after, position_after}
use Rattle.printing.specs.LevelsText.{paragraph_text, printed}
use Rattle.printing.specs.ReorderText.{reorder_text, shown_line_text, shown_text}
use Rattle.printing.specs.declared.passed.Passed.{Passed}
use Rattle.printing.proofs.HeadBreaks.{AreBelow, following}
use Rattle.printing.proofs.HeadLayout.{joined_layouts}
use Rattle.printing.proofs.HeadLines.{moved_line}
use Rattle.printing.proofs.HeadOrders.{LinesAreBelow}

pub printed_same : (f g : ℕ → List ℕ) (s count n : ℕ) → s + count ≡ n → ((q : ℕ) → q < n → f q ≡ g q) →
    flat_map f (positions_from s count) ≡ flat_map g (positions_from s count)
printed_same f g s zero n e same = refl
printed_same f g s (suc count) n e same =
    ap (λ xs. xs ++ flat_map f (positions_from (s + 1) count)) (same s (omega arith))
    ∙ ap (λ xs. g s ++ xs) (printed_same f g (s + 1) count n (omega arith) same)

printed_moved : (f g : ℕ → List ℕ) (k s count n : ℕ) → s + count ≡ n → ((q : ℕ) → q < n → f (k + q) ≡ g q) →
    flat_map f (positions_from (k + s) count) ≡ flat_map g (positions_from s count)
printed_moved f g k s zero n e same = refl
printed_moved f g k s (suc count) n e same =
    let on : k + s + 1 ≡ k + (s + 1) = omega arith in
    ap (λ xs. xs ++ flat_map f (positions_from (k + s + 1) count)) (same s (omega arith))
    ∙ ap (λ q. g s ++ flat_map f (positions_from q count)) on
    ∙ ap (λ xs. g s ++ xs) (printed_moved f g k (s + 1) count n (omega arith) same)

module _ (chars others : List ℕ) (us vs : List BidiUnit) (xs ys : List (Option ℕ)) (a : length us ≡ length chars)
    (b : length xs ≡ length chars) where
  module _ (images : ℕ → Option ℕ) where
    shown_in_first : (p : ℕ) → p < length chars →
        shown_text images (chars ++ others) (us ++ vs) (xs ++ ys) p ≡ shown_text images chars us xs p
    shown_in_first p low =
        rw (
          get_or_append_left chars others 0 p low,
          get_or_append_left us vs no_unit p (omega arith),
          get_or_append_left xs ys None p (omega arith),
        ) refl

    shown_right : (p : ℕ) → shown_text images (chars ++ others) (us ++ vs) (xs ++ ys) (length chars + p) ≡
        shown_text images others vs ys p
    shown_right p =
        let e : length chars + p ≡ length us + p = omega arith in
        let f : length chars + p ≡ length xs + p = omega arith in
        let unit = ap (λ q. get_or (us ++ vs) q no_unit) e ∙ get_or-append-add us vs p no_unit in
        let level = ap (λ q. get_or (xs ++ ys) q None) f ∙ get_or-append-add xs ys p None in
        rw (get_or-append-add chars others p 0, unit, level) refl

    order_in_first : (ps : List ℕ) → AreBelow (length chars) ps →
        flat_map (shown_text images (chars ++ others) (us ++ vs) (xs ++ ys)) ps ≡
        flat_map (shown_text images chars us xs) ps
    order_in_first [] below = refl
    order_in_first (p ∷ ps) below = rw (shown_in_first p below.0, order_in_first ps below.1) refl

    order_right : (ps : List ℕ) →
        flat_map (shown_text images (chars ++ others) (us ++ vs) (xs ++ ys)) (following (length chars) ps) ≡
        flat_map (shown_text images others vs ys) ps
    order_right [] = refl
    order_right (p ∷ ps) = rw (shown_right p, order_right ps) refl

    pub lines_in_first : (lines : List LineLayout) → LinesAreBelow (length chars) lines →
        flat_map (shown_line_text images (chars ++ others) (us ++ vs) (xs ++ ys)) lines ≡
        flat_map (shown_line_text images chars us xs) lines
    lines_in_first [] below = refl
    lines_in_first (line ∷ lines) below = rw (order_in_first line.order below.0, lines_in_first lines below.1) refl

    pub lines_right : (lines : List LineLayout) →
        flat_map (shown_line_text images (chars ++ others) (us ++ vs) (xs ++ ys))
        (map (moved_line (length chars)) lines) ≡ flat_map (shown_line_text images others vs ys) lines
    lines_right [] = refl
    lines_right (line ∷ lines) = rw (order_right line.order, lines_right lines) refl

  module _ (passed : Passed) where
    position_in_first : (p : ℕ) → p < length chars → position_after passed (chars ++ others) (us ++ vs) (xs ++ ys) p ≡
        position_after passed chars us xs p
    position_in_first p low =
        rw (
          get_or_append_left chars others 0 p low,
          get_or_append_left us vs no_unit p (omega arith),
          get_or_append_left xs ys None p (omega arith),
        ) refl

    position_in_second : (next : Passed) → next.characters ≡ passed.characters + length chars → (p : ℕ) →
        position_after passed (chars ++ others) (us ++ vs) (xs ++ ys) (length chars + p) ≡
        position_after next others vs ys p
    position_in_second next g p =
        let e : length chars + p ≡ length us + p = omega arith in
        let f : length chars + p ≡ length xs + p = omega arith in
        let unit = ap (λ q. get_or (us ++ vs) q no_unit) e ∙ get_or-append-add us vs p no_unit in
        let level = ap (λ q. get_or (xs ++ ys) q None) f ∙ get_or-append-add xs ys p None in
        let here : passed.characters + (length chars + p) ≡ next.characters + p = omega arith in
        rw (here, get_or-append-add chars others p 0, unit, level) refl

    -- the lines of one paragraph, and after them those of the rest
    pub levels_joined : (next : Passed) (level : ℕ) (levels : List ℕ) (line : LineLayout) (lines : List LineLayout) →
        next.characters ≡ passed.characters + length chars → next.paragraphs ≡ passed.paragraphs + 1
        → line.start ≡ 0 → line.end ≡ length chars →
        levels_after passed (chars ++ others) (us ++ vs) (let whole : TextLayout =
        record {
          paras = level ∷ levels;
          levels = xs ++ ys;
          lines =
              line ∷ map (moved_line (length chars)) lines;
        } in whole)
        ≡ levels_after passed chars us (let one : TextLayout = record {
          paras = level ∷ [];
          levels = xs;
          lines =
              line ∷ [];
        } in one)
        ++ levels_after next others vs (let rest : TextLayout = record { paras = levels; levels = ys; lines = lines } in
        rest)
    levels_joined next level levels line lines g h start end =
        let whole : TextLayout = record {
          paras = level ∷ levels;
          levels = xs ++ ys;
          lines =
              line ∷ map (moved_line (length chars)) lines;
        } in
        let one : TextLayout = record { paras = level ∷ []; levels = xs; lines = line ∷ [] } in
        let rest : TextLayout = record { paras = levels; levels = ys; lines = lines } in
        let text : ℕ → List ℕ = paragraph_after passed (chars ++ others) (us ++ vs) whole in
        let first : text 0 ≡ paragraph_after passed chars us one 0 =
        ap (λ v. paragraph_text (passed.paragraphs + 0) level ++ v)
        (printed_same (position_after passed (chars ++ others) (us ++ vs) (xs ++ ys))
        (position_after passed chars us xs) line.start (line.end - line.start) (length chars)
        (omega arith) position_in_first) in
        let after : (i : ℕ) → i < length lines → text (suc i) ≡ paragraph_after next others vs rest i = λ i low.
        let moved = get_or-map (moved_line (length chars)) lines i no_line no_line low in
        let s : ℕ = (get_or lines i no_line).start in
        let e : ℕ = (get_or lines i no_line).end in
        let n : passed.paragraphs + suc i ≡ next.paragraphs + i = omega arith in
        let long : length chars + e - (length chars + s) ≡ e - s = omega arith in
        let f : ℕ → List ℕ = position_after passed (chars ++ others) (us ++ vs) (xs ++ ys) in
        ap (λ (l : LineLayout). paragraph_text (passed.paragraphs + suc i) (get_or levels i 0) ++
        printed f l.start l.end) moved
        ∙ ap (λ k. paragraph_text k (get_or levels i 0) ++ printed f (length chars + s) (length chars + e)) n
        ∙ ap (λ k. paragraph_text (next.paragraphs + i) (get_or levels i 0) ++
        flat_map f (positions_from (length chars + s) k)) long
        ∙ ap (λ v. paragraph_text (next.paragraphs + i) (get_or levels i 0) ++ v)
        (printed_moved f (position_after next others vs ys) (length chars) s (e - s) (s + (e - s)) refl (λ q _.
        position_in_second next g q)) in
        let later : (i : ℕ) → i < length lines → text (1 + i) ≡ paragraph_after next others vs rest i = λ i low.
        let e : 1 + i ≡ suc i = omega arith in ap text e ∙ after i low in
        let m : length (line ∷ map (moved_line (length chars)) lines) - 0 ≡ suc (length lines) =
        omega (arith, length-map lines (moved_line (length chars))) in
        let z : length lines - 0 ≡ length lines = omega arith in
        let y : 0 + 1 ≡ 1 + 0 = omega arith in
        ap (λ k. flat_map text (positions_from 0 k)) m
        ∙ ap (λ v. v ++ flat_map text (positions_from (0 + 1) (length lines))) (first ∙
        sym (append-nil (paragraph_after passed chars us one 0)))
        ∙ ap (λ k. (paragraph_after passed chars us one 0 ++ []) ++ flat_map text (positions_from k (length lines))) y
        ∙ ap (λ v. (paragraph_after passed chars us one 0 ++ []) ++
        v) (printed_moved text (paragraph_after next others vs rest) 1 0 (length lines) (length lines)
        (omega arith) later)
        ∙ sym (ap (λ k. (paragraph_after passed chars us one 0 ++ []) ++
        flat_map (paragraph_after next others vs rest) (positions_from 0 k)) z)

-- the lines of one part as they are shown, and after them those of the rest
pub reorder_joined : (images : ℕ → Option ℕ) (chars others : List ℕ) (us vs : List BidiUnit) (x y : TextLayout) →
    length us ≡ length chars → length x.levels ≡ length chars → LinesAreBelow (length chars) x.lines →
    reorder_text images (chars ++ others) (us ++ vs) (joined_layouts (length chars) x y) ≡
    reorder_text images chars us x ++ reorder_text images others vs y
reorder_joined images chars others us vs x y a b below =
    flat_map-append (shown_line_text images (chars ++ others) (us ++ vs) (x.levels ++ y.levels)) x.lines
    (map (moved_line (length chars)) y.lines)
    ∙ ap (λ v. v ++ flat_map (shown_line_text images (chars ++ others) (us ++ vs) (x.levels ++ y.levels))
    (map (moved_line (length chars)) y.lines))
    (lines_in_first chars others us vs x.levels y.levels a b images x.lines below)
    ∙ ap (λ v. reorder_text images chars us x ++
    v) (lines_right chars others us vs x.levels y.levels a b images y.lines)
