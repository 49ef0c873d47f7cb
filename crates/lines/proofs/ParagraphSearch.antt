-- The paragraph of a position, from the ends of the paragraphs of the text.
use Rattle.std.proofs.Common.{◌≡◌, ◌≢◌, ℕ, ◌+◌, ◌-◌, ◌<◌, ◌≤◌, true, List, [], ◌∷◌, ◌++◌, length, take, zero, suc, refl, sym, ap, ◌∙◌, inl, inr, arith, get_or, leb, length-append}
use Rattle.std.specs.Prelude.{count_by, slice_index}
use Rattle.std.specs.List.{AllWithin}
use Rattle.std.specs.List.Sorted.{IsPartitionedBy}
use Rattle.std.proofs.Math.Nat.{eq-or-lt_of_le}
use Rattle.std.proofs.lemmas.Bool.{cases_lt, le-leb, leb-true, or_from, or_left, or_right}
use Rattle.std.proofs.lemmas.List.{get_or_default, length-map}
use Rattle.std.proofs.Math.ListN.{get_or-append}
use Rattle.std.proofs.Math.Seq.{get_or-append_seam}
use Rattle.units.specs.declared.bracket.Unit.{Unit as TextUnit}
use Rattle.units.specs.declared.class.Class.{Class}
use Rattle.units.specs.Classes.{class_at, classes_of, is_separator}
use Rattle.units.specs.Reordering.{begins_line, is_break}
use Rattle.lines.specs.LineEnds.{AreParagraphEnds, EndsLineAt, IsParagraphAt, Rises, paragraph_start}
use Rattle.lines.specs.LinesAlone.{IsLineOfParagraph, SeparatesWithin}
use Rattle.lines.proofs.BreakAt.{is_break_at, is_break_none}
use Rattle.lines.proofs.NextLine.{begins_later}
use Rattle.lines.proofs.ParagraphLines.{counted_line, counted_on}

-- in a text without breaks, a paragraph is a line
pub paragraph_is_line : (own : List Class) (start end : ℕ) → IsParagraphAt own start end →
    EndsLineAt (begins_line own []) start end (length own)
paragraph_is_line own start end q =
    let above = q.above in
    record {
      above = q.above;
      within = q.within;
      none = λ p low high.
          begins_later own [] p (omega arith) ∙
          or_from (is_separator (class_at own (p - 1))) (is_break [] p) (q.joined p low high) refl;
      here = λ h.
          begins_later own [] end (omega arith) ∙
          or_left (is_separator (class_at own (end - 1))) (is_break [] end) (q.closed h);
    }

pub paragraph_ends_none : (own : List Class) → AreParagraphEnds own [] 0
paragraph_ends_none own = record { each = λ k h. absurd (omega arith); last = refl }

start_unchanged : (ends : List ℕ) (end k : ℕ) → k ≤ length ends →
    paragraph_start (ends ++ end ∷ []) k ≡ paragraph_start ends k
start_unchanged ends end zero h = refl
start_unchanged ends end (suc k) h = get_or-append ends (end ∷ []) 0 k (omega arith)

-- with one more paragraph
pub paragraph_ends_more : (own : List Class) (ends : List ℕ) (position end : ℕ) → AreParagraphEnds own ends position →
    IsParagraphAt own position end → AreParagraphEnds own (ends ++ end ∷ []) end
paragraph_ends_more own ends position end a q =
    let long : length (ends ++ end ∷ []) ≡ length ends + 1 = length-append ends (end ∷ []) in
    let put : slice_index (ends ++ end ∷ []) (length ends) ≡ end = get_or-append_seam ends end [] 0 in
    record {
      each = λ k h. elim (cases_lt k (length ends)) [
        | inl low ↦ rw (start_unchanged ends end k (omega arith), get_or-append ends (end ∷ []) 0 k low) (a.each k low)
        | inr high ↦
            let e : k ≡ length ends = omega arith in
            rw (e, start_unchanged ends end (length ends) (omega arith), put, a.last) q
      ];
      last = let e : length (ends ++ end ∷ []) ≡ suc (length ends) = omega arith in
          ap (paragraph_start (ends ++ end ∷ [])) e ∙ put;
    }

rises_by : (own : List Class) (ends : List ℕ) (position j d : ℕ) → AreParagraphEnds own ends position →
    j + suc d < length ends → slice_index ends j < slice_index ends (j + suc d)
rises_by own ends position j zero a h =
    let e : j + suc zero ≡ suc j = omega arith in
    let q = a.each (suc j) (omega arith) in
    let above : slice_index ends j < slice_index ends (suc j) = q.above in
    rw e above
rises_by own ends position j (suc d) a h =
    let e : j + suc (suc d) ≡ suc (j + suc d) = omega arith in
    let before : slice_index ends j < slice_index ends (j + suc d) = rises_by own ends position j d a (omega arith) in
    let q = a.each (suc (j + suc d)) (omega arith) in
    let above : slice_index ends (j + suc d) < slice_index ends (suc (j + suc d)) = q.above in
    rw e (omega (arith, before, above))

pub ends_rise : (own : List Class) (ends : List ℕ) (position : ℕ) → AreParagraphEnds own ends position → Rises ends
ends_rise own ends position a j k lt h =
    let e : k ≡ j + suc (k - j - 1) = omega arith in
    rw e (rises_by own ends position j (k - j - 1) a (omega arith))

-- the ends that are not above a position come first
pub parted : (ends : List ℕ) (at : ℕ) → Rises ends → IsPartitionedBy (λ (s : ℕ). leb s at) ends
parted ends at rises i j d le lt low =
    let below : get_or ends j d ≤ at = leb-true _ _ low in
    elim (eq-or-lt_of_le le) [
      | inr less ↦
          let rise : get_or ends i 0 < get_or ends j 0 = rises i j less lt in
          le-leb _ _ (omega (
            arith,
            rise,
            below,
            get_or_default ends i d 0 (omega (arith, less, lt)),
            get_or_default ends j d 0 lt,
          ))
      | inl same ↦ ap (λ k. leb (get_or ends k d) at) same ∙ low
    ]

-- the number of separators before a paragraph is the number of paragraphs before it
pub counted_paragraphs : (own : List Class) (ends : List ℕ) (position k : ℕ) → AreParagraphEnds own ends position →
    k < length ends → k ≡ count_by is_separator (take (paragraph_start ends k) own)
counted_paragraphs own ends position zero a h = refl
counted_paragraphs own ends position (suc k) a h =
    let here = a.each k (omega arith) in
    let next = a.each (suc k) h in
    let above : slice_index ends k < slice_index ends (suc k) = next.above in
    let within : slice_index ends (suc k) ≤ length own = next.within in
    let closed : is_separator (class_at own (slice_index ends k - 1)) ≡ true =
    here.closed (omega (arith, above, within)) in
    let e : suc k ≡ k + 1 = omega arith in
    e
    ∙ counted_on own [] (paragraph_start ends k) (slice_index ends k) k true
    (paragraph_is_line own (paragraph_start ends k) (slice_index ends k) here)
    (counted_paragraphs own ends position k a (omega arith)) (sym closed)

-- the paragraph with this number contains the position
pub record IsSearched (own : List Class) (ends : List ℕ) (position number : ℕ) : Type 0 where
  pub inside : number < length ends
  pub from : paragraph_start ends number ≤ position
  pub to : position < slice_index ends number
  pub paragraph : IsParagraphAt own (paragraph_start ends number) (slice_index ends number)
  pub counted : number ≡ count_by is_separator (take position own)

start_below : (ends : List ℕ) (position k : ℕ) → AllWithin (λ end. end ≤ position) ends 0 k →
    paragraph_start ends k ≤ position
start_below ends position zero below = omega arith
start_below ends position (suc k) below = below k 0 (omega arith) (omega arith)

-- its number is the number of paragraphs that end at the position or before it
pub found : (own : List Class) (ends : List ℕ) (position k : ℕ) → AreParagraphEnds own ends (length own) →
    position < length own → k ≤ length ends → AllWithin (λ end. end ≤ position) ends 0 k →
    AllWithin (λ end. position < end) ends k (length ends) → IsSearched own ends position k
found own ends position k a within few below above =
    let from : paragraph_start ends k ≤ position = start_below ends position k below in
    let inside : k < length ends = elim (cases_lt k (length ends)) [
      | inl low ↦ low
      | inr high ↦
          let e : k ≡ length ends = omega arith in
          let all : paragraph_start ends k ≡ length own = ap (paragraph_start ends) e ∙ a.last in
          absurd (omega (arith, all, from, within))
    ] in
    let to : position < slice_index ends k = above k 0 (omega arith) inside in
    let q = a.each k inside in
    record {
      inside = inside;
      from = from;
      to = to;
      paragraph = q;
      counted =
          counted_paragraphs own ends (length own) k a inside
          ∙ sym (counted_line own [] (paragraph_start ends k) (slice_index ends k) position
          (paragraph_is_line own (paragraph_start ends k) (slice_index ends k) q) from to);
    }

apart : (start end p : ℕ) → start < p → p < end → (k : ℕ) → k < 2 → slice_index (start ∷ end ∷ []) k ≢ p
apart start end p low high zero h e = omega arith
apart start end p low high (suc zero) h e = omega arith
apart start end p low high (suc (suc k)) h e = omega arith

-- a line within its paragraph
pub line_of_paragraph : (text : List TextUnit) (ends : List ℕ) (start end k : ℕ) →
    IsSearched (classes_of text) ends start k → start < end → end ≤ slice_index ends k →
    IsLineOfParagraph text ends start end k
line_of_paragraph text ends start end k f forward short =
    let own : List Class = classes_of text in
    let at : List ℕ = start ∷ end ∷ [] in
    let q = f.paragraph in
    let from = f.from in
    let within : slice_index ends k ≤ length own = q.within in
    record {
      inside = f.inside;
      counted = f.counted;
      line = record {
        above = forward;
        within = omega arith;
        none = λ p low high.
            begins_later own at p (omega arith)
            ∙ or_from (is_separator (class_at own (p - 1))) (is_break at p) (q.joined p (omega arith) (omega arith))
            (is_break_none at p (apart start end p low high));
        here = λ h.
            begins_later own at end (omega arith)
            ∙ or_right (is_separator (class_at own (end - 1))) (is_break at end)
            (is_break_at at 1 end (omega arith) refl);
      };
    }

-- a line that continues after the end of its paragraph
pub line_crosses : (text : List TextUnit) (ends : List ℕ) (start end k : ℕ) →
    IsSearched (classes_of text) ends start k → slice_index ends k < end → end ≤ length text →
    SeparatesWithin text start end
line_crosses text ends start end k f long within =
    let own : List Class = classes_of text in
    let len : length own ≡ length text = length-map text (λ (u : TextUnit). u.class) in
    let to = f.to in
    record {
      at = slice_index ends k - 1;
      from = omega arith;
      before = omega arith;
      separates = f.paragraph.closed (omega (arith, len, long, within));
    }
