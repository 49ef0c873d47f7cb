use Rattle.std.proofs.Common.{arith, rules, ap, sym, ◌∙◌, subst, ◌≡◌, ◌<◌, ◌≤◌, ◌+◌, ◌-◌, ◌++◌, ◌∷◌, [], ℕ, Bool, List, Option, length, take, drop, refl}
use Rattle.std.specs.List.{list_all}
use Rattle.std.specs.Prelude.{◌&&◌, slice_range}
use Rattle.std.proofs.Math.Bool.{and-true, and_assoc}
use Rattle.std.proofs.lemmas.Bool.{and_parts}
use Rattle.std.proofs.lemmas.List.{drop_all, drop-drop, length-drop, length-map, length-take-le, take_all, take_more_set, take_rest, with_items_is}
use Rattle.std.proofs.lemmas.Slice.{take-put_mid}
use Rattle.units.specs.declared.bracket.Unit.{Unit as BidiUnit}
use Rattle.units.specs.Paragraphs.{paragraphs_of, SeparatorOnlyLast}
use Rattle.units.specs.declared.level.Direction.{Direction}
use Rattle.explicit.specs.FirstParagraph.{first_length}
use Rattle.explicit.proofs.LevelsComputed.OneCutting.{paragraphs_of_split}
use Rattle.units.specs.Classes.{classes_of}
use Rattle.paragraph.specs.Contents.{Describes, IsFirstOf, keeps_level}
use Rattle.lines.specs.Unchanged.{each_keeps_level, keeps_own_level}
use Rattle.lines.specs.Spaces.{has_segments}
use Rattle.lines.proofs.Unsegmented.{segments_on}
use Rattle.lines.specs.LineBreaks.{AreBreaks}
use Rattle.lines.specs.LineEnds.{AreLineEnds, AreParagraphEnds, BreaksArePassed}
use Rattle.lines.proofs.LineEnds.{ends_none}
use Rattle.lines.proofs.NextLine.{passed_none}
use Rattle.lines.proofs.ParagraphSearch.{paragraph_ends_more, paragraph_ends_none}
use Rattle.lines.proofs.ParagraphLines.{paragraph_from}
use Rattle.lines.proofs.TextLevels.{IsWritten, written_none, separator_last, written_to, written_paras, written_levels}
use Rattle.lines.proofs.resolving.resolve_paragraphs.Goals as goal

-- the first paragraph of the rest, and the paragraphs after it
next_piece : (text : List BidiUnit) (start n : ℕ) → start < length text → n ≡ first_length (drop start text) →
    paragraphs_of (drop start text) ≡ take n (drop start text) ∷ paragraphs_of (drop (start + n) text)
next_piece text start n lt e =
    let rest : List BidiUnit = drop start text in
    paragraphs_of_split rest (omega (arith, length-drop start text))
    ∙ ap (λ (k : ℕ). take k rest ∷ paragraphs_of (drop k rest)) (sym e)
    ∙ ap (λ (us : List BidiUnit). take n rest ∷ paragraphs_of us) (drop-drop n start text)

pub loop-start-init : goal.loop-start-init
loop-start-init g c = record {
  written = written_none c.args.options.now.limits c.args.text.now c.args.options.now.direction
      c.deref_mut-levels.result.now;
  known = refl;
  segments = refl;
  passed = subst (λ n. BreaksArePassed c.positions-at.result.now n 0) (sym c.start_cut-cut.ensures.passed)
      (passed_none c.positions-at.result.now c.args.options.now.breaks.now.len c.positions-at.ensures.breaks);
  ends =
      subst (λ n. AreLineEnds (classes_of c.args.text.now) c.positions-at.result.now n 0 c.start_cut-cut.new.bounds)
      (sym c.start_cut-cut.ensures.lines)
      (ends_none (classes_of c.args.text.now) c.positions-at.result.now c.start_cut-cut.new.bounds
      c.start_cut-cut.ensures.first);
  para_ends = paragraph_ends_none (classes_of c.args.text.now);
  few_passed = omega (arith, c.start_cut-cut.ensures.passed);
  few_lines = omega (arith, c.start_cut-cut.ensures.lines);
  few = omega arith;
  inside = omega arith;
  resolver = search rules;
  first = c.requires.first;
  some = c.requires.some;
  short = omega arith;
  at_least = omega (arith, c.start_cut-cut.ensures.lines);
  at_most = omega arith;
  if_uniform = λ known. omega arith;
}

-- the first paragraph, as a slice of the text
piece_is : (text : List BidiUnit) (start n end : ℕ) → end ≡ start + n →
    slice_range text start end ≡ take n (drop start text)
piece_is text start n end e = let m : end - start ≡ n = omega arith in ap (λ (k : ℕ). take k (drop start text)) m

pub cut_paragraph-cut-requires-clause-breaks : goal.cut_paragraph-cut-requires-clause-breaks
cut_paragraph-cut-requires-clause-breaks g c =
    subst (AreBreaks c.positions-at.result.now) c.requires.len c.positions-at.ensures.breaks

pub resolve_known-resolved-requires-clause-separators : goal.resolve_known-resolved-requires-clause-separators
resolve_known-resolved-requires-clause-separators g c =
    let l = c.loop-start in
    let text : List BidiUnit = c.args.text.now in
    let n : ℕ = l.next.length in
    let P : List (List BidiUnit) → Type 0 =
    λ pieces. IsWritten c.args.options.now.limits text c.args.options.now.direction l.start (take l.paragraphs l.paras)
    l.levels pieces in
    let w : P (take n (drop l.start text) ∷ paragraphs_of (drop (l.start + n) text)) =
    subst P (next_piece text l.start n c.loop-start-test.true (l.invariant.first.length)) l.invariant.written in
    subst SeparatorOnlyLast (sym (piece_is text l.start n (l.start + n) refl)) (separator_last w)

pub resolve_known-resolved-requires-clause-contents : goal.resolve_known-resolved-requires-clause-contents
resolve_known-resolved-requires-clause-contents g c =
    let l = c.loop-start in
    let P : List BidiUnit → Type 0 = λ us. Describes l.next.contents (classes_of us) in
    subst P (sym (piece_is c.args.text.now l.start l.next.length (l.start + l.next.length) refl))
    l.invariant.first.contents

pub loop-start-preserved : goal.loop-start-preserved
loop-start-preserved g c =
    let l = c.loop-start in
    let text : List BidiUnit = c.args.text.now in
    let direction : Direction = c.args.options.now.direction in
    let n : ℕ = l.next.length in
    let end : ℕ = l.start + n in
    let para : List BidiUnit = slice_range text l.start end in
    let known = c.resolve_known-resolved in
    let some : 0 < n = l.invariant.some c.loop-start-test.true in
    let within : n ≤ length text - l.start = l.invariant.short in
    let rest : take (length text - end) (drop end text) ≡ drop end text = take_rest text end in
    let split : paragraphs_of (drop l.start text) ≡ para ∷ paragraphs_of (drop end text) =
    next_piece text l.start n c.loop-start-test.true (l.invariant.first.length)
    ∙ ap (λ (us : List BidiUnit). us ∷ paragraphs_of (drop end text)) (sym (piece_is text l.start n end refl)) in
    let long : length para ≡ n = ap length (piece_is text l.start n end refl) ∙
    length-take-le n (drop l.start text) (omega (arith, length-drop l.start text)) in
    let P : List (List BidiUnit) → Type 0 =
    λ pieces. IsWritten c.args.options.now.limits text direction l.start (take l.paragraphs l.paras) l.levels pieces in
    let w : P (para ∷ paragraphs_of (drop end text)) = subst P split l.invariant.written in
    let room : l.paragraphs < length l.paras =
    omega (
      arith,
      l.auto.paras,
      l.invariant.few,
      ap length c.deref_mut-paras.ensures.value,
      c.requires.room.paras,
    ) in
    let keeps : List BidiUnit → Bool = keeps_own_level direction in
    let ends_room : l.paragraphs < length l.para_ends =
    omega (
      arith,
      l.auto.para_ends,
      l.invariant.few,
      ap length c.deref_mut-para_ends.ensures.value,
      c.requires.room.para_ends,
    ) in
    let next = paragraph_from text l.start n c.loop-start-test.true (l.invariant.first.length) some within in
    record {
      written =
          rw (take_more_set l.paras l.paragraphs known.result.level room)
          (written_to w end known.result.level _ (omega (arith, long)) known.ensures.resolved.level
          (take-put_mid l.start _ l.levels known.new.levels end (omega arith) (omega arith)
          ∙ ap (λ (xs : List (Option ℕ)). take l.start l.levels ++ xs) known.ensures.resolved.levels));
      known =
          and_assoc l.uniform known.result.uniform (list_all keeps (paragraphs_of (drop end text)))
          ∙ ap (λ b. l.uniform && (b && list_all keeps (paragraphs_of (drop end text)))) (known.ensures.resolved.known ∙
          ap (λ n. keeps_level n (classes_of para)) known.ensures.resolved.level)
          ∙ ap (λ pieces. l.uniform && list_all keeps pieces) (sym split)
          ∙ l.invariant.known;
      segments =
          let here : c.has_segment_separator-segmented.result ≡ has_segments (take n (drop l.start text)) =
          c.has_segment_separator-segmented.ensures _ l.invariant.first.contents in
          segments_on text l.start n l.segmented c.has_segment_separator-segmented.result l.invariant.segments here;
      passed = c.cut_paragraph-cut.ensures.passed;
      ends =
          c.cut_paragraph-cut.ensures.ends (classes_of text) (length-map text (λ u. u.class))
          next l.invariant.ends;
      para_ends = rw (take_more_set l.para_ends l.paragraphs end ends_room)
          (paragraph_ends_more (classes_of text) (take l.paragraphs l.para_ends) l.start end l.invariant.para_ends
          next);
      few_passed = c.cut_paragraph-cut.ensures.few_passed;
      few_lines = omega (arith, c.cut_paragraph-cut.ensures.few_lines);
      few = omega (arith, l.invariant.few);
      inside = omega arith;
      resolver = search rules;
      first = subst (IsFirstOf c.of-next.result) rest c.of-next.ensures.first;
      some = λ below. c.of-next.ensures.some (omega (arith, ap length rest, length-drop end text));
      short = omega (arith, c.of-next.ensures.within, ap length rest, length-drop end text);
      at_least = omega (arith, long);
      at_most = omega (arith, long);
      if_uniform = λ both.
          let parts = and_parts l.uniform known.result.uniform both in
          omega (arith, long, some, l.invariant.if_uniform parts.0, known.ensures.if_uniform parts.1);
    }

-- at the end of the text no paragraph remains
known_whole : (text : List BidiUnit) (direction : Direction) (start : ℕ) (uniform : Bool) → drop start text ≡ [] →
    (uniform && list_all (keeps_own_level direction) (paragraphs_of (drop start text))) ≡
    each_keeps_level text direction → uniform ≡ each_keeps_level text direction
known_whole text direction start uniform done known =
    sym (and-true uniform) ∙ ap (λ us. uniform && list_all (keeps_own_level direction) (paragraphs_of us)) (sym done) ∙
    known

pub returns-clause-segments : goal.returns-clause-segments
returns-clause-segments g c =
    let l = c.loop-start in
    let text : List BidiUnit = c.args.text.now in
    let whole : take l.start text ≡ text = take_all l.start text (omega arith) in
    l.invariant.segments ∙ ap has_segments whole

pub returns-clause-resolved : goal.returns-clause-resolved
returns-clause-resolved g c =
    let l = c.loop-start in
    let text : List BidiUnit = c.args.text.now in
    let direction : Direction = c.args.options.now.direction in
    let room = c.args.columns.now in
    let at_end : l.start ≡ length text = omega arith in
    let done : drop l.start text ≡ [] = drop_all l.start text (omega arith) in
    let P : List (List BidiUnit) → Type 0 =
    λ pieces. IsWritten c.args.options.now.limits text direction l.start (take l.paragraphs l.paras) l.levels pieces in
    let w : P [] = subst P (ap paragraphs_of done) l.invariant.written in
    let as_paras : length l.paras ≡ room.paras.items.len = search rules in
    let as_ends : length l.para_ends ≡ room.para_ends.items.len = search rules in
    let as_levels : length l.levels ≡ room.levels.items.len = search rules in
    record {
      paras = rw (with_items_is room.paras.items l.paras as_paras) (written_paras w);
      para_ends = rw (with_items_is room.para_ends.items l.para_ends as_ends)
          (subst (AreParagraphEnds (classes_of text) (take l.paragraphs l.para_ends)) at_end l.invariant.para_ends);
      few = omega (arith, l.invariant.few, l.invariant.inside);
      levels = rw (with_items_is room.levels.items l.levels as_levels) (written_levels w);
      ends = subst (λ n.
          AreLineEnds (classes_of text) c.args.options.now.breaks.now.positions l.cut.lines n l.bounds) at_end
          (subst (λ at. AreLineEnds (classes_of text) at l.cut.lines l.start l.bounds) c.positions-at.ensures.positions
          l.invariant.ends);
      few_lines = omega (arith, l.invariant.few_lines, l.invariant.inside);
      known = known_whole text direction l.start l.uniform done l.invariant.known;
    }
