-- L2 of a text: the lines of its first paragraph, and after them the lines of the rest, moved.
use Rattle.std.proofs.Common.{◌≡◌, ℕ, zero, suc, ◌+◌, ◌-◌, ◌<◌, ◌≤◌, Bool, true, cond, Option, List, [], ◌∷◌, ◌++◌, length, map, drop, take, refl, sym, ap, ◌∙◌, inl, inr, arith}
use Rattle.std.specs.Prelude.{filter, slice_range}
use Rattle.std.proofs.lemmas.Bool.{cases_Bool}
use Rattle.std.proofs.lemmas.List.{length-append, take-append-le}
use Rattle.std.proofs.Math.Seq.{take-append-add}
use Rattle.std.proofs.lemmas.List.Elements.{filter-append}
use Rattle.std.proofs.lemmas.Slice.{between_is}
use Rattle.units.specs.Layout.{LineLayout, line_of, lines_cut_at, lines_from}
use Rattle.units.specs.Positions.{positions_from}
use Rattle.units.specs.Reordering.{line_order}
use Rattle.lines.proofs.OrderAlone.{order_alone}
use Rattle.printing.proofs.HeadBreaks.{following}

-- a line, after n positions
abbrev pub moved_line : ℕ → LineLayout → LineLayout
moved_line n line = record { start = n + line.start; end = n + line.end; order = following n line.order }

pub positions_split : (s a b : ℕ) → positions_from s (a + b) ≡ positions_from s a ++ positions_from (s + a) b
positions_split s zero b =
    let e : zero + b ≡ b = omega arith in
    let f : s + zero ≡ s = omega arith in
    ap (positions_from s) e ∙ sym (ap (λ q. positions_from q b) f)
positions_split s (suc a) b =
    let e : suc a + b ≡ suc (a + b) = omega arith in
    let f : s + 1 + a ≡ s + suc a = omega arith in
    ap (positions_from s) e ∙ ap (λ ps. s ∷ ps) (positions_split (s + 1) a b ∙
    ap (λ q. positions_from (s + 1) a ++ positions_from q b) f)

drop_past_first : {A : Type 0} (xs ys : List A) (k : ℕ) → drop (length xs + k) (xs ++ ys) ≡ drop k ys
drop_past_first {A = A} [] ys k = let e : length {A = A} [] + k ≡ k = omega arith in ap (λ q. drop q ys) e
drop_past_first (x ∷ xs) ys k =
    let e : length (x ∷ xs) + k ≡ suc (length xs + k) = omega arith in
    ap (λ q. drop q (x ∷ xs ++ ys)) e ∙ drop_past_first xs ys k

moved_twice : (n s : ℕ) (ps : List ℕ) → following n (following s ps) ≡ following (n + s) ps
moved_twice n s [] = refl
moved_twice n s (p ∷ ps) =
    let e : n + (s + p) ≡ n + s + p = omega arith in
    ap (λ q. q ∷ following n (following s ps)) e ∙ ap (λ qs. (n + s + p) ∷ qs) (moved_twice n s ps)

lines_split : (levels : List (Option ℕ)) (s e c : ℕ) (cs ds : List ℕ) →
    lines_from levels s (cs ++ c ∷ ds) e ≡ lines_from levels s cs c ++ lines_from levels c ds e
lines_split levels s e c [] ds = refl
lines_split levels s e c (b ∷ cs) ds = ap (λ ls. line_of levels s b ∷ ls) (lines_split levels b e c cs ds)

pub lines_of_some : (levels : List (Option ℕ)) (cuts : List ℕ) → 0 < length levels →
    lines_cut_at levels cuts ≡ lines_from levels 0 cuts (length levels)
lines_of_some [] cuts some = absurd (omega arith)
lines_of_some (x ∷ xs) cuts some = refl

module _ (xs ys : List (Option ℕ)) where
  order_in_first : (s e : ℕ) → s ≤ e → e ≤ length xs → line_order (xs ++ ys) s e ≡ line_order xs s e
  order_in_first s e low high =
      let long = length-append xs ys in
      let same : slice_range xs s e ≡ slice_range (xs ++ ys) s e =
      between_is xs s e ∙ ap (drop s) (sym (take-append-le e xs ys high)) ∙ sym (between_is (xs ++ ys) s e) in
      sym (order_alone (xs ++ ys) (slice_range xs s e) s e same low (omega arith)) ∙
      order_alone xs (slice_range xs s e) s e refl low high

  order_right : (s e : ℕ) → s ≤ e → e ≤ length ys →
      line_order (xs ++ ys) (length xs + s) (length xs + e) ≡ following (length xs) (line_order ys s e)
  order_right s e low high =
      let n : ℕ = length xs in
      let line : List (Option ℕ) = slice_range ys s e in
      let long = length-append xs ys in
      let same : line ≡ slice_range (xs ++ ys) (n + s) (n + e) =
      between_is ys s e ∙ sym (between_is (xs ++ ys) (n + s) (n + e) ∙ ap (drop (n + s)) (take-append-add xs ys e) ∙
      drop_past_first xs (take e ys) s) in
      sym (order_alone (xs ++ ys) line (n + s) (n + e) same (omega arith) (omega arith))
      ∙ sym (moved_twice n s (line_order line 0 (length line)))
      ∙ ap (following n) (order_alone ys line s e refl low high)

  line_in_first : (s e : ℕ) → s ≤ e → e ≤ length xs → line_of (xs ++ ys) s e ≡ line_of xs s e
  line_in_first s e low high = ap (λ (o : List ℕ). let l : LineLayout = record { start = s; end = e; order = o } in
      l) (order_in_first s e low high)

  line_in_second : (s e : ℕ) → s ≤ e → e ≤ length ys →
      line_of (xs ++ ys) (length xs + s) (length xs + e) ≡ moved_line (length xs) (line_of ys s e)
  line_in_second s e low high =
      ap (λ (o : List ℕ). let l : LineLayout = record { start = length xs + s; end = length xs + e; order = o } in
      l) (order_right s e low high)

  module _ (test remaining right : ℕ → Bool) where
    lines_in_first : (count s p : ℕ) → ((q : ℕ) → q < length xs → test q ≡ remaining q) → s ≤ p →
        p + count ≡ length xs →
        lines_from (xs ++ ys) s (filter test (positions_from p count)) (length xs) ≡
        lines_from xs s (filter remaining (positions_from p count)) (length xs)
    lines_in_first zero s p same low e = ap (λ l. l ∷ []) (line_in_first s (length xs) (omega arith) (omega arith))
    lines_in_first (suc count) s p same low e =
        let t : test p ≡ remaining p = same p (omega arith) in
        elim (cases_Bool (remaining p)) [
          | inl begins_here ↦
              rw (t, begins_here) (ap (λ l. l ∷ lines_from (xs ++ ys) p (filter test (positions_from (p + 1) count))
              (length xs)) (line_in_first s p low (omega arith))
              ∙ ap (λ ls. line_of xs s p ∷ ls) (lines_in_first count p (p + 1) same (omega arith) (omega arith)))
          | inr within ↦ rw (t, within) (lines_in_first count s (p + 1) same (omega arith) (omega arith))
        ]

    lines_right : (count s p : ℕ) → ((q : ℕ) → q < length ys → test (length xs + q) ≡ right q) → s ≤ p →
        p + count ≡ length ys →
        lines_from (xs ++ ys) (length xs + s) (filter test (positions_from (length xs + p) count))
        (length xs + length ys)
        ≡ map (moved_line (length xs)) (lines_from ys s (filter right (positions_from p count)) (length ys))
    lines_right zero s p same low e = ap (λ l. l ∷ []) (line_in_second s (length ys) (omega arith) (omega arith))
    lines_right (suc count) s p same low e =
        let n : ℕ = length xs in
        let t : test (n + p) ≡ right p = same p (omega arith) in
        let f : n + p + 1 ≡ n + (p + 1) = omega arith in
        elim (cases_Bool (right p)) [
          | inl begins_here ↦
              rw (t, begins_here, f)
              (ap (λ l. l ∷ lines_from (xs ++ ys) (n + p) (filter test (positions_from (n + (p + 1)) count))
              (n + length ys)) (line_in_second s p low (omega arith))
              ∙ ap (λ ls. moved_line n (line_of ys s p) ∷ ls) (lines_right count p (p + 1) same (omega arith)
              (omega arith)))
          | inr within ↦ rw (t, within, f) (lines_right count s (p + 1) same (omega arith) (omega arith))
        ]

    -- the lines of the whole text if one begins with the second part
    pub lines_joined : 0 < length xs → 0 < length ys → test (length xs) ≡ true
        → ((q : ℕ) → q < length xs → test q ≡ remaining q) →
        ((q : ℕ) → q < length ys → test (length xs + q) ≡ right q) →
        lines_cut_at (xs ++ ys) (filter test (positions_from 1 (length xs + length ys - 1)))
        ≡ lines_cut_at xs (filter remaining (positions_from 1 (length xs - 1))) ++
        map (moved_line (length xs)) (lines_cut_at ys (filter right (positions_from 1 (length ys - 1))))
    lines_joined some more begins same_in_first same_in_second =
        let n : ℕ = length xs in
        let m : ℕ = length ys in
        let long = length-append xs ys in
        let e : n + m - 1 ≡ n - 1 + suc (m - 1) = omega arith in
        let f : 1 + (n - 1) ≡ n = omega arith in
        let z : n + 0 ≡ n = omega arith in
        let rest : List ℕ = filter test (positions_from (n + 1) (m - 1)) in
        let cuts : filter test (positions_from 1 (n + m - 1)) ≡ filter test (positions_from 1 (n - 1)) ++ n ∷ rest =
        ap (λ k. filter test (positions_from 1 k)) e
        ∙ ap (filter test) (positions_split 1 (n - 1) (suc (m - 1)) ∙
        ap (λ q. positions_from 1 (n - 1) ++ positions_from q (suc (m - 1))) f)
        ∙ filter-append test (positions_from 1 (n - 1)) (n ∷ positions_from (n + 1) (m - 1))
        ∙ ap (λ t. filter test (positions_from 1 (n - 1)) ++ cond t (n ∷ rest) rest) begins in
        lines_of_some (xs ++ ys) (filter test (positions_from 1 (n + m - 1))) (omega arith)
        ∙ ap (λ cs. lines_from (xs ++ ys) 0 cs (length (xs ++ ys))) cuts
        ∙ lines_split (xs ++ ys) 0 (length (xs ++ ys)) n (filter test (positions_from 1 (n - 1))) rest
        ∙ ap (λ ls. ls ++ lines_from (xs ++ ys) n rest (length (xs ++ ys)))
        (lines_in_first (n - 1) 0 1 same_in_first (omega arith) (omega arith))
        ∙ ap (λ k. lines_from xs 0 (filter remaining (positions_from 1 (n - 1))) n ++
        lines_from (xs ++ ys) n rest k) long
        ∙ ap (λ k. lines_from xs 0 (filter remaining (positions_from 1 (n - 1))) n ++
        lines_from (xs ++ ys) k rest (n + m)) (sym z)
        ∙ ap (λ ls. lines_from xs 0 (filter remaining (positions_from 1 (n - 1))) n ++
        ls) (lines_right (m - 1) 0 1 same_in_second (omega arith) (omega arith))
        ∙ sym (ap (λ ls. ls ++ map (moved_line n) (lines_cut_at ys (filter right (positions_from 1 (m - 1)))))
        (lines_of_some xs (filter remaining (positions_from 1 (n - 1))) some)
        ∙ ap (λ ls. lines_from xs 0 (filter remaining (positions_from 1 (n - 1))) n ++ map (moved_line n) ls)
        (lines_of_some ys (filter right (positions_from 1 (m - 1))) more))
