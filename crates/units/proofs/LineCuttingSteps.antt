-- What a line splitter represents, step by step.
use Rattle.std.proofs.Common.{◌≡◌, ◌≢◌, ℕ, ◌+◌, ◌<◌, ◌≤◌, List, [], ◌∷◌, ◌++◌, length, flat_map, take, refl, sym, ap, ◌∙◌, subst, arith, append_assoc, length-append, append-nil, eq-eqb, get_or, None, Some}
use Rattle.std.proofs.lemmas.Bool.{eqb-true}
use Rattle.std.proofs.lemmas.List.{length-take, get_or-take, take_more, take_all}
use Rattle.memchr.specs.Find.{IsFirstByte, is_byte}
use Rattle.std.proofs.lemmas.List.Elements.{All-append, All-push, All-from_get_or}
use Rattle.std.proofs.lemmas.Grind.{flat_map-append}
use Rattle.units.specs.Text.{longest_line}
use Rattle.units.specs.Lines.{HasNoFeed, EndsAtFeed, ended, IsLine, CutsInto, IsTooLongAfter, saturated}
use Rattle.units.specs.LineCutting.{Cutting, HoldsAfter, Represents, Reaches}
use Rattle.units.specs.LineReturns.{ReturnsPiece}
use Rattle.units.proofs.LineReading.{empty_line, never_both}
use Rattle.units.proofs.LineAppending.{ended_lines-free, ended_lines-line}
use Rattle.std.specs.Borrow.{Bor}
use Rattle.units.specs.declared.line_cut.Cut.TheVariants.{More, Line, TooLong}
use Rattle.units.specs.declared.line_cut.Phase.{Phase}
use Rattle.units.specs.declared.line_cut.Phase.TheVariants.{Within, Ended, Failed}

abbrev at : Phase → ℕ → List ℕ → Cutting
at phase done stored = record { phase = phase; done = done; stored = stored }

saturated-suc : (d n : ℕ) → d ≡ saturated n → saturated (d + 1) ≡ saturated (n + 1)
saturated-suc d n e = omega arith

cuts_line_whole : (b : List ℕ) (lines : List (List ℕ)) (rest : List ℕ) → b ≡ flat_map ended lines ++ rest
    → b ++ 10 ∷ [] ≡ flat_map ended (lines ++ rest ∷ []) ++ []
cuts_line_whole b lines rest e = rw (e, flat_map-append) (simp (append_assoc, append-nil))

cuts_line : (b : List ℕ) (lines : List (List ℕ)) (rest : List ℕ) → CutsInto b lines rest →
    CutsInto (b ++ 10 ∷ []) (lines ++ rest ∷ []) []
cuts_line b lines rest cut = record {
  whole = cuts_line_whole b lines rest cut.whole;
  each = All-push IsLine lines rest cut.each cut.partial;
  partial = empty_line;
}

cuts_over_whole : (b : List ℕ) (lines : List (List ℕ)) (rest text : List ℕ) → b ≡ flat_map ended lines ++ rest
    → b ++ text ≡ (flat_map ended lines ++ (rest ++ text)) ++ []
cuts_over_whole b lines rest text e = rw e (simp (append_assoc, append-nil))

cuts_over : (b : List ℕ) (lines : List (List ℕ)) (rest text : List ℕ) → HasNoFeed text →
    longest_line < length rest + length text
    → CutsInto b lines rest → IsTooLongAfter (b ++ text) lines
cuts_over b lines rest text free over cut = record {
  long = rest ++ text;
  more = [];
  whole = cuts_over_whole b lines rest text cut.whole;
  each = cut.each;
  feeds = All-append (λ x. x ≢ 10) rest text cut.partial.feeds free;
  above = omega (arith, length-append rest text);
}

over_more : (b xs : List ℕ) (lines : List (List ℕ)) → IsTooLongAfter b lines → IsTooLongAfter (b ++ xs) lines
over_more b xs lines over = grind (arith, append_assoc, flat_map)

pub holds_over : (c : Cutting) (b text stored : List ℕ) → c.phase ≡ Within → HasNoFeed text →
    longest_line < length c.stored + length text
    → Represents c b → Represents (at Failed c.done stored) (b ++ text)
holds_over c b text stored e free over s = grind (arith, cuts_over)

pub ends : (c : Cutting) (b : List ℕ) → c.phase ≡ Within → Represents c b →
    Represents (at Ended (saturated (c.done + 1)) c.stored) (b ++ 10 ∷ [])
ends c b e s =
    let P : Phase → Type 0 = λ p. HoldsAfter p c.done c.stored b s.lines in
    let h = subst P e s.holds in
    record { lines = s.lines; holds = (cuts_line b s.lines c.stored h.0, saturated-suc c.done (length s.lines) h.1) }

pub fails_on : (c : Cutting) (b xs : List ℕ) → c.phase ≡ Failed → Represents c b → Represents c (b ++ xs)
fails_on c b xs e s =
    let P : Phase → Type 0 = λ p. HoldsAfter p c.done c.stored b s.lines in
    let Q : Phase → Type 0 = λ p. HoldsAfter p c.done c.stored (b ++ xs) s.lines in
    let h = subst P e s.holds in
    record { lines = s.lines; holds = subst Q (sym e) (over_more b xs s.lines h.0, h.1) }

pub never_failed : (c : Cutting) (b : List ℕ) (lines : List (List ℕ)) (rest : List ℕ) → c.phase ≡ Failed →
    Represents c b → CutsInto b lines rest → ⊥
never_failed c b lines rest e s cut =
    let P : Phase → Type 0 = λ p. HoldsAfter p c.done c.stored b s.lines in
    let h = subst P e s.holds in
    never_both b s.lines lines rest h.0 cut

-- a line splitter that has not failed does not represent bytes with an over-long line
pub never_long : (c : Cutting) (b : List ℕ) (lines : List (List ℕ)) → c.phase ≡ Within → Represents c b →
    IsTooLongAfter b lines → ⊥
never_long c b lines e s over =
    let P : Phase → Type 0 = λ p. HoldsAfter p c.done c.stored b s.lines in
    let h = subst P e s.holds in
    never_both b lines s.lines c.stored over h.0

pub within : (p : Phase) → p ≢ Ended → p ≢ Failed → p ≡ Within
within Within e f = refl
within Ended e f = absurd (e refl)
within Failed e f = absurd (f refl)

pub fails_or_ends : (p : Phase) → p ≢ Ended → p ≢ Within → p ≡ Failed
fails_or_ends Within e f = absurd (f refl)
fails_or_ends Ended e f = absurd (e refl)
fails_or_ends Failed e f = refl

-- what the result of `memchr` proves about a piece
pub feeds_none : (piece : List ℕ) → IsFirstByte (is_byte 10) piece None → HasNoFeed piece
feeds_none piece h = All-from_get_or (λ x. x ≢ 10) piece 0 (λ i lt e. h i (omega arith) lt (eq-eqb _ _ e))

pub feeds_before : (piece : List ℕ) (n : ℕ) → IsFirstByte (is_byte 10) piece (Some n) → HasNoFeed (take n piece)
feeds_before piece n h = All-from_get_or (λ x. x ≢ 10) (take n piece) 0 (λ i lt e.
    let high : n < length piece = h.0.high in
    let below : i < n = omega (arith, lt, length-take n piece) in
    h.0.before i (omega arith) below (eq-eqb _ _ (sym (get_or-take n piece i 0 below) ∙ e)))

pub through_feed : (piece : List ℕ) (n : ℕ) → IsFirstByte (is_byte 10) piece (Some n) →
    take (n + 1) piece ≡ take n piece ++ 10 ∷ []
through_feed piece n h = take_more piece n 0 h.0.high ∙
    ap (λ x. take n piece ++ x ∷ []) (eqb-true (get_or piece n 0) 10 h.1)

pub feed_within : (piece : List ℕ) (n : ℕ) → IsFirstByte (is_byte 10) piece (Some n) → n + 1 ≤ length piece
feed_within piece n h = omega (arith, h.0.high)

pub feed_at : (piece : List ℕ) (n : ℕ) → IsFirstByte (is_byte 10) piece (Some n) → EndsAtFeed (n + 1) piece
feed_at piece n h = record {
  at = n;
  is = refl;
  before = feeds_before piece n h;
  feed =
      eqb-true (get_or piece n 0) 10 h.1;
  inside = h.0.high;
}

pub reaches_feed : (p : Phase) (used : ℕ) (piece : List ℕ) → p ≢ Within → EndsAtFeed used piece → Reaches p used piece
reaches_feed Within used piece f e = absurd (f refl)
reaches_feed Ended used piece f e = e
reaches_feed Failed used piece f e = tt

module _ (v : Cutting) (b piece : List ℕ) (used : ℕ) (s : Represents v (b ++ take used piece))
    (r : Reaches v.phase used piece) where
  pub returns_more : v.phase ≡ Within → ReturnsPiece b piece used More
  returns_more e = grind (arith, take_all, ended_lines-free)

  pub returns_line : (number : ℕ) (text : Bor (List ℕ)) → v.phase ≡ Ended → number ≡ v.done → text.now ≡ v.stored →
      ReturnsPiece b piece used (Line number text)
  returns_line number text e n t = grind (arith, ended_lines-line)

  pub returns_too_long : (number : ℕ) → v.phase ≡ Failed → number ≡ saturated (v.done + 1) →
      ReturnsPiece b piece used (TooLong number)
  returns_too_long number e n = grind (arith, saturated-suc)
