-- The effect of a cut of the line splitter on the bytes that a judge has judged.
use Rattle.std.proofs.Common.{◌≡◌, ◌≢◌, ℕ, ◌<◌, ◌≤◌, Option, None, Some, List, [], ◌∷◌, ◌++◌, length, take, refl, sym, ap, subst, ◌∙◌, arith, append_assoc, append-nil, length-append, inl, inr, is_some, true, drop}
use Rattle.std.specs.Prelude.{Result, Ok, Err, OnOk}
use Rattle.std.specs.Result.{result_err}
use Rattle.std.proofs.lemmas.List.Elements.{All-nil}
use Rattle.std.proofs.lemmas.List.{take_all, take-append-drop}
use Rattle.std.proofs.lemmas.Bool.{lt-ltb, false≢true}
use Rattle.std.specs.Borrow.{Bor}
use Rattle.units.specs.LineCutting.{Cutting, Represents}
use Rattle.units.specs.Limits.{LimitsOf}
use Rattle.units.specs.Lines.{EndsByFeed, IsLine, CutsInto, IsTooLongAfter, line_number}
use Rattle.units.specs.LineReturns.{ReturnsPiece, Finishes}
use Rattle.units.specs.declared.line_cut.Cut.{Cut}
use Rattle.units.specs.declared.line_cut.Cut.TheVariants.{More, Line, TooLong}
use Rattle.units.proofs.LineReading.{never_both}
use Rattle.units.proofs.LineAppending.{ended_lines-CutsInto}
use Rattle.units.proofs.LineRunning.{lines-before}
use Rattle.units.specs.Text.{has_bytes, longest_line, lines_of}
use Rattle.bidtests.specs.declared.verdict.Verdict.{Verdict}
use Rattle.bidtests.specs.declared.verdict.Verdict.TheVariants.{Yes, Malformed}
use Rattle.bidtests.specs.declared.verdict.Cause.TheVariants.{LineTooLong}
use Rattle.bidtests.specs.Verdicts.{verdict_on}
use Rattle.bidtests.specs.declared.kind.Kind.{Kind}
use Rattle.bidtests.specs.declared.kind.Kind.TheVariants.{Classes, Characters}
use Rattle.bidtests.specs.ClassesFile.{classes_line, classes_verdict}
use Rattle.bidtests.specs.CharactersFile.{characters_line, characters_verdict}
use Rattle.bidtests.specs.FileKinds.{findings_by, tables_of, verdict_of}
use Rattle.bidtests.specs.Carried.{Carried, at_start, IsAfter, no_at, no_by, after_line, after_cut, no_or_yes, verdict_after}
use Rattle.bidtests.specs.JudgedSoFar.{Judging, Judges, IsOpen, JudgesBy}
use Rattle.bidtests.proofs.LineByLine.{verdict-fault, verdict-yes, following-line, following-none}
use Rattle.bidtests.proofs.SameTables.{judges-as, verdict-as}
use Rattle.units.proofs.FirstItem.{some_bytes}
use Rattle.ucdfiles.proofs.LinesWith.{lines_with-more, lines_with-long, lines_of-ended, lines_of-begun}

pub verdict-of : (limits : LimitsOf) (kind : Kind) (bytes : List ℕ) →
    verdict_of limits kind bytes ≡ verdict_on limits (findings_by kind (lines_of bytes))
unfolding classes_verdict characters_verdict
verdict-of limits Classes bytes = refl
verdict-of limits (Characters tables) bytes = refl

verdict-by : (limits : LimitsOf) (kind : Kind) (bytes : List ℕ) (lines : List (List ℕ)) → lines_of bytes ≡ lines →
    verdict_of limits kind bytes ≡ verdict_on limits (findings_by kind lines)
verdict-by limits kind bytes lines e = verdict-of limits kind bytes ∙
    ap (λ ls. verdict_on limits (findings_by kind ls)) e

over_long : (kind : Kind) (line : List ℕ) → longest_line < length line → (s : Carried) (number : ℕ) →
    no_at kind s number line ≡ Some (Malformed number LineTooLong)
unfolding classes_line characters_line
over_long Classes line long s number = rw (lt-ltb longest_line (length line) long) refl
over_long (Characters tables) line long s number = rw (lt-ltb longest_line (length line) long) refl

module _ (limits : LimitsOf) (kind : Kind) (s : Carried) (lines : List (List ℕ)) (h : IsAfter limits kind s lines) where
  decided-line : (b : List ℕ) (line : List ℕ) (v : Verdict) → CutsInto b (lines ++ line ∷ []) []
      → no_at kind s (line_number (length lines)) line ≡ Some v → (more : List ℕ) →
      verdict_of limits kind (b ++ more) ≡ v
  decided-line b line v cut e more =
      verdict-by limits kind (b ++ more) _ (lines_with-more has_bytes b (lines ++ line ∷ []) more cut ∙
      append_assoc lines (line ∷ []) (lines_of more))
      ∙ verdict-fault limits kind s lines line h v e (lines_of more)

  decided-long : (b : List ℕ) → IsTooLongAfter b lines → (more : List ℕ) →
      verdict_of limits kind (b ++ more) ≡ Malformed (line_number (length lines)) LineTooLong
  decided-long b over more =
      let l = lines_with-long has_bytes (λ line above. some_bytes line (omega (arith, above))) b lines more over in
      verdict-by limits kind (b ++ more) _ l.3 ∙
      verdict-fault limits kind s lines l.0 h _ (over_long kind l.0 l.2 s (line_number (length lines))) l.1

  -- a line that has ended, with or without a fault
  ends-line : (fault : Option Verdict) (new : Cutting) (t : Carried) (b line : List ℕ) → Represents new b →
      CutsInto b (lines ++ line ∷ []) []
      → no_at kind s (line_number (length lines)) line ≡ fault → (fault ≡ None → t ≡ after_line kind line s) →
      JudgesBy limits kind fault new t b
  ends-line None new t b line represents cut e after = record {
    splitter = represents;
    lines = lines ++ line ∷ [];
    rest = [];
    cut = cut;
    following =
        let P : Carried → Type 0 = λ u. IsAfter limits kind u (lines ++ line ∷ []) in
        subst P (sym (after refl)) (following-line limits kind s lines line h e);
  }
  ends-line (Some v) new t b line represents cut e after = decided-line b line v cut e

pub same_count : (a c : List (List ℕ)) (x : List ℕ) → a ++ x ∷ [] ≡ c ++ x ∷ [] → length a ≡ length c
same_count a c x e = omega (arith, ap length e, length-append a (x ∷ []), length-append c (x ∷ []))

-- bytes that are cut into these lines and this rest
module _ (b : List ℕ) (lines : List (List ℕ)) (rest : List ℕ) (cut : CutsInto b lines rest) where
  -- if no line has begun, these are all lines
  pub lines-ended : Finishes b None → lines_of b ≡ lines
  lines-ended f = elim f [
    | inl all ↦ lines_of-ended b all.0 all.1 ∙ sym (ended_lines-CutsInto b all.0 [] all.1) ∙
        ended_lines-CutsInto b lines rest cut
    | inr over ↦ absurd (never_both b over.0 lines rest over.1 cut)
  ]

  -- the line that has begun is the last
  pub last-lines : (number : ℕ) (last : Bor (List ℕ)) → Finishes b (Some (number, last)) →
      (lines_of b ≡ lines ++ last.now ∷ []) × (number ≡ line_number (length lines))
  last-lines number last f =
      let same : f.1.0 ≡ lines = sym (ended_lines-CutsInto b f.1.0 last.now f.1.1) ∙
      ended_lines-CutsInto b lines rest cut in (
        lines_of-begun b f.1.0 last.now f.1.1 f.0 ∙ ap (λ ls. ls ++ last.now ∷ []) same,
        f.1.2 ∙ ap (λ (ls : List (List ℕ)). line_number (length ls)) same,
      )

  -- what the line splitter used of a piece, for each result
  pub cut-more : (piece : List ℕ) (used : ℕ) → ReturnsPiece b piece used More → (remaining : List ℕ) ×
      CutsInto (b ++ take used piece) lines remaining
  cut-more piece used a =
      let all : take used piece ≡ piece = take_all used piece (omega (arith, a.1)) in
      let C : List ℕ → Type 0 = λ xs. CutsInto (b ++ xs) a.3.0 a.3.1 in
      let whole = subst C (sym all) a.3.2 in
      let D : List (List ℕ) → Type 0 = λ ls. CutsInto (b ++ take used piece) ls a.3.1 in (
        a.3.1,
        subst D (sym (ended_lines-CutsInto _ a.3.0 a.3.1 whole) ∙ a.2 ∙
            ended_lines-CutsInto b lines rest cut) whole,
      )

  pub cut-line : (piece : List ℕ) (used number : ℕ) (text : Bor (List ℕ)) → ReturnsPiece b piece used (Line number text)
      → CutsInto (b ++ take used piece) (lines ++ text.now ∷ []) [] × (number ≡ line_number (length lines))
  cut-line piece used number text a =
      let same : a.2.0 ++ text.now ∷ [] ≡ lines ++ text.now ∷ [] =
      sym (ended_lines-CutsInto _ (a.2.0 ++ text.now ∷ []) [] a.2.1) ∙ a.1 ∙
      ap (λ ls. ls ++ text.now ∷ []) (ended_lines-CutsInto b lines rest cut) in
      let D : List (List ℕ) → Type 0 = λ ls. CutsInto (b ++ take used piece) ls [] in
      (subst D same a.2.1, a.2.2 ∙ ap (λ n. line_number n) (same_count a.2.0 lines text.now same))

  pub cut-long : (piece : List ℕ) (used number : ℕ) → used ≤ length piece → EndsByFeed used piece →
      ReturnsPiece b piece used (TooLong number)
      → IsTooLongAfter (b ++ take used piece) lines × (number ≡ line_number (length lines))
  cut-long piece used number within through a =
      let same : a.0 ≡ lines = lines-before b piece used lines a.0 rest within through cut a.1 in
      let D : List (List ℕ) → Type 0 = λ ls. IsTooLongAfter (b ++ take used piece) ls in
      (subst D same a.1, a.2 ∙ ap (λ (ls : List (List ℕ)). line_number (length ls)) same)

module _ (limits : LimitsOf) (kind : Kind) (old new : Cutting) (s t : Carried) (b piece : List ℕ) (used : ℕ)
    (o : IsOpen limits kind old s b)
    (within : used ≤ length piece) (through : EndsByFeed used piece) (represents : Represents new (b ++
    take used piece)) where
  pub judges-on : (taken : Cut) → ReturnsPiece b piece used taken →
      (no_by kind s taken ≡ None → t ≡ after_cut kind taken s)
      → JudgesBy limits kind (no_by kind s taken) new t (b ++ take used piece)
  judges-on More a after = grind (arith, take_all, ended_lines-CutsInto)
  judges-on (Line number text) a after = grind (arith, ended_lines-CutsInto, same_count, ends-line)
  judges-on (TooLong number) a after = λ more.
      let l = cut-long b o.lines o.rest o.cut piece used number within through a in
      decided-long limits kind s o.lines o.following (b ++ take used piece) l.0 more ∙
      ap (λ n. Malformed n LineTooLong) (sym l.1)

-- a decided verdict doesn't change
pub judges-decided : (limits : LimitsOf) (kind : Kind) (v : Verdict) (old new : Cutting) (s t : Carried)
    (b xs : List ℕ) → JudgesBy limits kind (Some v) old s b → JudgesBy limits kind (Some v) new t (b ++ xs)
judges-decided limits kind v old new s t b xs j more = ap (verdict_of limits kind) (append_assoc b xs more) ∙
    j (xs ++ more)

pub verdict-decided : (limits : LimitsOf) (kind : Kind) (v : Verdict) (c : Cutting) (s : Carried) (b : List ℕ) →
    JudgesBy limits kind (Some v) c s b → v ≡ verdict_of limits kind b
verdict-decided limits kind v c s b j = sym (j []) ∙ ap (verdict_of limits kind) (append-nil b)

last-fault : (limits : LimitsOf) (kind : Kind) (s : Carried) (lines : List (List ℕ)) (last b : List ℕ) →
    IsAfter limits kind s lines
    → verdict_of limits kind b ≡ verdict_on limits (findings_by kind (lines ++ last ∷ [])) → (fault : Option Verdict)
    → no_at kind s (line_number (length lines)) last ≡ fault →
    no_or_yes fault (after_line kind last s) ≡ verdict_of limits kind b
last-fault limits kind s lines last b h whole None e =
    sym (whole ∙ verdict-yes limits kind (after_line kind last s) (lines ++
    last ∷ []) (following-line limits kind s lines last h e))
last-fault limits kind s lines last b h whole (Some v) e = sym (whole ∙ verdict-fault limits kind s lines last h v e [])

module _ (limits : LimitsOf) (kind : Kind) (c : Cutting) (s : Carried) (b : List ℕ) (o : IsOpen limits kind c s b) where
  -- no line has begun
  pub verdict-ended : Finishes b None → Yes s.rows s.cases ≡ verdict_of limits kind b
  verdict-ended f = sym (verdict-by limits kind b o.lines (lines-ended b o.lines o.rest o.cut f) ∙
      verdict-yes limits kind s o.lines o.following)

  last-by : (number : ℕ) (last : Bor (List ℕ)) → Finishes b (Some (number, last)) → (fault : Option Verdict) →
      no_at kind s number last.now ≡ fault
      → no_or_yes fault (after_line kind last.now s) ≡ verdict_of limits kind b
  last-by number last f fault e =
      let l = last-lines b o.lines o.rest o.cut number last f in
      let at : no_at kind s (line_number (length o.lines)) last.now ≡ fault =
      ap (λ n. no_at kind s n last.now) (sym l.1) ∙ e in
      let whole : verdict_of limits kind b ≡ verdict_on limits (findings_by kind (o.lines ++ last.now ∷ [])) =
      verdict-by limits kind b _ l.0 in
      last-fault limits kind s o.lines last.now b o.following whole fault at

  -- the line that has begun decides, if there is one
  pub verdict-last : (last : Option (ℕ × Bor (List ℕ))) → Finishes b last →
      verdict_after kind s last ≡ verdict_of limits kind b
  verdict-last None f = verdict-ended f
  verdict-last (Some last) f = last-by last.0 last.1 f (no_at kind s last.0 last.1.now) refl

-- the verdict of a judge at the end; its own kind has the same tables
pub finishes : (j : Judging) (own : Kind) → tables_of own ≡ j.tables → (last : Option (ℕ × Bor (List ℕ))) →
    j.decided ≡ None → ((b : List ℕ) → Represents j.cutting b → Finishes b last)
    → (limits : LimitsOf) (kind : Kind) (b : List ℕ) → Judges limits kind j b →
    verdict_after own j.carried last ≡ verdict_of limits kind b
finishes j own owned last undecided f limits kind b judges =
    let same : tables_of own ≡ tables_of kind = owned ∙ judges.of in
    let P : Option Verdict → Type 0 = λ d. JudgesBy limits own d j.cutting j.carried b in
    let o : IsOpen limits own j.cutting j.carried b =
    subst P undecided (judges-as limits kind own same j.decided j.cutting j.carried b judges.is) in
    verdict-last limits own j.cutting j.carried b o last (f b o.splitter) ∙ verdict-as limits kind own same b

pub finishes-decided : (j : Judging) (v : Verdict) → j.decided ≡ Some v →
    (limits : LimitsOf) (kind : Kind) (b : List ℕ) → Judges limits kind j b → v ≡ verdict_of limits kind b
finishes-decided j v e limits kind b judges =
    let P : Option Verdict → Type 0 = λ d. JudgesBy limits kind d j.cutting j.carried b in
    verdict-decided limits kind v j.cutting j.carried b (subst P e judges.is)

-- what holds unless there is an error holds if there is none
pub if-no-error : {T E : Type 0} (P : Type 0) (r : Result T E) → result_err r ≡ None → OnOk r P → P
if-no-error P (Ok x) none holds = holds
if-no-error P (Err e) none holds = absurd cc

module _ (j : Judging) (own : Kind) (owned : tables_of own ≡ j.tables) (new : Cutting) (t : Carried)
    (decided : Option Verdict) (rest : List ℕ) (used : ℕ) (taken : Cut)
    (undecided : j.decided ≡ None) (within : used ≤ length rest)
    (through : (b : List ℕ) (lines : List (List ℕ)) (r : List ℕ) → Represents j.cutting b → CutsInto b lines r →
    EndsByFeed used rest)
    (outcomes : (b : List ℕ) → Represents j.cutting b → ReturnsPiece b rest used taken)
    (represents : (b : List ℕ) → Represents j.cutting b → Represents new (b ++ take used rest))
    (fault : decided ≡ no_by own j.carried taken) (after : decided ≡ None → t ≡ after_cut own taken j.carried) where
  -- a judge without a decided verdict, after what the line splitter used; its own kind has the same tables
  pub feeds-on : (limits : LimitsOf) (kind : Kind) (b : List ℕ) → Judges limits kind j b →
      Judges limits kind (record { tables = j.tables; cutting = new; carried = t; decided = decided }) (b ++
      take used rest)
  feeds-on limits kind b judges =
      let same : tables_of own ≡ tables_of kind = owned ∙ judges.of in
      let P : Option Verdict → Type 0 = λ d. JudgesBy limits own d j.cutting j.carried b in
      let o : IsOpen limits own j.cutting j.carried b =
      subst P undecided (judges-as limits kind own same j.decided j.cutting j.carried b judges.is) in
      let Q : Option Verdict → Type 0 = λ d. JudgesBy limits own d new t (b ++ take used rest) in
      let by : JudgesBy limits own decided new t (b ++ take used rest) =
      subst Q (sym fault) (judges-on limits own j.cutting new j.carried t b rest used o within
      (through b o.lines o.rest o.splitter o.cut) (represents b o.splitter) taken (outcomes b o.splitter)
      (λ e. after (fault ∙ e))) in
      record {
        of = judges.of;
        is = judges-as limits own kind (sym same) decided new t (b ++ take used rest) by;
      }

pub nothing : CutsInto [] [] []
nothing = record {
  whole = refl;
  each = All-nil IsLine;
  partial = record {
    feeds = All-nil (λ x. x ≢ 10);
    short =
        omega arith;
  };
}

pub judges-none : (limits : LimitsOf) (kind : Kind) (c : Cutting) → Represents c [] →
    Judges limits kind (record {
      tables = tables_of kind;
      cutting = c;
      carried = at_start limits;
      decided = None;
    }) []
judges-none limits kind c s = record {
  of = refl;
  is = record {
    splitter = s;
    lines = [];
    rest = [];
    cut = nothing;
    following = following-none limits kind;
  };
}

some-stays : (limits : LimitsOf) (kind : Kind) (d : Option Verdict) (c : Cutting) (s : Carried) (b xs : List ℕ) →
    is_some d ≡ true → JudgesBy limits kind d c s b → JudgesBy limits kind d c s (b ++ xs)
some-stays limits kind None c s b xs e j = absurd (false≢true e)
some-stays limits kind (Some v) c s b xs e j = judges-decided limits kind v c c s s b xs j

-- bytes after a decided verdict change nothing
pub feeds-some : (limits : LimitsOf) (kind : Kind) (j : Judging) (b piece : List ℕ) (at : ℕ) →
    is_some j.decided ≡ true → Judges limits kind j (b ++ take at piece) → Judges limits kind j (b ++ piece)
feeds-some limits kind j b piece at e judges =
    let whole : (b ++ take at piece) ++ drop at piece ≡ b ++ piece = append_assoc b (take at piece) (drop at piece) ∙
    ap (λ z. b ++ z) (take-append-drop at piece) in
    let P : List ℕ → Type 0 = λ z. Judges limits kind j z in
    subst P whole (record {
      of = judges.of;
      is =
          some-stays limits kind j.decided j.cutting j.carried (b ++ take at piece) (drop at piece) e judges.is;
    })
