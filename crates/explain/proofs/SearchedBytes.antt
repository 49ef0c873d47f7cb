-- What bytes do to a search.
use Rattle.std.proofs.Common.{◌≡◌, ℕ, ◌+◌, ◌<◌, ◌≤◌, Option, None, Some, List, [], ◌∷◌, ◌++◌, length, take, Result, Ok, Err, IsErrAnd, refl, sym, ap, is_some, true, false, subst, ◌∙◌, arith, append_assoc, append-nil, length-append, drop}
use Rattle.std.specs.Borrow.{Bor}
use Rattle.std.proofs.lemmas.List.{take-append-drop}
use Rattle.units.specs.LineCutting.{Represents}
use Rattle.units.specs.LineReturns.{ReturnsPiece, Finishes}
use Rattle.units.specs.Lines.{EndsByFeed, CutsInto, IsTooLongAfter, line_number, most_counted}
use Rattle.units.specs.Text.{has_bytes, lines_of, decided_lines}
use Rattle.units.specs.declared.line_cut.Cut.{Cut}
use Rattle.units.specs.declared.line_cut.Cut.TheVariants.{More, Line, TooLong}
use Rattle.units.proofs.FirstItem.{some_bytes}
use Rattle.ucdfiles.proofs.LinesWith.{lines_with-more, lines_with-long}
use Rattle.ucdfiles.proofs.Decided.{decided-whole}
use Rattle.bidtests.specs.declared.kind.Kind.{Kind}
use Rattle.bidtests.specs.declared.kind.Kind.TheVariants.{Classes, Characters}
use Rattle.bidtests.specs.declared.line_reader.Asked.{Asked}
use Rattle.bidtests.specs.declared.verdict.Cause.TheVariants.{LineTooLong}
use Rattle.bidtests.specs.Carried.{AreInForce}
use Rattle.bidtests.specs.FileKinds.{findings_by}
use Rattle.bidtests.specs.LineReadings.{finding_after, levels_in, order_in, HasNoList}
use Rattle.bidtests.proofs.SplitterSteps.{cut-line, cut-long, cut-more, last-lines, lines-ended, nothing}
use Rattle.report.specs.FileReports.{first_malformed}
use Rattle.report.proofs.LineSteps.{is-faulty, lists-after, over-long}
use Rattle.explain.specs.declared.row_fault.RowFault.{RowFault}
use Rattle.explain.specs.declared.row_fault.RowFault.TheVariants.{Malformed, NoRow}
use Rattle.explain.specs.declared.row_fault.SearchFault.{SearchFault}
use Rattle.explain.specs.declared.row_fault.SearchFault.TheVariants.{OfRow}
use Rattle.explain.specs.WantedRows.{RowView, Finds, IsDecided, IsWanted, IsUnsettled, row_in_lines, wanted_row}
use Rattle.explain.specs.Searching.{RowReading, SaysOfRow, SaysOfCut, Searching, SearchesOn, SearchComesTo, EndsLast, EndsWith, PieceSettles, row_in, row_or_fault}
use Rattle.explain.proofs.RowLines.{sound-more, malformed-there, no-row-there, row-there, beyond}

-- this line number is at least the wanted one, and all earlier lines have smaller ones
is-there : (k wanted : ℕ) → k < wanted → wanted ≤ line_number k → wanted ≡ k + 1
is-there k wanted before at = omega arith

-- the line is before the wanted one
is-before : (k wanted : ℕ) → wanted ≤ most_counted → line_number k < wanted → k + 1 < wanted
is-before k wanted most lt = omega arith

module _ (kind : Kind) (wanted : ℕ) (most : wanted ≤ most_counted) (old new : Searching) (b : List ℕ)
    (o : SearchesOn kind wanted old b) where
  -- the lines of a file that begins with these lines
  lines-more : (c line : List ℕ) → CutsInto c (o.lines ++ line ∷ []) [] → (more : List ℕ) →
      lines_of (c ++ more) ≡ o.lines ++ line ∷ lines_of more
  lines-more c line cut more = lines_with-more has_bytes c (o.lines ++ line ∷ []) more cut ∙
      append_assoc o.lines (line ∷ []) (lines_of more)

  -- the result of this line is the result in each list of lines that has the line at this index
  reported : (line : List ℕ) (asked : Asked) →
      SaysOfRow kind wanted (line_number (length o.lines)) line old.rows new.rows (Ok (Some asked))
      → (others : List (List ℕ)) → row_in_lines kind wanted (o.lines ++ line ∷ others) ≡ Ok (row_in new.rows asked)
  reported line asked says others =
      row-there kind old.rows.reading o.lines o.lists o.sound wanted o.before
      (is-there (length o.lines) wanted o.before says.0) line others (row_in new.rows asked) says.1

  rejected : (line : List ℕ) (fault : RowFault) →
      SaysOfRow kind wanted (line_number (length o.lines)) line old.rows new.rows (Err fault)
      → (others : List (List ℕ)) → row_in_lines kind wanted (o.lines ++ line ∷ others) ≡ Err fault
  rejected line (Malformed at cause) says others =
      malformed-there kind old.rows.reading o.lines o.lists o.sound wanted o.before line others cause says.1
      ∙ ap (λ n. Err (Malformed n cause)) (sym says.0)
  rejected line NoRow says others =
      no-row-there kind old.rows.reading o.lines o.lists o.sound wanted o.before
      (is-there (length o.lines) wanted o.before says.0) line others says.1

  -- an over-long line, whatever bytes follow
  long-there : (c : List ℕ) → IsTooLongAfter c o.lines → (more : List ℕ) →
      wanted_row kind wanted (c ++ more) ≡ Err (Malformed (line_number (length o.lines)) LineTooLong)
  long-there c over more =
      let l = lines_with-long has_bytes (λ line above. some_bytes line (omega (arith, above))) c o.lines more over in
      let faulty = is-faulty (finding_after kind old.rows.reading l.0) LineTooLong
      (over-long kind old.rows.reading l.0 l.2) in
      ap (row_in_lines kind wanted) l.3
      ∙ malformed-there kind old.rows.reading o.lines o.lists o.sound wanted o.before l.0 l.1 LineTooLong faulty

  -- a line that has ended
  line-ended : (c line : List ℕ) → Represents new.cutting c → CutsInto c (o.lines ++ line ∷ []) [] →
      (result : Result (Option Asked) RowFault)
      → SaysOfRow kind wanted (line_number (length o.lines)) line old.rows new.rows result →
      SearchComesTo kind wanted new c result
  line-ended c line represents cut (Ok None) says = record {
    splitter = represents;
    lines = o.lines ++ line ∷ [];
    rest = [];
    cut = cut;
    before = omega (arith, is-before (length o.lines) wanted most says.0, length-append o.lines (line ∷ []));
    sound = sound-more kind old.rows.reading o.lines o.lists o.sound wanted o.before line says.1;
    lists = lists-after kind old.rows.reading new.rows.reading o.lines line o.lists says.2;
  }
  line-ended c line represents cut (Ok (Some asked)) says = λ more.
      ap (row_in_lines kind wanted) (lines-more c line cut more) ∙ reported line asked says (lines_of more)
  line-ended c line represents cut (Err fault) says = λ more.
      ap (row_in_lines kind wanted) (lines-more c line cut more) ∙ rejected line fault says (lines_of more)

-- what a prefix of the bytes decides, all bytes decide
decided-more : (kind : Kind) (wanted : ℕ) (b piece : List ℕ) (used : ℕ) (found : Result RowView RowFault) →
    IsDecided kind wanted (b ++ take used piece) found
    → IsDecided kind wanted (b ++ piece) found
decided-more kind wanted b piece used found h more =
    let split : (b ++ piece) ++ more ≡ (b ++ take used piece) ++ (drop used piece ++ more) =
    ap (λ xs. (b ++ xs) ++ more) (sym (take-append-drop used piece)) ∙
    ap (λ xs. xs ++ more) (sym (append_assoc b (take used piece) (drop used piece)))
    ∙ append_assoc (b ++ take used piece) (drop used piece) more in
    ap (wanted_row kind wanted) split ∙ h (drop used piece ++ more)

module _ (kind : Kind) (wanted : ℕ) (most : wanted ≤ most_counted) (old new : Searching) (b piece : List ℕ) (used : ℕ)
    (o : SearchesOn kind wanted old b)
    (within : used ≤ length piece) (through : EndsByFeed used piece) (represents : Represents new.cutting (b ++
    take used piece)) where
  abbrev Comes : Result (Option Asked) RowFault → Type 0
  Comes result = SearchComesTo kind wanted new (b ++ take used piece) result

  -- a step of the line splitter
  pub comes-by : (step : Cut) → ReturnsPiece b piece used step → (result : Result (Option Asked) RowFault)
      → SaysOfCut kind wanted step old.rows new.rows result →
      SearchComesTo kind wanted new (b ++ take used piece) result
  comes-by More a result says =
      let l = cut-more b o.lines o.rest o.cut piece used a in
      let P : RowReading → Type 0 = λ rows. AreInForce kind (levels_in rows.reading) (order_in rows.reading) o.lines in
      subst Comes (sym says.0) (record {
        splitter = represents;
        lines = o.lines;
        rest = l.0;
        cut = l.1;
        before = o.before;
        sound = o.sound;
        lists = subst P (sym says.1) o.lists;
      })
  comes-by (Line number text) a result says =
      let l = cut-line b o.lines o.rest o.cut piece used number text a in
      let Says : ℕ → Type 0 = λ n. SaysOfRow kind wanted n text.now old.rows new.rows result in
      line-ended kind wanted most old new b o (b ++ take used piece) text.now represents l.0 result
      (subst Says l.1 says)
  comes-by (TooLong number) a result says =
      let l = cut-long b o.lines o.rest o.cut piece used number within through a in
      subst Comes (sym says)
      (λ more. long-there kind wanted most old new b o (b ++ take used piece) l.0 more ∙
      ap (λ n. Err (Malformed n LineTooLong)) (sym l.1))

  -- a step that ends the search
  pub rejected-by : (step : Cut) → ReturnsPiece b piece used step → (fault : RowFault)
      → SaysOfCut kind wanted step old.rows new.rows (Err fault) → IsDecided kind wanted (b ++ piece) (Err fault)
  rejected-by step a fault says = decided-more kind wanted b piece used (Err fault) (comes-by step a (Err fault) says)

-- a part of a piece was taken
pub record HasTaken (kind : Kind) (wanted : ℕ) (before after : Searching) (piece rest : List ℕ) : Type 0 where
  pub passed : List ℕ
  pub joined : passed ++ rest ≡ piece
  pub on : (b : List ℕ) → SearchesOn kind wanted before b → SearchesOn kind wanted after (b ++ passed)

pub nothing-taken : (kind : Kind) (wanted : ℕ) (s : Searching) (piece : List ℕ) → HasTaken kind wanted s s piece piece
nothing-taken kind wanted s piece = record {
  passed = [];
  joined = refl;
  on = λ b h. subst (λ (xs : List ℕ). SearchesOn kind wanted s xs) (sym (append-nil b)) h;
}

module _ (kind : Kind) (wanted : ℕ) (before s after : Searching) (piece rest : List ℕ)
    (h : HasTaken kind wanted before s piece rest) where
  pub more-taken : (used : ℕ) → ((b : List ℕ) → SearchesOn kind wanted s b →
      SearchesOn kind wanted after (b ++ take used rest))
      → HasTaken kind wanted before after piece (drop used rest)
  more-taken used on = record {
    passed = h.passed ++ take used rest;
    joined = append_assoc h.passed (take used rest) (drop used rest) ∙
        ap (λ xs. h.passed ++ xs) (take-append-drop used rest) ∙ h.joined;
    on = λ b o. subst (λ (xs : List ℕ). SearchesOn kind wanted after xs) (append_assoc b h.passed (take used rest))
        (on (b ++ h.passed) (h.on b o));
  }

  -- what the rest decides after the part that was taken, the whole piece decides
  pub decided-following : (found : Result RowView RowFault) → ((b : List ℕ) → SearchesOn kind wanted s b →
      IsDecided kind wanted (b ++ rest) found)
      → (b : List ℕ) → SearchesOn kind wanted before b → IsDecided kind wanted (b ++ piece) found
  decided-following found settles b o =
      subst (λ (xs : List ℕ). IsDecided kind wanted xs found) (append_assoc b h.passed rest ∙
      ap (λ xs. b ++ xs) h.joined)
      (settles (b ++ h.passed) (h.on b o))

-- all of a piece was taken
pub all-taken : (kind : Kind) (wanted : ℕ) (before after : Searching) (piece rest : List ℕ) →
    HasTaken kind wanted before after piece rest → rest ≡ []
    → (b : List ℕ) → SearchesOn kind wanted before b → SearchesOn kind wanted after (b ++ piece)
all-taken kind wanted before after piece rest h none b o =
    let all : h.passed ≡ piece = sym (append-nil h.passed) ∙ ap (λ xs. h.passed ++ xs) (sym none) ∙ h.joined in
    subst (λ (xs : List ℕ). SearchesOn kind wanted after (b ++ xs)) all (h.on b o)

-- the end of a file
module _ (kind : Kind) (wanted : ℕ) (most : wanted ≤ most_counted) (old new : Searching) (b : List ℕ)
    (o : SearchesOn kind wanted old b) where
  pub ends-none : Finishes b None → wanted_row kind wanted b ≡ Err NoRow
  ends-none f = ap (row_in_lines kind wanted) (lines-ended b o.lines o.rest o.cut f) ∙
      beyond kind o.lines wanted o.sound o.before

  -- the unfinished line is the last
  pub ends-last : (number : ℕ) (last : Bor (List ℕ)) → Finishes b (Some (number, last)) →
      (result : Result (Option Asked) RowFault)
      → SaysOfRow kind wanted number last.now old.rows new.rows result → (ended : Result Asked RowFault) →
      EndsLast result ended → EndsWith kind wanted new b ended
  ends-last number last f (Ok None) says ended e =
      let l = last-lines b o.lines o.rest o.cut number last f in
      let Says : ℕ → Type 0 = λ n. SaysOfRow kind wanted n last.now old.rows new.rows (Ok None) in
      let here = subst Says l.1 says in
      let all = ap (row_in_lines kind wanted) l.0
      ∙ beyond kind (o.lines ++ last.now ∷ []) wanted
      (sound-more kind old.rows.reading o.lines o.lists o.sound wanted o.before last.now here.1)
      (omega (arith, is-before (length o.lines) wanted most here.0, length-append o.lines (last.now ∷ []))) in
      subst (EndsWith kind wanted new b) (sym e) all
  ends-last number last f (Ok (Some asked)) says ended e =
      let l = last-lines b o.lines o.rest o.cut number last f in
      let Says : ℕ → Type 0 = λ n. SaysOfRow kind wanted n last.now old.rows new.rows (Ok (Some asked)) in
      subst (EndsWith kind wanted new b) (sym e)
      (ap (row_in_lines kind wanted) l.0 ∙
      reported kind wanted most old new b o last.now asked (subst Says l.1 says) [])
  ends-last number last f (Err fault) says ended e =
      let l = last-lines b o.lines o.rest o.cut number last f in
      let Says : ℕ → Type 0 = λ n. SaysOfRow kind wanted n last.now old.rows new.rows (Err fault) in
      subst (EndsWith kind wanted new b) (sym e)
      (ap (row_in_lines kind wanted) l.0 ∙
      rejected kind wanted most old new b o last.now fault (subst Says l.1 says) [])

-- before the first byte
pub search-start : (kind : Kind) (wanted : ℕ) (s : Searching) → Represents s.cutting [] → HasNoList s.rows.reading →
    0 < wanted → SearchesOn kind wanted s []
search-start Classes wanted s represents none some =
    record {
      splitter = represents;
      lines = [];
      rest = [];
      cut = nothing;
      before = some;
      sound = refl;
      lists =
          (none.levels, none.order);
    }
search-start (Characters tables) wanted s represents none some =
    record { splitter = represents; lines = []; rest = []; cut = nothing; before = some; sound = refl; lists = tt }

-- while a search continues, its bytes don't decide the result of the wanted line
pub on-unsettled : (kind : Kind) (wanted : ℕ) (s : Searching) (bytes : List ℕ) → SearchesOn kind wanted s bytes →
    IsUnsettled kind wanted bytes
on-unsettled kind wanted s bytes o =
    let lines : decided_lines bytes ≡ o.lines = decided-whole bytes o.lines o.rest o.cut in
    let count : length (decided_lines bytes) ≡ length o.lines = ap length lines in
    record {
      sound = ap (λ ls. first_malformed 0 (findings_by kind ls)) lines ∙ o.sound;
      before = omega (arith, count, o.before);
    }

module _ (HasFailed HasEnded : Type 0) (kind : Kind) (wanted : ℕ) (bytes : List ℕ) (s : RowReading) where
  -- the result of a file that has ended is the result of each file that begins with these bytes and has no more
  pub finds-ended : HasEnded → (found : Result RowView RowFault) → wanted_row kind wanted bytes ≡ found →
      IsWanted HasEnded kind wanted bytes found
  finds-ended ended found e more none =
      ap (λ xs. wanted_row kind wanted (bytes ++ xs)) (none ended) ∙ ap (wanted_row kind wanted) (append-nil bytes) ∙ e

  -- a fault of the row, returned unchanged
  pub finds-fault : (result : Result Asked SearchFault) (fault : RowFault) →
      IsErrAnd result (λ given. given ≡ OfRow fault)
      → IsWanted HasEnded kind wanted bytes (Err fault) →
      Finds HasFailed HasEnded kind wanted bytes (row_or_fault s result)
  finds-fault (Ok asked) fault e h = absurd e
  finds-fault (Err given) fault e h =
      subst (λ (f : SearchFault). Finds HasFailed HasEnded kind wanted bytes (Err f)) (sym e) h

-- a fault of a step, returned unchanged
pub steps-fault : (kind : Kind) (wanted : ℕ) (s : Searching) (b piece : List ℕ) (result : Result (ℕ ×
    Option Asked) RowFault) (fault : RowFault)
    → IsErrAnd result (λ given. given ≡ fault) → IsDecided kind wanted (b ++ piece) (Err fault) →
    PieceSettles kind wanted s b piece result
steps-fault kind wanted s b piece (Ok step) fault e h = absurd e
steps-fault kind wanted s b piece (Err given) fault e h =
    subst (λ (f : RowFault). IsDecided kind wanted (b ++ piece) (Err f)) (sym e) h

-- a fault of a search, returned unchanged
pub comes-fault : (kind : Kind) (wanted : ℕ) (s : Searching) (bytes : List ℕ) (result : Result (Option Asked) RowFault)
    (fault : RowFault)
    → IsErrAnd result (λ given. given ≡ fault) → IsDecided kind wanted bytes (Err fault) →
    SearchComesTo kind wanted s bytes result
comes-fault kind wanted s bytes (Ok row) fault e h = absurd e
comes-fault kind wanted s bytes (Err given) fault e h =
    subst (λ (f : RowFault). IsDecided kind wanted bytes (Err f)) (sym e) h

-- the search continues if a step returns no row
pub goes-on : (kind : Kind) (wanted : ℕ) (s : Searching) (bytes : List ℕ) (row : Option Asked) → is_some row ≡ false →
    SearchComesTo kind wanted s bytes (Ok row)
    → SearchesOn kind wanted s bytes
goes-on kind wanted s bytes None e h = h
goes-on kind wanted s bytes (Some asked) e h = absurd cc

-- the piece decides the result if a step returns a row
pub row-following : (kind : Kind) (wanted : ℕ) (before s after : Searching) (piece rest : List ℕ) (used : ℕ) →
    HasTaken kind wanted before s piece rest
    → (row : Option Asked) → is_some row ≡ true
    → ((b : List ℕ) → SearchesOn kind wanted s b → SearchComesTo kind wanted after (b ++ take used rest) (Ok row))
    → (b : List ℕ) → SearchesOn kind wanted before b → SearchComesTo kind wanted after (b ++ piece) (Ok row)
row-following kind wanted before s after piece rest used h None e comes b o = absurd cc
row-following kind wanted before s after piece rest used h (Some asked) e comes b o =
    decided-following kind wanted before s after piece rest h (Ok (row_in after.rows asked))
    (λ c on. decided-more kind wanted c rest used (Ok (row_in after.rows asked)) (comes c on)) b o
