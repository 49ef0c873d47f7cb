-- What was printed of a report, piece by piece.
use Rattle.std.proofs.Common.{◌≡◌, ◌≢◌, ℕ, suc, zero, ◌+◌, Option, List, [], ◌∷◌, ◌++◌, length, take, refl, sym, ap, subst, ◌∙◌, arith, append_assoc, append-nil, length-append, drop, Bool, Result, Ok, Err, IfErr}
use Rattle.std.specs.IoError.{error_kind}
use Rattle.std.specs.List.{flat_map}
use Rattle.std.specs.declared.io.Error.{Error}
use Rattle.std.specs.declared.io.ErrorKind.{ErrorKind}
use Rattle.std.specs.declared.io.ErrorKind.TheVariants.{BrokenPipe}
use Rattle.std.proofs.lemmas.Grind.{flat_map-append}
use Rattle.std.proofs.lemmas.List.{take-append-drop}
use Rattle.report.specs.declared.terms.Terms.{Terms}
use Rattle.bidtests.specs.declared.kind.Kind.{Kind}
use Rattle.printing.proofs.Appending.{Appends-to, Appends-joined, Appends-nothing}
use Rattle.report.specs.declared.wrong_case.WrongCase.{WrongCase}
use Rattle.report.specs.declared.print.ReportFault.{ReportFault}
use Rattle.report.specs.declared.print.ReportFault.TheVariants.{Read, Write, NobodyReads}
use Rattle.printing.specs.FailedWrites.{HasFailed}
use Rattle.printing.specs.declared.written.Written.TheVariants.{Whole, CutOff}
use Rattle.report.specs.FileReports.{report_of, decided_cases}
use Rattle.report.specs.Reporting.{Reporting, Reports, report_at_end}
use Rattle.report.specs.PrintedReports.{BreaksOff, EndsUnwritten, HasReported, HasWrittenFirst, IsFaultOf, IsWriteFault, Prints, PrintsEnd, PrintsKnownCases, ReportsCut}
use Rattle.report.specs.ReportText.{first_cases_text, report_text, wrong_case_text}
use Rattle.report.proofs.DecidedCases.{reported-decided}

-- the first cases of two joined lists, if `remaining` more may follow those of the first list
take-both : (most remaining : ℕ) (xs ys : List WrongCase) → remaining + length (take most xs) ≡ most →
    take most (xs ++ ys) ≡ take most xs ++ take remaining ys
take-both zero remaining xs ys e =
    let none : remaining ≡ 0 = omega (arith, e) in rw none refl
take-both (suc most) remaining [] ys e =
    let all : suc most ≡ remaining = omega (arith, e) in ap (λ n. take n ys) all
take-both (suc most) remaining (x ∷ xs) ys e = ap (λ ws. x ∷ ws) (take-both most remaining xs ys (omega (arith, e)))

length-both : (most remaining rest : ℕ) (xs ys : List WrongCase) → remaining + length (take most xs) ≡ most →
    rest + length (take remaining ys) ≡ remaining
    → rest + length (take most (xs ++ ys)) ≡ most
length-both most remaining rest xs ys e f =
    omega (
      arith,
      e,
      f,
      ap (λ (ws : List WrongCase). length ws) (take-both most remaining xs ys e),
      length-append (take most xs) (take remaining ys),
    )

joined-text : (most remaining : ℕ) (xs ys : List WrongCase) → remaining + length (take most xs) ≡ most
    → first_cases_text most xs ++ first_cases_text remaining ys ≡ first_cases_text most (xs ++ ys)
joined-text most remaining xs ys e =
    sym (ap (flat_map wrong_case_text) (take-both most remaining xs ys e) ∙
    flat_map-append wrong_case_text (take most xs) (take remaining ys))

-- nothing is written yet
pub nothing-written : (most : ℕ) (a : Option (List ℕ)) → HasWrittenFirst most [] a a most
nothing-written zero a = record { lines = Appends-nothing a; more = refl }
nothing-written (suc most) a = record { lines = Appends-nothing a; more = omega arith }

-- more cases, after others
pub written-more : (most remaining rest : ℕ) (ws vs : List WrongCase) (a b c : Option (List ℕ)) →
    HasWrittenFirst most ws a b remaining → HasWrittenFirst remaining vs b c rest
    → HasWrittenFirst most (ws ++ vs) a c rest
written-more most remaining rest ws vs a b c h g = record {
  lines = Appends-to a c _ _ (joined-text most remaining ws vs h.more) (Appends-joined a b c _ _ h.lines g.lines);
  more = length-both most remaining rest ws vs h.more g.more;
}

-- no bytes report no cases
pub nothing-reported : (r : Reporting) → HasReported r [] [] r
nothing-reported r terms kind reported b s = rw (append-nil reported, append-nil b) s

-- the cases reported of bytes, after those reported of the bytes before
pub reported-more : (r s t : Reporting) (ws vs : List WrongCase) (xs ys : List ℕ) → HasReported r ws xs s →
    HasReported s vs ys t → HasReported r (ws ++ vs) (xs ++ ys) t
reported-more r s t ws vs xs ys f g terms kind reported b h =
    rw (
      ← append_assoc reported ws vs,
      ← append_assoc b xs ys,
    ) (g terms kind (reported ++ ws) (b ++ xs) (f terms kind reported b h))

-- a part of a piece has been passed to the report, and the first cases that it reported are written
pub record HasGone (before after : Reporting) (most remaining : ℕ) (a b : Option (List ℕ)) (piece rest : List ℕ) :
    Type 0 where
  pub passed : List ℕ
  pub joined : passed ++ rest ≡ piece
  pub cases : List WrongCase
  pub reported : HasReported before cases passed after
  pub written : HasWrittenFirst most cases a b remaining

-- if a report breaks off, the cases that it reported are those of the final lines, which no further bytes change
pub decided-written : (r s : Reporting) (most remaining : ℕ) (ws : List WrongCase) (a b : Option (List ℕ))
    (xs ys : List ℕ) → ys ≡ xs → HasReported r ws xs s
    → HasWrittenFirst most ws a b remaining → PrintsKnownCases Whole r most ys a b
decided-written r s most remaining ws a b xs ys e reported written terms kind just =
    let is : ws ≡ decided_cases terms kind ys = reported-decided terms kind s ws xs (reported terms kind [] [] just) ∙
    ap (decided_cases terms kind) (sym e) in
    Appends-to a b _ _ (ap (first_cases_text most) is) written.lines

-- either nobody reads what is written any more, or the error has another kind
by-kind : (P : Type 0) (kind : ErrorKind) → (kind ≡ BrokenPipe → P) → (kind ≢ BrokenPipe → P) → P
by-kind P BrokenPipe broken other = broken refl
by-kind P kind broken other = other (λ e. cc)

-- the fault of a write error is a write fault
pub fault-of-write : (error : Error) (fault : ReportFault) → IsFaultOf error fault → IsWriteFault fault
fault-of-write error fault is = by-kind (IsWriteFault fault) (error_kind error)
    (λ e. subst IsWriteFault (sym (is.broken e)) tt) (λ e. subst IsWriteFault (sym (is.other e)) tt)

module _ (Failed Ended : Type 0) (r : Reporting) (most : ℕ) (a b : Option (List ℕ)) where
  -- a fault while the rest of the source is read ends the report
  pub unwritten-ends : (bytes : List ℕ) (fault : ReportFault) → EndsUnwritten Failed Ended fault →
      BreaksOff Failed Ended r most bytes a b fault
  unwritten-ends bytes (Read Whole) h = absurd h
  unwritten-ends bytes (Read CutOff) h = (h, λ terms kind just. tt)
  unwritten-ends bytes Write h = h
  unwritten-ends bytes NobodyReads h = absurd h

  -- a write failed with an error after these bytes
  pub piece-ends : {S : Type 0} (gives : S → List ℕ → S → Type 0) → ((s t u : S) (xs ys : List ℕ) → gives s xs t →
      gives t ys u → gives s (xs ++ ys) u)
      → (start now next : S) (bytes : List ℕ) → gives start bytes now → (error : Error) (fault : ReportFault)
      → (error_kind error ≡ BrokenPipe → (fault ≡ NobodyReads) × (next ≡ now))
      → (error_kind error ≢ BrokenPipe → (given : List ℕ) × gives now given next × EndsUnwritten Failed Ended fault)
      → (given : List ℕ) × gives start given next × BreaksOff Failed Ended r most given a b fault
  piece-ends gives joined start now next bytes given error fault unread write =
      by-kind ((xs : List ℕ) × gives start xs next × BreaksOff Failed Ended r most xs a b fault) (error_kind error)
      (λ e. let is = unread e in (
        bytes,
        subst (gives start bytes) (sym is.1) given,
        subst (BreaksOff Failed Ended r most bytes a b) (sym is.0) tt,
      ))
      (λ e. let is = write e in
      (bytes ++ is.0, joined start now next bytes is.0 given is.1, unwritten-ends (bytes ++ is.0) fault is.2))

  -- a write failed, and the source was read to its end
  write-ends : (bytes : List ℕ) (fault : ReportFault) → Ended → IsWriteFault fault →
      BreaksOff Failed Ended r most bytes a b fault
  write-ends bytes (Read written) ended h = absurd h
  write-ends bytes Write ended h = ended
  write-ends bytes NobodyReads ended h = tt

  pub end-fails : {A : Type 0} (Gave : List ℕ → Type 0) (given : List ℕ) → Gave given → Ended →
      (result : Result A ReportFault) → IfErr result IsWriteFault
      → IfErr result (λ fault. (xs : List ℕ) × Gave xs × BreaksOff Failed Ended r most xs a b fault)
  end-fails Gave given gave ended (Ok x) h = tt
  end-fails Gave given gave ended (Err fault) h = (given, gave, write-ends given fault ended h)

module _ (failed : Error → Type 0) where
  unwritten-cuts : (Failed Ended : Type 0) (fault : ReportFault) → HasFailed failed → EndsUnwritten Failed Ended fault →
      ReportsCut failed fault
  unwritten-cuts Failed Ended (Read Whole) so h = absurd h
  unwritten-cuts Failed Ended (Read CutOff) so h = so
  unwritten-cuts Failed Ended Write so h = tt
  unwritten-cuts Failed Ended NobodyReads so h = absurd h

  -- the fault of a report after a write failed with this error
  pub piece-cuts : {S : Type 0} (gives : S → List ℕ → S → Type 0) (Failed Ended : Type 0) (now next : S)
      (error : Error) (fault : ReportFault) → failed error
      → (error_kind error ≡ BrokenPipe → (fault ≡ NobodyReads) × (next ≡ now))
      → (error_kind error ≢ BrokenPipe → (given : List ℕ) × gives now given next × EndsUnwritten Failed Ended fault)
      → ReportsCut failed fault
  piece-cuts gives Failed Ended now next error fault so unread write =
      by-kind (ReportsCut failed fault) (error_kind error)
      (λ e. subst (ReportsCut failed) (sym (unread e).0) tt)
      (λ e. unwritten-cuts Failed Ended fault (error, so, e) (write e).2)

  write-cuts : (fault : ReportFault) → IsWriteFault fault → ReportsCut failed fault
  write-cuts (Read written) h = absurd h
  write-cuts Write h = tt
  write-cuts NobodyReads h = tt

  -- the fault of a report whose source has ended
  pub end-cuts : {A : Type 0} (result : Result A ReportFault) → IfErr result IsWriteFault →
      IfErr result (ReportsCut failed)
  end-cuts (Ok x) h = tt
  end-cuts (Err fault) h = write-cuts fault h

-- the text of a whole report: the cases reported before the end, those of a last line, and the foot
pub whole-printed : (r s e : Reporting) (most remaining : ℕ) (ws : List WrongCase) (given : List ℕ)
    (a b d : Option (List ℕ)) (right : Bool)
    → HasReported r ws given s → HasWrittenFirst most ws a b remaining
    → ((terms : Terms) (kind : Kind) (reported : List WrongCase) (bs : List ℕ) → Reports terms kind s reported bs →
    report_of terms kind bs ≡ report_at_end reported e)
    → PrintsEnd remaining e b d right → Prints r most given a d right
whole-printed r s e most remaining ws given a b d right reported written ends end terms kind just =
    let is : report_of terms kind given ≡ report_at_end ws e =
    ends terms kind ws given (reported terms kind [] [] just) in
    let cases = written-more most remaining end.remaining ws e.lines.found a b end.between written end.cases in
    record {
      text = Appends-to a d _ _ (ap (report_text most) (sym is))
          (Appends-joined a end.between d _ _ cases.lines end.foot);
      outcome = end.outcome terms kind ws given is;
    }

module _ (before : Reporting) (most : ℕ) (a : Option (List ℕ)) (piece : List ℕ) where
  pub nothing-gone : HasGone before before most most a a piece piece
  nothing-gone = record {
    passed = [];
    joined = refl;
    cases = [];
    reported = nothing-reported before;
    written =
        nothing-written most a;
  }

  -- one more part of the piece
  pub more-gone : (r t : Reporting) (remaining further : ℕ) (b c : Option (List ℕ)) (rest : List ℕ) (used : ℕ)
      (vs : List WrongCase)
      → HasGone before r most remaining a b piece rest → HasReported r vs (take used rest) t →
      HasWrittenFirst remaining vs b c further
      → HasGone before t most further a c piece (drop used rest)
  more-gone r t remaining further b c rest used vs h reported written = record {
    passed = h.passed ++ take used rest;
    joined = append_assoc h.passed (take used rest) (drop used rest) ∙
        ap (λ xs. h.passed ++ xs) (take-append-drop used rest) ∙ h.joined;
    cases = h.cases ++ vs;
    reported = reported-more before r t h.cases vs h.passed (take used rest) h.reported reported;
    written = written-more most remaining further h.cases vs a b c h.written written;
  }
