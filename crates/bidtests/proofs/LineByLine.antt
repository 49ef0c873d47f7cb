-- The verdict on a file follows line by line.
use Rattle.std.proofs.Common.{◌≡◌, ℕ, ◌+◌, min, Option, None, Some, List, [], ◌∷◌, ◌++◌, map, reverse, length, refl, sym, ap, ◌∙◌, arith, append_assoc, append-nil, count_by, sum_by, cond}
use Rattle.std.proofs.lemmas.List.{map-append, reverse-append, length-map}
use Rattle.std.proofs.lemmas.List.Sums.{sum_by-append}
use Rattle.units.specs.Limits.{LimitsOf}
use Rattle.units.proofs.Options.{option_or-assoc}
use Rattle.bidtests.specs.declared.verdict.Verdict.{Verdict}
use Rattle.bidtests.specs.declared.verdict.Verdict.TheVariants.{Yes}
use Rattle.bidtests.specs.declared.kind.Kind.{Kind}
use Rattle.bidtests.specs.declared.kind.Kind.TheVariants.{Classes, Characters}
use Rattle.bidtests.specs.Verdicts.{Finding, Silent, Row, Faulty, no_of, first_no, is_row, cases_of, rows_in, cases_in, verdict_on}
use Rattle.std.specs.Option.{option_or}
use Rattle.units.specs.Lines.{line_number, most_counted}
use Rattle.bidtests.specs.ClassesFile.{ClassesLine, Nothing, LevelsAre, OrderIs, RowOf, Broken, classes_line, comes_to, findings_after, classes_findings, levels_in_force, order_in_force}
use Rattle.bidtests.specs.CharactersFile.{characters_line}
use Rattle.bidtests.specs.FileKinds.{findings_by}
use Rattle.ucdfiles.specs.Tables.{unit_by}
use Rattle.bidtests.specs.Carried.{Carried, at_start, AreInForce, levels_after, order_after, rows_after, cases_after, comes_to_after, after_line, IsAfter}

findings_after-append : (earlier a b : List ClassesLine) → findings_after earlier (a ++ b) ≡ findings_after earlier a ++
    findings_after (reverse a ++ earlier) b
findings_after-append earlier [] b = refl
findings_after-append earlier (x ∷ a) b =
    let e : reverse (x ∷ a) ++ earlier ≡ reverse a ++ (x ∷ earlier) =
    ap (λ (l : List ClassesLine). l ++ earlier) (reverse-append (x ∷ []) a) ∙
    append_assoc (reverse a) (x ∷ []) earlier in
    rw e (ap (λ fs. comes_to (levels_in_force earlier) (order_in_force earlier) x ∷ fs)
    (findings_after-append (x ∷ earlier) a b))

length-findings_after : (earlier a : List ClassesLine) → length (findings_after earlier a) ≡ length a
length-findings_after earlier [] = refl
length-findings_after earlier (x ∷ a) = omega (arith, length-findings_after (x ∷ earlier) a)

first_no-append : (limits : LimitsOf) (k : ℕ) (a b : List Finding) →
    first_no limits k (a ++ b) ≡ option_or (first_no limits k a) (first_no limits (k + length a) b)
first_no-append limits k [] b = ap (λ n. first_no limits n b) (omega arith)
first_no-append limits k (f ∷ a) b = grind (arith, option_or-assoc, first_no-append limits (k + 1) a b)

-- the findings of the lines before a line, of the line, and of the rest
classes_findings-line : (lines : List (List ℕ)) (line : List ℕ) (others : List (List ℕ)) → (rest : List Finding)
    × (classes_findings (lines ++ line ∷ others) ≡ classes_findings lines ++
    comes_to (levels_in_force (reverse (map classes_line lines)))
    (order_in_force (reverse (map classes_line lines))) (classes_line line) ∷ rest)
classes_findings-line lines line others =
    let says = map classes_line lines in
    let split : classes_findings (lines ++ line ∷ others) ≡ findings_after [] says ++
    findings_after (reverse says ++ []) (classes_line line ∷ map classes_line others) =
    ap (findings_after []) (map-append classes_line lines (line ∷ others)) ∙
    findings_after-append [] says (classes_line line ∷ map classes_line others) in
    let bare : classes_findings (lines ++ line ∷ others) ≡ findings_after [] says ++
    findings_after (reverse says) (classes_line line ∷ map classes_line others) =
    split ∙ ap (λ (l : List ClassesLine). findings_after [] says ++
    findings_after l (classes_line line ∷ map classes_line others)) (append-nil (reverse says)) in
    (findings_after (classes_line line ∷ reverse says) (map classes_line others), bare)

classes_findings-last : (lines : List (List ℕ)) (line : List ℕ)
    → classes_findings (lines ++ line ∷ []) ≡ classes_findings lines ++
    comes_to (levels_in_force (reverse (map classes_line lines)))
    (order_in_force (reverse (map classes_line lines))) (classes_line line) ∷ []
classes_findings-last lines line = grind (arith, map-append, findings_after-append, append-nil)

length-classes_findings : (lines : List (List ℕ)) → length (classes_findings lines) ≡ length lines
length-classes_findings lines = length-findings_after [] (map classes_line lines) ∙ length-map lines classes_line

finding-is : (s : Carried) (lines : List (List ℕ)) (line : List ℕ) →
    s.levels ≡ levels_in_force (reverse (map classes_line lines)) →
    s.order ≡ order_in_force (reverse (map classes_line lines))
    → comes_to (levels_in_force (reverse (map classes_line lines))) (order_in_force (reverse (map classes_line lines)))
    (classes_line line) ≡ comes_to s.levels s.order (classes_line line)
finding-is s lines line l o = rw (l, o) refl

-- in either kind of file, the finding of a line comes after the findings of the lines before it
pub findings-line : (kind : Kind) (s : Carried) (lines : List (List ℕ)) (line : List ℕ) (others : List (List ℕ)) →
    AreInForce kind s.levels s.order lines
    → (rest : List Finding) × (findings_by kind (lines ++ line ∷ others) ≡ findings_by kind lines ++
    comes_to_after kind s line ∷ rest)
findings-line Classes s lines line others h =
    let f = classes_findings-line lines line others in
    (f.0, f.1 ∙ ap (λ x. classes_findings lines ++ x ∷ f.0) (finding-is s lines line h.0 h.1))
findings-line (Characters tables) s lines line others h =
    let reading = characters_line (unit_by tables.now) in
    (map reading others, map-append reading lines (line ∷ others))

pub findings-last : (kind : Kind) (s : Carried) (lines : List (List ℕ)) (line : List ℕ) →
    AreInForce kind s.levels s.order lines
    → findings_by kind (lines ++ line ∷ []) ≡ findings_by kind lines ++ comes_to_after kind s line ∷ []
findings-last Classes s lines line h = classes_findings-last lines line ∙
    ap (λ x. classes_findings lines ++ x ∷ []) (finding-is s lines line h.0 h.1)
findings-last (Characters tables) s lines line h = map-append (characters_line (unit_by tables.now)) lines (line ∷ [])

pub length-findings : (kind : Kind) (lines : List (List ℕ)) → length (findings_by kind lines) ≡ length lines
length-findings Classes lines = length-classes_findings lines
length-findings (Characters tables) lines = length-map lines (characters_line (unit_by tables.now))

-- the lists in force after one more line
levels-after : (noted : ClassesLine) (says : List ClassesLine) (levels : Option (List (Option ℕ))) →
    levels ≡ levels_in_force says → levels_after noted levels ≡ levels_in_force (noted ∷ says)
levels-after Nothing says levels e = e
levels-after (LevelsAre now) says levels e = refl
levels-after (OrderIs order) says levels e = e
levels-after (RowOf text directions) says levels e = e
levels-after (Broken cause) says levels e = e

order-after : (noted : ClassesLine) (says : List ClassesLine) (order : Option (List ℕ)) → order ≡ order_in_force says →
    order_after noted order ≡ order_in_force (noted ∷ says)
order-after Nothing says order e = e
order-after (LevelsAre levels) says order e = e
order-after (OrderIs now) says order e = refl
order-after (RowOf text directions) says order e = e
order-after (Broken cause) says order e = e

pub in-force : (kind : Kind) (s : Carried) (lines : List (List ℕ)) (line : List ℕ) →
    AreInForce kind s.levels s.order lines
    → AreInForce kind (after_line kind line s).levels (after_line kind line s).order (lines ++ line ∷ [])
in-force Classes s lines line h = grind (arith, map-append, reverse-append, levels-after, order-after)
in-force (Characters tables) s lines line h = tt

-- the counts are those before the line, with those of the line
rows-after : (kind : Kind) (line : List ℕ) (s : Carried) →
    (after_line kind line s).rows ≡ rows_after (comes_to_after kind s line) s.rows
rows-after Classes line s = refl
rows-after (Characters tables) line s = refl

cases-after : (kind : Kind) (line : List ℕ) (s : Carried) →
    (after_line kind line s).cases ≡ cases_after (comes_to_after kind s line) s.cases
cases-after Classes line s = refl
cases-after (Characters tables) line s = refl

min-add : (s n c : ℕ) → s ≡ min n most_counted → min (s + c) most_counted ≡ min (n + c) most_counted
min-add s n c e = omega arith

rows-push : (s : ℕ) (fs : List Finding) (f : Finding) (c : ℕ) → count_by is_row (f ∷ []) ≡ c → s ≡ rows_in fs →
    min (s + c) most_counted ≡ rows_in (fs ++ f ∷ [])
rows-push s fs f c one e = min-add s (count_by is_row fs) c e ∙
    ap (λ n. min n most_counted) (sym (sum_by-append (λ x. cond (is_row x) 1 0) fs (f ∷ []) ∙
    ap (λ n. count_by is_row fs + n) one))

cases-push : (s : ℕ) (fs : List Finding) (f : Finding) (c : ℕ) → cases_of f ≡ c → s ≡ cases_in fs →
    min (s + c) most_counted ≡ cases_in (fs ++ f ∷ [])
cases-push s fs f c one e = min-add s (sum_by cases_of fs) c e ∙
    ap (λ n. min n most_counted) (sym (sum_by-append cases_of fs (f ∷ []) ∙
    ap (λ n. sum_by cases_of fs + n) (omega (arith, one))))

capped : (s n : ℕ) → s ≡ min n most_counted → min (s + 0) most_counted ≡ s
capped s n e = omega arith

rows-counted : (limits : LimitsOf) (number : ℕ) (f : Finding) (rows : ℕ) (fs : List Finding) →
    no_of limits number f ≡ None → rows ≡ rows_in fs → rows_after f rows ≡ rows_in (fs ++ f ∷ [])
rows-counted limits number Silent rows fs e r = sym (capped rows (count_by is_row fs) r) ∙
    rows-push rows fs Silent 0 refl r
rows-counted limits number (Row expected) rows fs e r = rows-push rows fs (Row expected) 1 refl r
rows-counted limits number (Faulty cause) rows fs e r = absurd (cc)

cases-counted : (limits : LimitsOf) (number : ℕ) (f : Finding) (cases : ℕ) (fs : List Finding) →
    no_of limits number f ≡ None → cases ≡ cases_in fs → cases_after f cases ≡ cases_in (fs ++ f ∷ [])
cases-counted limits number Silent cases fs e c = sym (capped cases (sum_by cases_of fs) c) ∙
    cases-push cases fs Silent 0 refl c
cases-counted limits number (Row expected) cases fs e c =
    cases-push cases fs (Row expected) (length expected.directions) refl c
cases-counted limits number (Faulty cause) cases fs e c = absurd (cc)

-- a line doesn't change the limits
limits-after : (kind : Kind) (line : List ℕ) (s : Carried) → (after_line kind line s).limits ≡ s.limits
limits-after Classes line s = refl
limits-after (Characters tables) line s = refl

module _ (limits : LimitsOf) (kind : Kind) (s : Carried) (lines : List (List ℕ)) (line : List ℕ)
    (h : IsAfter limits kind s lines) where
  -- the finding of the line after these
  abbrev found : Finding
  found = comes_to_after kind s line

  fault-at : (rest : List Finding)
      → first_no limits 0 (findings_by kind lines ++ found ∷ rest)
      ≡ option_or (no_of s.limits (line_number (length lines)) found) (first_no limits (length lines + 1) rest)
  fault-at rest = grind (arith, first_no-append, length-findings)

  -- the first fault decides, whatever follows it
  pub verdict-fault : (v : Verdict) → no_of s.limits (line_number (length lines)) (comes_to_after kind s line) ≡ Some v
      → (others : List (List ℕ)) → verdict_on limits (findings_by kind (lines ++ line ∷ others)) ≡ v
  unfolding verdict_on
  verdict-fault v e others =
      let f = findings-line kind s lines line others h.lists in
      let fault : first_no limits 0 (findings_by kind (lines ++ line ∷ others)) ≡ Some v =
      ap (first_no limits 0) f.1 ∙ fault-at f.0 ∙ ap (λ o. option_or o (first_no limits (length lines + 1) f.0)) e in
      rw fault refl

  -- a line without a fault
  pub following-line : no_of s.limits (line_number (length lines)) (comes_to_after kind s line) ≡ None →
      IsAfter limits kind (after_line kind line s) (lines ++ line ∷ [])
  following-line e =
      let number = line_number (length lines) in
      let all : findings_by kind (lines ++ line ∷ []) ≡ findings_by kind lines ++ found ∷ [] =
      findings-last kind s lines line h.lists in
      record {
        under = limits-after kind line s ∙ h.under;
        faultless = ap (first_no limits 0) all ∙ fault-at [] ∙ ap (λ o. option_or o None) e;
        lists = in-force kind s lines line h.lists;
        rows = rows-after kind line s ∙ rows-counted s.limits number found s.rows (findings_by kind lines) e h.rows ∙
            ap rows_in (sym all);
        cases = cases-after kind line s ∙
            cases-counted s.limits number found s.cases (findings_by kind lines) e h.cases ∙ ap cases_in (sym all);
      }

-- without a fault the counts are those of the state
pub verdict-yes : (limits : LimitsOf) (kind : Kind) (s : Carried) (lines : List (List ℕ)) → IsAfter limits kind s lines
    → verdict_on limits (findings_by kind lines) ≡ Yes s.rows s.cases
unfolding verdict_on
verdict-yes limits kind s lines h = rw (h.faultless, h.rows, h.cases) refl

pub following-none : (limits : LimitsOf) (kind : Kind) → IsAfter limits kind (at_start limits) []
following-none limits Classes = record {
  under = refl;
  faultless = refl;
  lists = (refl, refl);
  rows = refl;
  cases =
      refl;
}
following-none limits (Characters tables) = record {
  under = refl;
  faultless = refl;
  lists = tt;
  rows = refl;
  cases =
      refl;
}
