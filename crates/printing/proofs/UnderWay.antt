-- A text that is printed paragraph by paragraph, character by character.
use Rattle.std.proofs.Common.{◌≡◌, ℕ, ◌≤◌, Bool, true, false, Option, List, [], ◌∷◌, ◌++◌, length, refl, sym, ap, ◌∙◌, subst, arith, append_assoc, append-nil, length-append}
use Rattle.std.specs.Io.KnownBytes.{Appends}
use Rattle.units.specs.Classes.{is_separator}
use Rattle.units.specs.Paragraphs.{EndsWithSeparator, SeparatorOnlyLast}
use Rattle.units.specs.declared.bracket.Unit.{Unit as BidiUnit}
use Rattle.units.specs.declared.level.Direction.{Direction}
use Rattle.ucdfiles.specs.Tables.{TablesOf, unit_by, units_by}
use Rattle.std.specs.List.{list_any}
use Rattle.std.proofs.lemmas.Bool.{or_from, or_left, or_parts, or_right}
use Rattle.std.proofs.lemmas.List.{map-append, nil_from_length}
use Rattle.std.proofs.lemmas.Str.{encodes-chars, length-le-encodes}
use Rattle.std.specs.Str.{IsUtf8, chars}
use Rattle.printing.specs.Following.{printed_as, printed_after, printed_units}
use Rattle.printing.specs.EndedParagraphs.{ended_paragraphs, separates, up_to_separator}
use Rattle.printing.specs.UnderWay.{PrintsOn, printed_next}
use Rattle.printing.specs.UnfinishedParagraphs.{Follows, chars_so_far}
use Rattle.printing.specs.declared.begun.Begun.{Begun}
use Rattle.printing.specs.declared.form.Form.{Form}
use Rattle.printing.specs.declared.passed.Passed.{Passed}
use Rattle.printing.specs.declared.settings.Settings.{Settings}
use Rattle.printing.specs.declared.unfinished.Unfinished.{Unfinished}
use Rattle.printing.proofs.Appending.{Appends-joined, Appends-nothing, Appends-to}
use Rattle.printing.proofs.HeadPrinted.{nothing_after, paragraph_follows, printed_whole}

-- a separator can only be the last character if the others are none
pub unended_then : (tables : TablesOf) (cs : List ℕ) (c : ℕ) → list_any (separates tables) cs ≡ false →
    SeparatorOnlyLast (units_by tables (cs ++ c ∷ []))
unended_then tables [] c e = tt
unended_then tables (x ∷ []) c e = ((or_parts (separates tables x) false e).0, tt)
unended_then tables (x ∷ y ∷ cs) c e =
    let first = or_parts (separates tables x) _ e in
    (first.0, unended_then tables (y ∷ cs) c first.1)

pub unended_only : (tables : TablesOf) (cs : List ℕ) → list_any (separates tables) cs ≡ false →
    SeparatorOnlyLast (units_by tables cs)
unended_only tables [] e = tt
unended_only tables (x ∷ []) e = tt
unended_only tables (x ∷ y ∷ cs) e =
    let first = or_parts (separates tables x) _ e in
    (first.0, unended_only tables (y ∷ cs) first.1)

ends_then : (us : List BidiUnit) (u : BidiUnit) → is_separator u.class ≡ true → EndsWithSeparator (us ++ u ∷ [])
ends_then [] u h = h
ends_then (x ∷ []) u h = h
ends_then (x ∷ y ∷ us) u h = ends_then (y ∷ us) u h

-- a text has no more characters than bytes
pub chars_le : (bytes : List ℕ) → IsUtf8 bytes → length (chars bytes) ≤ length bytes
chars_le bytes is = let fewer = length-le-encodes (chars bytes) in
    omega (arith, fewer, ap length (encodes-chars bytes is))

pub units_more : (tables : TablesOf) (chars : List ℕ) (us : List BidiUnit) (c : ℕ) (u : BidiUnit) →
    us ≡ units_by tables chars → u ≡ unit_by tables c → us ++ u ∷ [] ≡ units_by tables (chars ++ c ∷ [])
units_more tables chars us c u e f =
    ap (λ vs. vs ++ u ∷ []) e ∙ ap (λ v. units_by tables chars ++ v ∷ []) f ∙
    sym (map-append (unit_by tables) chars (c ∷ []))

pub printed_after_is : (form : Form) (passed : Passed) (tables : TablesOf) (chars : List ℕ) (units : List BidiUnit)
    (direction : Direction) → units ≡ units_by tables chars →
    printed_units form passed tables chars units direction ≡ printed_after form passed tables chars direction
unfolding printed_after
printed_after_is form passed tables chars units direction e =
    ap (λ us. printed_units form passed tables chars us direction) e

-- without characters nothing remains to be printed
pub nothing_remaining : (form : Form) (passed : Passed) (tables : TablesOf) (chars : List ℕ) (direction : Direction)
    (a : Option (List ℕ)) → chars ≡ [] → Appends a a (printed_after form passed tables chars direction)
nothing_remaining form passed tables chars direction a e =
    Appends-to a a [] _ (sym (ap (λ cs. printed_after form passed tables cs direction) e ∙
    nothing_after form passed tables direction)) (Appends-nothing a)

-- a separator ends all characters before it
has_separator : (separates : ℕ → Bool) (cs rest : List ℕ) (c : ℕ) → separates c ≡ true →
    list_any separates ((cs ++ c ∷ []) ++ rest) ≡ true
has_separator separates [] rest c e = or_left (separates c) (list_any separates rest) e
has_separator separates (x ∷ cs) rest c e = or_right (separates x) _ (has_separator separates cs rest c e)

ended_then : (separates : ℕ → Bool) (cs rest : List ℕ) (c : ℕ) → separates c ≡ true
    → up_to_separator separates ((cs ++ c ∷ []) ++ rest) ≡ (cs ++ c ∷ []) ++ up_to_separator separates rest
ended_then separates [] rest c e = rw (has_separator separates [] rest c e) refl
ended_then separates (x ∷ cs) rest c e =
    rw (has_separator separates (x ∷ cs) rest c e) (ap (λ xs. x ∷ xs) (ended_then separates cs rest c e))

-- without a separator no paragraph has ended
none_ended : (tables : TablesOf) (cs : List ℕ) → list_any (separates tables) cs ≡ false →
    ended_paragraphs tables cs ≡ []
none_ended tables [] e = refl
none_ended tables (c ∷ cs) e = rw e refl

-- characters came that end no paragraph
pub none_came : (more : List ℕ) (a : Option (List ℕ)) (old new : Begun) → new.settings ≡ old.settings →
    new.paragraph.passed ≡ old.paragraph.passed →
    new.paragraph.chars.items ≡ old.paragraph.chars.items ++ more → PrintsOn more a a old new
none_came more a old new same e f =
    let form = old.settings.form in
    let tables = old.settings.tables.now in
    let direction = old.settings.direction in
    record {
      settings_are = same;
      ended = [];
      joined = f;
      whole = λ rest. refl;
      noted = nothing_remaining form old.paragraph.passed tables [] direction a refl;
      following = λ rest.
          ap (λ p. printed_after form p tables rest direction) (sym e)
          ∙ ap (λ (s : Settings). printed_after s.form new.paragraph.passed s.tables.now rest s.direction) (sym same)
          ∙ sym (ap (λ v. v ++ printed_next new rest) (nothing_after form old.paragraph.passed tables direction));
    }

pub nothing_came : (a : Option (List ℕ)) (begun : Begun) → PrintsOn [] a a begun begun
nothing_came a begun = none_came [] a begun begun refl refl (sym (append-nil begun.paragraph.chars.items))

pub more_came : (xs ys : List ℕ) (a b c : Option (List ℕ)) (old begun new : Begun) →
    PrintsOn xs a b old begun → PrintsOn ys b c begun new → PrintsOn (xs ++ ys) a c old new
more_came xs ys a b c old begun new f g =
    let tables = old.settings.tables.now in
    record {
      settings_are = g.settings_are ∙ f.settings_are;
      ended = f.ended ++ g.ended;
      joined = append_assoc f.ended g.ended new.paragraph.chars.items ∙ ap (λ cs. f.ended ++ cs) g.joined
          ∙ sym (append_assoc f.ended begun.paragraph.chars.items ys) ∙ ap (λ cs. cs ++ ys) f.joined ∙
          append_assoc old.paragraph.chars.items xs ys;
      whole = λ rest.
          ap (ended_paragraphs tables) (append_assoc f.ended g.ended rest) ∙ f.whole (g.ended ++ rest)
          ∙ ap (λ cs. f.ended ++ cs) (subst (λ (s : Settings). ended_paragraphs s.tables.now (g.ended ++ rest)
          ≡ g.ended ++ ended_paragraphs s.tables.now rest) f.settings_are (g.whole rest))
          ∙ sym (append_assoc f.ended g.ended (ended_paragraphs tables rest));
      noted = Appends-to a c _ _ (sym (f.following g.ended)) (Appends-joined a b c _ _ f.noted g.noted);
      following = λ rest.
          ap (printed_next old) (append_assoc f.ended g.ended rest)
          ∙ f.following (g.ended ++ rest)
          ∙ ap (λ v. printed_next old f.ended ++ v) (g.following rest)
          ∙ sym (append_assoc (printed_next old f.ended) (printed_next begun g.ended) (printed_next new rest))
          ∙ ap (λ v. v ++ printed_next new rest) (sym (f.following g.ended));
    }

-- a character came that ends a paragraph
pub last_came : (c : ℕ) (a b : Option (List ℕ)) (old new : Begun) (ended : Unfinished) →
    new.settings ≡ old.settings → ended.passed ≡ old.paragraph.passed →
    ended.chars.items ≡ old.paragraph.chars.items ++ c ∷ [] →
    separates old.settings.tables.now c ≡ true → new.paragraph.chars.items ≡ [] →
    Follows ended.passed (length ended.chars.items) new.paragraph.passed →
    Appends a b (printed_after old.settings.form ended.passed old.settings.tables.now ended.chars.items
    old.settings.direction) → PrintsOn (c ∷ []) a b old new
last_came c a b old new ended same e f ends empty follows noted =
    let form = old.settings.form in
    let tables = old.settings.tables.now in
    let direction = old.settings.direction in
    let before = old.paragraph.chars.items in
    let text = before ++ c ∷ [] in
    let units : units_by tables text ≡ units_by tables before ++ unit_by tables c ∷ [] =
    map-append (unit_by tables) before (c ∷ []) in
    let follows_old : Follows old.paragraph.passed (length text) new.paragraph.passed =
    subst (λ p. Follows p (length text) new.paragraph.passed) e
    (subst (λ cs. Follows ended.passed (length cs) new.paragraph.passed) f follows) in
    record {
      settings_are = same;
      ended = text;
      joined = ap (λ cs. text ++ cs) empty ∙ append-nil text;
      whole = λ rest. ended_then (separates tables) before rest c ends;
      noted = subst (λ p. Appends a b (printed_after form p tables text direction)) e
          (subst (λ cs. Appends a b (printed_after form ended.passed tables cs direction)) f noted);
      following = λ rest.
          paragraph_follows form old.paragraph.passed new.paragraph.passed tables text rest direction
          (unended_then tables before c old.unfinished.unended)
          (subst EndsWithSeparator (sym units) (ends_then (units_by tables before) (unit_by tables c) ends))
          (omega (arith, length-append before (c ∷ []))) follows_old
          ∙ ap (λ (s : Settings). printed_next old text
          ++ printed_after s.form new.paragraph.passed s.tables.now rest s.direction) (sym same);
    }

module _ (text : List ℕ) (a b : Option (List ℕ)) (first begun : Begun) (new : chars_so_far first.paragraph ≡ 0)
    (came : PrintsOn text a b first begun) where
  joined : came.ended ++ begun.paragraph.chars.items ≡ text
  joined = came.joined ∙ ap (λ cs. cs ++ text) (nil_from_length first.paragraph.chars.items (omega (arith, new)))

  -- what is printed after nothing
  printed_at_start : (cs : List ℕ) → printed_next first cs
      ≡ printed_as first.settings.form first.settings.tables.now cs first.settings.direction
  printed_at_start cs =
      printed_whole first.settings.form first.paragraph.passed first.settings.tables.now cs first.settings.direction
      (omega (arith, new, first.unfinished.few)) (omega (arith, new))

  -- the paragraphs that have ended are printed
  pub ended_came : Appends a b (printed_as first.settings.form first.settings.tables.now
      (ended_paragraphs first.settings.tables.now text) first.settings.direction)
  ended_came =
      let tables = first.settings.tables.now in
      let chars = begun.paragraph.chars.items in
      let unended : list_any (separates tables) chars ≡ false =
      subst (λ (s : Settings). list_any (separates s.tables.now) chars ≡ false) came.settings_are
      begun.unfinished.unended in
      let ended : ended_paragraphs tables text ≡ came.ended =
      ap (ended_paragraphs tables) (sym joined) ∙ came.whole chars ∙
      ap (λ cs. came.ended ++ cs) (none_ended tables chars unended) ∙ append-nil came.ended in
      Appends-to a b _ _ (printed_at_start came.ended ∙
      ap (λ cs. printed_as first.settings.form tables cs first.settings.direction) (sym ended)) came.noted

  -- all paragraphs are printed
  pub all_came : (c : Option (List ℕ)) → Appends b c (printed_next begun begun.paragraph.chars.items) →
      Appends a c (printed_as first.settings.form first.settings.tables.now text first.settings.direction)
  all_came c noted =
      Appends-to a c _ _
      (sym (came.following begun.paragraph.chars.items) ∙ ap (printed_next first) joined ∙ printed_at_start text)
      (Appends-joined a b c _ _ came.noted noted)
