-- A text that is printed while its source is read.
use Rattle.std.proofs.Common.{◌≡◌, ℕ, ◌+◌, ◌≤◌, Option, List, [], ◌++◌, Result, Ok, Err, IfErr, IsErrAnd, length, take, drop, refl, sym, ap, subst, ◌∙◌, arith, length-append}
use Rattle.std.proofs.lemmas.List.{length-take}
use Rattle.std.proofs.lemmas.Str.{chars-append, chars-nil}
use Rattle.std.specs.Io.KnownBytes.{Appends}
use Rattle.std.specs.Str.{IsUtf8, chars}
use Rattle.std.specs.Str.Lossy.{utf8_valid_len}
use Rattle.units.specs.Layout.{longest_text}
use Rattle.units.specs.declared.level.Direction.{Direction}
use Rattle.ucdfiles.specs.Tables.{TablesOf}
use Rattle.printing.specs.Following.{printed_as}
use Rattle.printing.specs.EndedParagraphs.{ended_paragraphs}
use Rattle.printing.specs.ReadBytes.{IsReadTo}
use Rattle.printing.specs.ReadTexts.{BreaksOff, EndsUnwritten, IsPrinted, printed_ended, stopped_by, utf8_front}
use Rattle.printing.specs.TextPlaces.{place_after}
use Rattle.printing.specs.UnderWay.{PrintsOn, printed_next}
use Rattle.printing.specs.UnfinishedParagraphs.{chars_so_far}
use Rattle.printing.specs.declared.begun.Begun.{Begun}
use Rattle.printing.specs.declared.fault.PrintStop.{PrintStop}
use Rattle.printing.specs.declared.fault.PrintStop.TheVariants as stop
use Rattle.printing.specs.declared.form.Form.{Form}
use Rattle.printing.specs.declared.place.TextPlace.{TextPlace}
use Rattle.printing.specs.declared.reading.TextFault.{TextFault}
use Rattle.printing.specs.declared.reading.TextFault.TheVariants.{Read, NotUtf8, Write, NobodyReads, Memory}
use Rattle.printing.specs.declared.written.Written.TheVariants.{Whole, CutOff}
use Rattle.printing.proofs.ReadBytesLemmas.{front_cut, length_front, more_cut, nothing_cut, whole_cut}
use Rattle.printing.proofs.ReadingOn.{HasCut}
use Rattle.printing.proofs.TextPlaces.{IsAfter, after_more}
use Rattle.printing.proofs.UnderWay.{all_came, chars_le, ended_came, more_came, nothing_came}

module _ (Failed Ended : Type 0) (form : Form) (tables : TablesOf) (direction : Direction) (a b : Option (List ℕ)) where
  -- a fault that ends the reading without printing ends the printing
  unwritten_ends : (bytes : List ℕ) (fault : TextFault) → EndsUnwritten Failed Ended bytes fault →
      BreaksOff Failed Ended form tables direction bytes a b fault
  unwritten_ends bytes (Read Whole) h = absurd h
  unwritten_ends bytes (Read CutOff) h = (h, tt)
  unwritten_ends bytes (NotUtf8 place Whole) h = absurd h
  unwritten_ends bytes (NotUtf8 place CutOff) h = (h.0, h.1, tt)
  unwritten_ends bytes Write h = h
  unwritten_ends bytes NobodyReads h = absurd h
  unwritten_ends bytes Memory h = absurd h

  -- printing stopped after these bytes
  pub stop_ends : {S : Type 0} (gives : S → List ℕ → S → Type 0) (start now next : S) (bytes : List ℕ) →
      gives start bytes now
      → (why : PrintStop) (fault : TextFault)
      → (why ≡ stop.NobodyReads → (fault ≡ NobodyReads) × (next ≡ now)) →
      (why ≡ stop.Memory → (fault ≡ Memory) × (next ≡ now))
      → (why ≡ stop.Write → (given : List ℕ) × gives start given next × EndsUnwritten Failed Ended given fault)
      → (given : List ℕ) × gives start given next × BreaksOff Failed Ended form tables direction given a b fault
  stop_ends gives start now next bytes given stop.NobodyReads fault unread memory write =
      let is = unread refl in (
        bytes,
        subst (gives start bytes) (sym is.1) given,
        subst (BreaksOff Failed Ended form tables direction bytes a b) (sym is.0) tt,
      )
  stop_ends gives start now next bytes given stop.Memory fault unread memory write =
      let is = memory refl in (
        bytes,
        subst (gives start bytes) (sym is.1) given,
        subst (BreaksOff Failed Ended form tables direction bytes a b) (sym is.0) tt,
      )
  stop_ends gives start now next bytes given stop.Write fault unread memory write =
      let is = write refl in
      (is.0, is.1, unwritten_ends is.0 fault is.2)

  stopped_ends : (bytes : List ℕ) → Ended → IsUtf8 bytes → (why : PrintStop) →
      BreaksOff Failed Ended form tables direction bytes a b (stopped_by why)
  stopped_ends bytes ended utf8 stop.NobodyReads = tt
  stopped_ends bytes ended utf8 stop.Write = (ended, utf8)
  stopped_ends bytes ended utf8 stop.Memory = tt

  -- printing stopped after all bytes
  pub last_ends : {A : Type 0} (Gave : List ℕ → Type 0) (bytes : List ℕ) → Gave bytes → Ended → IsUtf8 bytes
      → (result : Result A TextFault) (why : PrintStop) → IsErrAnd result (λ fault. fault ≡ stopped_by why)
      → IfErr result (λ fault. (given : List ℕ) × Gave given ×
      BreaksOff Failed Ended form tables direction given a b fault)
  last_ends Gave bytes gave ended utf8 (Ok x) why e = tt
  last_ends Gave bytes gave ended utf8 (Err fault) why e = (
    bytes,
    gave,
    subst (BreaksOff Failed Ended form tables direction bytes a b) (sym e)
        (stopped_ends bytes ended utf8 why),
  )

-- what a source returned, the bytes of it that are stored, and what was printed of it
pub record HasRead {S : Type 0} (gives : S → List ℕ → S → Type 0) (room : S → ℕ) (start now : S)
    (before after : Option (List ℕ)) (first begun : Begun) (stored : List ℕ) (place : TextPlace) : Type 0 where
  pub bytes : List ℕ
  pub front : List ℕ
  pub given : gives start bytes now
  pub cut : IsReadTo bytes front stored
  pub bound : length bytes + room now ≤ longest_text
  pub passed_in : chars_so_far begun.paragraph ≡ length (chars front)
  pub printed : PrintsOn (chars front) before after first begun
  pub place_is : place ≡ place_after front

module _ {S : Type 0} (gives : S → List ℕ → S → Type 0) (room : S → ℕ) (start : S) (before : Option (List ℕ))
    (first : Begun) where
  pub nothing_read : gives start [] start → room start ≤ longest_text → chars_so_far first.paragraph ≡ 0
      → HasRead gives room start start before before first first [] (place_after [])
  nothing_read given small new = record {
    bytes = [];
    front = [];
    given = given;
    cut = nothing_cut;
    bound = omega arith;
    passed_in = omega (arith, new, ap length chars-nil);
    printed = subst (λ xs. PrintsOn xs before before first first) (sym chars-nil) (nothing_came before first);
    place_is = refl;
  }

  module _ (now next : S) (after later : Option (List ℕ)) (begun then : Begun) (stored more : List ℕ)
      (place : TextPlace)
      (read : HasRead gives room start now before after first begun stored place)
      (falls : room next + length more ≤ room now) where
    -- the characters so far and the bytes in the buffer are within the longest text
    pub more_fits : chars_so_far begun.paragraph + length (stored ++ more) ≤ longest_text
    more_fits =
        let cut = read.cut in
        omega (
          arith,
          falls,
          read.bound,
          read.passed_in,
          chars_le read.front cut.utf8,
          ap length cut.joined,
          length-append read.front cut.remaining,
          ap length cut.first,
          length-take 4 cut.remaining,
          length-append stored more,
        )

    more_read : gives start (read.bytes ++ more) next →
        chars_so_far then.paragraph ≡ chars_so_far begun.paragraph + length (chars (utf8_front (stored ++ more)))
        → PrintsOn (chars (utf8_front (stored ++ more))) after later begun then
        → (at : TextPlace) → IsAfter place at (utf8_front (stored ++ more))
        → HasRead gives room start next before later first then
        (take 4 (drop (utf8_valid_len (stored ++ more)) (stored ++ more))) at
    more_read given passed_in printed at passed =
        let both : chars (read.front ++ utf8_front (stored ++ more)) ≡ chars read.front ++
        chars (utf8_front (stored ++ more)) =
        chars-append read.front (utf8_front (stored ++ more)) read.cut.utf8 in
        record {
          bytes = read.bytes ++ more;
          front = read.front ++ utf8_front (stored ++ more);
          given = given;
          cut = more_cut read.bytes read.front stored more read.cut;
          bound = omega (arith, falls, read.bound, length-append read.bytes more);
          passed_in = omega (
            arith,
            passed_in,
            read.passed_in,
            ap length both,
            length-append (chars read.front) (chars (utf8_front (stored ++ more))),
          );
          printed = subst (λ xs. PrintsOn xs before later first then) (sym both)
              (more_came _ _ _ _ _ _ _ _ read.printed printed);
          place_is = after_more place at read.front (utf8_front (stored ++ more)) read.place_is passed;
        }

    -- the same for a buffer with the stored and the new bytes, of which `taken` bytes were taken
    pub read_more : (bs unchanged : List ℕ) (taken : ℕ) → bs ≡ stored ++ more → taken ≡ length (utf8_front bs) →
        unchanged ≡ take 4 (drop taken bs)
        → gives start (read.bytes ++ more) next →
        chars_so_far then.paragraph ≡ chars_so_far begun.paragraph + length (chars (utf8_front bs))
        → PrintsOn (chars (utf8_front bs)) after later begun then → (at : TextPlace) →
        IsAfter place at (utf8_front bs)
        → HasRead gives room start next before later first then unchanged at
    read_more bs unchanged taken both front remaining given passed_in printed at passed =
        let same : unchanged ≡ take 4 (drop (utf8_valid_len (stored ++ more)) (stored ++ more)) =
        remaining ∙ ap (λ n. take 4 (drop n bs)) (front ∙ length_front bs) ∙
        ap (λ xs. take 4 (drop (utf8_valid_len xs) xs)) both in
        subst (λ xs. HasRead gives room start next before later first then xs at) (sym same)
        (more_read given (subst (λ xs. chars_so_far then.paragraph
        ≡ chars_so_far begun.paragraph + length (chars (utf8_front xs))) both passed_in)
        (subst (λ xs. PrintsOn (chars (utf8_front xs)) after later begun then) both printed) at
        (subst (λ xs. IsAfter place at (utf8_front xs)) both passed))

  module _ (now : S) (after : Option (List ℕ)) (begun : Begun) (stored : List ℕ) (place : TextPlace)
      (read : HasRead gives room start now before after first begun stored place)
      (new : chars_so_far first.paragraph ≡ 0) where
    -- what was read, without what was printed
    pub cut_of : HasCut gives start now place stored
    cut_of = record {
      bytes = read.bytes;
      front = read.front;
      given = read.given;
      cut = read.cut;
      place_is =
          read.place_is;
    }

    -- the paragraphs that have ended are printed
    pub ended_read : Appends before after
        (printed_ended first.settings.form first.settings.tables.now read.bytes first.settings.direction)
    ended_read = subst (λ xs. Appends before after (printed_as first.settings.form first.settings.tables.now
        (ended_paragraphs first.settings.tables.now (chars xs)) first.settings.direction))
        (sym (front_cut read.bytes read.front stored read.cut))
        (ended_came (chars read.front) before after first begun new read.printed)

    -- if no byte is stored, all paragraphs are printed once the last one is
    pub whole_read : length stored ≡ 0 → (last : Option (List ℕ)) →
        Appends after last (printed_next begun begun.paragraph.chars.items)
        → IsPrinted first.settings.form first.settings.tables.now first.settings.direction read.bytes before last
    whole_read all last noted =
        let whole : read.front ≡ read.bytes = whole_cut read.bytes read.front stored read.cut all in
        record {
          utf8 = subst IsUtf8 whole read.cut.utf8;
          noted = subst (λ xs. Appends before last (printed_as first.settings.form first.settings.tables.now (chars xs)
              first.settings.direction)) whole
              (all_came (chars read.front) before after first begun new read.printed last noted);
        }
