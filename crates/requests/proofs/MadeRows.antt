-- How the printing of requested rows fails: by an argument, by the tables, or in the making of their texts.
use Rattle.std.proofs.Common.{◌≡◌, ℕ, List, [], ◌∷◌, ◌++◌, map, Option, Some, Result, Ok, Err, IfErr, IsErrAnd, inl, inr, refl, subst, sym, ap, ◌∙◌}
use Rattle.std.specs.Borrow.{Bor}
use Rattle.std.specs.Option.{option_map}
use Rattle.units.specs.declared.level.Direction.{Direction}
use Rattle.ucdfiles.specs.PairFiles.{char_of}
use Rattle.ucdfiles.specs.Tables.{TablesOf}
use Rattle.bidtests.specs.declared.kind.Kind.{Kind}
use Rattle.bidtests.specs.declared.kind.Kind.TheVariants as file
use Rattle.rows.specs.Exhaustive.{ExhaustiveOf}
use Rattle.rows.specs.Letters.{letter_by}
use Rattle.rows.specs.declared.letter.Letter.{Letter}
use Rattle.requests.specs.DirectionWords.{EndsDirections, SaysDirections}
use Rattle.requests.specs.RowsPrinted.{chars_asked, letters_asked, texts_over}
use Rattle.requests.specs.FileRows.{IsKindOfFile}
use Rattle.requests.specs.ItemWords.{EndsItems}
use Rattle.requests.specs.ReadFiles.{FileFacts}
use Rattle.requests.specs.LengthWords.{EndsLengths, lengths_named}
use Rattle.requests.specs.Parts.{AreDone, FailsIn, IsFirstFault, RequestPart, alphabet_parts, directions_part, lengths_part, making_part, row_table_parts, rows_parts, source_parts, texts_part}
use Rattle.requests.specs.TableSources.{AreTablesBy}
use Rattle.requests.specs.declared.fault.Fault.{Fault}
use Rattle.requests.specs.declared.fault.Fault.TheVariants.{NoCodePoint, OutOfMemory}
use Rattle.requests.specs.declared.request.AskedRows.{AskedRows}
use Rattle.requests.specs.declared.request.FileKind.{FileKind}
use Rattle.requests.specs.declared.request.FileKind.TheVariants.{Classes, Characters}
use Rattle.requests.specs.declared.request.RowLetters.TheVariants.{Alphabet}
use Rattle.requests.specs.declared.request.RowsForm.{RowsForm}
use Rattle.requests.proofs.AskedLetters.{alphabet_done, chars_read}
use Rattle.requests.proofs.FirstFaults.{FailsIn-following, first_fault_after, first_of_all, passed_on, row_tables_done}

-- what ends a part before all others ends the request, and nothing is written
pub first_fails : (parts : List RequestPart) (known : Option (List ℕ)) {T : Type 0} (r : Result T Fault) (e : Fault) →
    IsErrAnd r (λ given. given ≡ e)
    → IsFirstFault parts e → IfErr r (FailsIn parts known known)
first_fails parts known r e same h = passed_on (FailsIn parts known known) r e same (inl (h, refl))

-- a failed allocation ends the making of texts
pub memory_fails : (form : RowsForm) (texts : ExhaustiveOf) (known : Option (List ℕ)) {T : Type 0} (r : Result T Fault)
    → IsErrAnd r (λ given. given ≡ OutOfMemory) → IfErr r (FailsIn (making_part form texts ∷ []) known known)
memory_fails form texts known r same = first_fails (making_part form texts ∷ []) known r OutOfMemory same (inl tt)

module _ (files : FileFacts) (asked : AskedRows) where
  -- the values of the lengths and the directions
  abbrev word_parts : List RequestPart
  word_parts = lengths_part asked.lengths.now ∷ directions_part asked.directions.now ∷ []

  -- what is read after them
  abbrev letter_parts : List RequestPart
  letter_parts = alphabet_parts asked.kind asked.letters ++ (row_table_parts files asked.kind (Some asked.tables) ++
      texts_part files asked ∷ [])

  pub lengths_fail : (fault : Fault) → EndsLengths asked.lengths.now fault → IsFirstFault (rows_parts files asked) fault
  unfolding rows_parts
  lengths_fail fault h = inl h

  pub directions_fail : (ends : ℕ × ℕ) (fault : Fault) → lengths_named asked.lengths.now ≡ Some ends →
      EndsDirections asked.directions.now fault
      → IsFirstFault (rows_parts files asked) fault
  unfolding rows_parts
  directions_fail ends fault e h = inr ((ends, e), inl h)

  -- after the values of the lengths and the directions
  module _ (least greatest : ℕ) (directions : List Direction) (e : lengths_named asked.lengths.now ≡ Some (
    least,
    greatest,
  )) (says : SaysDirections asked.directions.now directions) where
    words_done : AreDone word_parts
    words_done = (((least, greatest), e), ((directions, says), tt))

    letters_fail : (fault : Fault) → IsFirstFault letter_parts fault → IsFirstFault (rows_parts files asked) fault
    unfolding rows_parts
    letters_fail fault h = first_fault_after word_parts letter_parts fault words_done h

    -- what is read for the letters, in a file of this kind
    abbrev steps_in : FileKind → List RequestPart
    steps_in k = alphabet_parts k asked.letters ++ (row_table_parts files k (Some asked.tables) ++
        texts_part files asked ∷ [])

    in_kind : (k : FileKind) (fault : Fault) → asked.kind ≡ k → IsFirstFault (steps_in k) fault →
        IsFirstFault (rows_parts files asked) fault
    in_kind k fault is h = letters_fail fault (subst (λ (f : FileKind). IsFirstFault (steps_in f) fault) (sym is) h)

    pub classes_fail : (fault : Fault) → asked.kind ≡ Classes →
        IsFirstFault (alphabet_parts Classes asked.letters) fault
        → IsFirstFault (rows_parts files asked) fault
    classes_fail fault k h =
        in_kind Classes fault k (first_of_all (alphabet_parts Classes asked.letters)
        (row_table_parts files Classes (Some asked.tables) ++ texts_part files asked ∷ []) fault h)

    pub codes_fail : (word : Bor (List ℕ)) (fault : Fault) → asked.kind ≡ Characters → asked.letters ≡ Alphabet word →
        EndsItems char_of NoCodePoint word.now fault
        → IsFirstFault (rows_parts files asked) fault
    codes_fail word fault k l h = letters_fail fault (rw (k, l) (inl h))

    pub tables_fail : (chars : List ℕ) (fault : Fault) → asked.kind ≡ Characters →
        chars_asked asked.letters ≡ Some chars
        → IsFirstFault (source_parts files asked.tables) fault → IsFirstFault (rows_parts files asked) fault
    tables_fail chars fault k read h =
        in_kind Characters fault k (first_fault_after (alphabet_parts Characters asked.letters)
        (source_parts files asked.tables ++ texts_part files asked ∷ []) fault
        (chars_read asked.letters chars read) (first_of_all (source_parts files asked.tables) (texts_part files asked ∷
        []) fault h))

    module _ (before after : Option (List ℕ)) (letters : List Letter) where
      module _ (kind : Kind) (is : IsKindOfFile files asked.kind (Some asked.tables) kind)
          (are : letters_asked kind asked.letters ≡ Some letters) where
        texts_fail : (fault : Fault) →
            FailsIn (making_part asked.form (texts_over letters least greatest) ∷ []) before after fault
            → FailsIn (texts_part files asked ∷ []) before after fault
        texts_fail fault (inl (inl ended, same)) =
            inl (inl (kind, is, texts_over letters least greatest, record { letters = are; ends = e }, ended), same)
        texts_fail fault (inl (inr (done, more), same)) = absurd more
        texts_fail fault (inr (done, ended)) =
            inr (((kind, is, texts_over letters least greatest, record { letters = are; ends = e }, done.0), tt), ended)

        rows_fail : (fault : Fault) →
            FailsIn (making_part asked.form (texts_over letters least greatest) ∷ []) before after fault →
            FailsIn (rows_parts files asked) before after fault
        unfolding rows_parts
        rows_fail fault h =
            let after_tables = FailsIn-following (row_table_parts files asked.kind (Some asked.tables))
            (texts_part files asked ∷ []) before after fault
            (row_tables_done files asked.kind (Some asked.tables) kind is) (texts_fail fault h) in
            let after_letters = FailsIn-following (alphabet_parts asked.kind asked.letters)
            (row_table_parts files asked.kind (Some asked.tables) ++ texts_part files asked ∷ [])
            before after fault (alphabet_done files asked.kind asked.tables kind asked.letters letters is are)
            after_tables in
            FailsIn-following word_parts letter_parts before after fault words_done after_letters

        rows_fail_if : {T : Type 0} (r : Result T Fault) →
            IfErr r (FailsIn (making_part asked.form (texts_over letters least greatest) ∷ []) before after)
            → IfErr r (FailsIn (rows_parts files asked) before after)
        rows_fail_if (Ok x) h = h
        rows_fail_if (Err fault) h = rows_fail fault h

      -- what ends the making of texts of classes ends the request
      pub of_classes_fail : asked.kind ≡ Classes → letters_asked file.Classes asked.letters ≡ Some letters
          → {T : Type 0} (r : Result T Fault) →
          IfErr r (FailsIn (making_part asked.form (texts_over letters least greatest) ∷ []) before after)
          → IfErr r (FailsIn (rows_parts files asked) before after)
      of_classes_fail k are r h =
          rows_fail_if file.Classes (subst (λ (f : FileKind). IsKindOfFile files f (Some asked.tables) file.Classes)
          (sym k) refl) are r h

      -- the same for characters, with these tables
      pub of_characters_fail : (tables : TablesOf) (chars : List ℕ) → asked.kind ≡ Characters →
          AreTablesBy files asked.tables tables
          → chars_asked asked.letters ≡ Some chars → letters ≡ map (letter_by tables) chars
          → {T : Type 0} (r : Result T Fault) →
          IfErr r (FailsIn (making_part asked.form (texts_over letters least greatest) ∷ []) before after)
          → IfErr r (FailsIn (rows_parts files asked) before after)
      of_characters_fail tables chars k stated read same r h =
          let borrowed : Bor TablesOf = record { ref_ptr = (0, 0); now = tables } in
          let is = subst (λ (f : FileKind). IsKindOfFile files f (Some asked.tables) (file.Characters borrowed)) (sym k)
          (borrowed, stated, refl) in
          let are : letters_asked (file.Characters borrowed) asked.letters ≡ Some letters =
          ap (option_map (map (letter_by tables))) read ∙ ap Some (sym same) in
          rows_fail_if (file.Characters borrowed) is are r h
