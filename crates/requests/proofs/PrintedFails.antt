-- How the printing of a text fails before it breaks off.
use Rattle.std.proofs.Common.{◌≡◌, ℕ, List, [], ◌∷◌, Option, Result, IfErr, IsErrAnd, inl, inr, refl}
use Rattle.std.specs.Str.{IsUtf8, chars}
use Rattle.units.specs.declared.level.Direction.{Direction}
use Rattle.ucdfiles.specs.Tables.{TablesOf}
use Rattle.printing.specs.declared.form.Form.{Form}
use Rattle.requests.specs.FaultText.{EndsOpening}
use Rattle.requests.specs.Parts.{IsFirstFault, opening_part, printing_parts, source_parts}
use Rattle.requests.specs.Printed.{HoldsText, most_text_bytes}
use Rattle.requests.specs.PrintedFiles.{FailsToPrint}
use Rattle.requests.specs.ReadFiles.{FileFacts, origin_of, word_file}
use Rattle.requests.specs.TableSources.{AreTablesBy}
use Rattle.requests.specs.declared.fault.Fault.{Fault}
use Rattle.requests.specs.declared.fault.Fault.TheVariants.{CannotWrite}
use Rattle.requests.specs.declared.request.TableSource.{TableSource}
use Rattle.requests.proofs.FirstFaults.{first_fault_after, first_of_all, passed_on, source_done, whole_done}

module _ (files : FileFacts) (form : Form) (direction : Direction) (source : TableSource) (file : List ℕ)
    (before : Option (List ℕ)) where
  -- by the tables, before anything is written
  pub tables_fail : {T : Type 0} (r : Result T Fault) (e : Fault) → IsErrAnd r (λ given. given ≡ e) →
      IsFirstFault (source_parts files source) e
      → IfErr r (FailsToPrint files form direction source file before before)
  unfolding printing_parts
  tables_fail r e same h = passed_on (FailsToPrint files form direction source file before before) r e same
      (inl (inl (first_of_all (source_parts files source) (opening_part files most_text_bytes file ∷ []) e h, refl)))

  module _ (tables : TablesOf) (stated : AreTablesBy files source tables) where
    -- by the opening of FILE
    pub opening_fails : {T : Type 0} (r : Result T Fault) (e : Fault) → IsErrAnd r (λ given. given ≡ e)
        → EndsOpening (files.Rejects (origin_of file) most_text_bytes) (word_file most_text_bytes file) e
        → IfErr r (FailsToPrint files form direction source file before before)
    unfolding printing_parts
    opening_fails r e same h = passed_on (FailsToPrint files form direction source file before before) r e same
        (inl (inl (
          first_fault_after (source_parts files source) (opening_part files most_text_bytes file ∷ []) e
              (source_done files source tables stated) (inl h),
          refl,
        )))

    -- by a write, after all of the text was read and is UTF-8
    pub write_fails : (after : Option (List ℕ)) (bytes : List ℕ) → files.Begins (origin_of file) most_text_bytes bytes
        → files.Holds (origin_of file) most_text_bytes bytes → IsUtf8 bytes →
        FailsToPrint files form direction source file before after CannotWrite
    write_fails after bytes begins read utf8 =
        let text : HoldsText files file (chars bytes) = record {
          bytes = bytes;
          begins = begins;
          read = read;
          utf8 =
              utf8;
          text_is = refl;
        } in
        inl (inr (whole_done files source file tables stated (chars bytes) text, tt))
