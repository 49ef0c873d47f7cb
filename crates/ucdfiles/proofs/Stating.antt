-- One more line, and the statements with it.
use Rattle.std.proofs.Common.{◌≡◌, ℕ, None, List, [], ◌∷◌, ◌++◌, map, refl, sym, ap, ◌∙◌, arith, length-append, append-nil, subst}
use Rattle.std.proofs.lemmas.List.{map-append}
use Rattle.std.proofs.lemmas.List.Folds.{find-append, list_any-append}
use Rattle.ucdfiles.specs.declared.fault.Fault.{Fault}
use Rattle.ucdfiles.specs.declared.span.Span.{Span}
use Rattle.ucdfiles.specs.declared.span.FileLine.{FileLine}
use Rattle.ucdfiles.specs.declared.span.FileLine.TheVariants.{Silent, Data, Default, Faulty}
use Rattle.ucdfiles.specs.Spans.{Adds, default_fault, value_in}
use Rattle.ucdfiles.specs.Statements.{data_of, defaults_of, fault_after, line_fault, value_stated, Stated, stated_fault, Becomes, IsStatedBy, AreStatedBy}

module _ {V : Type 0} where
  data_of-push : (lines : List (FileLine V)) (line : FileLine V) → data_of (lines ++ line ∷ []) ≡ data_of lines ++
      data_of (line ∷ [])
  data_of-push [] line = refl
  data_of-push (Silent ∷ lines) line = data_of-push lines line
  data_of-push (Faulty fault ∷ lines) line = data_of-push lines line
  data_of-push (Default span ∷ lines) line = data_of-push lines line
  data_of-push (Data span ∷ lines) line = ap (λ ss. span ∷ ss) (data_of-push lines line)

  defaults_of-push : (lines : List (FileLine V)) (line : FileLine V) →
      defaults_of (lines ++ line ∷ []) ≡ defaults_of lines ++ defaults_of (line ∷ [])
  defaults_of-push [] line = refl
  defaults_of-push (Silent ∷ lines) line = defaults_of-push lines line
  defaults_of-push (Faulty fault ∷ lines) line = defaults_of-push lines line
  defaults_of-push (Data span ∷ lines) line = defaults_of-push lines line
  defaults_of-push (Default span ∷ lines) line = ap (λ ss. span ∷ ss) (defaults_of-push lines line)

  -- the fault of a line after the lines that state this
  fault-same : (taken : Fault) (stated : Stated V) (lines : List (FileLine V)) (noted : FileLine V) →
      IsStatedBy stated lines → stated_fault taken stated noted ≡ fault_after taken lines noted
  fault-same taken stated lines Silent h = refl
  fault-same taken stated lines (Faulty fault) h = refl
  fault-same taken stated lines (Data span) h = rw (h.counts, h.meets span) refl
  fault-same taken stated lines (Default span) h = ap default_fault h.defaults

  -- a line that adds no data
  same_data : (old new : Stated V) (lines : List (FileLine V)) (line : FileLine V) → IsStatedBy old lines →
      new.data_lines ≡ old.data_lines → data_of (line ∷ []) ≡ []
      → new.default_lines ≡ old.default_lines ++ defaults_of (line ∷ []) → IsStatedBy new (lines ++ line ∷ [])
  same_data old new lines line h same none defaults = grind (arith, data_of-push, append-nil, defaults_of-push)

  -- a data line
  more_data : (old new : Stated V) (lines : List (FileLine V)) (span : Span V) → IsStatedBy old lines →
      Adds old.data_lines span new.data_lines → new.default_lines ≡ old.default_lines
      → IsStatedBy new (lines ++ Data span ∷ [])
  more_data old new lines span h adds same =
      grind (arith, data_of-push, find-append, list_any-append, length-append, defaults_of-push, append-nil)

  becomes : (taken : Fault) (old new : Stated V) (lines : List (FileLine V)) (noted : FileLine V) →
      IsStatedBy old lines → Becomes taken old noted new
      → (fault_after taken lines noted ≡ None) × IsStatedBy new (lines ++ noted ∷ [])
  becomes taken old new lines Silent h b = (
    refl,
    same_data old new lines Silent h (ap (λ (t : Stated V). t.data_lines) b) refl (ap (λ (t : Stated V).
        t.default_lines) b ∙ sym (append-nil old.default_lines)),
  )
  becomes taken old new lines (Faulty fault) h b = absurd b
  becomes taken old new lines (Data span) h b =
      (sym (fault-same taken old lines (Data span) h) ∙ b.1, more_data old new lines span h b.0 b.2)
  becomes taken old new lines (Default span) h b =
      (sym (fault-same taken old lines (Default span) h) ∙ b.1, same_data old new lines (Default span) h b.2 refl b.0)

  module _ (says : List ℕ → FileLine V) (taken : Fault) where
    pub represents-becomes : (old new : Stated V) (lines : List (List ℕ)) (line : List ℕ) (noted : FileLine V) →
        says line ≡ noted → AreStatedBy says old lines → Becomes taken old noted new
        → (line_fault says taken lines line ≡ None) × AreStatedBy says new (lines ++ line ∷ [])
    represents-becomes old new lines line noted e s b =
        let made = becomes taken old new (map says lines) noted s b in (
          ap (fault_after taken (map says lines)) e ∙ made.0,
          let P : List (FileLine V) → Type 0 = λ ls. IsStatedBy new ls in
              subst P (sym (map-append says lines (line ∷ []) ∙ ap (λ l. map says lines ++ l ∷ []) e)) made.1,
        )

    -- the statements of all lines determine the value of each code point
    pub value_in-represents : (stated : Stated V) (lines : List (List ℕ)) (c : ℕ) → AreStatedBy says stated lines →
        value_in stated.data_lines stated.default_lines c ≡ value_stated (map says lines) c
    value_in-represents stated lines c s = rw (s.finds c, s.defaults) refl
