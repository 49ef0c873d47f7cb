-- N1 and N2 in one pass.
use Rattle.std.specs.Prelude.{Option, Some, None, true, false, not, ◌≡◌, List, [], ◌∷◌, unwrap_or, if◌then◌else◌, refl}
use Rattle.std.proofs.Common.{ap, sym, ◌∙◌, inl, inr}
use Rattle.std.proofs.lemmas.Bool.{cases_Bool, cond-true, cond-false}
use Rattle.units.specs.Classes.{is_neutral}
use Rattle.units.specs.Neutral.{by_sides, after_neutral}
use Rattle.units.specs.Runs.{SequenceView, direction_of}
use Rattle.units.specs.declared.class.Class.{Class}
use Rattle.resolve.specs.Ahead.{first_class}
use Rattle.resolve.specs.Neutrals.{is_no_neutral, sides_of, taken_before, by_run, sides_past, owed_along}
use Rattle.resolve.specs.declared.neutral.Sides.{Sides}
use Rattle.resolve.proofs.Sides.{sides, sides-is}
use Rattle.resolve.proofs.StatePasses.{after_state_pass}

-- N1 and N2 at a class
abbrev at_neutral : Class → Class → Class → Class → Class
at_neutral embedding before c after = if is_neutral c then by_sides embedding before after else c

-- the next neutral takes the class that the rule gives
abbrev IsTaken : Sides → List Class → Type 0
IsTaken x cs = taken_before x cs ≡ by_sides x.embedding x.before (first_class is_no_neutral cs x.end)

along_neutral : (x : Sides) (cs : List Class) → IsTaken x cs →
    sides (at_neutral x.embedding) is_no_neutral is_no_neutral x.before x.end cs ≡
    after_state_pass by_run sides_past x cs
along_neutral x [] h = refl
along_neutral x (c ∷ cs) h =
    let rule : Class = by_sides x.embedding x.before (first_class is_no_neutral cs x.end) in
    let inside : Sides = record {
      embedding = x.embedding;
      end = x.end;
      before = x.before;
      taken =
          Some (taken_before x cs);
    } in
    let outside : Sides = record { embedding = x.embedding; end = x.end; before = c; taken = None } in
    elim (cases_Bool (is_neutral c)) [
      | inl t ↦
          let f : is_no_neutral c ≡ false = ap not t in
          let ahead : first_class is_no_neutral (c ∷ cs) x.end ≡ first_class is_no_neutral cs x.end =
          cond-false (is_no_neutral c) _ _ f in
          let taken : taken_before x cs ≡ rule =
          ap (λ (a : Class). unwrap_or x.taken (by_sides x.embedding x.before a)) (sym ahead) ∙ h ∙
          ap (by_sides x.embedding x.before) ahead in
          ap (λ (d : Class). d ∷ sides (at_neutral x.embedding) is_no_neutral is_no_neutral
          (if is_no_neutral c then c else x.before) x.end cs)
          (cond-true (is_neutral c) rule c t ∙ sym taken ∙ sym (cond-true (is_neutral c) (taken_before x cs) c t))
          ∙ ap (λ (b : Class). by_run x c cs ∷ sides (at_neutral x.embedding) is_no_neutral is_no_neutral b x.end cs)
          (cond-false (is_no_neutral c) c x.before f)
          ∙ ap (λ (ds : List Class). by_run x c cs ∷ ds) (along_neutral inside cs taken)
          ∙ ap (λ (y : Sides). by_run x c cs ∷ after_state_pass by_run sides_past y cs)
          (sym (cond-true (is_neutral c) inside outside t))
      | inr f ↦
          let t : is_no_neutral c ≡ true = ap not f in
          ap (λ (d : Class). d ∷ sides (at_neutral x.embedding) is_no_neutral is_no_neutral
          (if is_no_neutral c then c else x.before) x.end cs)
          (cond-false (is_neutral c) rule c f ∙ sym (cond-false (is_neutral c) (taken_before x cs) c f))
          ∙ ap (λ (b : Class). by_run x c cs ∷ sides (at_neutral x.embedding) is_no_neutral is_no_neutral b x.end cs)
          (cond-true (is_no_neutral c) c x.before t)
          ∙ ap (λ (ds : List Class). by_run x c cs ∷ ds) (along_neutral outside cs refl)
          ∙ ap (λ (y : Sides). by_run x c cs ∷ after_state_pass by_run sides_past y cs)
          (sym (cond-false (is_neutral c) inside outside f))
    ]

-- N1 and N2 index by index are one pass
pub after_neutral-after_state_pass : (s : SequenceView) (cs : List Class) →
    after_neutral (direction_of s.level) s.sos s.eos cs ≡ after_state_pass by_run sides_past (sides_of s) cs
unfolding after_neutral
after_neutral-after_state_pass s cs =
    sides-is (at_neutral (direction_of s.level)) is_no_neutral is_no_neutral s.sos s.eos cs ∙
    along_neutral (sides_of s) cs refl

-- nothing is owed at the end
pub owes_no_more : (taken : Option Class) → owed_along taken [] ≡ 0
owes_no_more None = refl
owes_no_more (Some c) = refl
