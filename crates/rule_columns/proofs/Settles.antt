-- A pass that replaces each class of a run with one that depends on both sides of the run.
use Rattle.std.specs.Prelude.{Option, Some, None, Bool, true, false, not, ℕ, ◌+◌, ◌<◌, ◌≡◌, List, length, IfSome, slice_index}
use Rattle.std.proofs.Common.{arith, ap, sym, ◌∙◌, subst, drop, set}
use Rattle.std.proofs.lemmas.Bool.{cond-true, cond-false, not_from_true, not_from_false}
use Rattle.units.specs.Classes.{class_at, classes_at}
use Rattle.units.specs.Weak.{nearest_before, nearest_after}
use Rattle.units.specs.declared.class.Class.{Class}
use Rattle.sequences.specs.Links.{ArePositions}
use Rattle.resolve.specs.Ahead.{first_class}
use Rattle.resolve.proofs.Ahead.{nearest_after-first}
use Rattle.units.proofs.Lengths.{length-at_each}
use Rattle.resolve.proofs.AtEach.{class_at-at_each, drop-class_at}
use Rattle.resolve.proofs.Gathered.{length-classes_at}
use Rattle.resolve.proofs.Passes.{Pass, pass_start, pass_reads, pass_within, pass_ahead, pass_write}
use Rattle.rule_columns.specs.Runs.{each_in_run}
use Rattle.rule_columns.proofs.RulePasses.{pass_keep, pass_nearest_here, pass_nearest_same}

-- `ahead` is the class after the current run, if the pass is inside one
pub record SettlePass (kind : Class → Bool) (rule : Class → Class → Class →
    Class) (sos eos : Class) (ps : List ℕ) (start now : List Class) (before : Class) (ahead : Option Class)
    (k : ℕ) : Type 0 where
  pub pass : Pass ps (each_in_run kind rule sos eos (classes_at start ps)) start now k
  pub before_is : before ≡ nearest_before (classes_at start ps) (λ c. not (kind c)) k sos
  pub ahead_is : IfSome ahead (λ c. c ≡ first_class (λ c. not (kind c)) (drop k (classes_at start ps)) eos)

pub settle_start : (kind : Class → Bool) (rule : Class → Class → Class →
    Class) (sos eos : Class) (ps : List ℕ) (start : List Class) →
    ArePositions ps (length start) → SettlePass kind rule sos eos ps start start sos None 0
settle_start kind rule sos eos ps start p = grind (arith, pass_start, length-at_each, length-classes_at)

module _ {kind : Class → Bool} {rule : Class → Class → Class →
    Class} {sos eos : Class} {ps : List ℕ} {start now : List Class} {before : Class} {ahead : Option Class} {k : ℕ}
    (w : SettlePass kind rule sos eos ps start now before ahead k) (inside : k < length ps) where
  -- outside the runs the pass leaves the class unchanged
  pub settle_other : kind (class_at now (slice_index ps k)) ≡ false →
      SettlePass kind rule sos eos ps start now (class_at now (slice_index ps k)) None (k + 1)
  settle_other f =
      let reads = pass_reads w.pass inside in
      let f' : kind (class_at (classes_at start ps) k) ≡ false = ap kind (sym reads) ∙ f in
      record {
        pass = pass_keep w.pass inside (reads ∙
            sym (class_at-at_each _ (classes_at start ps) k (pass_within w.pass inside) ∙ cond-false _ _ _ f'));
        before_is = pass_nearest_here w.pass inside (λ c. not (kind c)) sos (not_from_false _ f);
        ahead_is = tt;
      }

  -- inside a run it writes the class that the rule gives for the current class and both sides
  settle_run : kind (class_at now (slice_index ps k)) ≡ true → (after v : Class) →
      after ≡ first_class (λ c. not (kind c)) (drop (k + 1) (classes_at start ps)) eos →
      v ≡ rule (class_at now (slice_index ps k)) before after →
      SettlePass kind rule sos eos ps start (set now (slice_index ps k) v) before (Some after) (k + 1)
  settle_run t after v past is =
      let from : List Class = classes_at start ps in
      let reads = pass_reads w.pass inside in
      let t' : kind (class_at from k) ≡ true = ap kind (sym reads) ∙ t in
      let following : nearest_after from (λ c. not (kind c)) k eos ≡ after =
      nearest_after-first (λ c. not (kind c)) from k eos (pass_within w.pass inside) ∙ sym past in
      let to_is : class_at (each_in_run kind rule sos eos from) k ≡
      rule (class_at from k) (nearest_before from (λ c. not (kind c)) k sos) (nearest_after from (λ c.
      not (kind c)) k eos) =
      class_at-at_each _ from k (pass_within w.pass inside) ∙ cond-true _ _ _ t' in
      let same : class_at (each_in_run kind rule sos eos from) k ≡ v =
      to_is ∙ ap (λ (b : Class). rule (class_at from k) b (nearest_after from (λ c. not (kind c)) k eos))
      (sym w.before_is)
      ∙ ap (rule (class_at from k) before) following ∙ ap (λ (c : Class). rule c before after) (sym reads) ∙ sym is in
      record {
        pass = pass_write w.pass inside v (sym same);
        before_is = pass_nearest_same w.pass inside (λ c. not (kind c)) sos before (not_from_true _ t) w.before_is;
        ahead_is = past;
      }

  -- if a run begins here, the pass searches for the class after it
  pub settle_new : kind (class_at now (slice_index ps k)) ≡ true → (after v : Class) →
      after ≡ first_class (λ c. not (kind c)) (classes_at now (drop (k + 1) ps)) eos →
      v ≡ rule (class_at now (slice_index ps k)) before after →
      SettlePass kind rule sos eos ps start (set now (slice_index ps k) v) before (Some after) (k + 1)
  settle_new t after v past is =
      let later : classes_at now (drop (k + 1) ps) ≡ drop (k + 1) (classes_at start ps) = pass_ahead w.pass inside in
      settle_run t after v (past ∙ ap (λ (cs : List Class). first_class (λ c. not (kind c)) cs eos) later) is

  -- if the run continues, the class after it is the same
  pub settle_same : (c : Class) → ahead ≡ Some c → kind (class_at now (slice_index ps k)) ≡ true → (after v : Class) →
      after ≡ c →
      v ≡ rule (class_at now (slice_index ps k)) before after →
      SettlePass kind rule sos eos ps start (set now (slice_index ps k) v) before (Some after) (k + 1)
  settle_same c some t after v same is =
      let from : List Class = classes_at start ps in
      let t' : kind (class_at from k) ≡ true = ap kind (sym (pass_reads w.pass inside)) ∙ t in
      let P : Option Class → Type 0 = λ o. IfSome o (λ c. c ≡ first_class (λ c. not (kind c)) (drop k from) eos) in
      let at_k : c ≡ first_class (λ c. not (kind c)) (drop k from) eos = subst P some w.ahead_is in
      let past : first_class (λ c. not (kind c)) (drop k from) eos ≡
      first_class (λ c. not (kind c)) (drop (k + 1) from) eos =
      ap (λ (cs : List Class). first_class (λ c. not (kind c)) cs eos)
      (drop-class_at from k (pass_within w.pass inside)) ∙ cond-false _ _ _ (not_from_true _ t') in
      settle_run t after v (same ∙ at_k ∙ past) is
