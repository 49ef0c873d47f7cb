-- How the stack represents the open initiators, which are lists with the innermost first.
use Rattle.std.specs.List.{list_any, suffix_len}
use Rattle.std.specs.Prelude.{count_by, not, reverse, Option, None, Some, unwrap_or, if◌then◌else◌, ◌≡◌, ℕ, ◌+◌, ◌<◌, ◌≤◌, ◌^◌, length, cond, Bool, true, false, ◌||◌, List, [], ◌∷◌, ◌++◌, nat_lt}
use Rattle.units.specs.Explicit.{State, chain, entered}
use Rattle.units.specs.Classes.{is_initiator, is_pdi, is_removed, is_separator}
use Rattle.units.specs.declared.class.Class.{Class}
use Rattle.explicit.specs.OpenInitiators.{is_isolate}
use Rattle.explicit.specs.declared.status.Status.{Status}
use Rattle.explicit.specs.declared.status.StatusStack.{StatusStack}

-- X1: how many entries the stack has
abbrev pub entry_count : StatusStack → ℕ
entry_count n = length n.entries.items

-- X1 to X5c: the state inside these initiators
abbrev pub state_within : ℕ → List Class → ℕ → List ℕ → State
state_within depth cs para_level [] = record { level = para_level; override = None; sound = true }
state_within depth cs para_level (q ∷ qs) = entered depth cs (state_within depth cs para_level qs) q

-- X2 to X5c: the initiator at q is valid: it is not above this depth, and inside no overflow initiator
abbrev pub is_taken : ℕ → List Class → ℕ → ℕ → List ℕ → Bool
is_taken depth cs para_level q qs = (state_within depth cs para_level (q ∷ qs)).sound

-- X1: the entry for this state
abbrev pub entry_of : State → Bool → Status
entry_of s isolate = record { level = s.level; override_class = s.override; is_isolate = isolate }

-- X2 to X5c: the entry of the initiator at q, if it is valid
abbrev pub entry_at : ℕ → List Class → ℕ → ℕ → List ℕ → Status
entry_at depth cs para_level q qs = entry_of (state_within depth cs para_level (q ∷ qs)) (is_isolate cs q)

-- X1 to X5c: an entry for the paragraph and for each valid initiator, the outermost first
abbrev pub entries_of : ℕ → List Class → ℕ → List ℕ → List Status
entries_of depth cs para_level [] = entry_of (state_within depth cs para_level []) false ∷ []
entries_of depth cs para_level (q ∷ qs) =
    cond (is_taken depth cs para_level q qs)
    (entries_of depth cs para_level qs ++ entry_at depth cs para_level q qs ∷ [])
    (entries_of depth cs para_level qs)

-- X5a to X5c: the valid isolate count
abbrev pub taken_isolates : ℕ → List Class → ℕ → List ℕ → ℕ
taken_isolates depth cs para_level [] = 0
taken_isolates depth cs para_level (q ∷ qs) =
    cond (is_taken depth cs para_level q qs) (cond (is_isolate cs q) 1 0) 0 + taken_isolates depth cs para_level qs

-- X5a to X5c: the overflow isolate count
abbrev pub overflow_isolates_of : ℕ → List Class → ℕ → List ℕ → ℕ
overflow_isolates_of depth cs para_level [] = 0
overflow_isolates_of depth cs para_level (q ∷ qs) =
    cond (is_taken depth cs para_level q qs) 0 (cond (is_isolate cs q) 1 0) +
    overflow_isolates_of depth cs para_level qs

-- X2 to X5: the overflow embedding count, which leaves out embeddings inside overflow isolates
abbrev pub overflow_embeddings_of : ℕ → List Class → ℕ → List ℕ → ℕ
overflow_embeddings_of depth cs para_level [] = 0
overflow_embeddings_of depth cs para_level (q ∷ qs) =
    cond (is_taken depth cs para_level q qs ||
    (is_isolate cs q || nat_lt 0 (overflow_isolates_of depth cs para_level qs)))
    0 1
    + overflow_embeddings_of depth cs para_level qs

-- X1 to X8: the stack represents these initiators
pub record Represents (depth : ℕ) (cs : List Class) (para_level : ℕ) (qs : List ℕ) (n : StatusStack) : Type 0 where
  pub entries : n.entries.items ≡ entries_of depth cs para_level qs
  pub overflow_isolates : n.overflow_isolates ≡ overflow_isolates_of depth cs para_level qs
  pub overflow_embeddings : n.overflow_embeddings ≡ overflow_embeddings_of depth cs para_level qs
  pub valid_isolates : n.valid_isolates ≡ taken_isolates depth cs para_level qs

-- X6a: the entries before the last isolate's, or none
abbrev pub before_isolate : List Status → List Status
before_isolate [] = []
before_isolate (x ∷ xs) = cond (list_any (λ e. e.is_isolate) xs) (x ∷ before_isolate xs) []

-- X1: the stack represents some initiators, at an allowed depth, and not too many for the counts
pub record IsReachedStack (n : StatusStack) : Type 0 where
  pub depth : ℕ
  pub classes : List Class
  pub para_level : ℕ
  pub initiators : List ℕ
  pub represents : Represents depth classes para_level initiators n
  pub base : para_level ≤ 1
  pub within : depth ≤ 125
  pub few : length initiators < 2 ^ 63

-- X6: a class that neither begins nor ends anything, and isn't removed
abbrev pub is_ordinary : Class → Bool
is_ordinary c = not (is_initiator c || (is_pdi c || (is_removed c || is_separator c)))

-- X5a to X9: the level and the current class of a position of this class in this state, or none if it is removed
abbrev pub leveled_in : State → ℕ → Class → Option (ℕ × Class)
leveled_in s para_level own =
    if is_removed own then None
    else if is_separator own then Some (para_level, own)
    else Some (s.level, unwrap_or s.override own)

-- X1 to X5c: the overflow initiators are inside all valid ones, and the entries are those of the paragraph and of each
-- valid initiator. The three counts count the overflow isolates, the overflow embeddings outside of these, and the
-- valid isolates.
pub record IsOverflowTail (depth : ℕ) (cs : List Class) (para_level : ℕ) (rejected taken : List ℕ) : Type 0 where
  pub sound : (state_within depth cs para_level taken).sound ≡ true
  pub entries : entries_of depth cs para_level (rejected ++ taken) ≡ entries_of depth cs para_level taken
  pub one_each : length (entries_of depth cs para_level taken) ≡ length taken + 1
  pub overflow_isolates : overflow_isolates_of depth cs para_level (rejected ++ taken) ≡
      count_by (is_isolate cs) rejected
  pub overflow_embeddings : overflow_embeddings_of depth cs para_level (rejected ++ taken)
      ≡ suffix_len (λ q. not (is_isolate cs q)) rejected
  pub valid_isolates : taken_isolates depth cs para_level (rejected ++ taken) ≡ count_by (is_isolate cs) taken

-- X1: the initiators around p, the outermost first, are first the valid ones and then the overflow ones
abbrev pub EndsInOverflow : ℕ → List Class → ℕ → ℕ → Type 0
EndsInOverflow depth cs para_level p =
    (rejected : List ℕ) × (taken : List ℕ)
    × (chain cs p ≡ reverse taken ++ reverse rejected) × IsOverflowTail depth cs para_level rejected taken
