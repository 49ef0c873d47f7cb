-- What a source over a reader returns, at a call that reads.
use Rattle.std.specs.Prelude.{◌≡◌, ◌<◌, ℕ, ◌+◌, List, [], Option, length, refl}
use Rattle.std.specs.Io.KnownBytes.{Consumes}
use Rattle.std.proofs.Common.{arith, ap}
use Rattle.units.specs.declared.reader_source.State.{State}
use Rattle.units.specs.declared.reader_source.State.TheVariants.{Open, Failed}
use Rattle.units.specs.declared.unread.Unread.{Unread}
use Rattle.units.specs.declared.unread.Unread.TheVariants.{TooLarge}
use Rattle.units.specs.Provides.{Provides, failures_of, Consumes-nothing}

from-open : (state : State) → state ≡ Open → failures_of state ≡ 1 → ⊥
from-open state is failed = let open' : failures_of state ≡ 0 = ap failures_of is in
    absurd (omega (arith, open', failed))

not_failed : (state : State) (unread : Unread) → failures_of state ≡ 0 → state ≡ Failed unread → ⊥
not_failed state unread z e = let k : failures_of state ≡ 1 = ap failures_of e in absurd (omega (arith, k, z))

-- a source that had not failed took these bytes from its reader
pub Provides-taken : (before after : Option (List ℕ)) (limit limit' : ℕ) (state state' : State) (bytes : List ℕ)
    → state ≡ Open → failures_of state' ≡ 0 → Consumes before after bytes → limit' + length bytes ≡ limit
    → Provides before after limit limit' state state' bytes
Provides-taken before after limit limit' state state' bytes is works taken falls = record {
  first = (after, taken);
  consumed = λ _. taken;
  falls = falls;
  stays = λ h. absurd (from-open state is h);
  passes = λ _ e. absurd (not_failed state' TooLarge works e);
  asks_no_more = λ h. absurd (from-open state is h);
  gives_no_more = λ h. absurd (from-open state is h);
}

-- a source that had not failed fails: the reader returned an error, or more bytes than allowed
pub Provides-failed : (before after : Option (List ℕ)) (limit : ℕ) (state : State) (unread : Unread) → state ≡ Open
    → (unread ≡ TooLarge → (more : List ℕ) × Consumes before after more × (limit < length more))
    → Provides before after limit limit state (Failed unread) []
Provides-failed before after limit state unread is passes = record {
  first = (before, Consumes-nothing before);
  consumed = λ z. absurd (omega (arith, z));
  falls = omega arith;
  stays = λ h. absurd (from-open state is h);
  passes = λ _ e. let h = passes (let same = e in cc) in (h.0, (after, h.1), h.2);
  asks_no_more = λ h. absurd (from-open state is h);
  gives_no_more = λ _. refl;
}
