-- The contents of a handle, borrowed.
use Rattle.std.specs.Prelude.{◌≡◌, ⊤, Option, Some, true, refl}
use Rattle.std.specs.Borrow.{LendsIf, MutBor, Fml, follows_so}
use mathlib.Core.Option.{none}
use Rattle.bidi_c.specs.declared.contents.Contents.{Contents}
use Rattle.bidi_c.specs.contracts.contents.Contents as contents
use Rattle.bidi_c.specs.declared.handle.Handle.{Handle}
use Rattle.bidi_c.specs.declared.bidi_handle.BidiHandle.{BidiHandle}
use Rattle.bidi_c.specs.contracts.bidi_handle.BidiHandle as bidi_handle

-- the pointer's owner with these contents in place of its own
abbrev pub with_contents : Handle → Contents → Handle
with_contents owner last = record { at = owner.at; alloc = owner.alloc; value = Some last }

-- the handle with these contents in place of its own
abbrev pub holding : BidiHandle → Contents → BidiHandle
holding owner last = record {
  handle = with_contents owner.handle last;
  made = true;
  made_iff_some =
      (λ _. refl, λ _. refl);
}

-- the handle ends with the last contents that the borrower wrote, or unchanged if nothing was borrowed
abbrev pub BorrowsContentsIf : MutBor BidiHandle → Option (MutBor Contents) → Fml
BorrowsContentsIf owner borrowed =
    LendsIf bidi_handle.the_row contents.the_row owner borrowed (holding owner.now) owner.now

-- the handle ends unchanged
abbrev pub EndsUnchanged : MutBor BidiHandle → Fml
EndsUnchanged owner = follows_so bidi_handle.the_row bidi_handle.the_row owner.ghost_name none (λ _ _. ⊤) (λ last.
    last ≡ owner.now)
