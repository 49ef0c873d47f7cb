-- A handle may be sent to a thread if its contents may be.
use base.Shift.{Keyless}
use denote.Memory.{lone}
use denote.RawPtr.{Ptr}
use denote.Param.Send.{IsSend, AllSend, owning_send, sendable}
use denote.Struct.Owning.{fields}
use mir.Raw.{raw}
use Rattle.std.specs.Prelude.{Option, None, Some}
use Rattle.std.specs.declared.alloc.Global.{Global}
use Rattle.std.proofs.Crossing.{crosses, frees}
use Rattle.std_alloc.proofs.SendSync.{lies}
use Rattle.bidi_c.specs.Owned.{owned}
use Rattle.bidi_c.specs.contracts.contents.Contents as contents
use Rattle.bidi_c.proofs.contents.Contents.TheSendSync.{the_send as contents_send}
use Rattle.bidi_c.specs.contracts.handle.Handle.{the_row, the_type}

fields_sent : AllSend (fields the_type)
fields_sent = search (sendable, crosses) depth 20

owned_keyless : (a : Global) (p : Ptr) (v : Option contents.the_row.Denot) → Keyless (owned contents.the_row a p v)
owned_keyless a p None = tt
owned_keyless a p (Some x) =
    (lies contents.the_row contents_send p x, frees.frees a (raw (lone contents.the_row.mir)) p)

pub send : IsSend the_row
send = owning_send the_type fields_sent (λ h. owned_keyless h.alloc h.at h.value) (λ k d w. tt)
