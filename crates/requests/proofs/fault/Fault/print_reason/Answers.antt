use Rattle.std.proofs.Common.{inl, inr}
use Rattle.requests.proofs.fault.Fault.print_reason.Goals as goal

pub returns-in-NotUtf8 : goal.returns-in-NotUtf8
returns-in-NotUtf8 g c = rw c.in-NotUtf8.is c.print_place_reason.ensures

pub returns-in-ClassesTooLong : goal.returns-in-ClassesTooLong
returns-in-ClassesTooLong g c = elim c.in-ClassesTooLong.is [
  | inl classes ↦ rw classes c.print_reason-in-ClassesTooLong.ensures
  | inr codes ↦ rw codes c.print_reason-in-ClassesTooLong.ensures
]
