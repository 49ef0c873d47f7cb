use Rattle.printing.proofs.Appending.{Appends-joined, Appends-then}
use Rattle.requests.proofs.fault_line.print_item.Goals as goal

pub returns : goal.returns
returns g c =
    let begun = Appends-joined _ _ _ _ _ c.in_ok-write_all.ensures.bytes c.in_ok-write_all-2.ensures.bytes in
    Appends-then _ _ _ _ _ _ begun c.write_all-3.ensures.bytes
