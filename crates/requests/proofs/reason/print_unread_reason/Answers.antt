use Rattle.std.proofs.Common.{codes, append_assoc}
use Rattle.printing.proofs.Appending.{Appends-joined, Appends-then, Appends-to}
use Rattle.requests.specs.Reasons.{folder_words, unread_words}
use Rattle.requests.proofs.reason.print_unread_reason.Goals as goal

pub returns : goal.returns
returns g c =
    let words = unread_words c.args.unread c.args.most in
    let place = folder_words c.args.folder in
    let begun = Appends-joined _ _ _ _ _ c.in_ok-write_all.ensures.bytes c.in_ok-print_unread_words.ensures in
    let reported = Appends-joined _ _ _ _ _ begun c.in_ok-print_folder.ensures in
    let whole = Appends-to _ _ _ _ (append_assoc (codes "bidi: reason: ") words place) reported in
    Appends-then _ _ _ _ _ _ whole c.write_all-2.ensures.bytes
