use Rattle.std.proofs.Common.{inl, inr}
use Rattle.std.proofs.lemmas.Bool.{cases_lt}
use Rattle.room.proofs.places.put_each.Goals as goal

pub returns-clause-others : goal.returns-clause-others
returns-clause-others g c i d side =
    let l = c.loop-i in
    elim side [
      | inl below ↦ l.invariant.others i d (inl below)
      | inr above ↦ elim (cases_lt i c.args.start) [
        | inl under ↦ l.invariant.others i d (inl under)
        | inr from ↦ l.invariant.others i d (inr (l.invariant.reach i from above))
      ]
    ]
