use Rattle.std.proofs.Common.{◌≡◌, ◌≤◌, length, get_or, ap, sym, subst, ◌∙◌, arith}
use Rattle.std.specs.Prelude.{Option, ℕ, None, IfSome}
use Rattle.std.specs.Box.{boxed_slice_items}
use Rattle.std.proofs.lemmas.List.{get_or_read}
use Rattle.units.specs.Explicit.{explicit_at}
use Rattle.units.specs.declared.class.Class.{Class}
use Rattle.explicit.proofs.Holders.MatchedIsolates.{level-at_most}
use Rattle.explicit.proofs.levels.Explicit.at.Goals as goal

pub returns-clause-within : goal.returns-clause-within
returns-clause-within c = λ depth cs para h low inside.
    let n : length (boxed_slice_items c.self.inside.column) ≡ length c.args.self.now = ap length c.self.view_is in
    let read : c.index.result.now ≡ get_or (boxed_slice_items c.self.inside.column) c.args.p None =
    get_or_read (boxed_slice_items c.self.inside.column) c.args.p c.index.result.now (omega (
      arith,
      n,
      c.requires,
    )) c.index.ensures None in
    let found : c.get.result ≡ explicit_at depth cs para c.args.p = c.get.ensures ∙ read ∙
    ap (λ explicit. get_or explicit c.args.p None) c.self.view_is ∙ h.at c.args.p inside in
    let P : Option (ℕ × Class) → Type 0 = λ leveled. IfSome leveled (λ x. x.0 ≤ depth) in
    subst P (sym found) (level-at_most depth cs para c.args.p depth (omega arith) low)
