use Rattle.std.specs.Prelude.{Option, Some, None, IfSome, ◌<◌, is_some, unwrap_or}
use Rattle.std.proofs.Common.{arith, ap, ◌-◌, ◌≡◌, ◌∙◌, ℕ, sym, subst}
use Rattle.std.proofs.lemmas.Bool.{cond-true, cond-false}
use Rattle.units.specs.Runs.{level_of, remains, size_of, successor}
use Rattle.sequences.specs.BackwardPasses.{AreMarked}
use Rattle.sequences.proofs.Backward.{back_known, back_step, end_is, removed_mark}
use Rattle.sequences.proofs.Marks.{marked_all}
use Rattle.sequences.proofs.linking.link.Goals as goal

pub go_on-link-requires-clause-known : goal.go_on-link-requires-clause-known
go_on-link-requires-clause-known g c =
    back_known c.args.t.now c.loop-p.p c.loop-p.following c.loop-p.links c.loop-p.ends c.loop-p.joined
    c.loop-p.invariant.0 c.loop-p.invariant.1 (c.loop-p.p - 1) (omega arith)

pub link_level-p-requires-clause-level : goal.link_level-p-requires-clause-level
link_level-p-requires-clause-level g c = sym c.level-level.ensures.value ∙ c.in-Some.is

pub link_level-p-requires-clause-end : goal.link_level-p-requires-clause-end
link_level-p-requires-clause-end g c =
    end_is c.loop-p.invariant.0 (c.loop-p.p - 1) (omega arith) c.len-p.ensures.leveled c.go_on-link.result.link
    c.go_on-link.ensures.link c.go_on-link.result.end c.go_on-link.ensures.end

pub link_level-p-requires-clause-follow : goal.link_level-p-requires-clause-follow
link_level-p-requires-clause-follow g c =
    let t = c.args.t.now in
    let p = c.loop-p.p - 1 in
    let here : level_of t p ≡ Some c.in-Some.level = sym c.level-level.ensures.value ∙ c.in-Some.is in
    let link : Option ℕ = c.go_on-link.result.link in
    let later : IfSome link (λ q. (p < q) × (q < size_of t)) = c.go_on-link.ensures.later in
    rw (
      c.link_to.ensures,
      c.mark.ensures,
      removed_mark c.loop-p.joined p (size_of t) link later,
    ) (back_step c.loop-p.invariant.0 p (omega arith) c.len-p.ensures.leveled c.go_on-link.result.link
    c.go_on-link.ensures.link
    c.go_on-link.result.end c.go_on-link.ensures.end _ (sym (cond-true (remains t p) _ _ (ap is_some here))))

pub loop-p-preserved-in-Some : goal.loop-p-preserved-in-Some
loop-p-preserved-in-Some g c =
    let t = c.args.t.now in (
      c.link_level-p.ensures.follow,
      (sym (ap (λ (o : Option ℕ). unwrap_or o t.base) c.link_level-p.ensures.level), c.link_level-p.ensures.end),
      omega (arith, c.link_level-p.ensures.steps),
    )

pub loop-p-preserved : goal.loop-p-preserved
loop-p-preserved g c =
    let t = c.args.t.now in
    let p = c.loop-p.p - 1 in
    let here : level_of t p ≡ None = sym c.level-level.ensures.value ∙ c.in_default.is in
    let link : Option ℕ = c.go_on-link.result.link in
    let later : IfSome link (λ q. (p < q) × (q < size_of t)) = c.go_on-link.ensures.later in (
      rw (
        c.link_to.ensures,
        c.mark.ensures,
        removed_mark c.loop-p.joined p (size_of t) link later,
      ) (back_step c.loop-p.invariant.0 p
          (omega arith) c.len-p.ensures.leveled c.go_on-link.result.link c.go_on-link.ensures.link
          c.go_on-link.result.end c.go_on-link.ensures.end _ (sym (cond-false (remains t p) _ _ (ap is_some here)))),
      c.loop-p.invariant.1,
      omega arith,
    )

pub returns-clause-marked : goal.returns-clause-marked
returns-clause-marked g c =
    let t = c.args.t.now in
    let zero : c.loop-p.p ≡ 0 = omega arith in
    let P : ℕ → Type 0 = λ k. AreMarked (successor t) (size_of t) k c.loop-p.joined in
    marked_all (successor t) (size_of t) c.loop-p.joined (subst P zero c.loop-p.invariant.0.marks_are)
