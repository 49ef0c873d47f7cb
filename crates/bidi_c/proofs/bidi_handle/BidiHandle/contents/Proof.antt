-- `contents` borrows what the handle owns, if it owns something, and the handle follows it.
use Rattle.std.proofs.Common.{◌≡◌, ℕ, List, [], ◌∷◌, refl, sym, ap, true}
use seplogic.Ra.Ura.{Ura}
use lib.Dec.{lit<}
use mir.Raw.{raw as bare}
use mir.Syntax.{Body, cond, skip, named}
use mir.Val.{Val, vptr, vbool, of_list}
use base.Fraction.{full_share}
use base.Fml.{Lft, GName, Share, Fml, ftrue, fsep, flft, fobs, fres}
use base.Logic.{SProp, ent, sep}
use prog.Wp.{Wp, after_seq, at_return}
use types.Logic.{Logic, sem}
use types.Kit.{‵, raw, ◌⊛◌, some, later, at_ret, any_q, ◌$◌, ◌∵◌, !, qed, by, done, move, keep, drop, split, fsplit, fsplit3, fjoin, fpack, join, pick, suffices, use0, use1, await, rewrite, group, frame}
use types.Match.{live}
use types.Part.{whole, sub, look_in, agg}
use types.Run.{stop, fld, load, lit, of_opd, and_then, no_more, addr, first, blocks, branches, exec, returns, enter}
use types.ByLocal.{alloc_all, pass_all, free_all, look_at, get, through, sets, sets_last, env}
use prog.Memory.{Memory}
use prog.Routine.{Routine}
use contract.Monad.{Fun}
use contract.Running.{tables}
use denote.Exit.{no}
use denote.Follow.{Part, follows, follows_by, lends_Part}
use denote.Memory.{lone, mem, cell_at, part_at, part_of}
use denote.RattleType.{RattleType, owns}
use denote.RawPtr.{Ptr, block_ptr}
use denote.Ref.{MutRef, MutBor, mut_vals, mut_Tells}
use denote.Signature.{plain, mut_ref_to}
use denote.Steps.{nothing, only, closes}
use denote.Triple.Walked.{Stays, stay_dropped, walk_of, says, ends_at, Goes-spent_ref}
use Rattle.core.proofs.alloc.Shapes.{after, head}
use Rattle.std.proofs.raw_atomic.Walks.{proved}
use Rattle.std.specs.Prelude.{Some, None}
use Rattle.core.specs.contracts.option.Option as option
use Rattle.std.specs.contracts.impls.GlobalAllocator.TheImpl.{ghosts}
use Rattle.std_alloc.proofs.VecSteps.Element.{Some-of, none_of}
use Rattle.bidi_c.specs.BorrowedContents.{holding}
use Rattle.bidi_c.proofs.Handles.{R, Z, Hd, Bh, both, by_some, none_by, is_true, handle_in, handle_out, bidi_in, bidi_opens}
use Rattle.bidi_c.specs.contracts.bidi_handle.BidiHandle.contents.{ended, clauses}
use Rattle.bidi_c.specs.contracts.bidi_handle.BidiHandle.contents.Key.{name as #self}
use Rattle.bidi_c.proofs.bidi_handle.BidiHandle.contents.Statement.{statement}
use Rattle.bidi_c.proofs.bidi_handle.BidiHandle.contents.Code as code

-- the body that an `if` runs if its test is true
abbrev arm : Body → Body
arm (cond test body other) = body
arm _ = skip

abbrev stayed : Stays ended.signature.params ended.kept
stayed = (stay_dropped (mut_ref_to (0 ∷ []) tt (plain (λ _. Bh))) no, tt)

module _ {M : Type 1} {𝓤 : Ura M} (𝓛 : Logic 𝓤) (at_mem : Memory → SProp 𝓤) (run : Routine →
    Fun 𝓤) (κ : Lft) (q : Share) (rb ro : ℕ) (γ : GName) (d : Bh.Denot) where
  open 𝓛 use {A}

  abbrev bound : (walk_of 𝓛 ended stayed (clauses 𝓛 at_mem run)).Ghost
  bound = (
    ((κ, tt), (q, tt), tt, (record { ref_ptr = (rb, ro); ghost_name = γ; now = d }, tt), (vptr rb ro ∷ [], tt)),
    tt,
  )

  abbrev Post : Val → SProp 𝓤
  Post = (walk_of 𝓛 ended stayed (clauses 𝓛 at_mem run)).post bound

  abbrev BorrowedContents : RattleType
  BorrowedContents = MutRef (named 0) κ R

  empty_exits : d.handle.value ≡ None →
      ent 𝓤 (sep 𝓤 (A.obs γ (Bh.coded.code d)) (A.lft κ q)) (Post (live 0 (of_list [])))
  unfolding follows_by
  empty_exits none =
      qed 𝓛 (‵ (fobs γ (Bh.coded.code d)) ∷ ‵ (flft κ q) ∷ []) ∵ use1 𝓛 (‵ (fres γ (Bh.coded.code d)))
      (𝓛.names.obs-res γ (Bh.coded.code d)) $ move ! (1 ∷ []) $
      use0 𝓛 (‵ ((option.the_row BorrowedContents).own_val None (live 0 (of_list []) ∷ [])))
      (none_of 𝓛 BorrowedContents) $
      suffices ! _ (ends_at 𝓛 ended stayed (clauses 𝓛 at_mem run) bound (live 0 (of_list [])) None (tt, tt) (tt, tt)) $
      nothing ! $ nothing ! $ fjoin ! $ join ! $ nothing ! $ move ! (2 ∷ 0 ∷ []) $ join ! $ join ! $ frame ! $
      says ! none $ done !

  module _ (x : R.Denot) (is : d.handle.value ≡ Some x) (b o : ℕ) (h : Val) where
    abbrev words : Val
    words = both (both (vptr b o) h) (vbool true)

    -- all of the handle but its contents
    abbrev Rest : Fml
    Rest = fsep (fsep (ghosts.dealloc_token d.handle.alloc (bare (lone R.mir)) (block_ptr b o))
        (Z.own_val d.handle.alloc (h ∷ []))) (cell_at full_share Bh.mir (words ∷ []) rb ro)

    back : d.handle.at ≡ block_ptr b o → (w : R.Denot) →
        ent 𝓤 (sep 𝓤 (sem 𝓛 ((mem R).own_at w b o)) (sem 𝓛 Rest)) (sem 𝓛 ((mem Bh).own_at (holding d w) rb ro))
    unfolding part_of
    back at_b w =
        qed 𝓛 (‵ (part_at R full_share w b o) ∷ ‵ Rest ∷ []) ∵ move ! (1 ∷ []) $ fsplit ! $ fsplit ! $
        move ! (3 ∷ 0 ∷ []) $ fjoin ! $ handle_in ! b o h d.handle.alloc w $
        rewrite ! 0 (λ (p : Ptr).
        ‵ (Hd.own_val (record { at = p; alloc = d.handle.alloc; value = Some w }) (both (vptr b o) h ∷ [])))
        (sym at_b) refl $
        bidi_in ! (holding d w) (both (vptr b o) h) $ move ! (1 ∷ 0 ∷ []) $ fjoin ! $
        fpack ! (List Val) (λ us. fsep (cell_at full_share Bh.mir us rb ro) (Bh.own_val (holding d w) us))
        (words ∷ []) $ done !

    exits : (at_b : d.handle.at ≡ block_ptr b o) (γ' : GName) →
        ent 𝓤 (Part 𝓛 Bh R (holding d) (named 0) κ q rb ro b o γ (sem 𝓛 Rest) (back at_b) x γ')
        (Post (live 1 (of_list (vptr b o ∷ []))))
    unfolding follows_by
    exits at_b γ' =
        let r : MutBor R.Denot = record { ref_ptr = (b, o); ghost_name = γ'; now = x } in let v : Val = vptr b o in
        qed 𝓛 (‵ (BorrowedContents.own_val r (v ∷ [])) ∷ ‵ (flft κ q) ∷ ‵ (follows Bh R γ γ' (holding d)) ∷ []) ∵
        use1 𝓛 (‵ ((option.the_row BorrowedContents).own_val (Some r) (live 1 (of_list (v ∷ [])) ∷ [])))
        (Some-of 𝓛 BorrowedContents r v) $
        suffices ! _ (ends_at 𝓛 ended stayed (clauses 𝓛 at_mem run) bound (live 1 (of_list (v ∷ []))) (Some r) (
          tt,
          tt,
        ) (tt, tt)) $
        nothing ! $ nothing ! $ fjoin ! $ join ! $ nothing ! $ move ! (2 ∷ 0 ∷ []) $ join ! $ join ! $ frame ! $
        says ! is $ done !

pub contents_spec : {M : Type 1} → statement M
contents_spec 𝓤 𝓛 𝓜 𝓡 wired =
    let H = 𝓛.H in let c = clauses 𝓛 𝓜.mem 𝓡.returns in let W = walk_of 𝓛 ended stayed c in let 𝓣 =
    tables 𝓤 H 𝓜 𝓡 𝓡.env in let fn = code.function in
    proved 𝓛 ended stayed c 𝓜 𝓡 (
      Goes-spent_ref 𝓛 1 (0 ∷ []) tt (plain (λ _. Bh)),
      tt,
    ) #self fn (code.unfolded 𝓤 H 𝓜 𝓡 wired)
    (λ κs. (mut_vals, tt)) (λ κs. (mut_Tells (named 0) κs.0 Bh, tt)) (λ κs qs bounds a g are.
    let κ : Lft = κs.0 in let q : Share = qs.0 in let rb : ℕ = a.0.ref_ptr.0 in let ro : ℕ = a.0.ref_ptr.1 in
    let γ : GName = a.0.ghost_name in let d : Bh.Denot = a.0.now in let vs : List Val = vptr rb ro ∷ [] in
    let y : W.Ghost = ((κs, qs, bounds, a, (vs, tt)), tt) in
    qed 𝓛 (((‵ (flft κ q) ⊛ ‵ ftrue) ⊛ ‵ (owns (MutRef (named 0) κ Bh ∷ []) a (vs, tt))) ∷ ‵ ftrue ∷ []) ∵
    move ! (1 ∷ []) $ drop ! $ split ! $
    enter ! 𝓣.C 𝓣.Λ fn vs (W.post y) $ alloc_all ! (λ l. pass_all ! refl ((tt, tt), tt) $ let Ev = env fn.locals l in
    let Rest-of = any_q (after_seq 𝓤 H (Wp 𝓤 H 𝓣.C 𝓣.Λ Ev (after 2 fn.body) (at_return 𝓤 H Ev (W.post y)))
    (at_return 𝓤 H Ev (W.post y))) in
    move ! (1 ∷ []) $ fsplit ! $ fsplit3 ! $ drop ! $ move ! (3 ∷ []) $ split ! $ move ! (2 ∷ 3 ∷ 0 ∷ []) $
    bidi_opens ! tt d rb ro (λ v.
    sets ! (of_opd ! (load ! (through ! refl (fld ! refl (stop !))) (look_in ! 1 (sub ! 1 refl (whole !))))) refl (
      tt,
      tt,
    ) $
    first ! $ branches ! (get ! refl)
    (λ made. let yes = is_true d.made made in
    by_some d.handle.value (d.made_iff_some.0 yes) (λ x is.
    handle_out ! d.handle x is (v ∷ []) (λ b o h at_b ws fits.
    rewrite ! 2 (λ (u : Val). ‵ (cell_at full_share Bh.mir (both u (vbool d.made) ∷ []) rb ro)) (ap only ws) refl $
    rewrite ! 2 (λ (m : _). ‵ (cell_at full_share Bh.mir (both (both (vptr b o) h) (vbool m) ∷ []) rb ro)) yes refl $
    fsplit ! $ move ! (1 ∷ 2 ∷ []) $ fjoin ! $ move ! (1 ∷ []) $ first ! $ blocks ! $
    sets ! (of_opd ! (load ! (through ! refl (fld ! refl (fld ! refl (stop !))))
    (look_in ! 2 (sub ! 0 refl (sub ! 0 refl (whole !)))))) refl (tt, tt) $
    sets ! (of_opd ! (get ! refl)) refl (tt, tt) $ sets_last ! (addr ! (through ! refl (stop !))) refl (tt, tt) $
    exec ! 𝓣.C 𝓣.Λ Ev (after 1 (arm (head (after 1 fn.body)))) Rest-of $ sets ! (of_opd ! (get ! refl)) refl (tt, tt) $
    sets_last ! (agg ! (and_then ! (lit ! tt) (and_then ! (get ! refl) (no_more !)))) refl (
      tt,
      (record { fits = lit< tt }, (tt, tt)),
    ) $
    exec ! 𝓣.C 𝓣.Λ Ev (after 2 fn.body) (at_ret Ev (W.post y)) $
    sets ! (of_opd ! (get ! refl)) refl (tt, (record { fits = lit< tt }, (tt, tt))) $
    move ! (1 ∷ 2 ∷ []) $ fjoin ! $ move ! (2 ∷ 3 ∷ 4 ∷ 1 ∷ 0 ∷ []) $ group ! 5 $
    let rest = sem 𝓛 (Rest 𝓛 𝓜.mem 𝓡.returns κ q rb ro γ d x is b o h) in let to =
    back 𝓛 𝓜.mem 𝓡.returns κ q rb ro γ d x is b o h at_b in
    use1 𝓛 (later (some (λ (γ' : GName). raw (Part 𝓛 Bh R (holding d) (named 0) κ q rb ro b o γ rest to x γ'))))
    (lends_Part 𝓛 Bh R (holding d) (named 0) κ q rb ro b o γ rest to (Bh.coded.code d) (Bh.coded.code d) x) $
    await ! tt $ pick ! (λ γ'.
    returns ! (look_at ! 0 refl) $ free_all ! refl $ keep ! (0 ∷ []) $
    by ! (exits 𝓛 𝓜.mem 𝓡.returns κ q rb ro γ d x is b o h at_b γ')))))
    (λ unmade. sets_last ! (agg ! (and_then ! (lit ! tt) (no_more !))) refl (tt, (record { fits = lit< tt }, tt)) $
    exec ! 𝓣.C 𝓣.Λ Ev (after 2 fn.body) (at_ret Ev (W.post y)) $ bidi_in ! d v $ move ! (1 ∷ 0 ∷ []) $
    closes ! tt Bh d (both v (vbool d.made) ∷ []) rb ro $
    sets ! (of_opd ! (get ! refl)) refl (tt, (record { fits = lit< tt }, tt)) $
    returns ! (look_at ! 0 refl) $ free_all ! refl $ keep ! (0 ∷ 2 ∷ []) $
    by ! (empty_exits 𝓛 𝓜.mem 𝓡.returns κ q rb ro γ d (none_by d.handle.value d.made unmade d.made_iff_some.1))))))
