-- `of` takes over what the box owns.
use Rattle.std.proofs.Common.{◌≡◌, List, [], ◌∷◌, ◌++◌, refl, sym, ap, ◌∙◌, subst}
use mir.Syntax.{method}
use mir.Raw.{raw as bare}
use mir.Val.{Val, vptr, vstruct, of_list}
use base.Logic.{SProp, ent, emp, never, id⊢, fst∗}
use base.Fml.{ftrue, fsep, flft}
use base.Fraction.{full_share}
use prog.Wp.{WpFn}
use prog.Model.{Model}
use prog.Wired.{Wired}
use seplogic.Ra.Ura.{Ura}
use types.Logic.{Logic, sem}
use types.Kit.{‵, raw, ◌⊛◌, some, later, ◌$◌, ◌∵◌, !, qed, by, move, keep, drop, split, split3, join, fsplit, fjoin, fpick, pick, suffices, use0, use1, await, rewrite, feq_l}
use types.Run.{stop, fld, of_opd, no_more, and_then, returns, enter}
use types.ByLocal.{alloc_all, pass_all, free_all, look_at, get, get_in, sets, lands_as}
use types.Part.{agg, sub, whole}
use contract.Monad.{fact, fact_i}
use contract.BorrowLft.{◌⊑◌, ⊑_static}
use contract.Lifetimes.{Lfts}
use contract.Running.{Running, tables}
use denote.Exit.{yes}
use denote.RattleType.{RattleType, owns}
use denote.Signature.{types_at, plain}
use denote.Builtin.{RawPtr}
use denote.RawPtr.{Ptr, block_ptr, null_ptr, ptr_val, in_a_block}
use denote.Steps.{nothing, only, heard}
use denote.Param.{param, layout, layouts}
use denote.Param.Glue.{Met}
use denote.Param.NoDrop.{glues}
use denote.Struct.Tuple.{Tuple}
use denote.Triple.Carry.{AllWithin}
use denote.Triple.Clauses.{Lasts, lasts, at_exit}
use denote.Triple.Entry.{alive}
use denote.Triple.Spec.{triple_of}
use denote.Triple.Call.{calls_at}
use denote.Triple.Table.{widened}
use denote.Triple.Walked.{Stays, stay_dropped, walk_of, Fit}
use borrow.Fn.Glue.{glue_ps, glue_by}
use borrow.Fn.Impl.{Picks, via_longer}
use borrow.Fn.Kinds.{ended_of, stays, r_unit}
use borrow.Fn.Run.{Over}
use borrow.Fn.World.{World}
use Rattle.core.proofs.alloc.Calls.{Goes-blank, handle_tells}
use Rattle.core.proofs.atomic.Steps.{fm}
use Rattle.std.specs.Prelude.{Some}
use Rattle.std.specs.declared.alloc.Global.{Global}
use Rattle.std.specs.contracts.impls.GlobalAllocator.TheImpl.{ghosts, dict}
use Rattle.std.proofs.raw_atomic.Walks.{proved_at, leaves}
use Rattle.std_alloc.specs.Box.Ownership.{box_owns}
use Rattle.std_alloc.specs.contracts.boxed.Box as boxed
use Rattle.std_alloc.proofs.BoxSteps.Form as box
use Rattle.std_alloc.proofs.BoxSteps.Steps.{box_out, box_in}
use Rattle.std_alloc.specs.contracts.boxed.Box.into_raw_with_allocator as callee
use Rattle.std_alloc.proofs.boxed.Box.into_raw_with_allocator.Met.{met}
use Rattle.std_heap.proofs.GlobalAllocator.TheImpl.Met.{passed}
use Rattle.bidi_c.specs.contracts.bidi_c++contents++Contents+Destruct.drop as freed
use Rattle.bidi_c.proofs.bidi_c++contents++Contents+Destruct.drop.Kinds as kinds
use Rattle.bidi_c.proofs.bidi_c++contents++Contents+Destruct.drop.Reads as reads
use Rattle.bidi_c.proofs.bidi_c++contents++Contents+Destruct.drop.Symbol as symbol
use Rattle.bidi_c.proofs.bidi_c++contents++Contents+Destruct.drop.Met as dropped
use Rattle.bidi_c.proofs.Destruct++none.drop.Code as none
use Rattle.bidi_c.proofs.Handles.{R, Z, Rc, Rc_lemmas, Zc, Zc_lemmas, E, none_drops, contents_drops, both, some_good, handle_in}
use Rattle.bidi_c.specs.contracts.handle.Handle.of.{ended, clauses}
use Rattle.bidi_c.specs.contracts.handle.Handle.of.Key.{name as #self}
use Rattle.bidi_c.proofs.handle.Handle.of.Statement.{statement}
use Rattle.bidi_c.proofs.handle.Handle.of.Code as code

-- the contents can be dropped: their drop code has one lifetime, that of the constants, which never ends
contents_glue : {M : Type 1} (𝓤 : Ura M) (𝓛 : Logic 𝓤) (𝓜 : Model 𝓤 𝓛.H) (𝓡 : Running 𝓤 𝓛.H 𝓜) →
    Wired 𝓡.env symbol.code → Met 𝓛 𝓜 𝓡 𝓡.env Rc contents_drops
contents_glue {M} 𝓤 𝓛 𝓜 𝓡 wired =
    let En = ended_of 1 kinds.ps kinds.r in let k = method contents_drops 0 (layouts [] tt) in let w : World =
    record { M = M; 𝓤 = 𝓤; 𝓛 = 𝓛; 𝓜 = 𝓜; 𝓡 = 𝓡 } in
    let ever : Lfts 1 = ([], tt) in let picks : Picks 1 1 = ((0, tt), tt) in
    let released = triple_of 𝓛 freed.signature (freed.spec 𝓛 𝓜.mem 𝓡.returns) in
    glue_by Rc Rc_lemmas w contents_drops 𝓡.env (λ κs a. Lasts En ever a) (λ κs a. lasts En ever a) (λ κs a x ws.
    Fit En (stays kinds.ps) ever a ws × reads.Learnt ever a x (at_exit En ever a ws))
    (λ κs a. AllWithin 1 (κs.0, tt) (Rc.lives, tt) × Unit {0}) 1 picks (λ κs a h. ((h, tt), tt))
    (via_longer 𝓛 (Over 𝓛 𝓜 𝓡 𝓡.env) 1 (glue_ps Rc Rc_lemmas) r_unit (λ κs a. Lasts En ever a) (λ κs a.
    lasts En ever a) (λ κs a x ws. Fit En (stays kinds.ps) ever a ws × reads.Learnt ever a x (at_exit En ever a ws))
    (λ κs a. AllWithin 1 (κs.0, tt) (Rc.lives, tt) × Unit {0}) k 1 picks (λ κs. ever) (λ κs a.
    reads.Asked ever a) (λ κs a p. ((⊑_static κs.0, tt), tt))
    (λ κs bd within a vss qs. reads.known w 𝓡.env k (𝓡.env k) refl
    (widened 𝓤 𝓛.H released 𝓜 𝓡 𝓡.env (𝓡.env symbol.name) (𝓡.env k) (symbol.as_method 𝓡.env wired k refl)
    (dropped.met 𝓤 𝓛 𝓜 𝓡 wired))
    ((ever, qs, (⊑_static [], tt), a, vss), tt)))

pub of_spec : {M : Type 1} → statement M
unfolding none.code
of_spec {M} 𝓤 𝓛 𝓜 𝓡 wired =
    let H = 𝓛.H in let 𝓣 = tables 𝓤 H 𝓜 𝓡 𝓡.env in let c = clauses 𝓛 𝓜.mem 𝓡.returns in let fn = code.function in
    let Bd : RattleType = boxed.the_row R Z ghosts in let hs : Stays ended.signature.params ended.kept =
    (stay_dropped (plain (λ _. Bd)) ended.kept.0, tt) in
    let allocator = passed 𝓡.env (code.calls-std_heap::GlobalAllocator::allocate 𝓡.env wired)
    (code.calls-std_heap::GlobalAllocator::deallocate 𝓡.env wired)
    (code.calls-std_heap::GlobalAllocator::grow 𝓡.env wired)
    (code.calls-std_heap::GlobalAllocator::shrink 𝓡.env wired) M 𝓤 𝓛 𝓜 𝓡 in
    let glued = glues "bidi_c::Destruct++none::drop" 𝓡.env (code.calls-bidi_c::Destruct++none::drop 𝓡.env wired) Zc
    Zc_lemmas M 𝓤 𝓛 𝓜 𝓡 in
    let glue = contents_glue 𝓤 𝓛 𝓜 𝓡 (code.calls-bidi_c::bidi_c++contents++Contents+Destruct::drop 𝓡.env wired) in
    proved_at 𝓛 ended hs c 𝓜 𝓡 (
      Goes-blank 𝓛 0 (plain (λ _. Bd)) yes (λ κs x f. tt),
      tt,
    ) #self fn (code.unfolded 𝓤 H 𝓜 𝓡 wired) (λ z are.
    let v = z.0.3.0 in let a = v.alloc in let Post : Val → SProp 𝓤 = (walk_of 𝓛 ended hs c).post z in
    let Run : List Val → SProp 𝓤 = λ ws. WpFn 𝓤 H 𝓣.C 𝓣.Λ fn ws Post in
    let toks = ‵ (flft [] full_share) ⊛ ‵ (flft [] full_share) ⊛ ‵ ftrue in
    qed 𝓛 ((raw (alive 𝓛 ended.signature z.0.0 z.0.1) ⊛ ‵ (owns (types_at ended.signature.params z.0.0) z.0.3 z.0.4)) ∷
    ‵ ftrue ∷ []) ∵ move ! (1 ∷ []) $ drop ! $ split ! $ move ! (1 ∷ []) $ fsplit ! $
    box_out E ! v z.0.4.0 (λ b o h e ws fits. box_in E ! v b o v.value e refl $
    let w : Val = box.word E h b o in let typed = box.box_typed E h b o fits in let k =
    triple_of 𝓛 (callee.signature Rc Zc ghosts dict none_drops contents_drops)
    (callee.spec Rc Zc ghosts dict none_drops contents_drops 𝓛 𝓜.mem 𝓡.returns) in
    let y : k.Ghost = ((([], ([], tt)), (full_share, (full_share, tt)), tt, (v, tt), (w ∷ [], tt)), tt) in let Pair =
    Tuple (RawPtr ∷ param 1 Z ∷ []) in
    fjoin ! $ nothing ! $ use0 𝓛 (‵ (flft [] full_share)) (𝓛.lfts.lft-nil full_share) $ join ! $
    use0 𝓛 (‵ (flft [] full_share)) (𝓛.lfts.lft-nil full_share) $ join ! $ join ! $
    nothing ! $ use0 𝓛 (raw (fact 𝓤 ([] ⊑ Z.lives))) (fact_i 𝓤 ([] ⊑ Z.lives) (emp 𝓤) (⊑_static [])) $ join ! $
    use0 𝓛 (raw (fact 𝓤 ([] ⊑ R.lives))) (fact_i 𝓤 ([] ⊑ R.lives) (emp 𝓤) (⊑_static [])) $ join ! $
    move ! (1 ∷ 0 ∷ []) $ join ! $ use1 𝓛 (raw (k.pre y)) (id⊢ 𝓤 _) $
    suffices ! (Run (w ∷ [])) (subst (λ (us : List Val). ent 𝓤 (Run (w ∷ [])) (Run us)) (sym (λ i. ws i ++ []))
    (id⊢ 𝓤 (Run (w ∷ [])))) $
    enter ! 𝓣.C 𝓣.Λ fn (w ∷ []) Post $ alloc_all ! (λ l. pass_all ! refl (typed, tt) $
    sets ! (of_opd ! (get ! refl)) refl typed $
    calls_at ! (fm 𝓛 𝓜 𝓡) k (met 𝓤 𝓛 𝓜 𝓡 (code.calls-std_alloc::boxed::Box::into_raw_with_allocator 𝓡.env wired) Rc Zc
    Rc_lemmas Zc_lemmas ghosts dict none_drops contents_drops allocator glued glue) y
    (and_then ! (get ! refl) (no_more !)) (λ u.
    use1 𝓛 (later (some (λ (r : Ptr × Global).
    (toks ⊛ ‵ (Pair.own_val r (u ∷ []))) ⊛ some (λ (_ : (Unit {0} × (Unit {0} × Unit {0})) × Unit {0}).
    ‵ (fsep (fsep ftrue (fsep ftrue ftrue)) ftrue) ⊛
    (raw (fact 𝓤 (r.1 ≡ a)) ⊛ ‵ (box_owns (ghosts.dealloc_token a) R r.0 v.value)))))) (id⊢ 𝓤 _) $
    await ! tt $ pick ! (λ r. split ! $ move ! (1 ∷ []) $ pick ! (λ _. split3 ! $ drop ! $ heard ! (r.1 ≡ a) (λ ea.
    in_a_block ! r.0 (λ p. box_owns (ghosts.dealloc_token a) R p v.value)
    (fst∗ 𝓤 (never 𝓤) (sem 𝓛 (ghosts.dealloc_token a (bare (layout R)) null_ptr))) (λ b' o' e'.
    move ! (1 ∷ []) $ split ! $ move ! (1 ∷ []) $
    fpick ! (λ vss. fsplit ! $
    feq_l ! (λ eu. fsplit ! $
    feq_l ! (λ ep. fsplit ! $ rewrite ! 0 (λ (s : Global). ‵ (Z.own_val s vss.1.0)) ea refl $
    handle_tells E.al ! a vss.1.0 (λ h' eh fits'.
    let made = some_good b' o' h' fits' in
    lands_as ! (ap only (eu ∙
    (λ j. vstruct (of_list ((ep ∙ ap (λ (p : Ptr). ptr_val p ∷ []) e') j ++ (eh j ++ []))) ∷ []))) refl made $
    sets ! (of_opd ! (get_in ! (fld ! refl (stop !)) (sub ! 0 refl (whole !)))) refl (tt, tt) $
    sets ! (of_opd ! (get_in ! (fld ! refl (stop !)) (sub ! 1 refl (whole !)))) refl fits' $
    sets ! (of_opd ! (get ! refl)) refl (tt, tt) $
    sets ! (agg ! (and_then ! (get ! refl) (and_then ! (get ! refl) (no_more !)))) refl made $ move ! (3 ∷ 0 ∷ []) $
    handle_in ! b' o' h' a v.value $
    use0 𝓛 (raw (fact 𝓤 (Some v.value ≡ Some v.value))) (fact_i 𝓤 (Some v.value ≡ Some v.value) (emp 𝓤) refl) $
    nothing ! $ nothing ! $ fjoin ! $
    returns ! (look_at ! 0 refl) $ free_all ! refl $ keep ! (5 ∷ 0 ∷ 2 ∷ 1 ∷ []) $
    by ! (leaves 𝓛 ended hs c z (both (vptr b' o') h') (record {
      at = block_ptr b' o';
      alloc = a;
      value =
          Some v.value;
    }) (tt, tt) (tt, tt))))))))))))))
