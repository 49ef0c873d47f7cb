-- The machine values of a `Handle` and of a `BidiHandle`. Assumes `Logic`.
use Rattle.std.proofs.Common.{◌≡◌, ℕ, List, [], ◌∷◌, ◌++◌, refl, sym, subst, Bool, true, false, true≢false}
use lib.Dec.{T, lit<}
use seplogic.Ra.Ura.{Ura}
use mir.Raw.{raw as bare}
use mir.Syntax.{Dict, impl, tnil, tcons, dnil}
use mathlib.Core.Bool.{not}
use mir.Val.{Val, vptr, vnull, vbool, vstruct, vcons, vnil, of_list, has_ty}
use base.Logic.{never, fst∗}
use base.Fml.{Lft, GName, Share, flft, fobs, fauth, fbor, fobor}
use base.Fraction.{full_share}
use types.Logic.{Logic, sem}
use types.SemTy.{Body as Borrowed}
use types.Kit.{Item, Goal, Soaks, Seq, Step, step, ‵, ◌$◌, move, drop, fsplit, fjoin, fpick, fpack, rewrite, feq_i, feq_l}
use denote.RattleType.{RattleType, Valss, flat}
use denote.Memory.{lone, mem, cell_at}
use denote.RawPtr.{Ptr, block_ptr, null_ptr, ptr_val, in_a_block}
use denote.Steps.{nothing, opens}
use denote.Exit.{no}
use denote.Param.{layout, arg}
use denote.Param.Laws.{Laws, arg_laws}
use denote.Struct.Struct.{within}
use denote.Struct.Owning.{shape, fields, to}
use denote.Struct.Declared as declared
use Rattle.core.proofs.alloc.Calls.{handle_tells}
use Rattle.std_alloc.proofs.BoxSteps.Form.{Bx}
use Rattle.std_alloc.proofs.ResultValues.{and_tt}
use Rattle.core.proofs.cell.Inside.{Good}
use Rattle.std.specs.Prelude.{Option, Some, None, IsSome}
use Rattle.std.specs.declared.alloc.Global.{Global}
use Rattle.std.specs.contracts.alloc.Global as heap
use Rattle.std.proofs.alloc.Global.TheLaws as heap_laws
use Rattle.std.specs.contracts.impls.GlobalAllocator.TheImpl.{ghosts, dict}
use Rattle.std_alloc.specs.Box.Ownership.{box_owns}
use Rattle.bidi_c.specs.Owned.{owned}
use Rattle.bidi_c.specs.contracts.contents.Contents as inner
use Rattle.bidi_c.proofs.contents.Contents.TheLaws as inner_lemmas
use Rattle.bidi_c.specs.contracts.handle.Handle as outer
use Rattle.bidi_c.specs.contracts.bidi_handle.BidiHandle as bidi

abbrev pub R : RattleType
R = inner.the_row

abbrev pub Z : RattleType
Z = heap.the_row

abbrev pub Hd : RattleType
Hd = outer.the_row

abbrev pub Bh : RattleType
Bh = bidi.the_row

abbrev pub both : Val → Val → Val
both v w = vstruct (vcons v (vcons w vnil))

-- the contents of a handle and its allocator, as a call passes them: with their layouts
abbrev pub Rc : RattleType
Rc = arg (bare (layout R)) no R

abbrev pub Rc_lemmas : Laws Rc
Rc_lemmas = arg_laws (bare (layout R)) no R inner_lemmas.the_row_laws refl

abbrev pub Zc : RattleType
Zc = arg (bare (layout Z)) no Z

abbrev pub Zc_lemmas : Laws Zc
Zc_lemmas = arg_laws (bare (layout Z)) no Z heap_laws.the_row_laws refl

-- how the allocator and the contents are dropped
abbrev pub none_drops : Dict
none_drops = impl ("bidi_c::Destruct++none::drop" ∷ []) (tcons (layout Zc) tnil) dnil

abbrev pub contents_drops : Dict
contents_drops = impl ("bidi_c::bidi_c++contents++Contents+Destruct::drop" ∷ []) tnil dnil

-- the box of the contents
abbrev pub E : Bx
E = record {
  row = R;
  laws = inner_lemmas.the_row_laws;
  al = record {
    row = Z;
    laws = heap_laws.the_row_laws;
    g =
        ghosts;
    d = dict;
    drops = none_drops;
  };
}

pub by_some : {X : Type 0} {Y : Type 1} (o : Option X) → IsSome o → ((x : X) → o ≡ Some x → Y) → Y
by_some None i k = absurd (true≢false (sym i))
by_some (Some x) i k = k x refl

pub none_by : {X : Type 0} (o : Option X) (made : Bool) → T (not made) → (IsSome o → made ≡ true) → o ≡ None
none_by None made t f = refl
none_by (Some x) true t f = absurd t
none_by (Some x) false t f = absurd (true≢false (sym (f refl)))

pub is_true : (b : Bool) → T b → b ≡ true
is_true true t = refl
is_true false t = absurd t

pub none_good : (h : Val) → Good (layout Z) h → Good (layout Hd) (both vnull h)
none_good h fits = (and_tt (has_ty (layout Z) h) fits.0, (record { fits = lit< tt }, (fits.1, tt)))

pub some_good : (b o : ℕ) (h : Val) → Good (layout Z) h → Good (layout Hd) (both (vptr b o) h)
some_good b o h fits = (and_tt (has_ty (layout Z) h) fits.0, (tt, (fits.1, tt)))

module _ {M : Type 1} {𝓤 : Ura M} {𝓛 : Logic 𝓤} {K : Type 0} {Γ : List (Item 𝓤)} {G : Goal 𝓤 𝓛.H} where
  pub handle_out : K → (d : Hd.Denot) (x : R.Denot) → d.value ≡ Some x → (vs : List Val)
      → ((b o : ℕ) (h : Val) → d.at ≡ block_ptr b o → vs ≡ both (vptr b o) h ∷ [] → Good (layout Z) h →
      Seq K 𝓛 (‵ (box_owns (ghosts.dealloc_token d.alloc) R (block_ptr b o) x) ∷ ‵ (Z.own_val d.alloc (h ∷ [])) ∷
      Γ) G)
      → Seq K 𝓛 (‵ (Hd.own_val d vs) ∷ Γ) G
  handle_out t d x is vs k =
      fsplit t $ fpick t (λ vss. fsplit t $
      feq_l t (λ ev. fsplit t $
      feq_l t (λ ep. fsplit t $ handle_tells E.al t d.alloc vss.1.0 (λ h ea fits. move t (1 ∷ []) $ drop t $
      move t (1 ∷ []) $
      rewrite t 0 (λ (v : Option R.Denot). ‵ (owned R d.alloc d.at v)) is refl $
      in_a_block t d.at (λ p. box_owns (ghosts.dealloc_token d.alloc) R p x)
      (fst∗ 𝓤 (never 𝓤) (sem 𝓛 (ghosts.dealloc_token d.alloc (bare (lone R.mir)) null_ptr))) (λ b o e. k b o h e
      (subst (λ (p : Ptr). vs ≡ vstruct (of_list (ptr_val p ∷ h ∷ [])) ∷ []) e
      (subst (λ (ws : List Val). vs ≡ vstruct (of_list (ptr_val d.at ∷ (ws ++ []))) ∷ []) ea (subst (λ (ps : List Val).
      vs ≡ vstruct (of_list (ps ++ (vss.1.0 ++ []))) ∷ []) ep ev))) fits)))))

  pub handle_in : K → (b o : ℕ) (h : Val) (a : Global) (x : R.Denot)
      → Step K 𝓛 (‵ (Hd.own_val (record { at = block_ptr b o; alloc = a; value = Some x }) (both (vptr b o) h ∷ [])) ∷
      Γ) G (‵ (box_owns (ghosts.dealloc_token a) R (block_ptr b o) x) ∷ ‵ (Z.own_val a (h ∷ [])) ∷ Γ) G
  handle_in t b o h a x = step (λ s. let v : Val = both (vptr b o) h in
      nothing t $ move t (2 ∷ 0 ∷ []) $ fjoin t $ feq_i t (List Val) (vptr b o ∷ []) (vptr b o ∷ []) refl $ fjoin t $
      feq_i t (List Val) (v ∷ []) (v ∷ []) refl $ fjoin t $
      fpack t (Valss (fields outer.the_type)) (within (shape outer.the_type) (to outer.the_type (record {
        at =
            block_ptr b o;
        alloc = a;
        value = Some x;
      })) (v ∷ [])) (vptr b o ∷ [], (h ∷ [], tt)) $ fjoin t $ s)

  pub handle_none : K → (h : Val) (a : Global)
      → Step K 𝓛 (‵ (Hd.own_val (record { at = null_ptr; alloc = a; value = None }) (both vnull h ∷ [])) ∷ Γ) G
      (‵ (Z.own_val a (h ∷ [])) ∷ Γ) G
  handle_none t h a = step (λ s. let v : Val = both vnull h in
      nothing t $ nothing t $ move t (2 ∷ 0 ∷ []) $ fjoin t $ feq_i t (List Val) (vnull ∷ []) (vnull ∷ []) refl $
      fjoin t $ feq_i t (List Val) (v ∷ []) (v ∷ []) refl $ fjoin t $
      fpack t (Valss (fields outer.the_type)) (within (shape outer.the_type) (to outer.the_type (record {
        at = null_ptr;
        alloc = a;
        value = None;
      })) (v ∷ [])) (vnull ∷ [], (h ∷ [], tt)) $ fjoin t $ s)

module _ {M : Type 1} {𝓤 : Ura M} {𝓛 : Logic 𝓤} {K : Type 0} {Γ : List (Item 𝓤)} {G : Goal 𝓤 𝓛.H} where
  -- the words of the pointer's owner are one value
  handle_word : K → (d : Hd.Denot) (vs : List Val) → ((v : Val) → vs ≡ v ∷ [] → Seq K 𝓛 (‵ (Hd.own_val d vs) ∷ Γ) G) →
      Seq K 𝓛 (‵ (Hd.own_val d vs) ∷ Γ) G
  handle_word t d vs k =
      fsplit t $ fpick t (λ vss. fsplit t $
      feq_l t (λ ev. let v : Val = vstruct (of_list (flat (fields outer.the_type) vss)) in
      feq_i t (List Val) vs (v ∷ []) ev $ fjoin t $
      fpack t (Valss (fields outer.the_type)) (within (shape outer.the_type) (to outer.the_type d) vs) vss $
      fjoin t $ k v ev))

  -- a handle is made of its pointer's owner and its flag
  pub bidi_in : K → (d : Bh.Denot) (v : Val)
      → Step K 𝓛 (‵ (Bh.own_val d (both v (vbool d.made) ∷ [])) ∷ Γ) G (‵ (Hd.own_val d.handle (v ∷ [])) ∷ Γ) G
  bidi_in t d v = step (λ s. let w : Val = both v (vbool d.made) in
      nothing t $ feq_i t (List Val) (vbool d.made ∷ []) (vbool d.made ∷ []) refl $ fjoin t $ move t (1 ∷ 0 ∷ []) $
      fjoin t $ feq_i t (List Val) (w ∷ []) (w ∷ []) refl $ fjoin t $
      fpack t (Valss (declared.fields bidi.the_type)) (within (declared.shape bidi.the_type) (bidi.the_type.to d)
      (w ∷ [])) (v ∷ [], (vbool d.made ∷ [], tt)) $ s)

module _ {M : Type 1} {𝓤 : Ura M} {𝓛 : Logic 𝓤} {K : Type 0} {Γ : List (Item 𝓤)} {G : Goal 𝓤 𝓛.H} where
  -- opens a handle: gives the pointer's owner, the handle's words, the open borrow, and what is observed of it, twice
  pub bidi_opens : K → Soaks G → {κ : Lft} {q : Share} {γ : GName} (d : Bh.Denot) (rb ro : ℕ)
      → ((v : Val) → Seq K 𝓛 (‵ (Hd.own_val d.handle (v ∷ [])) ∷
      ‵ (cell_at full_share Bh.mir (both v (vbool d.made) ∷ []) rb ro)
      ∷ ‵ (fobor κ q (Borrowed (mem Bh) rb ro γ)) ∷ ‵ (fobs γ (Bh.coded.code d)) ∷ ‵ (fauth γ (Bh.coded.code d)) ∷ Γ) G)
      → Seq K 𝓛 (‵ (fobs γ (Bh.coded.code d)) ∷ ‵ (fbor κ (Borrowed (mem Bh) rb ro γ)) ∷ ‵ (flft κ q) ∷ Γ) G
  bidi_opens t z d rb ro k =
      opens t z Bh {h = d} rb ro (λ vs. move t (1 ∷ []) $
      fpick t (λ vss. fsplit t $ feq_l t (λ ev. fsplit t $ handle_word t d.handle vss.0 (λ v ew.
      move t (1 ∷ []) $ fsplit t $
      feq_l t (λ em. drop t $ rewrite t 0 (λ (us : List Val). ‵ (Hd.own_val d.handle us)) ew refl $
      rewrite t 1 (λ (us : List Val). ‵ (cell_at full_share Bh.mir us rb ro))
      (subst (λ (ws : List Val). vs ≡ vstruct (of_list (ws ++ (vbool d.made ∷ []))) ∷ []) ew (subst (λ (ms : List Val).
      vs ≡ vstruct (of_list (vss.0 ++ (ms ++ []))) ∷ []) em ev)) refl $ k v)))))
