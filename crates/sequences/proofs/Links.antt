-- Following links passes each position and then the rest, in rising order.
use Rattle.std.specs.Prelude.{Option, ℕ, zero, suc, ◌+◌, ◌<◌, ◌≤◌, ◌≡◌, List, [], ◌∷◌, ◌++◌, length, Some, None, IfSome, slice_index, slice_get, refl}
use Rattle.std.proofs.Common.{arith, ap, sym, ◌∙◌, subst, append_assoc, inl, inr, set, take}
use Rattle.std.proofs.lemmas.Bool.{cases_eq, cases_lt}
use Rattle.std.proofs.lemmas.List.{length-append, take_more_set}
use Rattle.std.proofs.lemmas.Option.{IfSome_then}
use Rattle.units.specs.Positions.{positions_from}
use Rattle.units.specs.Runs.{followed}
use Rattle.units.proofs.Positions.{length-positions_from}
use Rattle.sequences.specs.Blocks.{LeadOn}
use Rattle.sequences.specs.Links.{link_at, linked, IsForward, IsLinkedStretch, LinksForward, ArePositions}

-- each position is at least low and below high, in rising order
abbrev pub IsRising : ℕ → ℕ → List ℕ → Type 0
IsRising low high [] = Unit {0}
IsRising low high (p ∷ ps) = (low ≤ p) × (p < high) × IsRising (p + 1) high ps

rising_within : (low high : ℕ) (ps : List ℕ) → IsRising low high ps → (k : ℕ) → k < length ps →
    (low ≤ slice_index ps k) × (slice_index ps k < high)
rising_within low high [] r k l = absurd (omega arith)
rising_within low high (p ∷ ps) r zero l = (r.0, r.1)
rising_within low high (p ∷ ps) r (suc k) l = grind (arith, rising_within (p + 1) high ps r.2 k)

rising_order : (low high : ℕ) (ps : List ℕ) → IsRising low high ps → (j k : ℕ) → j < k → k < length ps →
    slice_index ps j < slice_index ps k
rising_order low high [] r j k h l = absurd (omega arith)
rising_order low high (p ∷ ps) r j zero h l = absurd (omega arith)
rising_order low high (p ∷ ps) r zero (suc k) h l =
    let w = rising_within (p + 1) high ps r.2 k (omega arith) in omega (arith, w.0)
rising_order low high (p ∷ ps) r (suc j) (suc k) h l = rising_order (p + 1) high ps r.2 j k (omega arith) (omega arith)

pub rising_positions : (high : ℕ) (ps : List ℕ) → IsRising 0 high ps → ArePositions ps high
rising_positions high ps r = record {
  within = λ k l. (rising_within 0 high ps r k l).1;
  rising = rising_order 0 high ps r;
}

-- there are enough steps for the positions from here on
abbrev pub HasSteps : ℕ → ℕ → Option ℕ → Type 0
HasSteps end steps at = IfSome at (λ p. (p < end) × (end ≤ p + steps))

pub followed-none : (next : ℕ → Option ℕ) (n : ℕ) → followed next n None ≡ []
followed-none next zero = refl
followed-none next (suc n) = refl

followed-first : (next : ℕ → Option ℕ) (end n : ℕ) (at : Option ℕ) → HasSteps end n at →
    slice_get (followed next n at) 0 ≡ at
followed-first next end zero None h = refl
followed-first next end (suc n) None h = refl
followed-first next end zero (Some p) h = absurd (omega (arith, h.0, h.1))
followed-first next end (suc n) (Some p) h = refl

module _ (next : ℕ → Option ℕ) (end : ℕ) (h : IsForward next end) where
  steps_on : (p steps : ℕ) → end ≤ p + suc steps → HasSteps end steps (next p)
  steps_on p steps e = IfSome_then (next p) (h p) (λ q w. (w.1, omega (arith, w.0)))

  -- more steps than that change nothing
  pub followed-steps : (a b : ℕ) (at : Option ℕ) → HasSteps end a at → HasSteps end b at →
      followed next a at ≡ followed next b at
  followed-steps zero zero at ha hb = refl
  followed-steps zero (suc b) None ha hb = refl
  followed-steps (suc a) zero None ha hb = refl
  followed-steps (suc a) (suc b) None ha hb = refl
  followed-steps zero (suc b) (Some p) ha hb = absurd (omega (arith, ha.0, ha.1))
  followed-steps (suc a) zero (Some p) ha hb = absurd (omega (arith, hb.0, hb.1))
  followed-steps (suc a) (suc b) (Some p) ha hb =
      ap (λ (ps : List ℕ). p ∷ ps) (followed-steps a b (next p) (steps_on p a ha.1) (steps_on p b hb.1))

  followed-at : (n p : ℕ) → n ≡ end → p < n → followed next n (Some p) ≡ p ∷ followed next n (next p)
  followed-at zero p e l = absurd (omega arith)
  followed-at (suc n) p e l =
      ap (λ (ps : List ℕ). p ∷ ps) (followed-steps n (suc n) (next p) (steps_on p n (omega arith))
      (steps_on p (suc n) (omega arith)))

  -- the positions from p on are p and the positions from the next one on
  pub followed-some : (p : ℕ) → p < end → followed next end (Some p) ≡ p ∷ followed next end (next p)
  followed-some p l = followed-at end p refl l

  followed-rises : (n low : ℕ) (at : Option ℕ) → IfSome at (λ p. (low ≤ p) × (p < end)) →
      IsRising low end (followed next n at)
  followed-rises zero low at w = tt
  followed-rises (suc n) low None w = tt
  followed-rises (suc n) low (Some p) w =
      (w.0, w.1, followed-rises n (p + 1) (next p) (IfSome_then (next p) (h p) (λ q v. (omega (arith, v.0), v.1))))

  -- they are in rising order
  pub followed_rises : (p : ℕ) → p < end → IsRising 0 end (followed next end (Some p))
  followed_rises p l = followed-rises end 0 (Some p) (omega arith, l)

  chained : (n : ℕ) (at : Option ℕ) → HasSteps end n at → (k : ℕ) → k < length (followed next n at) →
      next (slice_index (followed next n at) k) ≡ slice_get (followed next n at) (suc k)
  chained zero at s k l = absurd (omega arith)
  chained (suc n) None s k l = absurd (omega arith)
  chained (suc n) (Some p) s zero l = sym (followed-first next end n (next p) (steps_on p n s.1))
  chained (suc n) (Some p) s (suc k) l = chained n (next p) (steps_on p n s.1) k (omega arith)

  -- each of them leads to the next one
  pub followed_chain : (p : ℕ) → p < end → (k : ℕ) → k < length (followed next end (Some p)) →
      next (slice_index (followed next end (Some p)) k) ≡ slice_get (followed next end (Some p)) (k + 1)
  followed_chain p w k l = grind (arith, chained)

-- the same for links
pub linked-some : (links : List (Option ℕ)) (p : ℕ) → LinksForward links → p < length links →
    linked links (Some p) ≡ p ∷ linked links (link_at links p)
linked-some links p h l = followed-some (link_at links) (length links) h p l

-- the pushed positions and those that the links still lead to are the whole list
pub record IsPushed (links : List (Option ℕ)) (whole pushed : List ℕ) (at : Option ℕ) : Type 0 where
  pub within : IfSome at (λ p. p < length links)
  pub all : pushed ++ linked links at ≡ whole

module _ {links : List (Option ℕ)} {whole pushed : List ℕ} {at : Option ℕ} (h : LinksForward links)
    (w : IsPushed links whole pushed at) where
  pub pushed_within : (p : ℕ) → at ≡ Some p → p < length links
  pushed_within p e = let P : Option ℕ → Type 0 = λ o. IfSome o (λ q. q < length links) in subst P e w.within

  pub pushed_step : (p : ℕ) → at ≡ Some p → linked links at ≡ p ∷ linked links (link_at links p)
  pushed_step p e = ap (linked links) e ∙ linked-some links p h (pushed_within p e)

  pub pushed_more : (p : ℕ) → at ≡ Some p → (more : List ℕ) → more ≡ pushed ++ p ∷ [] → (next : Option ℕ) →
      next ≡ link_at links p → IsPushed links whole more next
  pushed_more p e more m next n = grind (arith, append_assoc, pushed_step)

-- before the first step nothing is pushed
pub pushed_first : (links : List (Option ℕ)) (first : ℕ) → first < length links → (pushed : List ℕ) →
    IsPushed links (pushed ++ linked links (Some first)) pushed (Some first)
pushed_first links first l pushed = record { within = l; all = refl }

-- the positions are pushed up to one, whose link leads on
pub pushed_to : (links : List (Option ℕ)) → LinksForward links → (whole pushed : List ℕ) (p : ℕ) →
    pushed ++ linked links (link_at links p) ≡ whole →
    (next : Option ℕ) → next ≡ link_at links p → IsPushed links whole pushed next
pushed_to links h whole pushed p e next n =
    rw n (record { within = IfSome_then (link_at links p) (h p) (λ q v. v.1); all = e })

-- the first position is pushed into a column
pub pushed_start : (links : List (Option ℕ)) → LinksForward links → (first start : ℕ) → first < length links →
    (column : List ℕ) → start < length column →
    take (start + 1) (set column start first) ++ linked links (link_at links first) ≡
    take start column ++ linked links (Some first)
pushed_start links h first start l column room =
    let rest : List ℕ = linked links (link_at links first) in
    ap (λ (ps : List ℕ). ps ++ rest) (take_more_set column start first room)
    ∙ append_assoc (take start column) (first ∷ []) rest
    ∙ ap (λ (ps : List ℕ). take start column ++ ps) (sym (linked-some links first h l))

-- a stretch goes on after its last position
pub stretch_both : (links : List (Option ℕ)) (first p last : ℕ) → IsLinkedStretch links first p →
    link_at links p ≡ Some (p + 1) → IsLinkedStretch links (p + 1) last → IsLinkedStretch links first last
stretch_both links first p last one e other = record {
  later = omega (arith, one.later, other.later);
  within = other.within;
  each = λ q low high. elim (cases_lt q p) [
    | inl before ↦ one.each q low before
    | inr past ↦ elim (cases_eq q p) [
      | inl same ↦ rw same e
      | inr following ↦ other.each q (omega arith) high
    ]
  ];
}

-- several positions from p on are each linked to the one right after it
module _ (links : List (Option ℕ)) (h : LinksForward links) where
  -- the last of the positions that they lead to
  pub led_within : (p q : ℕ) → link_at links p ≡ Some q → q < length links
  led_within p q e =
      let P : Option ℕ → Type 0 = λ o. IfSome o (λ r. (p < r) × (r < length links)) in
      let later : (p < q) × (q < length links) = subst P e (h p) in later.1

  pub linked_run : (count p : ℕ) → LeadOn links p (p + count) →
      linked links (link_at links p) ≡ positions_from (p + 1) count ++ linked links (link_at links (p + count))
  linked_run zero p on = let e : p ≡ p + 0 = omega arith in ap (λ k. linked links (link_at links k)) e
  linked_run (suc count) p on =
      let led : link_at links p ≡ Some (p + 1) = on p (omega arith) (omega arith) in
      let end : p + 1 + count ≡ p + suc count = omega arith in
      ap (linked links) led
      ∙ linked-some links (p + 1) h (led_within p (p + 1) led)
      ∙ ap (λ (ps : List ℕ). (p + 1) ∷ ps) (linked_run count (p + 1) (λ q low high. on q (omega arith) (omega arith)))
      ∙ ap (λ k. positions_from (p + 1) (suc count) ++ linked links (link_at links k)) end

  module _ (first p : ℕ) (s : IsLinkedStretch links first p) (on : LeadOn links p (p + 8)) where
    pub stretch_eight : IsLinkedStretch links first (p + 8)
    stretch_eight =
        let last : p + 7 + 1 ≡ p + 8 = omega arith in
        let P : ℕ → Type 0 = λ k. k < length links in
        record {
          later = omega (arith, s.later);
          within = subst P last (led_within (p + 7) (p + 7 + 1) (on (p + 7) (omega arith) (omega arith)));
          each = λ q low high. elim (cases_lt q p) [
            | inl before ↦ s.each q low before
            | inr past ↦ on q past high
          ];
        }

    -- of the positions that are left, these are the first eight
    pub remaining_eight : length (linked links (link_at links p)) ≡ 8 + length (linked links (link_at links (p + 8)))
    remaining_eight =
        let rest : List ℕ = linked links (link_at links (p + 8)) in
        ap length (linked_run 8 p on)
        ∙ length-append (positions_from (p + 1) 8) rest
        ∙ ap (λ n. n + length rest) (length-positions_from (p + 1) 8)

    pub pushed_eight : (whole pushed more : List ℕ) → pushed ++ linked links (link_at links p) ≡ whole →
        more ≡ pushed ++ positions_from (p + 1) 8 → more ++ linked links (link_at links (p + 8)) ≡ whole
    pushed_eight whole pushed more w e =
        let rest : List ℕ = linked links (link_at links (p + 8)) in
        ap (λ (ps : List ℕ). ps ++ rest) e
        ∙ append_assoc pushed (positions_from (p + 1) 8) rest
        ∙ ap (λ (ps : List ℕ). pushed ++ ps) (sym (linked_run 8 p on))
        ∙ w
