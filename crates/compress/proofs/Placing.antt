-- The levels of the few units, spread over the paragraph.
use Rattle.std.specs.Prelude.{Option, None, ℕ, zero, suc, ◌+◌, ◌-◌, ◌<◌, ◌≤◌, ◌≡◌, ltb, Bool, true, false, List, [], ◌∷◌, ◌++◌, length, take, drop, slice_index_or, if◌then◌else◌, refl}
use Rattle.std.proofs.Common.{arith, ap, sym, subst, ◌∙◌, inl, inr}
use Rattle.std.proofs.lemmas.Bool.{cases_lt, cond-true, cond-false, lt-ltb, le-ltb}
use Rattle.std.proofs.lemmas.List.{drop_more}
use Rattle.units.specs.Classes.{is_removed}
use Rattle.units.specs.declared.bracket.Unit.{Unit as BidiUnit}
use Rattle.compress.specs.Laid.{start_at, remaining_before, stack_of, bottom_of, AreRising, IsLaid, level_by}
use Rattle.compress.specs.Paragraph.{head_of, tail_of, placed}
use Rattle.compress.specs.Remaining.{stays, remaining_units}
use Rattle.compress.specs.Spread.{copies, spread}
use Rattle.compress.specs.Squeeze.{counts_onto}
use Rattle.compress.proofs.Counting.{at, remaining_chosen, remaining_up_to}

-- the levels from `end` up to `stop` are written, those of the last chosen units after the first k
pub record IsSpread (us starts : List BidiUnit) (m stop : ℕ) (old levels : List (Option ℕ)) (end k : ℕ) : Type 0 where
  pub few : k ≤ m
  pub rising : AreRising starts k end
  pub within : end ≤ stop
  pub done : (p : ℕ) → end ≤ p → p < stop → slice_index_or levels p None ≡ level_by us starts old m p
  pub later : (p : ℕ) → stop ≤ p → slice_index_or levels p None ≡ slice_index_or old p None
  pub rest : (p : ℕ) → p < k → slice_index_or levels p None ≡ slice_index_or old p None
  pub lower : (p : ℕ) → p < end → level_by us starts old m p ≡ level_by us starts old k p

-- later units begin later
rising_far : (starts : List BidiUnit) (m end j k : ℕ) → AreRising starts m end → k < m → j < k → start_at starts j < start_at starts k
rising_far starts m end j zero r lt below = absurd (omega arith)
rising_far starts m end j (suc k) r lt below =
    let last = r.rise k lt in
    elim (cases_lt j k) [
      | inl far ↦ (let h = rising_far starts m end j k r (omega arith) far in omega arith)
      | inr near ↦ (let e : j ≡ k = omega arith in let f = ap (start_at starts) e in omega arith)
    ]

-- a unit begins no earlier than its number
not_before : (starts : List BidiUnit) (m end k : ℕ) → AreRising starts m end → k < m → k ≤ start_at starts k
not_before starts m end zero r lt = omega arith
not_before starts m end (suc k) r lt =
    let h = not_before starts m end k r (omega arith) in
    let g = r.rise k lt in
    omega arith

spread_next : (us starts : List BidiUnit) (m stop : ℕ) (old levels new : List (Option ℕ)) (end start j : ℕ) (level : Option ℕ) →
    IsSpread us starts m stop old levels end (suc j) → start ≡ start_at starts j → level ≡ slice_index_or levels j None →
    ((p : ℕ) → start ≤ p → p < end → slice_index_or new p None ≡ (if is_removed (at us p).class then None else level)) →
    ((p : ℕ) → p < j → slice_index_or new p None ≡ slice_index_or levels p None) →
    ((p : ℕ) → end ≤ p → slice_index_or new p None ≡ slice_index_or levels p None) → IsSpread us starts m stop old new start j
spread_next us starts m stop old levels new end start j level s e v inside below above =
    let low = s.rising.low j (omega arith) in
    let number = not_before starts (suc j) end j s.rising (omega arith) in
    let within = s.within in
    let few = s.few in
    let known : level ≡ slice_index_or old j None = v ∙ s.rest j (omega arith) in
    record {
      few = omega arith;
      rising = record {
        low = λ k lt. let h = rising_far starts (suc j) end k j s.rising (omega arith) lt in omega arith;
        rise = λ k lt. s.rising.rise k (omega arith);
      };
      within = omega arith;
      done = λ p le lt. elim (cases_lt p end) [
        | inl here ↦
            (let t : ltb p (start_at starts j) ≡ false = le-ltb p (start_at starts j) (omega arith) in
            inside p le here
            ∙ ap (λ (o : Option ℕ). if is_removed (at us p).class then None else o) known
            ∙ sym (s.lower p here
            ∙ cond-false (ltb p (start_at starts j)) (level_by us starts old j p)
            (if is_removed (at us p).class then None else slice_index_or old j None) t))
        | inr there ↦ above p there ∙ s.done p there lt
      ];
      later = λ p ge. above p (omega arith) ∙ s.later p ge;
      rest = λ p lt. below p lt ∙ s.rest p (omega arith);
      lower = λ p lt.
          (let t : ltb p (start_at starts j) ≡ true = lt-ltb p (start_at starts j) (omega arith) in
          s.lower p (omega arith)
          ∙ cond-true (ltb p (start_at starts j)) (level_by us starts old j p)
          (if is_removed (at us p).class then None else slice_index_or old j None) t);
    }

pub spread_one : (us starts : List BidiUnit) (m stop : ℕ) (old levels new : List (Option ℕ)) (end start k : ℕ) (level : Option ℕ) → 0 < k →
    IsSpread us starts m stop old levels end k → start ≡ start_at starts (k - 1) → level ≡ slice_index_or levels (k - 1) None →
    ((p : ℕ) → start ≤ p → p < end → slice_index_or new p None ≡ (if is_removed (at us p).class then None else level)) →
    ((p : ℕ) → p < k - 1 → slice_index_or new p None ≡ slice_index_or levels p None) →
    ((p : ℕ) → end ≤ p → slice_index_or new p None ≡ slice_index_or levels p None) → IsSpread us starts m stop old new start (k - 1)
spread_one us starts m stop old levels new end start zero level lt s e v inside below above = absurd (omega arith)
spread_one us starts m stop old levels new end start (suc j) level lt s e v inside below above =
    let one : suc j - 1 ≡ j = omega arith in
    subst (λ i. IsSpread us starts m stop old new start i) (sym one)
    (spread_next us starts m stop old levels new end start j level s (e ∙ ap (start_at starts) one) (v ∙ ap (λ i. slice_index_or levels i None) one) inside
    (λ p lt. below p (omega (arith, lt))) above)

-- the next one begins no earlier than its number
pub starts_above : (us starts : List BidiUnit) (m stop : ℕ) (old levels : List (Option ℕ)) (end k : ℕ) → 0 < k → IsSpread us starts m stop old levels end k →
    k - 1 ≤ start_at starts (k - 1)
starts_above us starts m stop old levels end k lt s = not_before starts k end (k - 1) s.rising (omega arith)

-- and before the end
pub starts_below : (us starts : List BidiUnit) (m stop : ℕ) (old levels : List (Option ℕ)) (end k : ℕ) → 0 < k → IsSpread us starts m stop old levels end k →
    start_at starts (k - 1) < end
starts_below us starts m stop old levels end k lt s = s.rising.low (k - 1) (omega arith)

pub spread_none : (us starts : List BidiUnit) (m stop : ℕ) (old : List (Option ℕ)) → IsLaid us starts m stop → IsSpread us starts m stop old old stop m
spread_none us starts m stop old laid = record {
  few = omega arith;
  rising = laid.rising;
  within = omega arith;
  done = λ p le lt. absurd (omega arith);
  later = λ p ge. refl;
  rest = λ p lt. refl;
  lower = λ p lt. refl;
}

none_either : (b : Bool) → (if◌then◌else◌ {A = Option ℕ} b None None) ≡ None
none_either true = refl
none_either false = refl

-- all are written once what is before the first has no level
pub spread_all : (us starts : List BidiUnit) (m stop : ℕ) (old levels new : List (Option ℕ)) (end : ℕ) → IsSpread us starts m stop old levels end 0 →
    ((p : ℕ) → 0 ≤ p → p < end → slice_index_or new p None ≡ (if is_removed (at us p).class then None else None)) →
    ((p : ℕ) → end ≤ p → slice_index_or new p None ≡ slice_index_or levels p None) →
    (p : ℕ) → p < stop → slice_index_or new p None ≡ level_by us starts old m p
spread_all us starts m stop old levels new end s inside above p lt =
    elim (cases_lt p end) [
      | inl here ↦ inside p (omega arith) here ∙ none_either (is_removed (at us p).class) ∙ sym (s.lower p here)
      | inr there ↦ above p there ∙ s.done p there lt
    ]

-- and what is after these is as it was
pub spread_later : (us starts : List BidiUnit) (m stop : ℕ) (old levels new : List (Option ℕ)) (end : ℕ) → IsSpread us starts m stop old levels end 0 →
    ((p : ℕ) → end ≤ p → slice_index_or new p None ≡ slice_index_or levels p None) →
    (p : ℕ) → stop ≤ p → slice_index_or new p None ≡ slice_index_or old p None
spread_later us starts m stop old levels new end s above p ge = let within = s.within in above p (omega arith) ∙ s.later p ge

-- by position
get-copies : (w : ℕ) (x : Option ℕ) (xs : List (Option ℕ)) (r : ℕ) → r < w → slice_index_or (copies w x ++ xs) r None ≡ x
get-copies zero x xs r lt = absurd (omega arith)
get-copies (suc w) x xs zero lt = refl
get-copies (suc w) x xs (suc r) lt = get-copies w x xs r (omega arith)

get-beyond : (w : ℕ) (x : Option ℕ) (xs : List (Option ℕ)) (r : ℕ) → slice_index_or (copies w x ++ xs) (w + r) None ≡ slice_index_or xs r None
get-beyond zero x xs r = let z : 0 + r ≡ r = omega arith in ap (λ i. slice_index_or xs i None) z
get-beyond (suc w) x xs r =
    let z : suc w + r ≡ suc (w + r) = omega arith in
    ap (λ i. slice_index_or (x ∷ copies w x ++ xs) i None) z ∙ get-beyond w x xs r

head_is : (vs : List (Option ℕ)) → head_of vs ≡ slice_index_or vs 0 None
head_is [] = refl
head_is (v ∷ vs) = refl

tail_is : (vs : List (Option ℕ)) (r : ℕ) → slice_index_or (tail_of vs) r None ≡ slice_index_or vs (r + 1) None
tail_is [] r = refl
tail_is (v ∷ vs) r = let z : r + 1 ≡ suc r = omega arith in sym (ap (λ i. slice_index_or (v ∷ vs) i None) z)

placed_first : (b : Bool) (us : List BidiUnit) (vs : List (Option ℕ)) →
    slice_index_or (if b then (head_of vs ∷ placed us (tail_of vs)) else None ∷ placed us vs) 0 None ≡ (if b then slice_index_or vs 0 None else None)
placed_first true us vs = head_is vs
placed_first false us vs = refl

placed_later : (b : Bool) (u : BidiUnit) (us : List BidiUnit) (vs : List (Option ℕ)) (q : ℕ) →
    ((ws : List (Option ℕ)) → slice_index_or (placed us ws) q None ≡ (if stays (at us q) then slice_index_or ws (remaining_before us q) None else None)) →
    slice_index_or (if b then (head_of vs ∷ placed us (tail_of vs)) else None ∷ placed us vs) (suc q) None
    ≡ (if stays (at us q) then slice_index_or vs (length (if b then (u ∷ remaining_units (take q us)) else remaining_units (take q us))) None else None)
placed_later true u us vs q h =
    let z : remaining_before us q + 1 ≡ suc (remaining_before us q) = omega arith in
    h (tail_of vs) ∙ ap (λ (o : Option ℕ). if stays (at us q) then o else None) (tail_is vs (remaining_before us q) ∙ ap (λ i. slice_index_or vs i None) z)
placed_later false u us vs q h = h vs

pub placed_at : (us : List BidiUnit) (vs : List (Option ℕ)) (p : ℕ) → p < length us →
    slice_index_or (placed us vs) p None ≡ (if stays (at us p) then slice_index_or vs (remaining_before us p) None else None)
placed_at [] vs p lt = absurd (omega arith)
placed_at (u ∷ us) vs zero lt = placed_first (stays u) us vs
placed_at (u ∷ us) vs (suc q) lt = placed_later (stays u) u us vs q (λ ws. placed_at us ws q (omega arith))

placed_length : (b : Bool) (us : List BidiUnit) (vs : List (Option ℕ)) → ((ws : List (Option ℕ)) → length (placed us ws) ≡ length us) →
    length (if b then (head_of vs ∷ placed us (tail_of vs)) else None ∷ placed us vs) ≡ suc (length us)
placed_length true us vs h = ap (λ n. suc n) (h (tail_of vs))
placed_length false us vs h = ap (λ n. suc n) (h vs)

pub length-placed : (us : List BidiUnit) (vs : List (Option ℕ)) → length (placed us vs) ≡ length us
length-placed [] vs = refl
length-placed (u ∷ us) vs = placed_length (stays u) us vs (λ ws. length-placed us ws)

module _ (us chosen starts : List BidiUnit) (few : List (Option ℕ)) where
  abbrev before : ℕ → ℕ
  before p = remaining_before us p

  abbrev spread_of : ℕ → ℕ → List ℕ → List (Option ℕ)
  spread_of m end ws = spread (counts_onto (stack_of us chosen starts m end) ws) few

  -- the first m begin at these, below the end
  pub record IsBelow (m end : ℕ) : Type 0 where
    pub low : (k : ℕ) → k < m → start_at starts k < end
    pub rise : (k : ℕ) → suc k < m → start_at starts k < start_at starts (suc k)
    pub within : end ≤ length us
    pub none : before (bottom_of starts m end) ≡ 0

  below_less : (m end : ℕ) → IsBelow (suc m) end → IsBelow m (start_at starts m)
  below_less zero end b = let low = b.low 0 (omega arith) in let within = b.within in record {
    low = λ k lt. absurd (omega arith);
    rise = λ k lt. absurd (omega arith);
    within = omega arith;
    none = b.none;
  }
  below_less (suc m) end b = let low = b.low (suc m) (omega arith) in let within = b.within in record {
    low = λ k lt. rising_far starts (suc (suc m)) end k (suc m) (record { low = b.low; rise = b.rise }) (omega arith) lt;
    rise = λ k lt. b.rise k (omega arith);
    within = omega arith;
    none = b.none;
  }

  -- what is counted after them
  pub spread_beyond : (m end : ℕ) (ws : List ℕ) (r : ℕ) → m ≤ length few → IsBelow m end →
      slice_index_or (spread_of m end ws) (before end + r) None ≡ slice_index_or (spread ws (drop m few)) r None
  spread_beyond zero end ws r le b =
      let none = b.none in
      let z : before end + r ≡ r = omega arith in
      ap (λ i. slice_index_or (spread ws few) i None) z
  spread_beyond (suc m) end ws r le b =
      let s : ℕ = start_at starts m in
      let w : ℕ = before end - before (start_at starts m) in
      let low = b.low m (omega arith) in
      let rises = remaining_up_to us (start_at starts m) end (omega arith) b.within in
      let z : before end + r ≡ before (start_at starts m) + (before end - before (start_at starts m) + r) = omega arith in
      let more : suc m ≡ m + 1 = omega arith in
      ap (λ i. slice_index_or (spread_of m s (w ∷ ws)) i None) z
      ∙ spread_beyond m s (w ∷ ws) (w + r) (omega arith) (below_less m end b)
      ∙ ap (λ xs. slice_index_or (spread (w ∷ ws) xs) (w + r) None) (drop_more few m None (omega arith))
      ∙ get-beyond w (slice_index_or few m None) (spread ws (drop (m + 1) few)) r
      ∙ sym (ap (λ i. slice_index_or (spread ws (drop i few)) r None) more)

  -- the last of them
  spread_last : (m end : ℕ) (ws : List ℕ) (r : ℕ) → m < length few → IsBelow (suc m) end → r < before end - before (start_at starts m) →
      slice_index_or (spread_of (suc m) end ws) (before (start_at starts m) + r) None ≡ slice_index_or few m None
  spread_last m end ws r le b lt =
      let s : ℕ = start_at starts m in
      let w : ℕ = before end - before (start_at starts m) in
      spread_beyond m s (w ∷ ws) r (omega arith) (below_less m end b)
      ∙ ap (λ xs. slice_index_or (spread (w ∷ ws) xs) r None) (drop_more few m None le)
      ∙ get-copies w (slice_index_or few m None) (spread ws (drop (m + 1) few)) r lt

  pub spread_at : (m end : ℕ) (ws : List ℕ) (p : ℕ) → m ≤ length few → IsBelow m end → p < end → is_removed (at us p).class ≡ false →
      slice_index_or (spread_of m end ws) (before p) None ≡ level_by us starts few m p
  spread_at zero end ws p le b lt f =
      let within = b.within in
      let none = b.none in
      let one = remaining_chosen us p (omega arith) f in
      let more = remaining_up_to us (p + 1) end (omega arith) within in
      absurd (omega arith)
  spread_at (suc m) end ws p le b lt f =
      let s : ℕ = start_at starts m in
      let w : ℕ = before end - before (start_at starts m) in
      let here : Option ℕ = if is_removed (at us p).class then None else slice_index_or few m None in
      let within = b.within in
      elim (cases_lt p (start_at starts m)) [
        | inl low ↦
            (let t : ltb p (start_at starts m) ≡ true = lt-ltb p (start_at starts m) low in
            spread_at m s (w ∷ ws) p (omega arith) (below_less m end b) low f ∙ sym (cond-true (ltb p (start_at starts m)) (level_by us starts few m p) here t))
        | inr high ↦
            (let t : ltb p (start_at starts m) ≡ false = le-ltb p (start_at starts m) high in
            let rises = remaining_up_to us (start_at starts m) p high (omega arith) in
            let one = remaining_chosen us p (omega arith) f in
            let more = remaining_up_to us (p + 1) end (omega arith) within in
            let z : before p ≡ before (start_at starts m) + (before p - before (start_at starts m)) = omega arith in
            ap (λ i. slice_index_or (spread_of (suc m) end ws) i None) z
            ∙ spread_last m end ws (before p - before (start_at starts m)) (omega arith) b (omega arith)
            ∙ sym (cond-false (ltb p (start_at starts m)) (level_by us starts few m p) here t
            ∙ cond-false (is_removed (at us p).class) None (slice_index_or few m None) f))
      ]

  level_removed : (b r : Bool) (x y : Option ℕ) → x ≡ None → r ≡ true → (if b then x else (if r then None else y)) ≡ None
  level_removed true r x y h t = h
  level_removed false r x y h t = cond-true r None y t

  pub level_by-removed : (m p : ℕ) → is_removed (at us p).class ≡ true → level_by us starts few m p ≡ None
  level_by-removed zero p t = refl
  level_by-removed (suc m) p t =
      level_removed (ltb p (start_at starts m)) (is_removed (at us p).class) (level_by us starts few m p) (slice_index_or few m None) (level_by-removed m p t) t
