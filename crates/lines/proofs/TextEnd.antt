-- L1 over a whole text, from its end.
use Rattle.std.proofs.Common.{◌≡◌, ℕ, ◌+◌, ◌-◌, ◌<◌, ◌≤◌, Bool, true, false, cond, Option, None, Some, List, length, get_or, take, set, zero, suc, refl, sym, ap, ◌∙◌, subst, inl, inr, arith, length-set, ne_eqb}
use Rattle.std.specs.Prelude.{◌&&◌, ◌||◌, count_by, slice_index, slice_index_or}
use Rattle.std.specs.Option.{unwrap_or}
use Rattle.std.proofs.lemmas.List.{ext_get_or, get_or-map, get_or-set_same, get_or-set_other, length-map, set-get_or, take_all}
use Rattle.std.proofs.lemmas.List.Sums.{count_by_more_no, count_by_more_yes}
use Rattle.std.proofs.lemmas.Bool.{cases_lt, cases_eq, or_right}
use Rattle.units.specs.declared.class.Class.{Class}
use Rattle.units.specs.declared.class.Class.TheVariants.{L, BN, B, S, WS, LRE, LRO, RLE, RLO, PDF, LRI, RLI, FSI, PDI}
use Rattle.units.specs.Classes.{class_at, is_line_separator, is_separator}
use Rattle.units.specs.Positions.{positions_from, first_from}
use Rattle.lines.specs.LineBreaks.{AreBreaks}
use Rattle.lines.specs.Spaces.{SeparateNone, resets_before}
use Rattle.units.specs.Reordering.{begins_line, is_break}
use Rattle.units.specs.Reordering.{line_from, is_reset, para_level_at, reset_to, after_resets}
use Rattle.units.proofs.Positions.{length-positions_from, get_or-positions_from}
use Rattle.lines.proofs.LineEnd.{resets_at, resets_at-suc, may_reset, class_reset}
use Rattle.lines.proofs.BreakAt.{is_break_at, is_break_none, rising_le}

-- spaces before p are reset, if no line begins at p
abbrev pub resets_to : List Class → List ℕ → ℕ → Bool
resets_to own at p = resets_at own p (line_from own at (p + 1) - p)

-- spaces before p are reset
abbrev pub resets_in : List Class → List ℕ → ℕ → Bool
resets_in own at p = resets_at own p (line_from own at p - p)

-- p, or something at least p + 1
if_ge : (b : Bool) (p d : ℕ) (o : Option ℕ) → p ≤ unwrap_or o d → p ≤ unwrap_or (cond b (Some p) o) d
if_ge true p d o h = omega arith
if_ge false p d o h = h

first_from-ge : (test : ℕ → Bool) (p count d : ℕ) → p + count ≤ d → p ≤ unwrap_or (first_from test p count) d
first_from-ge test p zero d h = omega arith
first_from-ge test p (suc count) d h = grind (arith, if_ge, first_from-ge test (p + 1) count d)

pub line_from-ge : (own : List Class) (at : List ℕ) (p : ℕ) → p ≤ length own → p ≤ line_from own at p
line_from-ge own at p h = first_from-ge (begins_line own at) p (length own - p) (length own) (omega arith)

if_begins : (b : Bool) (p d : ℕ) (o : Option ℕ) → unwrap_or (cond b (Some p) o) d ≡ cond b p (unwrap_or o d)
if_begins true p d o = refl
if_begins false p d o = refl

-- a line begins at p, or the next one after it
pub line_from-step : (own : List Class) (at : List ℕ) (p : ℕ) → p < length own →
    line_from own at p ≡ cond (begins_line own at p) p (line_from own at (p + 1))
line_from-step own at p h = grind (arith, if_begins)

resets_if : (own : List Class) (p m : ℕ) (b : Bool) → resets_at own p (cond b p m - p) ≡ (b || resets_at own p (m - p))
resets_if own p m true = let e : p - p ≡ 0 = omega arith in ap (resets_at own p) e
resets_if own p m false = refl

pub resets_in-is : (own : List Class) (at : List ℕ) (p : ℕ) → p < length own →
    resets_in own at p ≡ (begins_line own at p || resets_to own at p)
resets_in-is own at p h =
    ap (λ n. resets_at own p (n - p)) (line_from-step own at p h) ∙
    resets_if own p (line_from own at (p + 1)) (begins_line own at p)

line_from-end : (own : List Class) (at : List ℕ) (p : ℕ) → length own ≤ p → line_from own at p ≡ length own
line_from-end own at p h =
    let e : length own - p ≡ 0 = omega arith in ap (λ n. unwrap_or (first_from (begins_line own at) p n) (length own)) e

resets_none : (own : List Class) (p m : ℕ) → m ≤ p → resets_at own p (m - p) ≡ true
resets_none own p m h = let e : m - p ≡ 0 = omega arith in ap (resets_at own p) e

pub resets_to-end : (own : List Class) (at : List ℕ) (p : ℕ) → length own ≤ p → resets_to own at p ≡ true
resets_to-end own at p h = resets_none own p (line_from own at (p + 1)) (let e =
    line_from-end own at (p + 1) (omega arith) in omega (arith, e))

pub resets_in-end : (own : List Class) (at : List ℕ) (p : ℕ) → length own ≤ p → resets_in own at p ≡ true
resets_in-end own at p h = resets_none own p (line_from own at p) (let e = line_from-end own at p h in omega (arith, e))

-- the state of the pass before p + 1, from its state after p + 1
pub resets_in-next : (own : List Class) (at : List ℕ) (p : ℕ) (ends broken resets : Bool) → p < length own →
    ends ≡ is_separator (class_at own p) → broken ≡ is_break at (p + 1) → resets ≡ resets_to own at (p + 1) →
    (ends || broken || resets) ≡ resets_in own at (p + 1)
resets_in-next own at p ends broken resets lt e b r =
    elim (cases_lt (p + 1) (length own)) [
      | inl l ↦
          let q : p + 1 - 1 ≡ p = omega arith in
          let begins : begins_line own at (p + 1) ≡ (is_separator (class_at own p) || is_break at (p + 1)) =
          ap (λ t. t || is_separator (class_at own (p + 1 - 1)) || is_break at (p + 1)) (ne_eqb (p + 1) 0 (omega arith))
          ∙ ap (λ n. is_separator (class_at own n) || is_break at (p + 1)) q in
          ap (λ t. t || broken || resets) e ∙ ap (λ t. is_separator (class_at own p) || t || resets) b ∙
          ap (λ t. is_separator (class_at own p) || is_break at (p + 1) || t) r
          ∙ ap (λ t. t || resets_to own at (p + 1)) (sym begins) ∙ sym (resets_in-is own at (p + 1) l)
      | inr l ↦
          ap (λ t. ends || broken || t) (r ∙ resets_to-end own at (p + 1) l) ∙ or_right (ends || broken) true refl ∙
          sym (resets_in-end own at (p + 1) l)
    ]

pub resets_to-is : (own : List Class) (at : List ℕ) (p : ℕ) → p < length own →
    resets_to own at p ≡ resets_before (class_at own p) (resets_in own at (p + 1))
resets_to-is own at p lt =
    let ge : p + 1 ≤ line_from own at (p + 1) = line_from-ge own at (p + 1) (omega arith) in
    let e : line_from own at (p + 1) - p ≡ suc (line_from own at (p + 1) - (p + 1)) = omega arith in
    ap (resets_at own p) e ∙ resets_at-suc own p (line_from own at (p + 1) - (p + 1))

pub is_reset-is : (own : List Class) (at : List ℕ) (p : ℕ) →
    is_reset own at p ≡ (resets_before (class_at own p) (resets_in own at (p + 1)) && may_reset (class_at own p))
is_reset-is own at p = class_reset (class_at own p) (resets_in own at (p + 1))

-- the positions from p on are reset, and those before p are unchanged
pub record Resetting (own : List Class) (at : List ℕ) (paras : List ℕ) (old : List (Option ℕ)) (p ahead paragraph : ℕ)
    (resets : Bool) (levels : List (Option ℕ)) : Type 0 where
  pub len : length levels ≡ length old
  pub all : length own ≡ length old
  pub counted : paragraph ≡ count_by is_separator (take p own)
  pub in_breaks : ahead ≤ length at
  pub passed : (k : ℕ) → ahead ≤ k → k < length at → p < slice_index at k
  pub coming : 0 < ahead → slice_index at (ahead - 1) ≤ p
  pub flag : resets ≡ resets_to own at p
  pub below : (k : ℕ) → k < p → get_or levels k None ≡ get_or old k None
  pub done : (k : ℕ) → p ≤ k → k < length old →
      get_or levels k None ≡ reset_to (is_reset own at k) (para_level_at own paras k) (get_or old k None)

pub length-after_resets : (own : List Class) (at : List ℕ) (paras : List ℕ) (levels : List (Option ℕ)) →
    length (after_resets own at paras levels) ≡ length levels
unfolding after_resets
length-after_resets own at paras levels =
    length-map (positions_from 0 (length levels)) (λ p.
    reset_to (is_reset own at p) (para_level_at own paras p) (slice_index_or levels p None)) ∙
    length-positions_from 0 (length levels)

pub get_or-after_resets : (own : List Class) (at : List ℕ) (paras : List ℕ) (levels : List (Option ℕ)) (k : ℕ) →
    k < length levels → get_or (after_resets own at paras levels) k None ≡
    reset_to (is_reset own at k) (para_level_at own paras k) (get_or levels k None)
unfolding after_resets
get_or-after_resets own at paras levels k h =
    let n = length-positions_from 0 (length levels) in
    let e : get_or (positions_from 0 (length levels)) k 0 ≡ k = get_or-positions_from 0 (length levels) k 0 h ∙
    omega arith in
    let f : ℕ → Option ℕ =
    λ p. reset_to (is_reset own at p) (para_level_at own paras p) (slice_index_or levels p None) in
    get_or-map f (positions_from 0 (length levels)) k 0 None (omega (arith, n)) ∙ ap f e

pub resetting_end : (own : List Class) (at : List ℕ) (paras : List ℕ) (old : List (Option ℕ)) (ahead paragraph : ℕ)
    (resets : Bool) (levels : List (Option ℕ)) → Resetting own at paras old 0 ahead paragraph resets levels →
    levels ≡ after_resets own at paras old
resetting_end own at paras old ahead paragraph resets levels r =
    ext_get_or None levels (after_resets own at paras old) (r.len ∙ sym (length-after_resets own at paras old))
    (λ k h.
    let l : k < length old = omega (arith, r.len) in
    r.done k (omega arith) l ∙ sym (get_or-after_resets own at paras old k l))

pub resetting_start : (own : List Class) (at : List ℕ) (paras : List ℕ) (old : List (Option ℕ)) (separators : ℕ) →
    length own ≡ length old → AreBreaks at (length own) → separators ≡ count_by is_separator own →
    Resetting own at paras old (length old) (length at) separators true old
resetting_start own at paras old separators all breaks count = grind (arith, take_all, resets_to-end)

pub counted_step : (own : List Class) (p : ℕ) (ends : Bool) → p < length own → ends ≡ is_separator (class_at own p) →
    count_by is_separator (take (p + 1) own) ≡ count_by is_separator (take p own) + cond ends 1 0
counted_step own p true lt e = count_by_more_yes is_separator own p L lt (sym e)
counted_step own p false lt e = count_by_more_no is_separator own p L lt (sym e) ∙ omega arith

-- the breaks that remain, one position lower
pub record Breaking (at : List ℕ) (p ahead : ℕ) : Type 0 where
  pub in_breaks : ahead ≤ length at
  pub passed : (k : ℕ) → ahead ≤ k → k < length at → p < slice_index at k
  pub coming : 0 < ahead → slice_index at (ahead - 1) ≤ p

abbrev pub Comes : List ℕ → ℕ → ℕ → Type 0
Comes at ahead position = (0 < ahead) × (slice_index at (ahead - 1) ≡ position)

pub breaking_step : (at : List ℕ) (len p ahead : ℕ) (broken : Bool) → AreBreaks at len →
    (broken ≡ true → Comes at ahead (p + 1)) → (Comes at ahead (p + 1) → broken ≡ true) → Breaking at (p + 1) ahead →
    Breaking at p (ahead - cond broken 1 0)
breaking_step at len p ahead true breaks says from b = grind arith
breaking_step at len p ahead false breaks says from b = grind arith

pub broken-is : (at : List ℕ) (len p ahead : ℕ) (broken : Bool) → AreBreaks at len →
    (broken ≡ true → Comes at ahead p) → (Comes at ahead p → broken ≡ true) → Breaking at p ahead →
    broken ≡ is_break at p
broken-is at len p ahead true breaks says from b = grind (arith, is_break_at)
broken-is at len p ahead false breaks says from b =
    sym (is_break_none at p (λ k h e. elim (cases_lt k ahead) [
      | inl l ↦
          let there : k + (ahead - 1 - k) ≡ ahead - 1 = omega arith in
          let le : slice_index at k ≤ slice_index at (ahead - 1) =
          subst (λ m. slice_index at k ≤ slice_index at m) there (rising_le at len k (ahead - 1 - k) breaks
          (omega (arith, b.in_breaks))) in
          let c : slice_index at (ahead - 1) ≤ p = b.coming (omega arith) in
          let s : slice_index at (ahead - 1) ≡ p = omega arith in
          let z : false ≡ true = from (omega arith, s) in
          cc
      | inr l ↦ let g = b.passed k l h in omega arith
    ]))

pub resetting_more : (own : List Class) (at : List ℕ) (paras : List ℕ) (old : List (Option ℕ))
    (p ahead paragraph para : ℕ) (ends broken resets resets2 : Bool) (levels levels2 : List (Option ℕ)) →
    AreBreaks at (length own) → p < length own → ends ≡ is_separator (class_at own p) →
    (broken ≡ true → Comes at ahead (p + 1)) → (Comes at ahead (p + 1) → broken ≡ true) →
    resets2 ≡ resets_before (class_at own p) (ends || broken || resets) → para ≡ para_level_at own paras p →
    levels2 ≡ set levels p (reset_to (resets2 && may_reset (class_at own p)) para (get_or levels p None)) →
    Resetting own at paras old (p + 1) ahead paragraph resets levels →
    Resetting own at paras old p (ahead - cond broken 1 0) (paragraph - cond ends 1 0) resets2 levels2
resetting_more own at paras old p ahead paragraph para ends broken resets resets2 levels levels2 breaks lt e says from
    flag value is r =
    let b : Breaking at (p + 1) ahead = record { in_breaks = r.in_breaks; passed = r.passed; coming = r.coming } in
    let b2 = breaking_step at (length own) p ahead broken breaks says from b in
    let hit : broken ≡ is_break at (p + 1) = broken-is at (length own) (p + 1) ahead broken breaks says from b in
    let next : (ends || broken || resets) ≡ resets_in own at (p + 1) =
    resets_in-next own at p ends broken resets lt e hit r.flag in
    let f : resets2 ≡ resets_before (class_at own p) (resets_in own at (p + 1)) =
    flag ∙ ap (resets_before (class_at own p)) next in
    let n = counted_step own p ends lt e in
    let within : p < length levels = omega (arith, r.len, r.all) in
    let put = reset_to (resets2 && may_reset (class_at own p)) para (get_or levels p None) in
    record {
      len = ap length is ∙ length-set levels p put ∙ r.len;
      all = r.all;
      counted = omega (arith, r.counted, n);
      in_breaks = b2.in_breaks;
      passed = b2.passed;
      coming = b2.coming;
      flag = f ∙ sym (resets_to-is own at p lt);
      below = λ k h. ap (λ xs. get_or xs k None) is ∙ get_or-set_other levels p k put None (omega arith) ∙
          r.below k (omega arith);
      done = λ k low high. elim (cases_eq k p) [
        | inl q ↦
            let g : (resets2 && may_reset (class_at own p)) ≡ is_reset own at p =
            ap (λ t. t && may_reset (class_at own p)) f ∙ sym (is_reset-is own at p) in
            let t : get_or levels2 p None ≡ reset_to (is_reset own at p) (para_level_at own paras p)
            (get_or old p None) =
            ap (λ xs. get_or xs p None) is ∙ get_or-set_same levels p put None within
            ∙ ap (λ t. reset_to t para (get_or levels p None)) g
            ∙ ap (λ v. reset_to (is_reset own at p) v (get_or levels p None)) value
            ∙ ap (reset_to (is_reset own at p) (para_level_at own paras p)) (r.below p (omega arith)) in
            subst (λ m. get_or levels2 m None ≡ reset_to (is_reset own at m) (para_level_at own paras m)
            (get_or old m None)) (sym q) t
        | inr ne ↦ ap (λ xs. get_or xs k None) is ∙ get_or-set_other levels p k put None ne ∙
            r.done k (omega arith) high
      ];
    }

none_separates : (c : Class) → is_line_separator c ≡ false → (false ≡ is_separator c) × (false ≡ resets_before c false)
none_separates S h = cc
none_separates B h = cc
none_separates WS h = (refl, refl)
none_separates LRI h = (refl, refl)
none_separates RLI h = (refl, refl)
none_separates FSI h = (refl, refl)
none_separates PDI h = (refl, refl)
none_separates LRE h = (refl, refl)
none_separates RLE h = (refl, refl)
none_separates LRO h = (refl, refl)
none_separates RLO h = (refl, refl)
none_separates PDF h = (refl, refl)
none_separates BN h = (refl, refl)
none_separates _ h = (refl, refl)

reset_to-false : (para : ℕ) (level : Option ℕ) → reset_to false para level ≡ level
reset_to-false para None = refl
reset_to-false para (Some n) = refl

-- the pass skips a position that is no separator of lines, if no line begins after it and no spaces after it are reset
pub resetting_on : (own : List Class) (at : List ℕ) (paras : List ℕ) (old : List (Option ℕ)) (p ahead paragraph : ℕ)
    (levels : List (Option ℕ)) → AreBreaks at (length own) → p < length own →
    is_line_separator (class_at own p) ≡ false → (Comes at ahead (p + 1) → ⊥) →
    Resetting own at paras old (p + 1) ahead paragraph false levels →
    Resetting own at paras old p ahead paragraph false levels
resetting_on own at paras old p ahead paragraph levels breaks lt solid whole r =
    let c = none_separates (class_at own p) solid in
    let level = get_or levels p None in
    let same : levels ≡ set levels p (reset_to (false && may_reset (class_at own p)) (para_level_at own paras p) level)
    =
    sym (ap (set levels p) (reset_to-false (para_level_at own paras p) level) ∙ set-get_or levels p None) in
    let e : ahead - 0 ≡ ahead = omega arith in
    let f : paragraph - 0 ≡ paragraph = omega arith in
    let next : Resetting own at paras old p (ahead - 0) (paragraph - 0) false levels =
    resetting_more own at paras old p ahead paragraph (para_level_at own paras p) false false false false levels levels
    breaks lt c.0 (λ h. cc) (λ h. absurd (whole h)) c.1 refl same r in
    subst (λ n. Resetting own at paras old p n paragraph false levels) e
    (subst (λ n. Resetting own at paras old p (ahead - 0) n false levels) f next)

-- the pass skips positions that are no separators of lines, if no line begins after any of them
pub resetting_over : (own : List Class) (at : List ℕ) (paras : List ℕ) (old : List (Option ℕ)) (q d ahead paragraph : ℕ)
    (levels : List (Option ℕ)) → AreBreaks at (length own) → q + d ≤ length own → SeparateNone own q (q + d) →
    (0 < ahead → slice_index at (ahead - 1) ≤ q) → Resetting own at paras old (q + d) ahead paragraph false levels →
    Resetting own at paras old q ahead paragraph false levels
resetting_over own at paras old q zero ahead paragraph levels breaks within free coming r =
    let e : q + 0 ≡ q = omega arith in
    subst (λ n. Resetting own at paras old n ahead paragraph false levels) e r
resetting_over own at paras old q (suc d) ahead paragraph levels breaks within free coming r =
    let e : q + suc d ≡ q + d + 1 = omega arith in
    let before : Resetting own at paras old (q + d + 1) ahead paragraph false levels =
    subst (λ n. Resetting own at paras old n ahead paragraph false levels) e r in
    let solid : is_line_separator (class_at own (q + d)) ≡ false = free.none (q + d) (omega arith) (omega arith) in
    let less : SeparateNone own q (q + d) = record { none = λ p low high. free.none p low (omega arith) } in
    let whole : Comes at ahead (q + d + 1) → ⊥ = λ comes. let le : slice_index at (ahead - 1) ≤ q = coming comes.0 in
    omega (arith, comes.1) in
    resetting_over own at paras old q d ahead paragraph levels breaks (omega arith) less coming
    (resetting_on own at paras old (q + d) ahead paragraph levels breaks (omega arith) solid whole before)
