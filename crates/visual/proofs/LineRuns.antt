-- The runs of a line, as the code computes them.
use Rattle.std.proofs.Common.{◌≡◌, ℕ, ◌+◌, ◌-◌, ◌<◌, ◌≤◌, ◌≢◌, ◌⊎◌, true, Some, None, length, refl, sym, ap, ◌∙◌, inl, inr, arith, min, max}
use Rattle.std.proofs.Common.{subst}
use Rattle.std.specs.Prelude.{is_some, slice_index, slice_index_or, unwrap_or}
use Rattle.units.specs.Isolates.{level_of_para}
use Rattle.units.specs.declared.level.ParaLevel.{ParaLevel}
use Rattle.units.specs.declared.level.ParaLevel.TheVariants.{Zero, One}
use Rattle.lines.specs.LinePositions.{HasLevel}
use Rattle.visual.specs.EffectiveLevelRanges.{next_remaining}
use Rattle.visual.specs.Spans.{AllRemoved, BeginsAt, IsAlone, level_at_place, level_or_para}
use Rattle.visual.specs.VisualRuns.{IsInOrder, IsRunAt, end_place, last_place, level_in}
use Rattle.visual.specs.declared.line.OrderedLine.{OrderedLine}
use Rattle.visual.specs.declared.runs.VisualRun.{VisualRun}
use Rattle.visual.proofs.EffectiveLevels.{effective-own, effective-end, effective-through}
use Rattle.visual.proofs.InOrder.{IsSameLevel, remaining_at, same-rising, same-falling}
use Rattle.visual.proofs.LevelRuns.{IsSearched, ends_of, computed_own, run_place, run_covers, some_level}

abbrev pub para_of : OrderedLine → ℕ
para_of line = level_of_para line.para_level

-- the level at a place
pub place_level : (line : OrderedLine) (i : ℕ) → IsInOrder line → i < length line.order.now →
    HasLevel line.levels.now (slice_index line.order.now i) (level_at_place line i)
place_level line i o lt =
    let r = remaining_at line.levels.now line.start line.end line.order.now i o lt in
    let e : level_at_place line i ≡ r.level = ap (λ x. unwrap_or x (para_of line)) r.has in
    r.has ∙ ap (λ n. Some n) (sym e)

level_at : (line : OrderedLine) (i v : ℕ) → IsInOrder line → i < length line.order.now →
    HasLevel line.levels.now (slice_index line.order.now i) v → level_at_place line i ≡ v
level_at line i v o lt h = let e : Some (level_at_place line i) ≡ Some v = sym (place_level line i o lt) ∙ h in cc

begins_before : (line : OrderedLine) (from i : ℕ) → IsInOrder line → BeginsAt line from → i + 1 ≡ from →
    i < length line.order.now → HasLevel line.levels.now (slice_index line.order.now i) (level_at_place line from) → ⊥
begins_before line from i o b e lt h =
    let t : level_at_place line i ≡ level_at_place line from = level_at line i (level_at_place line from) o lt h in
    let p : from - 1 ≡ i = omega arith in
    b (omega arith) (ap (level_at_place line) p ∙ t)

pub same_level : (line : OrderedLine) (from to : ℕ) → IsInOrder line → BeginsAt line from → from < to →
    to ≤ length line.order.now → ((i : ℕ) → from ≤ i → i < to → level_at_place line i ≡ level_at_place line from) →
    (to < length line.order.now → level_at_place line to ≢ level_at_place line from) →
    IsSameLevel line.levels.now line.order.now from to (level_at_place line from)
same_level line from to o b lt within same ends =
    record {
      some = lt;
      inside = within;
      same = λ i p q. place_level line i o (omega arith) ∙ ap (λ n. Some n) (same i p q);
      before = λ i e h. begins_before line from i o b e (omega arith) h;
      after = λ l h. ends l (level_at line to (level_at_place line from) o l h);
    }

-- a run with these properties is the run at its place
pub is_run_at : (line : OrderedLine) (place low high : ℕ) (run : VisualRun) →
    IsSearched line.levels.now (para_of line) line.start line.end line.order.now place
    (place + run.shown) run.level low high run.start run.end → IsRunAt line place run
is_run_at line place low high run f =
    let own = computed_own line.levels.now (para_of line) line.start line.end line.order.now place
    (place + run.shown) run.level low high run.start run.end f in
    let begins : line.start < run.start → level_in line (run.start - 1) ≢ run.level =
    λ l. elim own.begins [ inl e ↦ absurd (omega arith) | inr ne ↦ ne ] in
    let ends : run.end < line.end → level_in line run.end ≢ run.level =
    λ l. elim own.ends [ inl e ↦ absurd (omega arith) | inr ne ↦ ne ] in
    record {
      level = record {
        some = own.some;
        from = own.first;
        within = own.within;
        level = own.level;
        begins = begins;
        ends = ends;
      };
      represents = record {
        inside = f.same.inside;
        own = λ i a b. run_covers line.levels.now (para_of line) line.start line.end line.order.now place
            (place + run.shown) run.level low high run.start run.end i f a b;
        all = λ p c s. run_place line.levels.now (para_of line) line.start line.end line.order.now place
            (place + run.shown) run.level low high run.start run.end p f c.0 c.1 s;
        removed = λ z. absurd (omega (arith, f.same.some, z));
        rising = λ even i j a l b. same-rising line.levels.now line.start line.end line.order.now place
            (place + run.shown) run.level i j f.in_order f.same even a l b;
        falling = λ odd i j a l b. same-falling line.levels.now line.start line.end line.order.now place
            (place + run.shown) run.level i j f.in_order f.same odd a l b;
      };
    }

-- the run from a place, whose places end before `to`
pub run_from-is : (line : OrderedLine) (place to low high bound : ℕ) (run : VisualRun) → IsInOrder line →
    BeginsAt line place → place < to → to ≤ length line.order.now →
    ((i : ℕ) → place ≤ i → i < to → level_at_place line i ≡ level_at_place line place) →
    (to < length line.order.now → level_at_place line to ≢ level_at_place line place) →
    run.level ≡ level_at_place line place → place + run.shown ≡ to →
    low ≡ min (slice_index line.order.now place) (slice_index line.order.now (to - 1)) →
    high ≡ max (slice_index line.order.now place) (slice_index line.order.now (to - 1)) → bound ≡ min line.start low →
    bound ≤ run.start → run.start ≤ low → AllRemoved line.levels.now run.start low →
    ((run.start ≡ bound) ⊎
    ((bound < run.start) × (is_some (slice_index_or line.levels.now (run.start - 1) None) ≡ true))) →
    (next_remaining line.levels.now line.end (high + 1) ≡ None → run.level ≡ para_of line → run.end ≡ line.end) →
    ((next_remaining line.levels.now line.end (high + 1) ≡ None → run.level ≢ para_of line) → run.end ≡ high + 1) →
    IsRunAt line place run
run_from-is line place to low high bound run o b lt within same ends level shown l h bounded inside up_to removed stops
    joined alone =
    let s : IsSameLevel line.levels.now line.order.now place (place + run.shown) run.level =
    subst (λ n. IsSameLevel line.levels.now line.order.now place n run.level) (sym shown)
    (subst (λ v. IsSameLevel line.levels.now line.order.now place to v) (sym level)
    (same_level line place to o b lt within same ends)) in
    let last : to - 1 ≡ place + run.shown - 1 = omega arith in
    let at : slice_index line.order.now (to - 1) ≡ slice_index line.order.now (place + run.shown - 1) =
    ap (slice_index line.order.now) last in
    let e = ends_of line.levels.now line.start line.end line.order.now place (place + run.shown) run.level low high o s
    (l ∙ ap (λ n. min (slice_index line.order.now place) n) at) (h ∙
    ap (λ n. max (slice_index line.order.now place) n) at) in
    let r = remaining_at line.levels.now line.start line.end line.order.now e.lower.0 o (omega (
      arith,
      s.inside,
      e.lower.2,
    )) in
    let bound_is : bound ≡ line.start = omega (arith, r.low, e.lower.3, bounded) in
    is_run_at line place low high run (record {
      in_order = o;
      same = s;
      ends = e;
      span = record {
        reaches = up_to;
        first = omega arith;
        before = removed;
        begins = subst (λ n. (run.start ≡ n) ⊎
            ((n < run.start) × (is_some (slice_index_or line.levels.now (run.start - 1) None) ≡ true))) bound_is stops;
        joined = joined;
        alone = alone;
      };
    })

last_place_inside : (level : ParaLevel) (count : ℕ) → last_place level count ≤ count
last_place_inside Zero count = omega arith
last_place_inside One count = omega arith

-- the end of the line is one of its places, or the one after them
pub end_place_inside : (line : OrderedLine) → end_place line ≤ length line.order.now
end_place_inside line = last_place_inside line.para_level (length line.order.now)

-- the run of removed positions at the line's end
pub removed_run-is : (line : OrderedLine) (run : VisualRun) → run.start < line.end → line.start ≤ run.start →
    AllRemoved line.levels.now run.start line.end → run.end ≡ line.end → run.level ≡ para_of line → run.shown ≡ 0 →
    ((run.start ≡ line.start) ⊎
    ((line.start < run.start) × (is_some (slice_index_or line.levels.now (run.start - 1) None) ≡ true))) →
    IsAlone line run.start → IsRunAt line (end_place line) run
removed_run-is line run some first removed end level shown stops alone =
    record {
      level = record {
        some = omega arith;
        from = first;
        within = omega arith;
        level = λ p a b.
            effective-through line.levels.now (para_of line) line.end p line.end (omega arith) (omega arith) (λ d c g.
            removed d (omega arith) g)
            ∙ effective-end line.levels.now (para_of line) line.end ∙ sym level;
        begins = λ l. elim stops [
          | inl e ↦ absurd (omega arith)
          | inr t ↦ elim alone [
            | inl le ↦ absurd (omega arith)
            | inr ne ↦ λ same.
                let u = some_level (slice_index_or line.levels.now (run.start - 1) None) t.1 in
                let own : level_or_para line (run.start - 1) ≡ u.0 = ap (λ x. unwrap_or x (para_of line)) u.1 in
                ne (own ∙ sym (effective-own line.levels.now (para_of line) line.end (run.start - 1) u.0
                (omega arith) u.1) ∙ same ∙ level)
          ]
        ];
        ends = λ l. absurd (omega arith);
      };
      represents = record {
        inside = omega (arith, end_place_inside line, shown);
        own = λ i a b. absurd (omega arith);
        all = λ p c s.
            let u = some_level (slice_index_or line.levels.now p None) s in
            absurd (let z : None ≡ Some u.0 = sym (removed p c.0 (omega (arith, c.1))) ∙ u.1 in cc);
        removed = λ z. refl;
        rising = λ even i j a l b. absurd (omega arith);
        falling = λ odd i j a l b. absurd (omega arith);
      };
    }
