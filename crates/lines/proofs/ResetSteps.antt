-- One step of the pass of L1 from the end of a text.
use Rattle.std.proofs.Common.{◌≡◌, ◌≢◌, ◌<◌, ◌≤◌, ◌+◌, ◌-◌, ℕ, List, Option, Bool, true, false, cond, length, take, count_by, get_or, set, None, arith, refl, inl, inr, sym, ap, ◌∙◌, subst}
use Rattle.std.specs.Prelude.{◌||◌, ◌&&◌, slice_index, slice_index_or, map}
use Rattle.std.proofs.lemmas.Bool.{cases_eq, cases_lt}
use Rattle.std.proofs.lemmas.List.{length-map, get_or-map, get_or_default}
use Rattle.units.specs.Classes.{is_line_separator, is_separator, class_at, classes_of}
use Rattle.units.specs.Isolates.{level_of_para}
use Rattle.units.specs.Paragraphs.{paragraphs_of}
use Rattle.units.specs.Reordering.{para_level_at, reset_to, after_resets}
use Rattle.units.specs.declared.bracket.Unit.{Unit as BidiUnit}
use Rattle.units.specs.declared.class.Class.{Class}
use Rattle.units.specs.declared.level.ParaLevel.{ParaLevel}
use Rattle.units.specs.declared.level.ParaLevel.TheVariants.{Zero}
use Rattle.explicit.proofs.Holders.Roles.{class_read}
use Rattle.lines.specs.LineBreaks.{AreBreaks}
use Rattle.lines.specs.Spaces.{SeparateNone, levels_reset, resets_before}
use Rattle.lines.proofs.BoolBytes.{bool_byte-is}
use Rattle.lines.proofs.LineEnd.{may_reset}
use Rattle.lines.proofs.Separators.{paragraph_at}
use Rattle.lines.proofs.TextEnd.{Comes, Resetting, counted_step, resetting_end, resetting_more, resetting_on, resetting_over, resetting_start}
use mir.Val.{bool_byte}

-- a search for a separator of lines passes one position more
pub passes_one : (us : List BidiUnit) (p q end : ℕ) (d : BidiUnit) (separates : Bool) → p < length us →
    separates ≡ is_line_separator (get_or us p d).class → separates ≡ false → q ≡ p + 1 →
    SeparateNone (classes_of us) q end → SeparateNone (classes_of us) p end
passes_one us p q end d separates within e off next passed =
    let solid : is_line_separator (class_at (classes_of us) p) ≡ false =
    sym (e ∙ ap is_line_separator (sym (class_read us p d within))) ∙ off in
    record {
      none = λ k low high. elim (cases_eq k p) [
        | inl same ↦ subst (λ m. is_line_separator (class_at (classes_of us) m) ≡ false) (sym same) solid
        | inr other ↦ passed.none k (omega arith) high
      ];
    }

none_holds : (a b d : Bool) → ((a || b) || d) ≡ false → (a ≡ false) × (b ≡ false) × (d ≡ false)
none_holds false false false h = (refl, refl, refl)
none_holds false false true h = cc
none_holds false true d h = cc
none_holds true b d h = cc

len : (us : List BidiUnit) → length (classes_of us) ≡ length us
len us = length-map us (λ u. u.class)

module _ (us : List BidiUnit) (paras : List ParaLevel) {at : List ℕ} {old : List (Option ℕ)} where
  -- before the first step
  pub pass_start : (separators : ℕ) → length old ≡ length us → AreBreaks at (length us) →
      separators ≡ count_by is_separator (classes_of us) →
      Resetting (classes_of us) at (map level_of_para paras) old (length old) (length at) separators true old
  pass_start separators all breaks count =
      resetting_start (classes_of us) at (map level_of_para paras) old separators (len us ∙
      sym all) (subst (AreBreaks at) (sym (len us)) breaks) count

  module _ {position ahead paragraph : ℕ} {resets : Bool} {levels : List (Option ℕ)}
      (before : Resetting (classes_of us) at (map level_of_para paras) old position ahead paragraph resets levels) where
    -- after the last step
    pub pass_end : (breaks : List ℕ) → position ≡ 0 → at ≡ breaks → levels ≡ levels_reset us breaks paras old
    pass_end breaks none same =
        resetting_end (classes_of us) at (map level_of_para paras) old ahead paragraph resets levels
        (subst (λ n. Resetting (classes_of us) at (map level_of_para paras) old n ahead paragraph resets levels)
        none before)
        ∙ ap (λ bs. after_resets (classes_of us) bs (map level_of_para paras) old) same

    module _ (some : 0 < position) (within : position ≤ length us) where
      lower : Resetting (classes_of us) at (map level_of_para paras) old
          (position - 1 + 1) ahead paragraph resets levels
      lower =
          let there : position - 1 + 1 ≡ position = omega (arith, some) in
          subst (λ n. Resetting (classes_of us) at (map level_of_para paras) old n ahead paragraph resets levels)
          (sym there) before

      read_at : (test : Class → Bool) (d : BidiUnit) (outcome : Bool) →
          outcome ≡ test (get_or us (position - 1) d).class → outcome ≡ test (class_at (classes_of us) (position - 1))
      read_at test d outcome e = e ∙ ap test (sym (class_read us (position - 1) d (omega (arith, some, within))))

      -- the separators before the position are those that were counted, without the position itself
      pub counted_back : (d : BidiUnit) (less : ℕ) (ends : Bool) →
          ends ≡ is_separator (get_or us (position - 1) d).class → less ≡ bool_byte ends →
          less + count_by is_separator (take (position - 1) (classes_of us)) ≡ paragraph
      counted_back d less ends e b =
          let n = counted_step (classes_of us) (position - 1) ends (omega (arith, len us, some, within))
          (read_at is_separator d ends e) in
          let b' : less ≡ cond ends 1 0 = b ∙ bool_byte-is ends in
          omega (arith, lower.counted)

      module _ (same : length paras ≡ length (paragraphs_of us)) where
        pub counted_here : count_by is_separator (take (position - 1) (classes_of us)) < length paras
        counted_here = paragraph_at us (length paras) (position - 1) same (omega (arith, some, within))

        -- the number of the paragraph of the position is below the number of paragraphs
        pub paragraph_here : (d : BidiUnit) (less : ℕ) (ends : Bool) →
            ends ≡ is_separator (get_or us (position - 1) d).class → less ≡ bool_byte ends →
            paragraph - less < length paras
        paragraph_here d less ends e b = omega (arith, counted_back d less ends e b, counted_here)

        -- a position that separates lines, or after which a line begins or spaces are reset
        pub resets_one : (d : BidiUnit) (less passed : ℕ) (ends broken resets2 may : Bool) (level put : Option ℕ) →
            AreBreaks at (length us) → ends ≡ is_separator (get_or us (position - 1) d).class
            → (broken ≡ true → Comes at ahead (position - 1 + 1)) → (Comes at ahead (position - 1 + 1) → broken ≡ true)
            → resets2 ≡ resets_before (get_or us (position - 1) d).class (ends || broken || resets) →
            may ≡ may_reset (get_or us (position - 1) d).class → level ≡ get_or levels (position - 1) level
            → put ≡ reset_to (resets2 && may) (level_of_para (slice_index_or paras (paragraph - less) Zero)) level →
            less ≡ bool_byte ends → passed ≡ bool_byte broken
            → Resetting (classes_of us) at (map level_of_para paras) old (position - 1) (ahead - passed)
            (paragraph - less) resets2 (set levels (position - 1) put)
        resets_one d less passed ends broken resets2 may level put breaks e says hit flag m read is fewer comes =
            let own : List Class = classes_of us in
            let ps : List ℕ = map level_of_para paras in
            let p : ℕ = position - 1 in
            let class : class_at own p ≡ (get_or us p d).class = class_read us p d (omega (arith, some, within)) in
            let back = counted_back d less ends e fewer in
            let index : paragraph - less ≡ count_by is_separator (take p own) = omega arith in
            let para : ℕ = level_of_para (slice_index_or paras (paragraph - less) Zero) in
            let value : para ≡ para_level_at own ps p = ap (λ i. level_of_para (slice_index_or paras i Zero)) index ∙
            sym (get_or-map level_of_para paras (count_by is_separator (take p own)) Zero 0 counted_here) in
            let stored : level ≡ get_or levels p None =
            read ∙ get_or_default levels p level None (omega (
              arith,
              before.len,
              before.all,
              len us,
              some,
              within,
            )) in
            let written : set levels p put ≡
            set levels p (reset_to (resets2 && may_reset (class_at own p)) para (get_or levels p None)) =
            ap (set levels p) (is ∙ ap (λ b. reset_to (resets2 && b) para level) (m ∙ ap may_reset (sym class)) ∙
            ap (reset_to (resets2 && may_reset (class_at own p)) para) stored) in
            let more : Resetting own at ps old p (ahead - cond broken 1 0) (paragraph - cond ends 1 0) resets2
            (set levels p put) =
            resetting_more own at ps old p ahead paragraph para ends broken resets resets2 levels (set levels p put)
            (subst (AreBreaks at) (sym (len us)) breaks) (omega (arith, len us, some, within))
            (read_at is_separator d ends e) says hit
            (flag ∙ ap (λ k. resets_before k (ends || broken || resets)) (sym class)) value written lower in
            subst (λ a. Resetting own at ps old p (ahead - a) (paragraph - less) resets2 (set levels p put))
            (sym (comes ∙ bool_byte-is broken))
            (subst (λ a. Resetting own at ps old p (ahead - cond broken 1 0) (paragraph - a) resets2 (set levels p put))
            (sym (fewer ∙ bool_byte-is ends)) more)

      -- a position that does not separate lines, and after which no line begins and no spaces are reset
      module _ (d : BidiUnit) (broken separates : Bool) (none : ((resets || broken) || separates) ≡ false)
          (is : separates ≡ is_line_separator (get_or us (position - 1) d).class)
          (hit : Comes at ahead (position - 1 + 1) → broken ≡ true) where
        pub solid : is_line_separator (class_at (classes_of us) (position - 1)) ≡ false
        solid = sym (read_at is_line_separator d separates is) ∙ (none_holds resets broken separates none).2

        whole : Comes at ahead (position - 1 + 1) → ⊥
        whole comes = let z : false ≡ true = sym (none_holds resets broken separates none).1 ∙ hit comes in cc

        -- the next break towards the start is not after it
        pub last_before : (last : ℕ) → (0 < ahead → last ≡ slice_index at (ahead - 1)) → (ahead ≡ 0 → last ≡ 0) →
            last ≤ position - 1
        last_before last from first =
            elim (cases_lt 0 ahead) [
              | inl more ↦
                  let e : last ≡ slice_index at (ahead - 1) = from more in
                  let le : slice_index at (ahead - 1) ≤ position = before.coming more in
                  let ne : slice_index at (ahead - 1) ≢ position - 1 + 1 = λ same. whole (more, same) in
                  omega (arith, some)
              | inr few ↦ let e : last ≡ 0 = first (omega arith) in omega arith
            ]

        module _ (breaks : AreBreaks at (length us)) where
          pub passed_one : Resetting (classes_of us) at (map level_of_para paras) old
              (position - 1) ahead paragraph false levels
          passed_one =
              resetting_on (classes_of us) at (map level_of_para paras) old (position - 1) ahead paragraph levels
              (subst (AreBreaks at) (sym (len us)) breaks) (omega (arith, len us, some, within)) solid whole
              (subst (λ b. Resetting (classes_of us) at (map level_of_para paras) old
              (position - 1 + 1) ahead paragraph b levels) (none_holds resets broken separates none).0 lower)

          -- the positions before it are passed too, if none of them separates lines
          pub passed_to : (q last : ℕ) → (0 < ahead → last ≡ slice_index at (ahead - 1)) → last ≤ q → q ≤ position - 1 →
              SeparateNone (classes_of us) q (position - 1) →
              Resetting (classes_of us) at (map level_of_para paras) old q ahead paragraph resets levels
          passed_to q last from le low free =
              let own : List Class = classes_of us in
              let ps : List ℕ = map level_of_para paras in
              let count : ℕ = position - 1 - q in
              let back : q + count ≡ position - 1 = omega (arith, low) in
              let coming : 0 < ahead → slice_index at (ahead - 1) ≤ q =
              λ more. let e : last ≡ slice_index at (ahead - 1) = from more in omega (arith, le) in
              let one : Resetting own at ps old (q + count) ahead paragraph false levels =
              subst (λ n. Resetting own at ps old n ahead paragraph false levels) (sym back) passed_one in
              subst (λ b. Resetting own at ps old q ahead paragraph b levels)
              (sym (none_holds resets broken separates none).0)
              (resetting_over own at ps old q count ahead paragraph levels (subst (AreBreaks at) (sym (len us)) breaks)
              (omega (arith, len us, some, within, back)) (subst (SeparateNone own q) (sym back) free) coming one)
