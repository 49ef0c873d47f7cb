-- What the filled lists say about the successors.
use Rattle.std.specs.Prelude.{Option, Some, None, ℕ, zero, suc, ◌≡◌, List, ◌∷◌, ◌++◌, length, take, refl}
use Rattle.std.proofs.Common.{arith, ap, ◌∙◌, drop}
use Rattle.std.proofs.lemmas.Bool.{cond-false}
use Rattle.std.proofs.lemmas.List.{get_or_past, take_at}
use Rattle.units.specs.Runs.{followed, LeveledView, size_of, level_of, successor}
use Rattle.explicit.specs.Leveled.{IsLeveled}
use Rattle.sequences.specs.Links.{link_at, linked, LinksForward}
use Rattle.sequences.specs.Heads.{AreSuccessors}
use Rattle.sequences.proofs.Forward.{successor_later}

-- a whole list that was borrowed and is put back
pub put_back : {X : Type 0} (n : ℕ) (new old : List X) → length new ≡ n → take n (new ++ drop (length new) old) ≡ new
put_back n new old e = take_at new (drop (length new) old) n e

removed_successor : (t : LeveledView) (p : ℕ) → level_of t p ≡ None → successor t p ≡ None
removed_successor t p e = grind (arith, cond-false)

followed_alike : (f g : ℕ → Option ℕ) → ((p : ℕ) → f p ≡ g p) → (n : ℕ) (at : Option ℕ) →
    followed f n at ≡ followed g n at
followed_alike f g e zero at = refl
followed_alike f g e (suc n) None = refl
followed_alike f g e (suc n) (Some p) =
    ap (λ (ps : List ℕ). p ∷ ps) (followed_alike f g e n (f p) ∙ ap (followed g n) (e p))

module _ (t : LeveledView) (links : List (Option ℕ)) (fit : length links ≡ size_of t)
    (are : AreSuccessors t links) where
  -- past the end no position has a link or a successor
  pub links_are : (p : ℕ) → link_at links p ≡ successor t p
  links_are p = grind (arith, get_or_past, removed_successor)

  pub links_lead_on : IsLeveled t → LinksForward links
  links_lead_on h p = grind (arith, successor_later, links_are)

  -- following the links is following the successors
  pub linked_is : (p : ℕ) → linked links (Some p) ≡ followed (successor t) (size_of t) (Some p)
  linked_is p =
      followed_alike (link_at links) (successor t) links_are (length links) (Some p) ∙
      ap (λ n. followed (successor t) n (Some p)) fit
