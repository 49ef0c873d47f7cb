-- Letters that are made one by one.
use Rattle.std.proofs.Common.{◌≡◌, ℕ, ◌+◌, ◌<◌, List, [], ◌∷◌, ◌++◌, length, map, take, get_or, ap, sym, ◌∙◌}
use Rattle.std.specs.List.{All}
use Rattle.std.proofs.lemmas.List.{map_more}
use Rattle.std.proofs.lemmas.List.Elements.{All-nil, All-cons, All-append}
use Rattle.rows.specs.declared.letter.Letter.{Letter}

-- the letters of the first `done` items, each of which meets `Is`
pub record AreLettersSoFar {A : Type 0} (Is : Letter → Type 0) (letter : A →
    Letter) (items : List A) (done : ℕ) (letters : List Letter) : Type 0 where
  pub are : letters ≡ map letter (take done items)
  pub each : All Is letters

pub one-more-letter : {A : Type 0} (Is : Letter → Type 0) (letter : A →
    Letter) (items : List A) (done : ℕ) (letters : List Letter) (d : A) → done < length items
    → AreLettersSoFar Is letter items done letters → Is (letter (get_or items done d))
    → AreLettersSoFar Is letter items (done + 1) (letters ++ letter (get_or items done d) ∷ [])
one-more-letter Is letter items done letters d lt h is = record {
  are = ap (λ (ls : List Letter). ls ++ letter (get_or items done d) ∷ []) h.are ∙
      sym (map_more letter items done d lt);
  each = All-append Is letters (letter (get_or items done d) ∷ []) h.each
      (All-cons Is (letter (get_or items done d)) [] is (All-nil Is));
}
