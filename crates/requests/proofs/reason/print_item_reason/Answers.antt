use Rattle.std.proofs.Common.{◌≡◌, ◌∙◌, ℕ, List, [], ◌∷◌, ◌++◌, Some, ap, append_assoc, codes, sym}
use Rattle.std.proofs.lemmas.Result.{IfOk-weaker}
use Rattle.std.specs.List.{concat}
use Rattle.printing.proofs.Appending.{Appends-to}
use Rattle.printing.specs.LevelsText.{line_feed}
use Rattle.requests.specs.Reasons.{item_words, reason_line}
use Rattle.requests.proofs.reason.print_item_reason.Goals as goal

item_line : (word allowed : List ℕ)
    → concat (codes "bidi: reason: in '" ∷ word ∷ codes "', allowed: " ∷ allowed ∷ line_feed ∷ [])
    ≡ reason_line (Some (item_words word allowed))
item_line word allowed =
    let rest = append_assoc word (codes "', allowed: " ++ (allowed ++ [])) line_feed
    ∙ ap (λ (xs : List ℕ). word ++ (codes "', allowed: " ++ xs)) (append_assoc allowed [] line_feed) in
    ap (λ (xs : List ℕ). codes "bidi: reason: in '" ++ xs) (sym rest)

pub returns : goal.returns
returns g c =
    IfOk-weaker c.writeln.result _ _ (λ _ h. Appends-to _ _ _ _ (item_line c.args.word.now c.args.allowed.now) h)
    c.writeln.ensures.bytes
