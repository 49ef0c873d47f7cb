use Rattle.std.proofs.Common.{◌≡◌, ◌∙◌, ℕ, List, [], ◌∷◌, ◌++◌, Some, ap, append_assoc, codes, sym}
use Rattle.std.proofs.lemmas.Result.{IfOk-weaker}
use Rattle.std.specs.Fmt.{decimal}
use Rattle.std.specs.List.{concat}
use Rattle.printing.proofs.Appending.{Appends-to}
use Rattle.printing.specs.LevelsText.{line_feed}
use Rattle.printing.specs.declared.place.TextPlace.{TextPlace}
use Rattle.requests.specs.Reasons.{place_words, reason_line}
use Rattle.requests.proofs.reason.print_place_reason.Goals as goal

place_line : (place : TextPlace)
    → concat (codes "bidi: reason: line " ∷ decimal place.line ∷ codes ", byte offset " ∷ decimal place.offset ∷
    line_feed ∷ [])
    ≡ reason_line (Some (place_words place))
place_line place =
    let rest = append_assoc (decimal place.line) (codes ", byte offset " ++ (decimal place.offset ++ [])) line_feed
    ∙ ap (λ (xs : List ℕ). decimal place.line ++ (codes ", byte offset " ++ xs))
    (append_assoc (decimal place.offset) [] line_feed) in
    ap (λ (xs : List ℕ). codes "bidi: reason: line " ++ xs) (sym rest)

pub returns : goal.returns
returns g c =
    IfOk-weaker c.writeln.result _ _ (λ _ h. Appends-to _ _ _ _ (place_line c.args.place) h) c.writeln.ensures.bytes
