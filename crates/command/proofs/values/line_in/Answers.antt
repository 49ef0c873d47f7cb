use Rattle.std.proofs.Common.{◌≡◌, ◌∙◌, Option, None, Some, ap, codes, option_map, refl, subst, unwrap_or}
use Rattle.std.specs.declared.num.NonZeroU64.{NonZeroU64}
use Rattle.clap.specs.Matches.{ReadsOne, found_of, one_text}
use Rattle.clap.specs.Walk.{Text}
use Rattle.clap.proofs.WalkLemmas.{one_text-rows}
use Rattle.command.specs.CommandLine.{LineIs, ReadsLine}
use Rattle.command.proofs.values.line_in.Goals as goal

value-read : (first : NonZeroU64) (read : Option NonZeroU64) → first.value ≡ 1
    → (unwrap_or read first).value ≡ unwrap_or (option_map (λ n. n.value) read) 1
value-read first None one = one
value-read first (Some n) one = refl

line-is : (first : NonZeroU64) (text : Option Text) (read : Option NonZeroU64) (line : NonZeroU64) → first.value ≡ 1
    → (text ≡ None → read ≡ None) → ((t : Text) → text ≡ Some t → ReadsOne ReadsLine t read) →
    line ≡ unwrap_or read first → LineIs text line
line-is first None read line one none some is =
    ap (λ (n : NonZeroU64). n.value) is ∙ ap (λ (r : Option NonZeroU64). (unwrap_or r first).value) (none refl) ∙ one
line-is first (Some t) read line one none some is =
    (read, some t refl, ap (λ (n : NonZeroU64). n.value) is ∙ value-read first read one)

pub returns : goal.returns
returns c =
    let found = found_of c.args.matches.now in
    subst (λ (text : Option Text). LineIs text c.unwrap_or.result) (one_text-rows found (codes "row"))
    (line-is _ (one_text found (codes "row")) c.get_one.result c.unwrap_or.result refl c.get_one.ensures.none
    c.get_one.ensures.value c.unwrap_or.ensures)
