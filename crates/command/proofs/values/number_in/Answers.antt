use Rattle.std.proofs.Common.{◌≡◌, ◌∙◌, ℕ, Option, None, Some, Result, ap, refl, subst, unwrap_or}
use Rattle.std.specs.Str.Parse.{ExplainsUnsignedError, HasUnsignedDigitsIfOk, ParsesUnsigned}
use Rattle.std.specs.declared.num.ParseIntError.{ParseIntError}
use Rattle.clap.specs.Matches.{ReadsOne, found_of, one_text}
use Rattle.clap.specs.Walk.{Text}
use Rattle.clap.proofs.WalkLemmas.{one_text-rows}
use Rattle.command.specs.CommandLine.{NumberIs, ReadsNumber}
use Rattle.command.proofs.values.number_in.Goals as goal

-- what the kit states about a number that is read
abbrev GivesNumber : Text → Result ℕ ParseIntError → Type 0
GivesNumber text r = ParsesUnsigned 64 10 text r × ExplainsUnsignedError 10 text r × HasUnsignedDigitsIfOk text r

reads-number : (text : Text) (read : Option ℕ) → ReadsOne GivesNumber text read → ReadsOne ReadsNumber text read
reads-number text None h = (h.0, h.1.0)
reads-number text (Some n) h = h.0

number-is : (default : ℕ) (text : Option Text) (read : Option ℕ) (n : ℕ) → (text ≡ None → read ≡ None)
    → ((t : Text) → text ≡ Some t → ReadsOne GivesNumber t read) → n ≡ unwrap_or read default → NumberIs default text n
number-is default None read n none some is = is ∙ ap (λ (r : Option ℕ). unwrap_or r default) (none refl)
number-is default (Some t) read n none some is = (read, reads-number t read (some t refl), is)

pub returns : goal.returns
returns c =
    let found = found_of c.args.matches.now in
    subst (λ (text : Option Text). NumberIs c.args.default text c.unwrap_or.result) (one_text-rows found c.args.id.now)
    (number-is c.args.default (one_text found c.args.id.now) c.get_one.result c.unwrap_or.result c.get_one.ensures.none
    c.get_one.ensures.value c.unwrap_or.ensures)
