use Rattle.std.proofs.Common.{◌≡◌, List, Result, Ok, Err, IfOk, IfErr, true, inl, inr, ap}
use Rattle.std.proofs.lemmas.Result.{IfOk-weaker}
use Rattle.clap.specs.Faults.{fault_of, is_simple_and_free}
use Rattle.clap.specs.Kinds.{FailsBy}
use Rattle.clap.specs.Simple.{App, HasMatchesOf, app_of, is_simple, subcommand_rows_of}
use Rattle.clap.specs.Walk.{Text, texts}
use Rattle.clap.specs.declared.error.Error.{Error}
use Rattle.clap.specs.declared.parser.matches.ArgMatches.{ArgMatches}
use Rattle.command.specs.CommandLine.{HasMet, IsBidi, IsRejectedByClap}
use Rattle.command.proofs.words.matches_of.Goals as goal

simple : (app : App) → IsBidi app → is_simple app ≡ true
simple app h = ap is_simple h.is

free : (app : App) → IsBidi app → is_simple_and_free app ≡ true
free app h = ap is_simple_and_free h.is

met : (app : App) (words : List Text) (r : Result ArgMatches Error) → IsBidi app → FailsBy (fault_of app words) r
    → IfOk r (HasMatchesOf app words) → IfOk r (λ m. HasMet words (subcommand_rows_of m))
met app words (Ok m) h passes found = record { app = app; is = h; passes = passes; same = (found (simple app h)).1 }
met app words (Err e) h fails found = tt

rejected : (app : App) (words : List Text) (r : Result ArgMatches Error) → IsBidi app → FailsBy (fault_of app words) r
    → IfErr r (IsRejectedByClap words)
rejected app words (Ok m) h passes = tt
rejected app words (Err e) h (inl memory) = inl memory
rejected app words (Err e) h (inr kind) = inr (app, h, kind)

pub returns-clause-met : goal.returns-clause-met
returns-clause-met c =
    let bidi = c.in_ok-command.ensures in
    let app = app_of c.in_ok-command.command in
    met app (texts c.args.words.now) c.try_get_matches_from_mut.result bidi
    (c.try_get_matches_from_mut.ensures.kinds (free app bidi))
    (IfOk-weaker c.try_get_matches_from_mut.result _ _ (λ m h. h.2) c.try_get_matches_from_mut.ensures.ok)

pub returns-clause-rejected : goal.returns-clause-rejected
returns-clause-rejected c =
    let bidi = c.in_ok-command.ensures in
    let app = app_of c.in_ok-command.command in
    rejected app (texts c.args.words.now) c.try_get_matches_from_mut.result bidi
    (c.try_get_matches_from_mut.ensures.kinds (free app bidi))
