use Rattle.std.proofs.Common.{◌≡◌, Option, None, Some, codes, refl, subst}
use Rattle.std.specs.declared.num.NonZeroU16.{NonZeroU16}
use Rattle.clap.specs.Matches.{ReadsOne, found_of, one_text}
use Rattle.clap.specs.Walk.{Text}
use Rattle.clap.proofs.WalkLemmas.{one_text-rows}
use Rattle.command.specs.CommandLine.{ColumnsAre, ReadsColumns}
use Rattle.command.proofs.values.columns_in.Goals as goal

columns_are : (text : Option Text) (columns : Option NonZeroU16) → (text ≡ None → columns ≡ None)
    → ((t : Text) → text ≡ Some t → ReadsOne ReadsColumns t columns) → ColumnsAre text columns
columns_are None columns none some = none refl
columns_are (Some t) columns none some = some t refl

pub returns : goal.returns
returns c =
    let found = found_of c.args.matches.now in
    subst (λ (text : Option Text). ColumnsAre text c.get_one.result) (one_text-rows found (codes "columns"))
    (columns_are (one_text found (codes "columns")) c.get_one.result c.get_one.ensures.none c.get_one.ensures.value)
