use Rattle.std.proofs.Common.{ap, subst, sym, ◌∙◌, ◌≡◌, ℕ, List, map}
use Rattle.std.specs.Prelude.{replicate}
use Rattle.room.specs.Written.{WritesWhole}
use Rattle.for_c.specs.LevelBytes.{level_byte}
use Rattle.for_c.proofs.OneLevel.{character_bytes}
use Rattle.for_c.proofs.columns.write_levels_of.Goals as goal

pub returns-in-Some : goal.returns-in-Some
returns-in-Some c =
    let levels = c.args.room.now.layout.levels in
    let level : ℕ = c.in-Some.level in
    let written = c.write_one_level in
    let bytes : replicate c.characters.result level ≡ map level_byte levels =
    ap (λ (n : ℕ). replicate n level) c.characters.ensures ∙ sym (character_bytes levels level c.in-Some.ensures) in
    subst (λ (bs : List ℕ). WritesWhole bs written.result c.args.out.now written.new.out) bytes written.ensures
