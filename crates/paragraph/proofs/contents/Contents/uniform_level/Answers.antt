use Rattle.std.proofs.Common.{ap, sym, ◌∙◌, ◌≡◌, ℕ, true}
use Rattle.units.specs.Isolates.{level_of_para, para_level_of}
use Rattle.explicit.specs.SideLevels.{level_under}
use Rattle.paragraph.specs.Contents.{are_flat, keeps_level}
use Rattle.paragraph.proofs.UniformLevels.{not_flat, level_if_flat}
use Rattle.paragraph.proofs.contents.Contents.uniform_level.Goals as goal

pub returns-then-not-is_flat : goal.returns-then-not-is_flat
returns-then-not-is_flat c = λ cs is.
    not_flat cs (para_level_of cs c.args.direction) (sym (c.is_flat.ensures cs is) ∙ c.if-not-is_flat.true)

pub returns-then-not-keeps : goal.returns-then-not-keeps
returns-then-not-keeps c = λ cs is.
    let flat : are_flat cs ≡ true = sym (c.is_flat.ensures cs is) ∙ c.if-not-is_flat.false in
    let para : level_of_para c.level_under-level.result ≡ para_level_of cs c.args.direction =
    c.level_under-level.ensures ∙ ap (level_under c.args.direction) (c.side.ensures cs is) ∙
    level_if_flat cs c.args.direction flat in
    ap (λ (level : ℕ). keeps_level level cs) (sym para) ∙ sym (c.keeps.ensures cs is) ∙ c.if-not-keeps.true

pub returns : goal.returns
returns c = λ cs is.
    let flat : are_flat cs ≡ true = sym (c.is_flat.ensures cs is) ∙ c.if-not-is_flat.false in
    let para : level_of_para c.level_under-level.result ≡ para_level_of cs c.args.direction =
    c.level_under-level.ensures ∙ ap (level_under c.args.direction) (c.side.ensures cs is) ∙
    level_if_flat cs c.args.direction flat in
    record {
      keeps = ap (λ (level : ℕ). keeps_level level cs) (sym para) ∙ sym (c.keeps.ensures cs is) ∙
          c.if-not-keeps.false;
      para = para;
    }
