use Rattle.std.proofs.Common.{inl, inr}
use Rattle.std.proofs.lemmas.Bool.{cases_lt}
use Rattle.compress.proofs.pass.pass_by_fours.Goals as goal

pub returns-clause-passed : goal.returns-clause-passed
returns-clause-passed g c = λ q a b.
    elim (cases_lt q c.pass_fours-p.result) [
      | inl lt ↦ c.pass_fours-p.ensures.passed q a lt
      | inr far ↦ c.pass_singly.ensures.passed q far b
    ]

pub returns-clause-bare : goal.returns-clause-bare
returns-clause-bare g c = λ q a b.
    elim (cases_lt q c.pass_fours-p.result) [
      | inl lt ↦ c.pass_fours-p.ensures.bare q a lt
      | inr far ↦ c.pass_singly.ensures.bare q far b
    ]
