use Rattle.std.proofs.Common.{◌≡◌, ◌∙◌, inl, refl}
use Rattle.bidtests.specs.VerdictText.{verdict_text}
use Rattle.for_c.proofs.LineLengths.{line_short}
use Rattle.for_c.proofs.verdict_text.verdict_line.Goals as goal

-- what was printed is the line of a verdict with numbers of 64 bits
pub returns-in-Ok-clause-short : goal.returns-in-Ok-clause-short
returns-in-Ok-clause-short c =
    let printed : c.print_verdict.new.w.items ≡ verdict_text c.in-Some.verdict =
    c.in-Ok.ensures ∙ rw c.new-line.ensures.items in
    rw printed (line_short c.in-Some.verdict c.in-Some.ensures.small)

-- only what was printed of a verdict takes memory
pub returns-in-Err-clause-reason : goal.returns-in-Err-clause-reason
returns-in-Err-clause-reason c = inl (refl, (c.in-Some.verdict, c.in-Some.ensures.encoded))
