-- What a line states: its content and its comment decide it.
use Rattle.std.proofs.Common.{◌≡◌, ℕ, ◌<◌, ◌≤◌, ◌==◌, false, List, [], ◌∷◌, length, refl, arith}
use Rattle.std.specs.List.{before_first, after_first}
use Rattle.std.specs.Prelude.{nat_lt}
use Rattle.std.proofs.lemmas.Bool.{le-ltb}
use Rattle.std.proofs.lemmas.List.{length-take}
use Rattle.std.proofs.lemmas.List.Sums.{prefix_len-le-length}
use Rattle.std.proofs.Math.ListN.{drop_of_length-le}
use Rattle.units.specs.Text.{longest_line, content_of, trimmed, fields_of, without_blanks_before}
use Rattle.units.specs.ClassNames.{class_of_short}
use Rattle.ucdfiles.specs.declared.span.FileLine.TheVariants.{Silent, Data}
use Rattle.ucdfiles.specs.ClassFile.{class_line_says, class_content_says, comment_says, range_in}
use Rattle.ucdfiles.specs.Statements.{span_says}

class_line_says-short : (line : List ℕ) → length line ≤ longest_line →
    class_line_says line ≡ class_content_says line (content_of line)
unfolding class_line_says
class_line_says-short line le = let e : nat_lt longest_line (length line) ≡ false = le-ltb _ _ le in rw e refl

class_content_says-some : (line content : List ℕ) → 0 < length content →
    class_content_says line content ≡ span_says Data (range_in class_of_short (fields_of content))
class_content_says-some line [] lt = absurd (omega arith)
class_content_says-some line (b ∷ bs) lt = refl

class_content_says-none : (line content : List ℕ) → length content ≡ 0 →
    class_content_says line content ≡ comment_says (without_blanks_before (after_first (λ b. b == 35) line))
class_content_says-none line [] e = refl
class_content_says-none line (b ∷ bs) e = absurd (omega arith)

pub class_line_says-data : (line before content : List ℕ) → length line ≤ longest_line →
    before ≡ before_first (λ b. b == 35) line → content ≡ trimmed before → 0 < length content
    → class_line_says line ≡ span_says Data (range_in class_of_short (fields_of content))
class_line_says-data line before content le cut trim some =
    grind (arith, class_line_says-short, class_content_says-some)

pub class_line_says-comment : (line before content comment : List ℕ) → length line ≤ longest_line →
    before ≡ before_first (λ b. b == 35) line → content ≡ trimmed before → length content ≡ 0
    → comment ≡ after_first (λ b. b == 35) line → class_line_says line ≡ comment_says (without_blanks_before comment)
class_line_says-comment line before content comment le cut trim none following =
    grind (arith, class_line_says-short, class_content_says-none)

no_comment : (line : List ℕ) → before_first (λ b. b == 35) line ≡ line → [] ≡ after_first (λ b. b == 35) line
no_comment line e = grind (arith, prefix_len-le-length, length-take, drop_of_length-le)

pub class_line_says-silent : (line before content : List ℕ) → length line ≤ longest_line →
    before ≡ before_first (λ b. b == 35) line → content ≡ trimmed before → length content ≡ 0
    → before_first (λ b. b == 35) line ≡ line → class_line_says line ≡ Silent
class_line_says-silent line before content le cut trim none whole =
    class_line_says-comment line before content [] le cut trim none (no_comment line whole)
