-- A text that is printed paragraph by paragraph, as its characters arrive.
use Rattle.std.specs.Prelude.{◌≡◌, ℕ, Option, List, ◌++◌}
use Rattle.std.specs.Io.KnownBytes.{Appends}
use Rattle.printing.specs.Following.{printed_after}
use Rattle.printing.specs.EndedParagraphs.{ended_paragraphs}
use Rattle.printing.specs.declared.begun.Begun.{Begun}

-- what is printed of the next part of a text
abbrev pub printed_next : Begun → List ℕ → List ℕ
printed_next begun chars =
    printed_after begun.settings.form begun.paragraph.passed begun.settings.tables.now chars begun.settings.direction

-- after further characters, known bytes grew by what is printed of the paragraphs that ended, from the unfinished one
-- on; the unfinished paragraph is now the one after them, and whatever follows is printed after them
pub record PrintsOn (more : List ℕ) (before after : Option (List ℕ)) (old new : Begun) : Type 0 where
  pub settings_are : new.settings ≡ old.settings
  pub ended : List ℕ
  pub joined : ended ++ new.paragraph.chars.items ≡ old.paragraph.chars.items ++ more
  pub whole : (rest : List ℕ) → ended_paragraphs old.settings.tables.now (ended ++ rest)
      ≡ ended ++ ended_paragraphs old.settings.tables.now rest
  pub noted : Appends before after (printed_next old ended)
  pub following : (rest : List ℕ) → printed_next old (ended ++ rest) ≡ printed_next old ended ++ printed_next new rest
