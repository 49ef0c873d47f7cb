use Rattle.std.specs.Prelude.{ℕ, ◌+◌, ◌≤◌, List, length}
use Rattle.requests.specs.Printed.{most_text_bytes}
use Rattle.requests.specs.ReadFiles.{origin_of}
use Rattle.requests.proofs.reading.bytes_in_file.Given as goal

-- the bytes that the source has returned, and how many more it may return
pub record BytesRead {S : Type 0} (Opens : S → Type 0) (gives : S → List ℕ → S → Type 0) (room : S →
    ℕ) (now : S) (bytes : List ℕ) : Type 0 where
  pub opened : S
  pub is : Opens opened
  pub given : gives opened bytes now
  pub bound : length bytes + room now ≤ most_text_bytes

abbrev pub invariant-loop-source : goal.invariant-loop-source
invariant-loop-source g l =
    BytesRead (g.F.Files.opens l.files (origin_of l.file) most_text_bytes) g.F.Source.ByteSource.gives
    g.F.Source.ByteSource.most_remaining l.source l.bytes.items

abbrev pub decreases-loop-source : goal.decreases-loop-source
decreases-loop-source g l = g.F.Source.ByteSource.most_remaining l.source
