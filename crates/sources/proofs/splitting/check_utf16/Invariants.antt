use Rattle.std.proofs.Common.{◌-◌, ◌<◌, ℕ, length}
use Rattle.decoding.specs.Encodings.{IsAt, IsPaired}
use Rattle.sources.proofs.splitting.check_utf16.Given as goal

-- some characters have been read, and none of them is a lone surrogate
abbrev pub invariant-loop-at : goal.invariant-loop-at
invariant-loop-at l = (count : ℕ) × IsAt l.text count l.at × ((k : ℕ) → k < count → IsPaired l.text k)

abbrev pub decreases-loop-at : goal.decreases-loop-at
decreases-loop-at l = length l.text - l.at
