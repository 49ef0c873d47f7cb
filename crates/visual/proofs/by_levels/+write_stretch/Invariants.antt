use Rattle.std.proofs.Common.{◌-◌, ◌≡◌, length}
use Rattle.visual.proofs.GivenOrder.{IsWritten}
use Rattle.visual.proofs.by_levels.+write_stretch.Given as goal

abbrev pub decreases-write_stretch : goal.decreases-write_stretch
decreases-write_stretch l = 256 - l.least

abbrev pub invariant-loop-end : goal.invariant-loop-end
invariant-loop-end l =
    record {
      len : length l.order ≡ length l.levels;
      so_far : IsWritten l.levels l.start l.least l.end l.fn.order l.order;
    }

abbrev pub decreases-loop-end : goal.decreases-loop-end
decreases-loop-end l = length l.levels - l.end
