-- The ends of lines, written one after another.
use Rattle.std.proofs.Common.{◌≡◌, ℕ, ◌+◌, ◌<◌, Bool, List, length, set, sym, subst, arith}
use Rattle.std.proofs.lemmas.List.{get_or-set_same, get_or-set_other}
use Rattle.units.specs.declared.class.Class.{Class}
use Rattle.units.specs.Reordering.{begins_line}
use Rattle.lines.specs.declared.bounds.Bound.{Bound}
use Rattle.lines.specs.Bounds.{bound_at, first_bound}
use Rattle.lines.specs.LineEnds.{AreLineEnds, EndsLineAt}

-- at the start of the text there are none
pub ends_none : (own : List Class) (breaks : List ℕ) (bounds : List Bound) → bound_at bounds 0 ≡ first_bound →
    AreLineEnds own breaks 0 0 bounds
ends_none own breaks bounds first = grind arith

-- one end more
pub ends_more : (own : List Class) (breaks : List ℕ) (lines start end : ℕ) (bounds : List Bound) (bound : Bound) →
    AreLineEnds own breaks lines start bounds → lines + 1 < length bounds →
    EndsLineAt (begins_line own breaks) start end (length own) → bound.position ≡ end →
    AreLineEnds own breaks (lines + 1) end (set bounds (lines + 1) bound)
ends_more own breaks lines start end bounds bound e room cut is = grind (arith, get_or-set_other, get_or-set_same)

-- writing the end of an order changes no end of a line
pub end_unchanged : (bounds : List Bound) (i order k : ℕ) → i < length bounds →
    (bound_at (set bounds i (record { position = (bound_at bounds i).position; order = order })) k).position ≡
    (bound_at bounds k).position
end_unchanged bounds i order k room = grind (arith, get_or-set_same, get_or-set_other)

-- the same line, with its ends read from elsewhere
pub cut_read : (test : ℕ → Bool) (start end from to stop : ℕ) → from ≡ start → to ≡ end →
    EndsLineAt test start end stop → EndsLineAt test from to stop
cut_read test start end from to stop e f cut =
    subst (λ n. EndsLineAt test n to stop) (sym e) (subst (λ n. EndsLineAt test start n stop) (sym f) cut)
