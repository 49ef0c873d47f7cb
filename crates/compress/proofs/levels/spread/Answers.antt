use Rattle.std.proofs.Common.{arith}
use Rattle.compress.proofs.Resolved.{spread_resolves, spread_split}
use Rattle.compress.proofs.levels.spread.Goals as goal

pub returns-then-para-clause-resolved : goal.returns-then-para-clause-resolved
returns-then-para-clause-resolved g c =
    let us = c.args.para.now.units.now in
    let m = c.args.few.chosen in
    let end = c.args.few.end in
    let split = c.split_at_mut-front.ensures in
    let within = c.requires.laid.end_within in
    spread_resolves us c.args.starts.now m end _ c.spread_all.new.levels
    (omega (arith, c.spread_all.auto.levels, c.requires.levels, split.front_len, split.back_len, c.copy_from_slice.ensures.len))
    (spread_split us c.args.starts.now m end c.args.levels.now c.copy_from_slice.new.self c.split_at_mut-front.result.0.now c.split_at_mut-front.result.1.now
    c.spread_all.new.levels c.requires.half (omega (arith, within, c.requires.levels)) split.front split.back c.copy_from_slice.ensures.after
    c.spread_all.ensures.written c.spread_all.ensures.unchanged)

pub returns-else-para-clause-resolved : goal.returns-else-para-clause-resolved
returns-else-para-clause-resolved g c =
    let us = c.args.para.now.units.now in
    let m = c.args.few.chosen in
    let end = c.args.few.end in
    let split = c.split_at_mut-front.ensures in
    let within = c.requires.laid.end_within in
    spread_resolves us c.args.starts.now m end _ c.spread_remaining.new.levels
    (omega (arith, c.spread_remaining.auto.levels, c.requires.levels, split.front_len, split.back_len, c.copy_from_slice.ensures.len))
    (spread_split us c.args.starts.now m end c.args.levels.now c.copy_from_slice.new.self c.split_at_mut-front.result.0.now c.split_at_mut-front.result.1.now
    c.spread_remaining.new.levels c.requires.half (omega (arith, within, c.requires.levels)) split.front split.back c.copy_from_slice.ensures.after
    c.spread_remaining.ensures.written c.spread_remaining.ensures.unchanged)
