use Rattle.std.proofs.Common.{arith, ap, sym, ◌≡◌, ◌∙◌, subst, length, List, ℕ, take, drop}
use Rattle.std.proofs.lemmas.List.{length-take-le}
use Rattle.units.specs.Classes.{classes_of}
use Rattle.units.specs.Isolates.{level_of_para}
use Rattle.units.specs.Positions.{positions_from}
use Rattle.units.specs.declared.bracket.Unit.{Unit as BidiUnit}
use Rattle.explicit.specs.Flat.{remaining_of}
use Rattle.sequences.specs.Links.{ArePositions}
use Rattle.units.proofs.Lengths.{length-classes_of}
use Rattle.sequences.proofs.FilledFrom.{level_of_para-low}
use Rattle.sequences.proofs.Remaining.{all_remain, none_filled, one_filled, remaining_rise}
use Rattle.sequences.proofs.one_sequence.fill_one_sequence.Goals as goal

pub returns-then-count-eq0-clause-filled : goal.returns-then-count-eq0-clause-filled
returns-then-count-eq0-clause-filled g c = λ depth.
    let f = c.write_positions-count in
    none_filled depth (classes_of c.args.para.now.units.now) (level_of_para c.args.para.now.level)
    (level_of_para-low c.args.para.now.level) c.requires.flat (length c.args.para.now.units.now)
    (length-classes_of c.args.para.now.units.now) c.args.links.now c.args.heads.now f.new.column
    (ap (λ (k : ℕ). take k f.new.column) (sym c.if-count-eq0.true) ∙ f.ensures.placed)

pub link_written-requires-clause-rise : goal.link_written-requires-clause-rise
link_written-requires-clause-rise g c =
    let us : List BidiUnit = c.args.para.now.units.now in
    let n : ℕ = length us in
    let front : length (take n c.args.links.now) ≡ n = length-take-le n c.args.links.now (omega arith) in
    let f = c.write_positions-count in
    let are : ArePositions (remaining_of (classes_of us)) (length (classes_of us)) = remaining_rise (classes_of us) in
    rw f.ensures.placed (subst (ArePositions (remaining_of (classes_of us))) (length-classes_of us ∙ sym front) are)

pub link_written-requires-clause-all_remain : goal.link_written-requires-clause-all_remain
link_written-requires-clause-all_remain g c = λ e.
    let us : List BidiUnit = c.args.para.now.units.now in
    let n : ℕ = length us in
    let front : length (take n c.args.links.now) ≡ n = length-take-le n c.args.links.now (omega arith) in
    c.write_positions-count.ensures.placed ∙ all_remain (classes_of us) (c.requires.all_remain e) ∙
    ap (positions_from 0) (length-classes_of us ∙ sym front)

pub returns-clause-filled : goal.returns-clause-filled
returns-clause-filled g c = λ depth.
    let n : ℕ = length c.args.para.now.units.now in
    let front : length (take n c.args.links.now) ≡ n = length-take-le n c.args.links.now (omega arith) in
    let f = c.write_positions-count in
    let long : length f.new.column ≡ length c.args.column.now = f.auto.column in
    rw (
      c.only_head.ensures,
      c.level.ensures.value,
    ) (one_filled depth (classes_of c.args.para.now.units.now) (level_of_para c.args.para.now.level)
    (level_of_para-low c.args.para.now.level) c.requires.flat n (length-classes_of c.args.para.now.units.now)
    c.link_written.new.links (drop n c.args.links.now) c.args.heads.now f.new.column f.result
    (c.link_written.auto.links ∙ front) c.link_written.ensures.chain (omega arith) (omega arith) f.ensures.placed
    (omega arith))
