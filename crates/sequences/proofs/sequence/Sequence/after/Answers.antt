use Rattle.std.proofs.Common.{◌≡◌, ◌∙◌, ap, length}
use Rattle.std.proofs.lemmas.List.{get_or_default}
use Rattle.units.specs.Runs.{SequenceView}
use Rattle.sequences.specs.Links.{ArePositions, IsChain, link_at}
use Rattle.sequences.proofs.Chained.{position_within, link_later, link_is_successor}
use Rattle.sequences.proofs.sequence.Sequence.after.Goals as goal
use Rattle.sequences.proofs.sequence.Sequence.after.Goals.{After-get}

-- the sequence as callers see it, with its links
record Seen (c : After-get) : Type 0 where
  are : ArePositions c.args.self.now.positions (length c.self.inside.links.now)
  chain : IsChain c.args.self.now.positions c.self.inside.links.now
  extent : length c.self.inside.links.now ≡ c.args.self.now.extent

seen : (c : After-get) → Seen c
seen c =
    let positions : c.self.inside.positions.now ≡ c.args.self.now.positions =
    ap (λ (s : SequenceView). s.positions) c.self.view_is in
    record {
      are = rw (← positions) c.self.invariant.0;
      chain = rw (← positions) c.self.invariant.1;
      extent = ap (λ (s : SequenceView). s.extent) c.self.view_is;
    }

result_is_link : (c : After-get) → c.get.result ≡ link_at c.self.inside.links.now c.args.p
result_is_link c =
    let s = seen c in
    c.get.ensures
    ∙ c.index-links-p.is
    ∙ get_or_default c.self.inside.links.now c.args.p _ _
    (position_within c.args.self.now c.self.inside.links.now s.are s.chain c.args.p c.requires)

pub returns-clause-successor : goal.returns-clause-successor
returns-clause-successor c = λ t j leveled found.
    let s = seen c in
    result_is_link c ∙ link_is_successor c.args.self.now c.self.inside.links.now s.are s.chain c.args.p c.requires t j
    leveled found

pub returns-clause-later : goal.returns-clause-later
returns-clause-later c =
    let s = seen c in
    rw (
      result_is_link c,
      ← s.extent,
    ) (link_later c.args.self.now c.self.inside.links.now s.are s.chain c.args.p c.requires)
