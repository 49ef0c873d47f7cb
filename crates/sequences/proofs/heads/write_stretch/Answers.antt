use Rattle.std.proofs.Common.{◌≡◌, ◌+◌, ◌-◌, ◌∙◌, ◌++◌, ℕ, length, take, ap, sym, arith}
use Rattle.sequences.specs.Links.{link_at, linked}
use Rattle.sequences.proofs.Links.{led_within, stretch_both}
use Rattle.sequences.proofs.heads.write_stretch.Goals as goal

pub write_long_stretch-requires-clause-first : goal.write_long_stretch-requires-clause-first
write_long_stretch-requires-clause-first g c =
    led_within c.args.links.now c.requires.linked c.write_few-p.result (c.write_few-p.result + 1)
    (c.leads_on.ensures.0 c.if-not-leads_on.false)

pub write_long_stretch-requires-clause-room : goal.write_long_stretch-requires-clause-room
write_long_stretch-requires-clause-room g c =
    omega (
      arith,
      c.requires.room,
      c.write_few-p.ensures.rest,
      c.write_few-p.auto.column,
      ap (λ o. length (linked c.args.links.now o)) (c.leads_on.ensures.0 c.if-not-leads_on.false),
    )

pub returns-clause-stretch : goal.returns-clause-stretch
returns-clause-stretch g c =
    stretch_both c.args.links.now c.args.first c.write_few-p.result c.write_long_stretch.result
    c.write_few-p.ensures.stretch (c.leads_on.ensures.0 c.if-not-leads_on.false) c.write_long_stretch.ensures.stretch

pub returns-clause-column : goal.returns-clause-column
returns-clause-column g c =
    let links = c.args.links.now in
    let first : ℕ = c.args.first in
    let start : ℕ = c.args.start in
    let few = c.write_few-p.ensures in
    let more = c.write_long_stretch.ensures in
    let p : ℕ = c.write_few-p.result in
    let last : ℕ = c.write_long_stretch.result in
    let next : ℕ = start + (p - first) + 1 in
    let end : start + (last - first) + 1 ≡ next + (last - (p + 1)) + 1 =
    omega (arith, few.stretch.later, more.stretch.later) in
    ap (λ (k : ℕ). take k c.write_long_stretch.new.column ++ linked links (link_at links last)) end
    ∙ more.column
    ∙ ap (λ o. take next c.write_few-p.new.column ++ linked links o)
    (sym (c.leads_on.ensures.0 c.if-not-leads_on.false))
    ∙ few.column

pub returns-clause-rest : goal.returns-clause-rest
returns-clause-rest g c =
    let few = c.write_few-p.ensures in
    let more = c.write_long_stretch.ensures in
    omega (
      arith,
      few.rest,
      more.rest,
      few.stretch.later,
      more.stretch.later,
      ap (λ o. length (linked c.args.links.now o)) (c.leads_on.ensures.0 c.if-not-leads_on.false),
    )
