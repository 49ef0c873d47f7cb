use Rattle.std.proofs.Common.{◌≡◌, ◌∙◌, ap, subst, sym}
use Rattle.std.specs.Prelude.{OnOk}
use Rattle.decoding.specs.Offsets.{code_units}
use Rattle.decoding.specs.declared.fault.Faults.TheVariants.{Rejected}
use Rattle.decoding.proofs.Utf8Texts.{units_of_text}
use Rattle.room.proofs.Refilled.{on_ok}
use Rattle.sources.specs.Seen.{source_seen}
use Rattle.sources.specs.Sources.{size_of, text_in}
use Rattle.sources.specs.declared.source.Source.{Source}
use Rattle.sources.specs.declared.source.Source.TheVariants.{Utf8}
use Rattle.room.proofs.decoded.decode.Goals as goal

pub returns-in-Rejected-clause-whole : goal.returns-in-Rejected-clause-whole
returns-in-Rejected-clause-whole c =
    let bytes = c.in-Utf8.bytes in
    let is : c.args.source ≡ Utf8 bytes Rejected = c.in-Utf8.is ∙ ap (Utf8 bytes) c.in-Rejected.is in
    subst (λ (s : Source). OnOk c.look_up_utf8.result (code_units (text_in (source_seen s)) ≡ size_of (source_seen s)))
    (sym is)
    (on_ok c.look_up_utf8.result (λ well_formed. units_of_text bytes.now well_formed) c.look_up_utf8.ensures.well_formed)
