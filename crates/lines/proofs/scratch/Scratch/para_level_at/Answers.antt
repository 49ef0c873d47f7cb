use Rattle.std.proofs.Common.{◌≡◌, ◌<◌, ◌≤◌, ◌∙◌, ℕ, List, ap, arith, length, subst, sym, take}
use Rattle.std.specs.Box.{boxed_slice_items}
use Rattle.std.specs.Prelude.{slice_index_or}
use Rattle.std.proofs.lemmas.List.{get_or_read, length-map, length-take-le}
use Rattle.units.specs.Classes.{classes_of}
use Rattle.units.specs.Reordering.{para_level_at}
use Rattle.units.specs.declared.level.ParaLevel.{ParaLevel}
use Rattle.units.specs.declared.level.ParaLevel.TheVariants.{Zero}
use Rattle.lines.specs.LineEnds.{AreParagraphEnds, Rises}
use Rattle.lines.specs.Scratches.{para_ends_in}
use Rattle.lines.proofs.LineStored.{para_in_use}
use Rattle.lines.proofs.ParagraphSearch.{IsSearched, ends_rise, found}
use Rattle.lines.proofs.scratch.Scratch.para_level_at.Goals as goal

pub count_up_to-requires : goal.count_up_to-requires
count_up_to-requires c =
    let room = c.args.self.now in
    let text = c.requires.holds.0 in
    let stored = c.requires.holds.1.2 in
    let is : take room.used.paragraphs c.deref.result.now ≡ para_ends_in room =
    ap (take room.used.paragraphs) c.deref.ensures.value in
    subst Rises (sym is) (ends_rise (classes_of text) (para_ends_in room) (length text) stored.ends)

pub returns : goal.returns
returns c limits text direction stored =
    let room = c.args.self.now in
    let position : ℕ = c.args.position in
    let used : ℕ = room.used.paragraphs in
    let own = classes_of text in
    let ends : List ℕ = take used c.deref.result.now in
    let count = c.count_up_to in
    let number : ℕ = count.result in
    let paras : List ParaLevel = boxed_slice_items room.text.paras in
    let is : ends ≡ para_ends_in room = ap (take used) c.deref.ensures.value in
    let len : length own ≡ length text = length-map text (λ u. u.class) in
    let all : AreParagraphEnds own ends (length own) =
    subst (AreParagraphEnds own ends) (sym len) (subst (λ (es : List ℕ). AreParagraphEnds own es (length text))
    (sym is) stored.ends) in
    let f : IsSearched own ends position number =
    found own ends position number all (omega (
      arith,
      len,
      stored.units,
      c.requires.inside,
    )) count.ensures.bound count.ensures.below count.ensures.above in
    let paras_fit : used ≤ length paras = omega (arith, room.in_use.of_paras, room.fits.for_text.paras) in
    let ends_fit : used ≤ length c.deref.result.now =
    omega (arith, room.in_use.of_paras, room.fits.for_text.para_ends, ap length c.deref.ensures.value) in
    let low : number < used = omega (arith, f.inside, length-take-le used c.deref.result.now ends_fit) in
    let level : c.index.result.now ≡ slice_index_or paras number Zero =
    get_or_read paras number c.index.result.now (omega (arith, low, paras_fit)) c.index.ensures Zero in
    para_in_use text paras used position number c.index.result.now level f.counted low paras_fit
    ∙ ap (λ (ns : List ℕ). para_level_at own ns position) stored.paras
