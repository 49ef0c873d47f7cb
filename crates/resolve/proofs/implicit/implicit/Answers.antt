use Rattle.std.proofs.Common.{◌≡◌, ℕ, ◌<◌, List, length, sym, ap, ◌∙◌, arith, refl}
use Rattle.units.specs.Classes.{class_at, classes_at}
use Rattle.units.specs.Implicit.{implicit_level}
use Rattle.units.specs.Runs.{SequenceView}
use Rattle.units.specs.declared.class.Class.{Class}
use Rattle.sequences.specs.Links.{ArePositions}
use Rattle.resolve.specs.Raised.{Raises}
use Rattle.resolve.proofs.Gathered.{class_at-classes_at}
use Rattle.resolve.proofs.Raising.{raise_start, raise_write, raise_end}
use Rattle.resolve.proofs.implicit.implicit.Goals as goal

pub loop-k-init : goal.loop-k-init
loop-k-init g c =
    let ps : List ℕ = c.as_slice-positions.result.now in
    let fit : ArePositions ps (length c.args.levels.now) =
    rw (c.as_slice-positions.ensures.value, c.requires.levels) c.as_slice-positions.ensures.rise in
    (raise_start c.args.s.now.level (classes_at c.args.classes.now ps) ps c.args.levels.now fit, omega arith)

pub loop-k-preserved : goal.loop-k-preserved
loop-k-preserved g c =
    let ps : List ℕ = c.as_slice-positions.result.now in
    let to : List Class = classes_at c.args.classes.now ps in
    let inside : c.loop-k.k < length c.as_slice-positions.result.now = omega arith in (
      raise_write c.loop-k.invariant.0 inside c.implicit_level.result
          (c.implicit_level.ensures
          ∙ ap (implicit_level c.level-level.result) (sym (class_at-classes_at c.args.classes.now ps c.loop-k.k inside))
          ∙ ap (λ n. implicit_level n (class_at to c.loop-k.k)) c.level-level.ensures.value),
      omega arith,
    )

pub returns : goal.returns
returns g c =
    let s : SequenceView = c.args.s.now in
    let ps : List ℕ = c.as_slice-positions.result.now in
    let n : length ps ≡ length c.args.s.now.positions = ap length c.as_slice-positions.ensures.value in
    let raised : Raises s.level c.args.classes.now ps c.args.levels.now c.loop-k.levels =
    raise_end c.loop-k.invariant.0 c.args.classes.now refl (omega arith) in
    record {
      levels = rw (← c.as_slice-positions.ensures.value) raised;
      steps = omega (arith, n);
    }
