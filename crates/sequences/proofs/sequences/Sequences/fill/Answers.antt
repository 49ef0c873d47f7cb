use Rattle.std.proofs.Common.{ap, arith, ◌≡◌, ◌∙◌, length, subst}
use Rattle.units.specs.Classes.{classes_of}
use Rattle.units.specs.Isolates.{level_of_para}
use Rattle.units.specs.Runs.{LeveledView, sequences_of, size_of}
use Rattle.sequences.specs.Once.{HoldsOnce}
use Rattle.sequences.proofs.FilledFrom.{leveled_by-is, size-of_paragraph}
use Rattle.sequences.proofs.sequences.Sequences.fill.Goals as goal

pub fill_from-requires : goal.fill_from-requires
fill_from-requires g c =
    omega (
      arith,
      c.requires.room,
      ap size_of c.new-leveled.ensures,
      size-of_paragraph c.args.explicit.now c.args.para.now (level_of_para c.args.level) c.requires.levels,
    )

pub returns : goal.returns
returns g c =
    let cs = classes_of c.args.para.now in
    let level = level_of_para c.args.level in
    let size : size_of c.new-leveled.result ≡ length c.args.para.now = ap size_of c.new-leveled.ensures ∙
    size-of_paragraph c.args.explicit.now c.args.para.now level c.requires.levels in
    record {
      all = λ depth holds. c.fill_from.ensures.all ∙
          ap sequences_of (c.new-leveled.ensures ∙ leveled_by-is depth c.args.explicit.now cs level holds);
      extent = c.fill_from.ensures.extent ∙ size;
      room = c.fill_from.ensures.room;
      once = λ depth holds.
          let P : LeveledView → Type 0 = λ t. HoldsOnce t c.fill_from.new.self.all in
          subst P (c.new-leveled.ensures ∙
          leveled_by-is depth c.args.explicit.now cs level holds) c.fill_from.ensures.once;
      fit = omega (arith, c.fill_from.ensures.fit, size);
      steps = omega (arith, c.fill_from.ensures.steps, size);
    }
