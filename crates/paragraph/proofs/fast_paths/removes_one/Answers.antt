use Rattle.paragraph.proofs.fast_paths.removes_one.Goals as goal

pub returns : goal.returns
returns c =
    c.has_removed.ensures _ (c.with.ensures _ (c.with-three.ensures _ (c.with-two.ensures _ (c.with-one.ensures _
    c.none.ensures))))
