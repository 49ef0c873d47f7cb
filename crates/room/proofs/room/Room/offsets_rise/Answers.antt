use Rattle.std.proofs.Common.{◌≡◌, ◌∙◌, ◌+◌, ◌<◌, ◌≤◌, ℕ, Bool, List, arith, length, refl, subst, take, true, false}
use Rattle.std.proofs.lemmas.List.{get_or-take}
use Rattle.std.specs.Prelude.{slice_index}
use Rattle.std.specs.Box.{boxed_slice_items}
use Rattle.lines.specs.Scratches.{layout_in}
use Rattle.decoding.specs.Starts.{AreOffsets}
use Rattle.room.specs.Insides.{offsets_if}
use Rattle.room.specs.Rooms.{RoomOf, characters_in, offset_by, offset_in}
use Rattle.room.proofs.room.Room.offsets_rise.Goals as goal

-- the offsets of characters rise, whether they are positions or not
rise : (b : Bool) (starts : List ℕ) (n j k : ℕ) → (b ≡ true → AreOffsets n starts) → j < k → k ≤ n →
    offset_by (offsets_if b (take (n + 1) starts)) j < offset_by (offsets_if b (take (n + 1) starts)) k
rise true starts n j k are lt le =
    let up : slice_index starts j < slice_index starts k = (are refl).rising j k lt le in
    omega (
      arith,
      up,
      get_or-take (n + 1) starts j 0 (omega (arith, lt, le)),
      get_or-take (n + 1) starts k 0 (omega (arith, le)),
    )
rise false starts n j k are lt le = lt

first : (b : Bool) (starts : List ℕ) (n : ℕ) → (b ≡ true → AreOffsets n starts) →
    offset_by (offsets_if b (take (n + 1) starts)) 0 ≡ 0
first true starts n are = get_or-take (n + 1) starts 0 0 (omega arith) ∙ (are refl).first
first false starts n are = refl

pub returns-clause-first : goal.returns-clause-first
returns-clause-first c =
    let self = c.self.inside in
    subst (λ (r : RoomOf). offset_in r 0 ≡ 0) c.self.view_is (first self.spelled (boxed_slice_items self.starts)
    (length (layout_in self.scratch).levels) c.self.invariant.begun)

pub returns-clause-rising : goal.returns-clause-rising
returns-clause-rising c =
    let self = c.self.inside in
    subst (λ (r : RoomOf). (j k : ℕ) → j < k → k ≤ characters_in r → offset_in r j < offset_in r k) c.self.view_is
    (λ j k lt le. rise self.spelled (boxed_slice_items self.starts) (length (layout_in self.scratch).levels) j k
    c.self.invariant.begun lt le)
