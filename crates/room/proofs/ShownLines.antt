-- A line is shown as one of the same layout, characters and mirror images.
use Rattle.std.proofs.Common.{◌≡◌, ◌∙◌, ℕ, List, Option, ap, slice_index_or}
use Rattle.units.specs.Layout.{TextLayout}
use Rattle.units.specs.Reordering.{shown_of}
use Rattle.ucdfiles.specs.Stages.{Stages}
use Rattle.ucdfiles.specs.Tables.{mirror_by}
use Rattle.lines.specs.Layouts.{no_line}

pub shown_alike : (m n : Stages (Option ℕ)) (v w : TextLayout) (cs ds : List ℕ) (k : ℕ) → m ≡ n → v ≡ w → cs ≡ ds
    → shown_of (mirror_by m) v.levels cs (slice_index_or v.lines k no_line).order
    ≡ shown_of (mirror_by n) w.levels ds (slice_index_or w.lines k no_line).order
shown_alike m n v w cs ds k same_images same_layout same_chars =
    ap (λ (x : Stages (Option ℕ)). shown_of (mirror_by x) v.levels cs (slice_index_or v.lines k no_line).order)
    same_images
    ∙ ap (λ (x : TextLayout). shown_of (mirror_by n) x.levels cs (slice_index_or x.lines k no_line).order) same_layout
    ∙ ap (λ (x : List ℕ). shown_of (mirror_by n) w.levels x (slice_index_or w.lines k no_line).order) same_chars
