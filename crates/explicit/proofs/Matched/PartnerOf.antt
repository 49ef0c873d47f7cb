-- What the partner of a position is.
use Rattle.std.proofs.Common.{◌≡◌, ℕ, false, List, refl}
use Rattle.units.specs.Classes.{class_at, is_pdi}
use Rattle.units.specs.Isolates.{matching_pdi, partner_of}
use Rattle.units.specs.declared.class.Class.{Class}

pub partner_of_other : (cs : List Class) (p : ℕ) → is_pdi (class_at cs p) ≡ false → partner_of cs p ≡ matching_pdi cs p
unfolding partner_of
partner_of_other cs p h = rw h refl
