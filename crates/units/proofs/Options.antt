-- Facts about options, whatever they contain.
use Rattle.std.proofs.Common.{◌≡◌, Option, None, Some, false, refl}
use Rattle.std.specs.Option.{is_some, option_or}

pub option_or-none : {A : Type 0} (o : Option A) → option_or o None ≡ o
option_or-none None = refl
option_or-none (Some x) = refl

pub option_or-assoc : {A : Type 0} (a b c : Option A) → option_or a (option_or b c) ≡ option_or (option_or a b) c
option_or-assoc None b c = refl
option_or-assoc (Some x) b c = refl

pub is_some_false : {A : Type 0} (o : Option A) → is_some o ≡ false → o ≡ None
is_some_false None e = refl
is_some_false (Some x) e = absurd (cc)
