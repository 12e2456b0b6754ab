-- A class, or none, as it goes out.
use Rattle.std.specs.Prelude.{ℕ, Bool, true, false}
use Rattle.std.proofs.Math.Option.{Option, none, some}

-- There is a class.
abbrev pub has_class : Option ℕ → Bool
has_class (some c) = true
has_class none = false
