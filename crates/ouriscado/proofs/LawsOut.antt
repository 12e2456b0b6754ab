-- The number that goes out of a call that sets. Assumes nothing.
use Prim.Native.Nat.{ℕ}
use mathlib.Core.List.{List}
use mathlib.Core.Path.{◌≡◌, refl}
use Rattle.error.specs.Refusal.{Answer, accepted, refused, refusal_of}
use Rattle.scripthash_fields.specs.Fields.{done}

pub number_done : (a : Answer (List ℕ)) → refusal_of (done a) ≡ refusal_of a
number_done (accepted page) = refl
number_done (refused number) = refl
