-- The rules at their boundaries: each value is computed. Assumes nothing.
use Prim.Native.Nat.{ℕ, ◌-◌, ◌^◌}
use mathlib.Core.Bool.{true, false}
use mathlib.Core.List.{List, [], ◌∷◌}
use mathlib.Core.Option.{none, some}
use mathlib.Core.Path.{◌≡◌, refl}
use Rattle.error.specs.Refusal.{accepted, refuse_if, refusal_of}
use Rattle.scripthash_slabs.specs.Class.{first_class, class_for, class_with_slack}
use Rattle.book_rules.specs.Offered.{offered_number, offered_list}
use Rattle.book_rules.specs.declared.places.SlabFit.TheVariants.{Spare, Tight}
use Rattle.book_rules.specs.Places.{stays, larger, moves_to, loads_to}

-- A list moves to the larger of its slack class and its class by bytes: five numbers of a byte, four of 9 bytes, 256 and 257 numbers, 2,046
-- and 2,047 bytes.
pub moves_at : (moves_to 5 5 ≡ some 1) × (moves_to 4 36 ≡ some 2) × (moves_to 256 256 ≡ some 6) × (moves_to 257 257 ≡ none)
    × (moves_to 250 2046 ≡ some 7) × (moves_to 250 2047 ≡ none)
unfolding moves_to larger class_with_slack class_for first_class
moves_at = (refl, refl, refl, refl, refl, refl)

-- A load with a spare slot goes by both classes: 3, 4, 14 and 15 numbers of a byte, four of 9 bytes, 255 to 257.
pub loads_spare_at : (loads_to Spare 3 3 ≡ some 0) × (loads_to Spare 4 4 ≡ some 1) × (loads_to Spare 14 14 ≡ some 2)
    × (loads_to Spare 15 15 ≡ some 2)
    × (loads_to Spare 4 36 ≡ some 2) × (loads_to Spare 255 255 ≡ some 6) × (loads_to Spare 256 256 ≡ some 6) × (loads_to Spare 257 257 ≡ none)
unfolding loads_to moves_to larger class_with_slack class_for first_class
loads_spare_at = (refl, refl, refl, refl, refl, refl, refl, refl)

-- A tight load goes by bytes alone: 14 and 15 numbers of a byte, 256 and 257.
pub loads_tight_at : (loads_to Tight 14 14 ≡ some 0) × (loads_to Tight 15 15 ≡ some 1) × (loads_to Tight 256 256 ≡ some 5)
    × (loads_to Tight 257 257 ≡ none)
unfolding loads_to class_for first_class
loads_tight_at = (refl, refl, refl, refl)

-- Four numbers stay in a slab of class 0, five have no slots there, and 15 bytes don't fit.
pub stays_at : (stays 0 4 14 ≡ true) × (stays 0 5 5 ≡ false) × (stays 0 4 15 ≡ false) × (stays 6 256 1022 ≡ true)
    × (stays 7 257 257 ≡ false)
unfolding stays
stays_at = (refl, refl, refl, refl, refl)

-- The refusal of a list that is offered, 0 where it isn't refused.
abbrev pub offering : List ℕ → ℕ
offering ns = refusal_of (offered_list {A = Unit {0}} true 0 ns (accepted tt))

-- Numbers are judged one by one, each by the first test that it fails.
pub offered_at : (offering (0 ∷ []) ≡ 12) × (offering (2 ^ 63 ∷ []) ≡ 13) × (offering (2 ^ 62 ∷ []) ≡ 14)
    × (offering (5 ∷ 3 ∷ 2 ^ 63 ∷ []) ≡ 32)
    × (offering (5 ∷ 0 ∷ []) ≡ 32) × (offering (5 ∷ (2 ^ 62 - 1) ∷ []) ≡ 0)
unfolding offered_list offered_number refuse_if
offered_at = (refl, refl, refl, refl, refl, refl)
