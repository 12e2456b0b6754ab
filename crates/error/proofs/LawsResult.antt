-- What the numbers of refusals, and of answers, tell. Assumes nothing.
use Prim.Native.Nat.{ℕ, ◌<◌}
use mathlib.Core.Path.{◌≡◌, refl, sym, ap, ◌∙◌}
use native.Mathlib.Omega.{arith}
use Rattle.std.specs.Prelude.{Result, Ok, Err}
use Rattle.error.specs.Refusal.{Answer, accepted, refused, refusal_of}
use Rattle.error.specs.Answers.{number_of, refusal_in, result_answer}
use Rattle.error.specs.declared.Refusal.{Refusal}
use Rattle.error.specs.declared.Refusal.TheVariants.{ShapeBad, KeyBeyond, KeyInUse, PageLength, LinkUnaligned, LinkTooLarge, NotLast, ExtentCountZero, ExtentBaseBad, TooManyOffered, SlabTooShort, OfferedFirstZero, OfferedBit63, OfferedTooLarge, CountAboveCapacity, VersionBad, UlebCutShort, UlebOverflow, StoredFirstZero, StoredDifferenceZero, StoredSumOverflow, StoredBit63, InlineUsedNotOne, InlineTooLarge, SlabFieldTooLarge, ExtentOutOfRange, SlabUsedTooSmall, ModeTwo, ExtentPayloadZero, KeyUnsound, OfferedNotRising, DoesNotFit, ListTooShort, FreeHeadBad, NoRoom, DesksBad, PastCeiling, IntoReserves, FreeListBad}

-- no refusal has the number 0
pub number_pos : (r : Refusal) → 0 < number_of r
number_pos ShapeBad = omega arith
number_pos KeyBeyond = omega arith
number_pos KeyInUse = omega arith
number_pos PageLength = omega arith
number_pos LinkUnaligned = omega arith
number_pos LinkTooLarge = omega arith
number_pos NotLast = omega arith
number_pos ExtentCountZero = omega arith
number_pos ExtentBaseBad = omega arith
number_pos TooManyOffered = omega arith
number_pos SlabTooShort = omega arith
number_pos OfferedFirstZero = omega arith
number_pos OfferedBit63 = omega arith
number_pos OfferedTooLarge = omega arith
number_pos CountAboveCapacity = omega arith
number_pos VersionBad = omega arith
number_pos UlebCutShort = omega arith
number_pos UlebOverflow = omega arith
number_pos StoredFirstZero = omega arith
number_pos StoredDifferenceZero = omega arith
number_pos StoredSumOverflow = omega arith
number_pos StoredBit63 = omega arith
number_pos InlineUsedNotOne = omega arith
number_pos InlineTooLarge = omega arith
number_pos SlabFieldTooLarge = omega arith
number_pos ExtentOutOfRange = omega arith
number_pos SlabUsedTooSmall = omega arith
number_pos ModeTwo = omega arith
number_pos ExtentPayloadZero = omega arith
number_pos KeyUnsound = omega arith
number_pos OfferedNotRising = omega arith
number_pos DoesNotFit = omega arith
number_pos ListTooShort = omega arith
number_pos FreeHeadBad = omega arith
number_pos NoRoom = omega arith
number_pos DesksBad = omega arith
number_pos PastCeiling = omega arith
number_pos IntoReserves = omega arith
number_pos FreeListBad = omega arith

-- a call that gives something isn't refused, and one that is refused has its number
module _ {T : Type 0} where
  pub refusal_none : (x : T) → refusal_in {T = T} (Ok x) ≡ 0
  refusal_none x = refl

  -- a number that isn't 0 is that of a refusal
  pub refused_with : (r : Result T Refusal) → (refusal_in r ≡ 0 → ⊥) → (refusal : Refusal) × (r ≡ Err refusal)
  refused_with (Ok x) n = absurd (n refl)
  refused_with (Err refusal) n = (refusal, refl)

  -- the number of an answer of the code is that of the answer that it means
  pub number_meant : {A : Type 0} (f : T → A) (r : Result T Refusal) → refusal_of (result_answer f r) ≡ refusal_in r
  number_meant f (Ok x) = refl
  number_meant f (Err refusal) = refl
