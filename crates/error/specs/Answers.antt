-- What the refusals of the code mean: their numbers (FORMAT, Refusals), and the answers of calls that can be turned back.
use Rattle.std.specs.Prelude.{ℕ, Option, Some, None, Result, Ok, Err}
use Rattle.std.proofs.Math.Option as maybe
use Rattle.error.specs.Refusal.{Answer, accepted, refused, shape_bad, key_beyond, key_in_use, page_length, link_unaligned, link_too_large, not_last, extent_count_zero, extent_base_bad, too_many_offered, slab_too_short, offered_first_zero, offered_bit63, offered_too_large, count_above_capacity, version_bad, uleb_cut_short, uleb_overflow, stored_first_zero, stored_difference_zero, stored_sum_overflow, stored_bit63, inline_used_not_one, inline_too_large, slab_field_too_large, extent_out_of_range, slab_used_too_small, mode_two, extent_payload_zero, key_unsound, offered_not_rising, does_not_fit, list_too_short, free_head_bad, no_room, desks_bad, past_ceiling, into_reserves, free_list_bad}
use Rattle.error.specs.declared.Refusal.{Refusal}
use Rattle.error.specs.declared.Refusal.TheVariants.{ShapeBad, KeyBeyond, KeyInUse, PageLength, LinkUnaligned, LinkTooLarge, NotLast, ExtentCountZero, ExtentBaseBad, TooManyOffered, SlabTooShort, OfferedFirstZero, OfferedBit63, OfferedTooLarge, CountAboveCapacity, VersionBad, UlebCutShort, UlebOverflow, StoredFirstZero, StoredDifferenceZero, StoredSumOverflow, StoredBit63, InlineUsedNotOne, InlineTooLarge, SlabFieldTooLarge, ExtentOutOfRange, SlabUsedTooSmall, ModeTwo, ExtentPayloadZero, KeyUnsound, OfferedNotRising, DoesNotFit, ListTooShort, FreeHeadBad, NoRoom, DesksBad, PastCeiling, IntoReserves, FreeListBad}

-- The number of a refusal.
abbrev pub number_of : Refusal → ℕ
number_of ShapeBad = shape_bad
number_of KeyBeyond = key_beyond
number_of KeyInUse = key_in_use
number_of PageLength = page_length
number_of LinkUnaligned = link_unaligned
number_of LinkTooLarge = link_too_large
number_of NotLast = not_last
number_of ExtentCountZero = extent_count_zero
number_of ExtentBaseBad = extent_base_bad
number_of TooManyOffered = too_many_offered
number_of SlabTooShort = slab_too_short
number_of OfferedFirstZero = offered_first_zero
number_of OfferedBit63 = offered_bit63
number_of OfferedTooLarge = offered_too_large
number_of CountAboveCapacity = count_above_capacity
number_of VersionBad = version_bad
number_of UlebCutShort = uleb_cut_short
number_of UlebOverflow = uleb_overflow
number_of StoredFirstZero = stored_first_zero
number_of StoredDifferenceZero = stored_difference_zero
number_of StoredSumOverflow = stored_sum_overflow
number_of StoredBit63 = stored_bit63
number_of InlineUsedNotOne = inline_used_not_one
number_of InlineTooLarge = inline_too_large
number_of SlabFieldTooLarge = slab_field_too_large
number_of ExtentOutOfRange = extent_out_of_range
number_of SlabUsedTooSmall = slab_used_too_small
number_of ModeTwo = mode_two
number_of ExtentPayloadZero = extent_payload_zero
number_of KeyUnsound = key_unsound
number_of OfferedNotRising = offered_not_rising
number_of DoesNotFit = does_not_fit
number_of ListTooShort = list_too_short
number_of FreeHeadBad = free_head_bad
number_of NoRoom = no_room
number_of DesksBad = desks_bad
number_of PastCeiling = past_ceiling
number_of IntoReserves = into_reserves
number_of FreeListBad = free_list_bad

-- The answer of a call: what it gives, told by `f`, or the number of its refusal.
abbrev pub result_answer : {T A : Type 0} → (T → A) → Result T Refusal → Answer A
result_answer f (Ok x) = accepted (f x)
result_answer f (Err refusal) = refused (number_of refusal)

-- The number of a refusal, and 0 of a call that isn't refused.
abbrev pub refusal_in : {T : Type 0} → Result T Refusal → ℕ
refusal_in (Ok x) = 0
refusal_in (Err refusal) = number_of refusal

-- A value that a call may give, told by `f`, or none.
abbrev pub told_by : {T A : Type 0} → (T → A) → Option T → maybe.Option A
told_by f (Some x) = maybe.some (f x)
told_by f None = maybe.none
