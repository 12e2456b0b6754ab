-- What a call answers, and the numbers of its refusals (FORMAT, Refusals).
use Rattle.std.specs.Prelude.{ℕ, Bool, cond}

-- The answer of a call: values, or a refusal by its number.
pub data Answer (A : Type 0) : Type 0 where
  accepted : A → Answer A
  refused : ℕ → Answer A

-- A test that turns a call back: the refusal where it holds, else what comes after it.
unfoldable pub refuse_if : {A : Type 0} → Bool → ℕ → Answer A → Answer A
refuse_if test number after = cond test (refused number) after

-- A part of a call that can be turned back: its refusal, or what comes after its values.
unfoldable pub and_then : {A B : Type 0} → Answer A → (A → Answer B) → Answer B
and_then (accepted x) after = after x
and_then (refused number) after = refused number

-- The same answer in other words: a refusal stays, and a value is given as `f` of it.
unfoldable pub answered : {A B : Type 0} → (A → B) → Answer A → Answer B
answered f (accepted x) = accepted (f x)
answered f (refused number) = refused number

-- The number of a refusal, and 0 of values.
abbrev pub refusal_of : {A : Type 0} → Answer A → ℕ
refusal_of (accepted x) = 0
refusal_of (refused number) = number

-- What an out-parameter holds after an answer: a value of it where it is accepted, else what it held before.
abbrev pub value_or : {A B : Type 0} → (A → B) → Answer A → B → B
value_or f (accepted x) before = f x
value_or f (refused number) before = before

-- The book's shape breaks its limits.
abbrev pub shape_bad : ℕ
shape_bad = 1

-- The key is beyond the heads.
abbrev pub key_beyond : ℕ
key_beyond = 2

-- A load meets a key in use.
abbrev pub key_in_use : ℕ
key_in_use = 3

-- A page buffer isn't 4,096 bytes.
abbrev pub page_length : ℕ
page_length = 4

-- A link offset isn't a multiple of 4,096.
abbrev pub link_unaligned : ℕ
link_unaligned = 5

-- A link index is 2^39 or more.
abbrev pub link_too_large : ℕ
link_too_large = 6

-- The first offset is asked of a page without LAST.
abbrev pub not_last : ℕ
not_last = 7

-- An extent count is 0.
abbrev pub extent_count_zero : ℕ
extent_count_zero = 8

-- An extent base is 0 or unaligned.
abbrev pub extent_base_bad : ℕ
extent_base_bad = 9

-- More than 65,535 numbers are offered to a page, slab or load.
abbrev pub too_many_offered : ℕ
too_many_offered = 10

-- A slab buffer is under 2 bytes.
abbrev pub slab_too_short : ℕ
slab_too_short = 11

-- The first or only number offered is 0.
abbrev pub offered_first_zero : ℕ
offered_first_zero = 12

-- A number offered has bit 63 set.
abbrev pub offered_bit63 : ℕ
offered_bit63 = 13

-- A book is offered 2^62 or more.
abbrev pub offered_too_large : ℕ
offered_too_large = 14

-- A page's count exceeds its capacity.
abbrev pub count_above_capacity : ℕ
count_above_capacity = 15

-- The version is another, or 0 with a count.
abbrev pub version_bad : ℕ
version_bad = 16

-- The bytes end before a ULEB128 form does.
abbrev pub uleb_cut_short : ℕ
uleb_cut_short = 17

-- A ULEB128 form overflows 64 bits.
abbrev pub uleb_overflow : ℕ
uleb_overflow = 18

-- 19 is retired: the stream of a page never passes the page's capacity (`scripthash_pages/proofs/LawsCapacity`).
-- No refusal takes this number.

-- A stored first number is 0.
abbrev pub stored_first_zero : ℕ
stored_first_zero = 20

-- A stored difference is 0.
abbrev pub stored_difference_zero : ℕ
stored_difference_zero = 21

-- A stored sum passes 2^64 - 1.
abbrev pub stored_sum_overflow : ℕ
stored_sum_overflow = 22

-- A stored number has bit 63 set.
abbrev pub stored_bit63 : ℕ
stored_bit63 = 23

-- An inline head has used other than 1.
abbrev pub inline_used_not_one : ℕ
inline_used_not_one = 24

-- An inline head exceeds 2^62 - 1.
abbrev pub inline_too_large : ℕ
inline_too_large = 25

-- A slab head has offset above 2^40 - 1 or class above 63.
abbrev pub slab_field_too_large : ℕ
slab_field_too_large = 26

-- An extent head is 0 or above 2^62 - 1.
abbrev pub extent_out_of_range : ℕ
extent_out_of_range = 27

-- A stored slab head has used 0 or 1.
abbrev pub slab_used_too_small : ℕ
slab_used_too_small = 28

-- The mode is 2.
abbrev pub mode_two : ℕ
mode_two = 29

-- Mode 3 has payload 0.
abbrev pub extent_payload_zero : ℕ
extent_payload_zero = 30

-- A book key isn't sound.
abbrev pub key_unsound : ℕ
key_unsound = 31

-- A number offered isn't above the one before.
abbrev pub offered_not_rising : ℕ
offered_not_rising = 32

-- What is to be written doesn't fit its destination.
abbrev pub does_not_fit : ℕ
does_not_fit = 33

-- The lent list is too short.
abbrev pub list_too_short : ℕ
list_too_short = 34

-- A free head to be popped isn't a multiple of 16 (page: 4,096), or its block leaves 4,096 to the mark.
abbrev pub free_head_bad : ℕ
free_head_bad = 35

-- No room: the block or run would pass the body's end.
abbrev pub no_room : ℕ
no_room = 36

-- The list that names each key's desk isn't one for the heads, or a making's reserves can't be kept.
abbrev pub desks_bad : ℕ
desks_bad = 39

-- A take of pages would pass its desk's ceiling.
abbrev pub past_ceiling : ℕ
past_ceiling = 40

-- A take would leave fewer pages than the desks still lack of their reserves.
abbrev pub into_reserves : ℕ
into_reserves = 41

-- The list of freed pages can't be searched: a page leaves 4,096 to the mark, is unaligned or stands twice, or they aren't as many as
-- counted.
abbrev pub free_list_bad : ℕ
free_list_bad = 42
