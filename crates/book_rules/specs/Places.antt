-- Rules for where a list goes, over its count and the bytes of its stream: whether it stays in its slab, and which class of slab a move or
-- a load gives it.
use Rattle.std.specs.Prelude.{ℕ, ◌+◌, max, Bool, cond, ◌&&◌, leb}
use Rattle.std.proofs.Math.Option.{Option, none, some}
use Rattle.scripthash_layout.specs.Sizes.{slab_bytes, slab_slots, max_slab_count}
use Rattle.scripthash_slabs.specs.Class.{class_by_bytes, class_with_slack}
use Rattle.book_rules.specs.declared.places.SlabFit.{SlabFit}
use Rattle.book_rules.specs.declared.places.SlabFit.TheVariants.{Spare, Tight}

-- The bytes of a slab's payload: two for the count, and the stream.
abbrev pub payload_len : ℕ → ℕ
payload_len bytes = 2 + bytes

-- A list stays in its slab: it has at most 256 numbers, and the slab has slots for them and bytes for their payload.
unfoldable pub stays : ℕ → ℕ → ℕ → Bool
stays class count bytes = leb count max_slab_count && (leb count (slab_slots class) && leb (payload_len bytes) (slab_bytes class))

-- The larger of two classes, where both are chosen.
unfoldable pub larger : Option ℕ → Option ℕ → Option ℕ
larger none other = none
larger (some c) none = none
larger (some c) (some d) = some (max c d)

-- The class of the slab that a list moves to: the larger of the slack class and the class by bytes; none where it moves to a page.
unfoldable pub moves_to : ℕ → ℕ → Option ℕ
moves_to count bytes = larger (class_with_slack count) (class_by_bytes (payload_len bytes))

-- The class of the slab that a load gives a list, none where it goes to a run of pages: with a spare slot the larger of the class by bytes
-- and the slack class, as a move does; tight the class by bytes.
unfoldable pub loads_to : SlabFit → ℕ → ℕ → Option ℕ
loads_to Spare count bytes = moves_to count bytes
loads_to Tight count bytes = cond (leb count max_slab_count) (class_by_bytes (payload_len bytes)) none
