-- A load over bytes (FORMAT, Load): a list onto an empty key.
use Rattle.std.specs.Prelude.{ℕ, ◌+◌, ◌-◌, ◌*◌, true, not, List, [], ◌∷◌, ltb, eqb, length}
use Rattle.std.proofs.Math.Option.{Option, none, some}
use Rattle.error.specs.Refusal.{Answer, accepted, refuse_if, and_then, key_in_use, too_many_offered}
use Rattle.scripthash_layout.specs.Sizes.{page_size}
use Rattle.scripthash_layout.specs.declared.head.ShHeadValue.{ShHeadValue}
use Rattle.scripthash_layout.specs.declared.head.ShHeadValue.TheVariants.{Inline, Slab, Extent}
use Rattle.scripthash_stream.specs.Stream.{max_offered, stream_len}
use Rattle.scripthash_slabs.specs.Slab.{slab_payload}
use Rattle.scripthash_cutting.specs.Cutting.{cutting}
use Rattle.book_rules.specs.declared.places.SlabFit.{SlabFit}
use Rattle.book_rules.specs.Outcomes.{loaded_in, Loaded}
use Rattle.book_rules.specs.Offered.{offered_list}
use Rattle.book_rules.specs.Places.{loads_to}
use Rattle.book_space.specs.Space.{Space, space}
use Rattle.book_space.specs.Desks.{slab_for, run_for}
use Rattle.book_blocks.specs.Blocks.{write_run}
use Rattle.book.specs.Book.{Book, Outcome, word_of, by_desk, with_desks, placing, filled}

-- What a load leaves: the key's place, the pages of its run, the space and the counts.
abbrev pub loading : ℕ → ShHeadValue → ℕ → Space → List ℕ → Book → Outcome Loaded
loading key place pages s counts b = placing (loaded_in pages) key place s counts b

-- The offset of the last of so many pages from an offset on.
abbrev pub last_of_run : ℕ → ℕ → ℕ
last_of_run off pages = off + (pages - 1) * page_size

-- A list of two or more goes into a slab of a class that a desk takes, or else into a run of pages, a part of its cutting in each.
unfoldable pub load_into : ℕ → Book → ℕ → List ℕ → Option ℕ → Answer (Outcome Loaded)
load_into desk b key ns (some class) =
    and_then (slab_for desk class b.space b.counts)
    (λ t. accepted (loading key (Slab class (length ns) t.off) 0 (filled t (slab_payload ns)) t.counts b))
load_into desk b key ns none =
    let count = length (cutting ns) in
    and_then (run_for desk count b.space b.counts)
    (λ t. accepted (loading key (Extent (last_of_run t.off count)) count
    (space (write_run t.off count (length ns) t.space.body t.off (cutting ns)) t.space.mark t.space.free) t.counts b))

-- A load of a list onto an empty key: none changes nothing, one goes into the head word, and more go where the rule gives them a place.
unfoldable pub load_at : SlabFit → ℕ → Book → ℕ → List ℕ → Answer (Outcome Loaded)
load_at fit desk b key [] = accepted (record { told = loaded_in 0; book = b })
load_at fit desk b key (n ∷ []) = accepted (loading key (Inline n 1) 0 b.space b.counts b)
load_at fit desk b key (n ∷ m ∷ ns) = load_into desk b key (n ∷ m ∷ ns) (loads_to fit (length (n ∷ m ∷ ns)) (stream_len (n ∷ m ∷ ns)))

-- A load of a list onto a key, by a desk.
unfoldable pub loads : SlabFit → ℕ → Book → ℕ → List ℕ → Answer (Outcome Loaded)
loads fit desk b key ns =
    by_desk desk b key
    (refuse_if (not (eqb (word_of key b) 0)) key_in_use
    (refuse_if (ltb max_offered (length ns)) too_many_offered (offered_list true 0 ns (load_at fit desk b key ns))))

-- A load that is lent the list of desks: by the key's desk.
abbrev pub loads_with : SlabFit → List ℕ → Book → ℕ → List ℕ → Answer (Outcome Loaded)
loads_with fit ds b key ns = with_desks ds b key (λ desk. loads fit desk b key ns)
