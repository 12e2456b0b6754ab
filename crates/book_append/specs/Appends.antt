-- An append over bytes (FORMAT, Append): a number behind a key's list.
use Rattle.std.specs.Prelude.{ℕ, ◌+◌, ◌-◌, true, cond, List, [], ◌∷◌, ◌++◌, leb, length}
use Rattle.std.proofs.Math.Option.{Option, none, some}
use Rattle.error.specs.Refusal.{Answer, accepted, refuse_if, and_then, offered_not_rising}
use Rattle.buffer.specs.Bytes.{overwrite}
use Rattle.compact.specs.Uleb128.{uleb_len}
use Rattle.scripthash_layout.specs.Head.{unpack_head}
use Rattle.scripthash_layout.specs.declared.head.ShHeadValue.{ShHeadValue}
use Rattle.scripthash_layout.specs.declared.head.ShHeadValue.TheVariants.{Empty, Inline, Slab, Extent}
use Rattle.scripthash_stream.specs.Stream.{Scan, stream_len}
use Rattle.scripthash_slabs.specs.Slab.{slab_payload}
use Rattle.scripthash_pages.specs.Entries.{last_of, Spot, spot_behind}
use Rattle.scripthash_free.specs.FreeList.{Block}
use Rattle.book_rules.specs.Outcomes.{appended_to, Appended}
use Rattle.book_rules.specs.Offered.{offered_number}
use Rattle.book_rules.specs.Places.{stays, moves_to}
use Rattle.book_space.specs.Space.{Space, space, release}
use Rattle.book_space.specs.Desks.{slab_for, page_for}
use Rattle.book_keys.specs.Keys.{soundly, block_at, page_at, slab_scan, Tail, tail_at}
use Rattle.book_blocks.specs.Blocks.{last_page_of, slab_with, total_with, page_with, page_before}
use Rattle.book.specs.Book.{Book, Outcome, word_of, by_desk, with_desks, placing, filled, seen}

-- What an append leaves: the key's new place, the records rewritten, the space and the counts.
abbrev pub appending : ℕ → ShHeadValue → ℕ → Space → List ℕ → Book → Outcome Appended
appending key place rewritten s counts b = placing (appended_to place rewritten) key place s counts b

-- ---- moving

-- A list with one number more moves: a slab of the class, or else a page, is taken by a desk and filled, then the old blocks are pushed.
unfoldable pub moves_into : ℕ → Book → ℕ → List ℕ → ℕ → List Block → Option ℕ → Answer (Outcome Appended)
moves_into desk b key ns n old (some class) =
    let list = ns ++ (n ∷ []) in
    and_then (slab_for desk class b.space b.counts)
    (λ t. accepted (appending key (Slab class (length list) t.off) (length ns) (release old (filled t (slab_payload list)))
    t.counts b))
moves_into desk b key ns n old none =
    let list = ns ++ (n ∷ []) in
    and_then (page_for desk b.space b.counts)
    (λ t. accepted (appending key (Extent t.off) (length ns)
    (release old (filled t (last_page_of t.off t.off 1 (length list) list))) t.counts b))

-- A list with one number more moves to the class for it, in shortest forms.
unfoldable pub moves : ℕ → Book → ℕ → List ℕ → ℕ → List Block → Answer (Outcome Appended)
moves desk b key ns n old = let list = ns ++ (n ∷ []) in moves_into desk b key ns n old (moves_to (length list) (stream_len list))

-- ---- a slab

-- A number behind the stream of a slab: it stays there, by the bytes as they are stored, or moves.
unfoldable pub append_slab : ℕ → Book → ℕ → ℕ → ℕ → ℕ → Scan → Answer (Outcome Appended)
append_slab desk b key n class off c =
    let used = length c.numbers in
    let difference = n - last_of c in
    cond (stays class (used + 1) (c.taken + uleb_len difference))
    (accepted (appending key (Slab class (used + 1) off) 0
    (space (overwrite b.space.body off (slab_with (block_at (seen b.space) class off) used c.taken difference))
    b.space.mark b.space.free) b.counts b))
    (moves desk b key c.numbers n (record { class = class; off = off } ∷ []))

-- ---- pages

-- A chain grows by a taken page, which holds the number: the old last page gets it as next, then it is written as the last.
unfoldable pub grow_chain : ℕ → Book → ℕ → ℕ → ℕ → Tail → Answer (Outcome Appended)
grow_chain desk b key n last t =
    and_then (page_for desk b.space b.counts)
    (λ p. let body = overwrite p.space.body last (page_before (page_at (seen p.space) last) p.off) in
    accepted (appending key (Extent p.off) 0
    (space (overwrite body p.off (last_page_of t.last.first p.off 1 (total_with t.last.creates) (n ∷ [])))
    p.space.mark p.space.free) p.counts b))

-- A number behind a key's last page: at its spot, or else in a page more.
unfoldable pub append_page : ℕ → Book → ℕ → ℕ → ℕ → Tail → Option Spot → Answer (Outcome Appended)
append_page desk b key n last t (some w) =
    accepted (appending key (Extent last) 0
    (space (overwrite b.space.body last (page_with (page_at (seen b.space) last) w t.last.creates)) b.space.mark
    b.space.free)
    b.counts b)
append_page desk b key n last t none = grow_chain desk b key n last t

-- ---- an append

-- An append by a desk to a key that stands where its head word tells.
unfoldable pub append_at : ℕ → Book → ℕ → ℕ → ShHeadValue → Answer (Outcome Appended)
append_at desk b key n Empty = accepted (appending key (Inline n 1) 0 b.space b.counts b)
append_at desk b key n (Inline entry used) = refuse_if (leb n entry) offered_not_rising (moves desk b key (entry ∷ []) n [])
append_at desk b key n (Slab class used off) =
    and_then (soundly (slab_scan (seen b.space) class used off))
    (λ c. refuse_if (leb n (last_of c)) offered_not_rising (append_slab desk b key n class off c))
append_at desk b key n (Extent last) =
    and_then (soundly (tail_at (seen b.space) last))
    (λ t. refuse_if (leb n (last_of t.scan)) offered_not_rising
    (append_page desk b key n last t (spot_behind (page_at (seen b.space) last) n t.scan)))

-- An append of a number to a key, by a desk: the number is judged by itself, then the key, then whether the number is above its last.
unfoldable pub appends : ℕ → Book → ℕ → ℕ → Answer (Outcome Appended)
appends desk b key n = by_desk desk b key (offered_number true 0 n (and_then (soundly (unpack_head (word_of key b))) (append_at desk b key n)))

-- An append that is lent the list of desks: by the key's desk.
abbrev pub appends_with : List ℕ → Book → ℕ → ℕ → Answer (Outcome Appended)
appends_with ds b key n = with_desks ds b key (λ desk. appends desk b key n)
