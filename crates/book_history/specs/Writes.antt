-- What each call may write, which FORMAT (The calls) names: the bytes of the body, the head words, the free heads and the
-- counts that may differ after it, and whether the mark may. This is said of any book, a damaged one too.
use Rattle.std.specs.Prelude.{ℕ, ◌+◌, ◌-◌, ◌*◌, ◌≤◌, ◌<◌, Bool, true, false, cond, ◌||◌, List, [], ◌∷◌, ◌++◌, ◌⊎◌, ◌≡◌, eqb, length, get_or}
use Rattle.std.proofs.Math.Option.{Option, none, some}
use Rattle.error.specs.Refusal.{value_or}
use Rattle.compact.specs.Uleb128.{uleb_len}
use Rattle.scripthash_layout.specs.Sizes.{page_class, page_size}
use Rattle.scripthash_layout.specs.Head.{unpack_head}
use Rattle.scripthash_layout.specs.declared.head.ShHeadValue.{ShHeadValue}
use Rattle.scripthash_layout.specs.declared.head.ShHeadValue.TheVariants.{Empty, Inline, Slab, Extent}
use Rattle.scripthash_stream.specs.Stream.{Scan, stream_len}
use Rattle.scripthash_cutting.specs.Cutting.{cutting}
use Rattle.scripthash_pages.specs.Entries.{last_of, Spot, spot_behind}
use Rattle.scripthash_free.specs.FreeList.{Block, gap_blocks}
use Rattle.free_runs.specs.Runs.{losing}
use Rattle.free_runs.specs.PageList.{walked}
use Rattle.book_statements.specs.Calls.{Change, load, append, drop}
use Rattle.book_rules.specs.Places.{payload_len, stays, moves_to, loads_to}
use Rattle.book_limits.specs.Limits.{page_after, gap_end}
use Rattle.book_desks.specs.Desks.{desk_of}
use Rattle.book_desks.specs.Counts.{held_at, freed_count}
use Rattle.book_space.specs.Space.{Space, take_block, searched}
use Rattle.book_keys.specs.Keys.{page_at, slab_scan, tail_at, content}
use Rattle.book.specs.Book.{Book, word_of, seen}

-- ---- regions

-- Some elements of a list side by side: where they begin, and how many they are.
pub record Region : Type 0 where
  pub off : ℕ
  pub len : ℕ

-- So many elements from an offset on.
abbrev pub region : ℕ → ℕ → Region
region off len = record { off = off; len = len }

-- An index lies outside of all of some regions.
unfoldable pub Outside : List Region → ℕ → Type 0
Outside [] i = Unit {0}
Outside (r ∷ rs) i = ((i < r.off) ⊎ (r.off + r.len ≤ i)) × Outside rs i

-- Two lists are equally long, and differ in some regions only.
pub record Only (regions : List Region) (before after : List ℕ) : Type 0 where
  pub long : length after ≡ length before
  pub same : (i : ℕ) → Outside regions i → get_or after i 0 ≡ get_or before i 0

-- What may be written of a space: bytes of the body, free heads by their classes, and the mark or not.
pub record SpaceWrites : Type 0 where
  pub body : List Region
  pub free : List Region
  pub mark : Bool

-- Nothing.
abbrev pub nothing : SpaceWrites
nothing = record { body = []; free = []; mark = false }

-- So many bytes of the body from an offset on.
abbrev pub bytes_at : ℕ → ℕ → SpaceWrites
bytes_at off len = record { body = region off len ∷ []; free = []; mark = false }

-- The free head of a class.
abbrev pub free_head : ℕ → SpaceWrites
free_head class = record { body = []; free = region class 1 ∷ []; mark = false }

-- The mark.
abbrev pub the_mark : SpaceWrites
the_mark = record { body = []; free = []; mark = true }

-- What one part of a call may write, and what another may.
unfoldable pub both : SpaceWrites → SpaceWrites → SpaceWrites
both m n = record { body = m.body ++ n.body; free = m.free ++ n.free; mark = m.mark || n.mark }

-- ---- blocks

-- A block that is freed: its first 8 bytes, which name the next one, and the free head of its class.
abbrev pub freeing : Block → SpaceWrites
freeing x = both (bytes_at x.off 8) (free_head x.class)

-- Blocks that are freed.
unfoldable pub freeing_all : List Block → SpaceWrites
freeing_all [] = nothing
freeing_all (x ∷ xs) = both (freeing x) (freeing_all xs)

-- A page or a run taken at the mark: the blocks of the gap before it are freed, and the mark rises.
unfoldable pub taking_pages : Space → SpaceWrites
taking_pages s = both (freeing_all (gap_blocks s.mark (gap_end s.mark))) the_mark

-- A block taken: the free head of its class where that isn't 0; otherwise the mark, and for a page the gap before it.
unfoldable pub taking : ℕ → Space → SpaceWrites
taking class s = cond (eqb (get_or s.free class 0) 0) (cond (eqb class page_class) (taking_pages s) the_mark) (free_head class)

-- A block taken, and its first bytes filled.
unfoldable pub filling : ℕ → ℕ → Space → SpaceWrites
filling class len s = value_or (λ t. both (taking class s) (bytes_at t.off len)) (take_block class s) nothing

-- A list written to a taken block: the payload in a slab of a class, or else a whole page.
unfoldable pub writing : List ℕ → Option ℕ → Space → SpaceWrites
writing list (some class) s = filling class (payload_len (stream_len list)) s
writing list none s = filling page_class page_size s

-- ---- an append

-- A list with its new number that moves: it is written to a taken block, and its old block, where it had one, is freed.
unfoldable pub moving : List ℕ → List Block → Space → SpaceWrites
moving list old s = both (writing list (moves_to (length list) (stream_len list)) s) (freeing_all old)

-- A number behind the stream of a slab: where it stays, the slab's count and the number's bytes; otherwise it moves.
unfoldable pub growing_slab : ℕ → ℕ → ℕ → Scan → Space → SpaceWrites
growing_slab n class off c s =
    let bytes = uleb_len (n - last_of c) in
    cond (stays class (length c.numbers + 1) (c.taken + bytes)) (both (bytes_at off 2) (bytes_at (off + (2 + c.taken)) bytes))
    (moving (c.numbers ++ (n ∷ [])) (record { class = class; off = off } ∷ []) s)

-- A number behind the stream of a last page: where it has a spot, the page's count, the number's bytes and creates; otherwise a page is
-- taken and filled, and of the old one the link and creates.
unfoldable pub growing_page : ℕ → Option Spot → Space → SpaceWrites
growing_page last (some w) s = both (bytes_at (last + 1) 2) (both (bytes_at (last + w.at) (uleb_len w.difference)) (bytes_at (last + 20) 4))
growing_page last none s = both (filling page_class page_size s) (both (bytes_at (last + 3) 5) (bytes_at (last + 20) 4))

-- An append to a key that stands where its head word tells.
unfoldable pub append_writes : ℕ → Space → ShHeadValue → SpaceWrites
append_writes n s Empty = nothing
append_writes n s (Inline entry used) = moving (entry ∷ n ∷ []) [] s
append_writes n s (Slab class used off) = value_or (λ c. growing_slab n class off c s) (slab_scan (seen s) class used off) nothing
append_writes n s (Extent last) =
    value_or (λ t. growing_page last (spot_behind (page_at (seen s) last) n t.scan) s) (tail_at (seen s) last) nothing

-- ---- a load

-- The links of freed pages: the first 8 bytes of each.
unfoldable pub links_of : List ℕ → SpaceWrites
links_of [] = nothing
links_of (o ∷ os) = both (bytes_at o 8) (links_of os)

-- A run taken out of the freed pages: the links of those left whose successor goes, and the free head of pages.
unfoldable pub taking_freed : ℕ → ℕ → ℕ → Space → SpaceWrites
taking_freed off pages freed s =
    both (links_of (losing off (off + pages * page_size) (walked freed s.body (get_or s.free page_class 0)))) (free_head page_class)

-- A run taken where a search of the freed pages led, or else at the mark, and its pages filled.
unfoldable pub filling_run : ℕ → ℕ → Space → Option ℕ → SpaceWrites
filling_run pages freed s none = both (taking_pages s) (bytes_at (page_after s.mark) (pages * page_size))
filling_run pages freed s (some off) = both (taking_freed off pages freed s) (bytes_at off (pages * page_size))

-- A load of two numbers or more, where so many pages are freed: the payload of a taken slab of a class, or else the pages of a taken run.
unfoldable pub load_writes : List ℕ → Option ℕ → ℕ → Space → SpaceWrites
load_writes list (some class) freed s = filling class (payload_len (stream_len list)) s
load_writes list none freed s =
    let pages = length (cutting list) in value_or (filling_run pages freed s) (searched pages freed s) nothing

-- ---- counts

-- The count of a desk's pages.
abbrev pub desk_word : ℕ → List Region
desk_word desk = region (held_at desk) 1 ∷ []

-- The count of freed pages, and that of a desk's pages.
abbrev pub page_words : ℕ → List Region
page_words desk = region 0 1 ∷ desk_word desk

-- A page that an append takes: the desk's count, and where a freed page is popped the count of freed pages.
unfoldable pub page_counts : ℕ → Space → List Region
page_counts desk s = cond (eqb (get_or s.free page_class 0) 0) (desk_word desk) (page_words desk)

-- A list that moves to a slab changes no count, and one that moves to a page those of a page.
unfoldable pub moving_counts : ℕ → Option ℕ → Space → List Region
moving_counts desk (some class) s = []
moving_counts desk none s = page_counts desk s

-- A number behind the stream of a slab: where it stays, no count changes.
unfoldable pub slab_counts : ℕ → ℕ → ℕ → Scan → Space → List Region
slab_counts desk n class c s =
    let list = c.numbers ++ (n ∷ []) in
    cond (stays class (length c.numbers + 1) (c.taken + uleb_len (n - last_of c))) []
    (moving_counts desk (moves_to (length list) (stream_len list)) s)

-- A number behind the stream of a last page: where it has a spot, no count changes.
unfoldable pub chain_counts : ℕ → Option Spot → Space → List Region
chain_counts desk (some w) s = []
chain_counts desk none s = page_counts desk s

-- The counts that an append by a desk may write.
unfoldable pub append_counts : ℕ → ℕ → Space → ShHeadValue → List Region
append_counts desk n s Empty = []
append_counts desk n s (Inline entry used) =
    let list = entry ∷ n ∷ [] in moving_counts desk (moves_to (length list) (stream_len list)) s
append_counts desk n s (Slab class used off) = value_or (λ c. slab_counts desk n class c s) (slab_scan (seen s) class used off) []
append_counts desk n s (Extent last) =
    value_or (λ t. chain_counts desk (spot_behind (page_at (seen s) last) n t.scan) s) (tail_at (seen s) last) []

-- A run by a desk: the desk's count, and where a search of the freed pages led to it the count of freed pages.
unfoldable pub run_counts : ℕ → Option ℕ → List Region
run_counts desk none = desk_word desk
run_counts desk (some off) = page_words desk

-- The counts that a load of two numbers or more by a desk may write, where so many pages are freed: those of a run, if it takes one.
unfoldable pub load_counts : ℕ → List ℕ → Option ℕ → ℕ → Space → List Region
load_counts desk list (some class) freed s = []
load_counts desk list none freed s = value_or (run_counts desk) (searched (length (cutting list)) freed s) []

-- The counts that a drop by a desk may write: those of pages, where the key holds some.
unfoldable pub drop_counts : ℕ → ℕ → List Region
drop_counts desk pages = cond (eqb pages 0) [] (page_words desk)

-- ---- calls

-- What a call may write: head words by their keys, what of the space, and counts by where they stand.
pub record CallWrites : Type 0 where
  pub heads : List Region
  pub space : SpaceWrites
  pub counts : List Region

-- The head word of a key, something of the space, and some counts.
abbrev pub word_and : ℕ → SpaceWrites → List Region → CallWrites
word_and key n counts = record { heads = region key 1 ∷ []; space = n; counts = counts }

-- What a change of a book that is lent a list of desks may write.
unfoldable pub writes : List ℕ → Book → Change → CallWrites
writes ds b (load fit key []) = record { heads = []; space = nothing; counts = [] }
writes ds b (load fit key (n ∷ [])) = word_and key nothing []
writes ds b (load fit key (n ∷ m ∷ ns)) =
    let list = n ∷ m ∷ ns in
    let to = loads_to fit (length list) (stream_len list) in
    let freed = freed_count b.counts in
    word_and key (load_writes list to freed b.space) (load_counts (desk_of ds key) list to freed b.space)
writes ds b (append key n) =
    word_and key (value_or (append_writes n b.space) (unpack_head (word_of key b)) nothing)
    (value_or (append_counts (desk_of ds key) n b.space) (unpack_head (word_of key b)) [])
writes ds b (drop key) =
    word_and key (value_or (λ c. freeing_all c.blocks) (content (seen b.space) (word_of key b)) nothing)
    (value_or (λ c. drop_counts (desk_of ds key) c.pages) (content (seen b.space) (word_of key b)) [])

-- The space after differs from the one before only in what may be written; the mark doesn't fall.
pub record Wrote (n : SpaceWrites) (before after : Space) : Type 0 where
  pub body : Only n.body before.body after.body
  pub free : Only n.free before.free after.free
  pub mark : n.mark ≡ false → after.mark ≡ before.mark
  pub rises : before.mark ≤ after.mark

-- The book after differs from the one before only in what may be written.
pub record Differs (n : CallWrites) (before after : Book) : Type 0 where
  pub heads : Only n.heads before.heads after.heads
  pub space : Wrote n.space before.space after.space
  pub counts : Only n.counts before.counts after.counts

-- The book after a change that is lent a list of desks differs from the one before only in what the change may write.
abbrev pub Changes : List ℕ → Book → Book → Change → Type 0
Changes ds before after c = Differs (writes ds before c) before after
