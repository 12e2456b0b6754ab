-- A key over bytes: whether it is sound (FORMAT, What a reader checks), what it holds, and where its end is.
use Rattle.std.specs.Prelude.{ℕ, zero, suc, ◌+◌, ◌/◌, ◌^◌, Bool, false, cond, not, ◌&&◌, ◌||◌, List, [], ◌∷◌, ◌++◌, leb, ltb, eqb, length}
use Rattle.error.specs.Refusal.{Answer, accepted, refused, refuse_if, and_then, key_unsound}
use Rattle.buffer.specs.Bytes.{part}
use Rattle.scripthash_layout.specs.Sizes.{slab_bytes, max_slab_class, max_slab_count, page_class, page_size}
use Rattle.scripthash_layout.specs.Head.{unpack_head}
use Rattle.scripthash_layout.specs.declared.head.ShHeadValue.{ShHeadValue}
use Rattle.scripthash_layout.specs.declared.head.ShHeadValue.TheVariants.{Empty, Inline, Slab, Extent}
use Rattle.scripthash_stream.specs.Stream.{Scan, last_from}
use Rattle.scripthash_slabs.specs.Slab.{slab_used, slab_padded, decode_slab}
use Rattle.scripthash_fields.specs.Page.{link_of, extent_base_of, extent_count_of, creates_field_of, names_extent, is_last_link, link_offset, on_extent}
use Rattle.scripthash_pages.specs.Entries.{page_scan, page_padded}
use Rattle.book_limits.specs.Limits.{total_told}
use Rattle.scripthash_free.specs.FreeList.{Block, is_block}

-- The ground of keys: a body's bytes, and the mark below which blocks lie.
pub record Ground : Type 0 where
  pub body : List ℕ
  pub mark : ℕ

-- A body and its mark.
abbrev pub body_ground : List ℕ → ℕ → Ground
body_ground body mark = record { body = body; mark = mark }

-- What is asked of a key: any refusal says that the key isn't sound.
unfoldable pub soundly : {A : Type 0} → Answer A → Answer A
soundly (accepted x) = accepted x
soundly (refused number) = refused key_unsound

-- What holds of a sound key, else the refusal.
unfoldable pub sure : {A : Type 0} → Bool → Answer A → Answer A
sure test after = refuse_if (not test) key_unsound after

-- The numbers of a block go on behind a number: there is one, the first is above it, and the last, which is the largest, is below 2^62.
unfoldable pub go_on : ℕ → List ℕ → Bool
go_on prev [] = false
go_on prev (n ∷ ns) = ltb prev n && ltb (last_from n ns) (2 ^ 62)

-- ---- a slab

-- The bytes of a block of a class at an offset.
abbrev pub block_at : Ground → ℕ → ℕ → List ℕ
block_at s class off = part s.body off (slab_bytes class)

-- The stream of a slab: its class is up to 7, it lies below the mark, it has as many numbers as the head says, at most 256, and reads.
unfoldable pub slab_scan : Ground → ℕ → ℕ → ℕ → Answer Scan
slab_scan s class used off =
    sure (leb class max_slab_class && is_block class off s.mark)
    (sure (leb used max_slab_count && eqb (slab_used (block_at s class off)) used)
    (and_then (decode_slab used (block_at s class off)) (λ c. sure (go_on 0 c.numbers) (accepted c))))

-- ---- pages

-- The bytes of the page at an offset.
abbrev pub page_at : Ground → ℕ → List ℕ
page_at s off = block_at s page_class off

-- The stream of a page behind a number: the page lies below the mark, it reads, and its numbers go on behind that number.
unfoldable pub link_scan : Ground → ℕ → ℕ → Answer Scan
link_scan s prev off =
    sure (is_block page_class off s.mark) (and_then (page_scan (page_at s off)) (λ c. sure (go_on prev c.numbers) (accepted c)))

-- A good extent: the opposite of refusals 8 and 9.
unfoldable pub good_extent : List ℕ → Answer (Unit {0})
good_extent page = on_extent (extent_base_of page) (extent_count_of page) (accepted tt)

-- What the header of a key's last page tells: the first page's offset, and how many numbers the key has, or 0, unknown.
pub record Last : Type 0 where
  pub first : ℕ
  pub creates : ℕ

-- The header of a key's last page, at an offset: it lies below the mark, it is version 2 with LAST, and names a good extent.
unfoldable pub last_at : Ground → ℕ → Answer Last
last_at s off =
    sure (is_block page_class off s.mark)
    (sure (names_extent (page_at s off) && is_last_link (link_of (page_at s off)))
    (and_then (good_extent (page_at s off))
    (λ e. accepted (record { first = link_offset (link_of (page_at s off)); creates = creates_field_of (page_at s off) }))))

-- What a chain of pages holds: its numbers, its pages' offsets, the first first, and how many of the numbers are padded.
pub record Chain : Type 0 where
  pub numbers : List ℕ
  pub offs : List ℕ
  pub padded : ℕ

-- A page at an offset before others in a chain.
unfoldable pub page_then : Ground → ℕ → Scan → Chain → Chain
page_then s off c rest =
    record { numbers = c.numbers ++ rest.numbers; offs = off ∷ rest.offs; padded = page_padded (page_at s off) + rest.padded }

-- Walking a chain from a page on, behind a number, up to the key's last page, over at most so many pages; no other page has LAST.
unfoldable pub walk : ℕ → Ground → ℕ → ℕ → ℕ → Answer Chain
walk zero s last prev off = refused key_unsound
walk (suc k) s last prev off =
    and_then (link_scan s prev off)
    (λ c. cond (eqb off last) (accepted (record { numbers = c.numbers; offs = off ∷ []; padded = page_padded (page_at s off) }))
    (sure (not (is_last_link (link_of (page_at s off))))
    (and_then (walk k s last (last_from prev c.numbers) (link_offset (link_of (page_at s off)))) (λ rest. accepted (page_then s off c rest)))))

-- The last page's creates tells the length of the list, or 0, which says that it was never counted, or that it is more than creates can
-- tell.
unfoldable pub total_good : ℕ → ℕ → Bool
total_good creates n = eqb creates 0 || eqb creates (total_told n)

-- The chain of a key whose last page is at an offset: from the first page that the last one names, no more than mark / 4,096 pages, and the
-- last page's creates is the length of the list, or unknown.
unfoldable pub chain_at : Ground → ℕ → Answer Chain
chain_at s last =
    and_then (last_at s last)
    (λ h. and_then (walk (s.mark / page_size) s last 0 h.first) (λ c. sure (total_good h.creates (length c.numbers)) (accepted c)))

-- ---- a key

-- What a key holds: its numbers, its blocks, in the order in which a drop pushes them, how many of these are pages, and how many of the
-- numbers are padded: none of a key in its head word.
pub record Content : Type 0 where
  pub numbers : List ℕ
  pub blocks : List Block
  pub pages : ℕ
  pub padded : ℕ

-- Pages as blocks.
unfoldable pub page_blocks : List ℕ → List Block
page_blocks [] = []
page_blocks (o ∷ os) = record { class = page_class; off = o } ∷ page_blocks os

-- What the place that a head word tells holds.
unfoldable pub content_at : Ground → ShHeadValue → Answer Content
content_at s Empty = accepted (record { numbers = []; blocks = []; pages = 0; padded = 0 })
content_at s (Inline entry used) = accepted (record { numbers = entry ∷ []; blocks = []; pages = 0; padded = 0 })
content_at s (Slab class used off) =
    and_then (slab_scan s class used off)
    (λ c. accepted (record {
      numbers = c.numbers;
      blocks = record { class = class; off = off } ∷ [];
      pages = 0;
      padded = slab_padded (block_at s class off);
    }))
content_at s (Extent last) =
    and_then (chain_at s last)
    (λ c. accepted (record {
      numbers = c.numbers;
      blocks = page_blocks c.offs;
      pages = length c.offs;
      padded = c.padded;
    }))

-- What the key of a head word holds, or 31 where it isn't sound.
unfoldable pub content : Ground → ℕ → Answer Content
content s word = soundly (and_then (unpack_head word) (content_at s))

-- ---- an append's look at a key

-- What an append is told of a key's last page: its stream, and its header.
pub record Tail : Type 0 where
  pub scan : Scan
  pub last : Last

-- The last page of a key as an append looks at it: not at where its first offset leads.
unfoldable pub tail_at : Ground → ℕ → Answer Tail
tail_at s last =
    and_then (last_at s last) (λ h. and_then (link_scan s 0 last) (λ c. accepted (record { scan = c; last = h })))
