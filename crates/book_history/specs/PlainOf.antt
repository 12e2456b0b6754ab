-- The plain book of a book over bytes: the lists that its keys read as and where they stand, its mark, and what its free lists name. It is
-- what a good start stands for.
use Rattle.std.specs.Prelude.{ℕ, Bool, true, not, List, [], ◌∷◌, ◌≡◌, eqb, length}
use Rattle.error.specs.Refusal.{Answer, accepted, refused, value_or}
use Rattle.scripthash_layout.specs.Head.{unpack_head}
use Rattle.scripthash_layout.specs.declared.head.ShHeadValue.{ShHeadValue}
use Rattle.scripthash_layout.specs.declared.head.ShHeadValue.TheVariants.{Empty, Inline, Slab, Extent}
use Rattle.scripthash_stream.specs.Stream.{Scan}
use Rattle.scripthash_slabs.specs.Slab.{slab_padded}
use Rattle.scripthash_fields.specs.Page.{creates_field_of, stream_cap}
use Rattle.scripthash_pages.specs.Entries.{page_scan, page_padded}
use Rattle.book_desks.specs.Desks.{desks, Limits}
use Rattle.book_desks.specs.Counts.{held_in, limits_in}
use Rattle.plain_book.specs.Key.{Kept, written, Page, Place, empty, inline, slab, pages, Key, kept_as}
use Rattle.plain_book.specs.Book.{Book as PlainBook}
use Rattle.book_space.specs.Space.{Space}
use Rattle.book_keys.specs.Keys.{block_at, page_at, slab_scan, chain_at, content}
use Rattle.book.specs.Book.{Book, word_of, seen}
use Rattle.book_start.specs.Start.{followed_from}

-- ---- keys

-- What a stream that was scanned keeps: its numbers, the bytes that it takes as it is stored, and so many padded numbers.
unfoldable pub kept_by : ℕ → Answer Scan → Kept
kept_by padded (accepted c) = kept_as c.numbers c.taken padded
kept_by padded (refused number) = written []

-- The page at an offset, with the room that its version leaves for a stream.
unfoldable pub page_from : Space → ℕ → Page
page_from s off =
    record {
      off = off;
      room = stream_cap (page_at (seen s) off);
      part = kept_by (page_padded (page_at (seen s) off)) (page_scan (page_at (seen s) off));
    }

-- The pages at some offsets.
unfoldable pub pages_from : Space → List ℕ → List Page
pages_from s [] = []
pages_from s (o ∷ os) = page_from s o ∷ pages_from s os

-- The place that a head word tells.
unfoldable pub place_from : Space → ShHeadValue → Place
place_from s Empty = empty
place_from s (Inline entry used) = inline
place_from s (Slab class used off) = slab class off (kept_by (slab_padded (block_at (seen s) class off)) (slab_scan (seen s) class used off))
place_from s (Extent last) = pages (pages_from s (value_or (λ c. c.offs) (chain_at (seen s) last) []))

-- Whether the place that a head word tells says how many numbers it has: a last page with creates 0 doesn't.
unfoldable pub counted_from : Space → ShHeadValue → Bool
counted_from s Empty = true
counted_from s (Inline entry used) = true
counted_from s (Slab class used off) = true
counted_from s (Extent last) = not (eqb (creates_field_of (page_at (seen s) last)) 0)

-- The numbers that the key of a head word holds.
unfoldable pub list_from : Space → ℕ → List ℕ
list_from s word = value_or (λ c. c.numbers) (content (seen s) word) []

-- The key of a head word.
unfoldable pub key_from : Space → ℕ → Key
key_from s word =
    record {
      list = list_from s word;
      place = value_or (place_from s) (unpack_head word) empty;
      counted = value_or (counted_from s) (unpack_head word) true;
    }

-- The keys of head words.
unfoldable pub keys_from : Space → List ℕ → List Key
keys_from s [] = []
keys_from s (w ∷ ws) = key_from s w ∷ keys_from s ws

-- ---- free lists

-- The offsets that the free lists of some free heads name.
unfoldable pub stacks_from : Space → List ℕ → List (List ℕ)
stacks_from s [] = []
stacks_from s (h ∷ hs) = followed_from s h ∷ stacks_from s hs

-- ---- the book

-- The plain book of a book over bytes that is lent a list of desks.
unfoldable pub plain_of : List ℕ → Book → PlainBook
plain_of ds b =
    record {
      size = length b.space.body;
      keys = keys_from b.space b.heads;
      space = record { mark = b.space.mark; stacks = stacks_from b.space b.space.free };
      desks = ds;
      held = held_in b.counts;
      limits = limits_in b.counts;
    }

-- What is recorded for a key at the start: the numbers that it is read as.
abbrev pub start_list : Book → ℕ → List ℕ
start_list b key = list_from b.space (word_of key b)

-- Limits with a reserve and a ceiling for each of the desks and no more, as words hold them.
pub record Sixteen (l : Limits) : Type 0 where
  pub reserve : length l.reserve ≡ desks
  pub ceiling : length l.ceiling ≡ desks
