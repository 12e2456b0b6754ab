-- When a book over bytes stands for a plain book: each head word tells its key's place, each free head is the top of its stack, and what
-- every block holds reads as its owner says.
use Rattle.std.specs.Prelude.{ℕ, zero, suc, ◌≤◌, true, false, cond, List, [], ◌∷◌, ◌≡◌, eqb, length, get_or}
use Rattle.std.proofs.Math.Option.{Option, none, some}
use Rattle.error.specs.Refusal.{accepted}
use Rattle.buffer.specs.Bytes.{part}
use Rattle.buffer.specs.LittleEndian.{little_endian}
use Rattle.scripthash_layout.specs.Sizes.{slab_bytes}
use Rattle.scripthash_layout.specs.Head.{unpack_head}
use Rattle.scripthash_stream.specs.Stream.{Scan}
use Rattle.scripthash_slabs.specs.Slab.{slab_used, slab_padded, decode_slab}
use Rattle.scripthash_fields.specs.Page.{link_of, creates_field_of, names_extent, stream_cap, is_last_link, link_offset}
use Rattle.scripthash_pages.specs.Entries.{page_scan, page_padded}
use Rattle.scripthash_free.specs.FreeList.{Block}
use Rattle.free_runs.specs.PageList.{top_of}
use Rattle.book_limits.specs.Limits.{out_of_shape, most_body}
use Rattle.book_desks.specs.Counts.{count_words, freed_count, held_in, limits_in}
use Rattle.plain_book.specs.Space.{Space as PlainSpace, stack_of}
use Rattle.plain_book.specs.Key.{Kept, Page, Place, empty, inline, slab, pages, total_of, head_of}
use Rattle.plain_book.specs.Book.{Book as PlainBook, key_of, freed_in}
use Rattle.plain_book.specs.Owners.{Owner, hand, stack, slab_of, page_of, has, places}
use Rattle.book_space.specs.Space.{Space}
use Rattle.book_keys.specs.Keys.{good_extent}
use Rattle.book.specs.Book.{Book, word_of, head_word}

-- ---- what blocks read as

-- The offset under the one at a depth of a stack, counted from the bottom; 0 under the lowest.
unfoldable pub under : ℕ → List ℕ → ℕ
under depth [] = 0
under depth (o ∷ os) = cond (eqb depth (length os)) (top_of os) (under depth os)

-- What scanning a kept stream gives.
abbrev pub scan_of : Kept → Scan
scan_of k = record { numbers = k.numbers; taken = k.bytes }

-- A slab reads as a kept stream: its count, and its numbers in so many bytes, so many of them padded; whatever lies behind them.
pub record SlabReads (k : Kept) (block : List ℕ) : Type 0 where
  pub used : slab_used block ≡ length k.numbers
  pub reads : decode_slab (length k.numbers) block ≡ accepted (scan_of k)
  pub padded : slab_padded block ≡ k.padded

-- A page reads as its part of a list, with so many padded numbers, and has so much room for a stream.
pub record PageReads (p : Page) (block : List ℕ) : Type 0 where
  pub reads : page_scan block ≡ accepted (scan_of p.part)
  pub room : stream_cap block ≡ p.room
  pub padded : page_padded block ≡ p.part.padded

-- A last page names an extent, is LAST with the first page's offset, and tells how many numbers the key has, or 0, unknown.
pub record LastReads (start total : ℕ) (block : List ℕ) : Type 0 where
  pub extent : names_extent block ≡ true
  pub last : is_last_link (link_of block) ≡ true
  pub first : link_offset (link_of block) ≡ start
  pub good : good_extent block ≡ accepted tt
  pub creates : creates_field_of block ≡ total

-- A page before another is not LAST, and names that one's offset.
pub record NextReads (off : ℕ) (block : List ℕ) : Type 0 where
  pub more : is_last_link (link_of block) ≡ false
  pub next : link_offset (link_of block) ≡ off

-- The page at an index of some pages, of a key with a first page and a total.
unfoldable pub ChainReads : ℕ → ℕ → ℕ → List Page → List ℕ → Type 0
ChainReads first creates i [] block = Unit {0}
ChainReads first creates zero (p ∷ []) block = PageReads p block × LastReads first creates block
ChainReads first creates zero (p ∷ q ∷ ps) block = PageReads p block × NextReads q.off block
ChainReads first creates (suc i) (p ∷ ps) block = ChainReads first creates i ps block

-- The offset of the first of some pages.
abbrev pub first_page_off : List Page → ℕ
first_page_off [] = 0
first_page_off (p ∷ ps) = p.off

-- The slab of a place reads as what it keeps.
abbrev pub SlabIn : Place → List ℕ → Type 0
SlabIn empty block = Unit {0}
SlabIn inline block = Unit {0}
SlabIn (slab class off kept) block = SlabReads kept block
SlabIn (pages ps) block = Unit {0}

-- The page of a place at an index reads as its part of a list with a total.
abbrev pub PageIn : ℕ → ℕ → Place → List ℕ → Type 0
PageIn creates i empty block = Unit {0}
PageIn creates i inline block = Unit {0}
PageIn creates i (slab class off kept) block = Unit {0}
PageIn creates i (pages ps) block = ChainReads (first_page_off ps) creates i ps block

-- ---- who reads what

-- What the blocks of keys, and a block in hand, read as.
pub record Contents : Type 1 where
  pub in_hand : List ℕ → Type 0
  pub slabs : ℕ → List ℕ → Type 0
  pub pages : ℕ → ℕ → List ℕ → Type 0

-- What the block of an owner reads as: a freed block names the one under it in its stack.
abbrev pub BlockReads : PlainSpace → Contents → Owner → List ℕ → Type 0
BlockReads s c hand block = c.in_hand block
BlockReads s c (stack class depth) block = little_endian (part block 0 8) ≡ under depth (stack_of class s)
BlockReads s c (slab_of key) block = c.slabs key block
BlockReads s c (page_of key i) block = c.pages key i block

-- Each block, by its owner, reads as it should.
abbrev pub Stored : (Owner → Option Block) → (Owner → List ℕ → Type 0) → List ℕ → Type 0
Stored f R body = (w : Owner) (x : Block) → f w ≡ some x → R w (part body x.off (slab_bytes x.class))

-- A space over bytes stands for a plain one, by keys' places and what a call has in hand.
pub record AgreesSpace (plain : PlainSpace) (s : Space) (at : ℕ → Place) (held : Option Block) (c : Contents) : Type 0 where
  -- The marks are one.
  pub mark : s.mark ≡ plain.mark
  -- There is a free head for each of the classes 0 to 8.
  pub nine : length s.free ≡ 9
  -- Each free head is the top of its stack.
  pub tops : (class : ℕ) → get_or s.free class 0 ≡ top_of (stack_of class plain)
  -- The mark is within the body.
  pub within : plain.mark ≤ length s.body
  -- An offset in the body fits the eight bytes of a link.
  pub small : length s.body ≤ most_body
  -- Each block reads as its owner says.
  pub stored : Stored (has plain at held) (BlockReads plain c) s.body

-- What the blocks of a plain book's keys read as; nothing is in hand.
abbrev pub contents_of : PlainBook → Contents
contents_of b =
    record {
      in_hand = λ block. Unit {0};
      slabs = λ key block. SlabIn (places b key) block;
      pages = λ key i block. PageIn (total_of (key_of key b)) i (places b key) block;
    }

-- Counts in words tell what a plain book's desks hold and may hold.
pub record AgreesCounts (plain : PlainBook) (counts : List ℕ) : Type 0 where
  -- There are as many as there should be.
  pub words : length counts ≡ count_words
  -- The first is how many pages are freed.
  pub freed : freed_count counts ≡ freed_in plain.space
  -- Then come the pages held, and what may be held.
  pub held : held_in counts ≡ plain.held
  pub limits : limits_in counts ≡ plain.limits

-- A book over bytes, in shape, stands for a plain book.
pub record AgreesInside (plain : PlainBook) (b : Book) : Type 0 where
  -- Each head word tells its key's place, as the word that stores the place does.
  pub heads : (key : ℕ) → unpack_head (word_of key b) ≡ unpack_head (head_word (head_of (key_of key plain).list (key_of key plain).place))
  -- The space stands for the plain one.
  pub space : AgreesSpace plain.space b.space (places plain) none (contents_of plain)
  -- The counts are the plain book's.
  pub counts : AgreesCounts plain b.counts

-- A book over bytes stands for a plain book; where both are out of shape, only their lengths matter.
pub record Agrees (plain : PlainBook) (b : Book) : Type 0 where
  pub size : length b.space.body ≡ plain.size
  pub count : length b.heads ≡ length plain.keys
  pub inside : out_of_shape plain.size (length plain.keys) ≡ false → AgreesInside plain b
