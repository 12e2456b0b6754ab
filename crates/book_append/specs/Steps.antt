-- What the steps of an append promise each other: no answer of a public function is defined here.
use Rattle.std.specs.Prelude.{ℕ, ◌+◌, ◌-◌, ◌^◌, ◌<◌, false, ◌≡◌, length}
use Rattle.std.proofs.Math.Option.{none}
use Rattle.error.specs.Refusal.{accepted}
use Rattle.compact.specs.Uleb128.{uleb_len}
use Rattle.scripthash_layout.specs.Head.{unpack_head}
use Rattle.scripthash_layout.specs.declared.head.ShHeadValue.{ShHeadValue}
use Rattle.scripthash_stream.specs.Stream.{Scan}
use Rattle.scripthash_pages.specs.Entries.{last_of, spot_behind}
use Rattle.book_rules.specs.Places.{stays}
use Rattle.book_desks.specs.Desks.{desks}
use Rattle.book_space.specs.Space.{InShape, shape_broken}
use Rattle.book_keys.specs.Keys.{page_at, slab_scan, Tail, tail_at}
use Rattle.book.specs.Book.{Book, word_of, seen}

-- What is known of an append whose shape, desk and key passed their tests.
pub record KeyKnown (desk : ℕ) (b : Book) (key : ℕ) : Type 0 where
  pub shape : shape_broken b.space (length b.heads) ≡ false
  pub known : desk < desks
  pub keyed : key < length b.heads

-- What is known of an append whose shape, desk, key and number passed their tests.
pub record ToAppend (desk : ℕ) (b : Book) (key n : ℕ) : Type 0 where
  pub shape : InShape b.space
  pub known : desk < desks
  pub keyed : key < length b.heads
  pub above : 0 < n
  pub low : n < 2 ^ 62

-- What is known of an append to a key that stands at a place: its head word tells the place.
pub record AppendsAt (desk : ℕ) (b : Book) (key n : ℕ) (place : ShHeadValue) : Type 0 where
  pub to_append : ToAppend desk b key n
  pub stands : unpack_head (word_of key b) ≡ accepted place

-- What is known of an append behind an inline number: that one isn't 0.
pub record AppendsInline (desk : ℕ) (b : Book) (key n entry : ℕ) : Type 0 where
  pub to_append : ToAppend desk b key n
  pub some : 0 < entry

-- What is known of a key's slab that a number behind its list moves: it is sound, the number is above its last, and doesn't stay.
pub record SlabMoves (desk : ℕ) (b : Book) (key n class used off : ℕ) : Type 0 where
  pub to_append : ToAppend desk b key n
  pub scan : Scan
  pub sound : slab_scan (seen b.space) class used off ≡ accepted scan
  pub above : last_of scan < n
  pub leaves : stays class (used + 1) (scan.taken + uleb_len (n - last_of scan)) ≡ false

-- What is known of a key's last page that a number passes on to a page more: it is sound, the number is above its last, and it has no spot.
pub record ChainGrows (desk : ℕ) (b : Book) (key n last first creates : ℕ) : Type 0 where
  pub to_append : ToAppend desk b key n
  pub tail : Tail
  pub sound : tail_at (seen b.space) last ≡ accepted tail
  pub above : last_of tail.scan < n
  pub full : spot_behind (page_at (seen b.space) last) n tail.scan ≡ none
  pub first_is : tail.last.first ≡ first
  pub creates_is : tail.last.creates ≡ creates
