-- What every key of a plain book is, whatever calls led there: its list rises, and fits where it stands.
use Rattle.std.specs.Prelude.{ℕ, ◌^◌, ◌≤◌, ◌<◌, Bool, true, List, [], ◌∷◌, ◌++◌, ◌≡◌, length}
use Rattle.scripthash_layout.specs.Sizes.{slab_bytes, max_slab_class, max_slab_count}
use Rattle.scripthash_stream.specs.Stream.{Rising, last_from, stream_len}
use Rattle.scripthash_cutting.specs.Cutting.{page_room, last_page_room}
use Rattle.book_limits.specs.Limits.{slabs_end}
use Rattle.book_rules.specs.Places.{payload_len}
use Rattle.plain_book.specs.Key.{Kept, Page, Place, empty, inline, slab, pages, padded_of, Key}

-- The numbers that pages hold, in order.
unfoldable pub held : List Page → List ℕ
held [] = []
held (p ∷ ps) = p.part.numbers ++ held ps

-- A kept stream has a byte at least for each number.
abbrev pub ByteEach : Kept → Type 0
ByteEach k = length k.numbers ≤ k.bytes

-- A page holds a number, its stream has a byte at least for each and fits its room, and that is no more than a page has.
abbrev pub FitsPage : Page → Type 0
FitsPage p = (0 < length p.part.numbers) × (p.part.bytes ≤ p.room) × (p.room ≤ page_room) × ByteEach p.part

-- Pages that fit: there is one, and the last has the room of a last page.
unfoldable pub FitPages : List Page → Type 0
FitPages [] = ⊥
FitPages (p ∷ []) = FitsPage p × (p.room ≡ last_page_room)
FitPages (p ∷ q ∷ ps) = FitsPage p × FitPages (q ∷ ps)

-- Pages rise from a number on: each holds a number, its part rises behind the number before it, and the next page behind the part's last.
unfoldable pub RisesFrom : ℕ → List Page → Type 0
RisesFrom prev [] = Unit {0}
RisesFrom prev (p ∷ ps) = (0 < length p.part.numbers) × Rising (2 ^ 62) prev p.part.numbers
    × RisesFrom (last_from 0 p.part.numbers) ps

-- A list fits its place: a slab keeps it, has 2 to 256 numbers and bytes for their payload, and an offset that a head word can tell; and
-- pages hold the list in order.
unfoldable pub Fits : List ℕ → Place → Type 0
Fits list empty = length list ≡ 0
Fits list inline = length list ≡ 1
Fits list (slab class off kept) =
    (kept.numbers ≡ list) × ByteEach kept × (class ≤ max_slab_class) × (2 ≤ length list) × (length list ≤ max_slab_count)
    × (payload_len kept.bytes ≤ slab_bytes class) × (off < slabs_end)
Fits list (pages ps) = (held ps ≡ list) × FitPages ps

-- A total may be unknown only of a list in pages.
abbrev pub Known : Place → Bool → Type 0
Known empty counted = counted ≡ true
Known inline counted = counted ≡ true
Known (slab class off kept) counted = counted ≡ true
Known (pages ps) counted = Unit {0}

-- A sound key: its list rises, below 2^62, and fits its place, and without pages its total is known.
pub record SoundKey (k : Key) : Type 0 where
  pub rises : Rising (2 ^ 62) 0 k.list
  pub fits : Fits k.list k.place
  pub known : Known k.place k.counted

-- ---- what calls write

-- A kept stream takes the bytes of shortest forms.
abbrev pub Shortest : Kept → Type 0
Shortest k = k.bytes ≡ stream_len k.numbers

-- So does the stream of each of some pages.
unfoldable pub ShortestPages : List Page → Type 0
ShortestPages [] = Unit {0}
ShortestPages (p ∷ ps) = Shortest p.part × ShortestPages ps

-- Lengths are those of shortest forms, wherever a list stands.
unfoldable pub ShortestPlace : Place → Type 0
ShortestPlace empty = Unit {0}
ShortestPlace inline = Unit {0}
ShortestPlace (slab class off kept) = Shortest kept
ShortestPlace (pages ps) = ShortestPages ps

-- None of the numbers at a place has a padded form.
unfoldable pub Unpadded : Place → Type 0
Unpadded place = padded_of place ≡ 0
