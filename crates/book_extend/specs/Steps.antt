-- What the steps of an extend promise each other: no answer of a public function is defined here.
use Rattle.std.specs.Prelude.{ℕ, ◌+◌, ◌-◌, ◌*◌, ◌^◌, ◌≤◌, ◌<◌, true, false, List, ◌≡◌, length, get_or, drop, Result, Ok, Err}
use Rattle.error.specs.Refusal.{accepted, refused, key_unsound}
use Rattle.error.specs.Answers.{number_of}
use Rattle.error.specs.declared.Refusal.{Refusal}
use Rattle.compact.specs.Uleb128.{uleb_len}
use Rattle.scripthash_layout.specs.Sizes.{page_size}
use Rattle.scripthash_layout.specs.Head.{unpack_head}
use Rattle.scripthash_layout.specs.declared.head.ShHeadValue.{ShHeadValue}
use Rattle.scripthash_layout.specs.declared.head.ShHeadValue.TheVariants.{Empty, Inline, Slab, Extent}
use Rattle.scripthash_stream.specs.Stream.{Scan}
use Rattle.scripthash_pages.specs.Entries.{last_of}
use Rattle.book_desks.specs.Desks.{desks}
use Rattle.book_rules.specs.Places.{stays}
use Rattle.book_space.specs.Space.{space, shape_broken}
use Rattle.book_keys.specs.Keys.{Ground, body_ground, slab_scan, Tail, tail_at}
use Rattle.book.specs.Book.{Book, Outcome, word_of, seen}
use Rattle.book.specs.Answers.{book_of}
use Rattle.book_append.specs.Steps.{KeyKnown, ToAppend}
use Rattle.book_extend.specs.Extends.{Extended, extended, extend_from, standing}

-- ---- a number that stays where its key stands

-- A last page takes a number behind its last one, in so many bytes: it is above that one, below 2^62, and its form fits.
pub record PageTakes (n fk taken len : ℕ) : Type 0 where
  pub above : fk < n
  pub low : n < 2 ^ 62
  pub form : len ≡ uleb_len (n - fk)
  pub room : 24 + taken + len ≤ page_size

-- A slab that has some numbers takes one more behind its last, in so many bytes.
pub record SlabTakes (class used n fk taken len : ℕ) : Type 0 where
  pub above : fk < n
  pub low : n < 2 ^ 62
  pub form : len ≡ uleb_len (n - fk)
  pub holds : stays class (used + 1) (taken + len) ≡ true

-- ---- a number that doesn't

-- A number doesn't stay where its key stands: where it is above the last and below 2^62, a sound slab has no room for it, and a sound last
-- page no spot.
abbrev pub NotTaken : Ground → ℕ → ShHeadValue → Type 0
NotTaken g n Empty = Unit {0}
NotTaken g n (Inline entry used) = Unit {0}
NotTaken g n (Slab class used off) =
    (c : Scan) → slab_scan g class used off ≡ accepted c → last_of c < n → n < 2 ^ 62
    → stays class (used + 1) (c.taken + uleb_len (n - last_of c)) ≡ false
NotTaken g n (Extent last) =
    (t : Tail) → tail_at g last ≡ accepted t → last_of t.scan < n → n < 2 ^ 62
    → page_size < 24 + t.scan.taken + uleb_len (n - last_of t.scan)

-- The next number of a list, where there is one, doesn't stay where its key stands, in a shape that is kept.
abbrev pub Stopped : List ℕ → List ℕ → ℕ → ℕ → List ℕ → ℕ → Type 0
Stopped body heads mark key ns i =
    i < length ns → (free : List ℕ) → shape_broken (space body mark free) (length heads) ≡ false
    → (place : ShHeadValue) → unpack_head (get_or heads key 0) ≡ accepted place → NotTaken (body_ground body mark) (get_or ns i 0) place

-- What is known of a number that doesn't stay where its key stands, which its head word tells.
pub record PastAt (desk : ℕ) (b : Book) (key n : ℕ) (place : ShHeadValue) : Type 0 where
  pub to_append : ToAppend desk b key n
  pub stands : unpack_head (word_of key b) ≡ accepted place
  pub not_taken : NotTaken (seen b.space) n place

-- What is known of a number that doesn't stay where its key stands, before anything is judged but desk and key.
pub record Past (desk : ℕ) (b : Book) (key n : ℕ) : Type 0 where
  pub known : desk < desks
  pub keyed : key < length b.heads
  pub not_taken : (free : List ℕ) → shape_broken (space b.space.body b.space.mark free) (length b.heads) ≡ false
      → (place : ShHeadValue) → unpack_head (word_of key b) ≡ accepted place → NotTaken (seen b.space) n place

-- ---- midway

-- How many numbers a place tells of: pages count as more than a slab's.
abbrev pub held : ShHeadValue → ℕ
held Empty = 0
held (Inline entry used) = 1
held (Slab class used off) = used
held (Extent last) = 257

-- A key is extended by some numbers, and so many were accepted: its head word tells its place, few records were rewritten, and the appends
-- of the numbers that are left give the whole.
pub record Extending (desk key : ℕ) (ns : List ℕ) (whole : Outcome Extended) (b : Book) (i moves rewritten : ℕ) : Type 0 where
  pub place : ShHeadValue
  pub stands : unpack_head (word_of key b) ≡ accepted place
  pub few_moves : moves ≤ i
  pub few : rewritten ≤ 256 * held place
  pub rest : extend_from desk key (drop i ns) b (extended i 0 place moves rewritten) ≡ whole

-- ---- in place

-- What numbers from an index on ask for that go into the block where a key stands: the head word tells the place.
pub record ToExtend (body heads : List ℕ) (mark key : ℕ) (ns : List ℕ) (i : ℕ) (place : ShHeadValue) : Type 0 where
  pub within : mark ≤ length body
  pub keyed : key < length heads
  pub left : i ≤ length ns
  pub stands : unpack_head (get_or heads key 0) ≡ accepted place

-- Numbers from one index up to another went into the block where a sound key stands: what is left gives the whole as before.
pub record InPlace (body heads : List ℕ) (mark key : ℕ) (ns : List ℕ) (i : ℕ) (body' heads' : List ℕ) (j : ℕ) : Type 0 where
  pub later : i ≤ j
  pub within : j ≤ length ns
  pub place : ShHeadValue
  pub sound : (free counts : List ℕ) → standing (book_of body heads mark free counts) key ≡ accepted place
  pub goes : (desk : ℕ) (free counts : List ℕ) → KeyKnown desk (book_of body heads mark free counts) key
      → (whole : Outcome Extended) (moves rewritten : ℕ)
      → Extending desk key ns whole (book_of body heads mark free counts) i moves rewritten
      → Extending desk key ns whole (book_of body' heads' mark free counts) j moves rewritten
  pub stopped : Stopped body' heads' mark key ns j

-- The key isn't sound, and nothing was written.
pub record NotSound (body heads : List ℕ) (mark key : ℕ) (body' heads' : List ℕ) : Type 0 where
  pub unsound : (free counts : List ℕ) → standing (book_of body heads mark free counts) key ≡ refused key_unsound
  pub body_kept : body' ≡ body
  pub heads_kept : heads' ≡ heads

-- How far numbers from an index on went into the block where a key stands.
abbrev pub Reaches : List ℕ → List ℕ → ℕ → ℕ → List ℕ → ℕ → List ℕ → List ℕ → Result ℕ Refusal → Type 0
Reaches body heads mark key ns i body' heads' (Ok j) = InPlace body heads mark key ns i body' heads' j
Reaches body heads mark key ns i body' heads' (Err refusal) =
    (number_of refusal ≡ key_unsound) × NotSound body heads mark key body' heads'

-- ---- the whole

-- Numbers from one index up to another were appended by any desk: what is left gives the whole as before.
pub record GoesOn (body heads : List ℕ) (mark key : ℕ) (ns : List ℕ) (i : ℕ) (body' heads' : List ℕ) (j : ℕ) : Type 0 where
  pub later : i ≤ j
  pub within : j ≤ length ns
  pub goes : (desk : ℕ) (free counts : List ℕ) → desk < desks → (whole : Outcome Extended) (moves rewritten : ℕ)
      → Extending desk key ns whole (book_of body heads mark free counts) i moves rewritten
      → Extending desk key ns whole (book_of body' heads' mark free counts) j moves rewritten
  pub stopped : Stopped body' heads' mark key ns j

-- What the appends from an index on ask for: no move was made before, and the next number doesn't stay where its key stands.
pub record Begun (desk : ℕ) (b : Book) (key : ℕ) (ns : List ℕ) (i : ℕ) : Type 0 where
  pub known : desk < desks
  pub keyed : key < length b.heads
  pub left : i ≤ length ns
  pub whole : Outcome Extended
  pub extending : Extending desk key ns whole b i 0 0
  pub stopped : Stopped b.space.body b.heads b.space.mark key ns i

-- An extend ends as the whole: it tells the same, and leaves its book.
pub record EndsAs (whole : Outcome Extended) (after : Book) (tells : Extended) : Type 0 where
  pub told : tells ≡ whole.told
  pub left : after ≡ whole.book
