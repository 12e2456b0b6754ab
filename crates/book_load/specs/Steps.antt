-- What the steps of a load promise each other: no answer of a public function is defined here.
use Rattle.std.specs.Prelude.{ℕ, ◌^◌, ◌≤◌, ◌<◌, List, ◌≡◌, length, take as first_of}
use Rattle.scripthash_layout.specs.Sizes.{max_slab_class, slab_bytes}
use Rattle.scripthash_stream.specs.Stream.{Rising, stream_len, max_offered}
use Rattle.scripthash_cutting.specs.Cutting.{cutting, ranges_from}
use Rattle.book_rules.specs.Places.{payload_len}
use Rattle.book_desks.specs.Desks.{desks}
use Rattle.book_space.specs.Space.{InShape}
use Rattle.book.specs.Book.{Book}

-- A list that was judged: it rises, and has at most 65,535 numbers.
pub record Judged (fks : List ℕ) : Type 0 where
  pub rises : Rising (2 ^ 62) 0 fks
  pub few : length fks ≤ max_offered

-- What is known of a load whose shape, desk and key passed their tests.
pub record ToLoad (desk : ℕ) (b : Book) (key : ℕ) : Type 0 where
  pub shape : InShape b.space
  pub known : desk < desks
  pub keyed : key < length b.heads

-- What is known of a load whose list was judged too: how many bytes its stream takes.
pub record ToLoadJudged (desk : ℕ) (b : Book) (key : ℕ) (fks : List ℕ) (bytes : ℕ) : Type 0 where
  pub to_load : ToLoad desk b key
  pub judged : Judged fks
  pub bytes_are : bytes ≡ stream_len fks

-- That is known of a load of two or more numbers.
pub record ToLoadList (desk : ℕ) (b : Book) (key : ℕ) (fks : List ℕ) (bytes : ℕ) : Type 0 where
  pub to_load : ToLoad desk b key
  pub two_fks : 2 ≤ length fks
  pub judged : Judged fks
  pub bytes_are : bytes ≡ stream_len fks

-- What is known of a load into a slab of a class: the list rises and fits.
pub record ToLoadSlab (desk : ℕ) (b : Book) (key : ℕ) (fks : List ℕ) (class : ℕ) : Type 0 where
  pub to_load : ToLoad desk b key
  pub low : class ≤ max_slab_class
  pub few : length fks ≤ 256
  pub rises : Rising (2 ^ 62) 0 fks
  pub fits : payload_len (stream_len fks) ≤ slab_bytes class

-- What is known of a load into a run of pages.
pub record ToLoadRun (desk : ℕ) (b : Book) (key : ℕ) (fks : List ℕ) : Type 0 where
  pub to_load : ToLoad desk b key
  pub some_fks : 0 < length fks
  pub judged : Judged fks

-- How many parts the cutting of a list has, and their ranges.
pub record Parts (fks : List ℕ) (ranges : List (List ℕ)) (count : ℕ) : Type 0 where
  pub judged : Judged fks
  pub some_fks : 0 < length fks
  pub parts : count ≡ length (cutting fks)
  pub ranges_are : first_of count ranges ≡ ranges_from 0 (cutting fks)

-- What is known of a load into a run of pages whose list was cut.
pub record ToLoadParts (desk : ℕ) (b : Book) (key : ℕ) (fks : List ℕ) (ranges : List (List ℕ)) (count : ℕ) : Type 0 where
  pub to_load : ToLoad desk b key
  pub cut : Parts fks ranges count
