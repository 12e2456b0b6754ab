-- What the steps of reading a stream quickly promise each other: no answer of a public function is defined here.
use Rattle.std.specs.Prelude.{ℕ, ◌+◌, ◌*◌, ◌^◌, ◌≤◌, ◌<◌, List, ◌⊎◌, ◌≡◌, length, get_or, take, drop}
use Rattle.error.specs.Refusal.{Answer, accepted, answered}
use Rattle.buffer.specs.Bytes.{overwrite}
use Rattle.compact.specs.Uleb128.{piece, read_uleb}
use Rattle.scripthash_stream.specs.Stream.{max_offered, last_from, Scan, scan_from, End, ends_from, after_decode}

-- The first n bytes, of some but no more than are ever offered, are forms of one byte each, and none is 0.
pub record OneByteForms (bs : List ℕ) (n : ℕ) : Type 0 where
  pub some : 0 < n
  pub few : n ≤ max_offered
  pub within : n ≤ length bs
  pub each : (i : ℕ) → i < n → (0 < get_or bs i 0) × (get_or bs i 0 < 128)

-- The first three bytes of the form at an offset go on, and their pieces add up to a value.
pub record ThreeGoOn (bs : List ℕ) (off value : ℕ) : Type 0 where
  pub within : off + 3 ≤ length bs
  pub first : 128 ≤ get_or bs off 0
  pub second : 128 ≤ get_or bs (off + 1) 0
  pub third : 128 ≤ get_or bs (off + 2) 0
  pub carries : value ≡ piece (get_or bs off 0) + piece (get_or bs (off + 1) 0) * 128 + piece (get_or bs (off + 2) 0) * 16384

-- What is told of the form at the start of some bytes: nothing where its value is told as 0, else its value and the bytes that it takes.
unfoldable pub QuickForm : ℕ → ℕ → List ℕ → Type 0
QuickForm value len bs = (0 < value) → read_uleb bs ≡ accepted (record { value = value; len = len })

-- A try at reading a stream into a lent list, whose answer would be `a`: it tells 0 and leaves the list, or the bytes of an accepted
-- stream, whose numbers the list holds.
unfoldable pub Quick : ℕ → List ℕ → List ℕ → Answer Scan → Type 0
Quick told before after a = ((told ≡ 0) × (after ≡ before)) ⊎
    ((0 < told) × (answered (λ s. s.taken) a ≡ accepted told) × (after ≡ after_decode before a))

-- What a quick scan tells: nothing where it tells 0 bytes, else where the scan ends.
unfoldable pub QuickEnd : ℕ → ℕ → Answer End → Type 0
QuickEnd taken last a = (0 < taken) → a ≡ accepted (record { taken = taken; last = last })

-- A scan that ends so many bytes later.
abbrev pub later : ℕ → Scan → Scan
later off s = record { numbers = s.numbers; taken = off + s.taken }

-- The scan of k numbers behind `prev` from a place of some bytes on, which tells the place behind them.
unfoldable pub scan_at : ℕ → ℕ → ℕ → List ℕ → Answer Scan
scan_at off prev k bs = answered (later off) (scan_from prev k (drop off bs))

-- What summing up n forms from a place on, behind `prev`, tells: where their scan ends, and a list with room for its numbers has them at
-- its start.
pub record QuickSum (taken last from prev n : ℕ) (bs space : List ℕ) : Type 0 where
  pub within : taken ≤ length bs
  pub below : last < 2 ^ 63
  pub ends : QuickEnd taken last (ends_from from prev n (drop from bs))
  pub numbers : n ≤ length space → 0 < taken → scan_at from prev n bs ≡ accepted (record { numbers = take n space; taken = taken })

-- A try at reading a part of a stream, whose scan would be `a`, to a place of a list: it tells 0 and leaves the list, or the place behind
-- the part, whose numbers the list holds.
pub data QuickPart (told : ℕ) (before after : List ℕ) (at : ℕ) (a : Answer Scan) : Type 0 where
  left : told ≡ 0 → after ≡ before → QuickPart told before after at a
  read : (ns : List ℕ) → 0 < told → a ≡ accepted (record { numbers = ns; taken = told }) → after ≡ overwrite before at ns
      → QuickPart told before after at a

-- A try at judging and reading a stream, whose scan would be `a`, into the start of a list: it tells 0 and leaves the list, or the bytes of
-- a stream that fits and whose last number is below a limit, and the list holds the numbers.
pub data ShortRead (told top : ℕ) (before after : List ℕ) (a : Answer Scan) : Type 0 where
  unread : told ≡ 0 → after ≡ before → ShortRead told top before after a
  short : (s : Scan) → 0 < told → a ≡ accepted s → s.taken ≡ told → length s.numbers ≤ length before → last_from 0 s.numbers < top
      → after ≡ overwrite before 0 s.numbers → ShortRead told top before after a
