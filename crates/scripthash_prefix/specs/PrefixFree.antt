-- Lists that cannot be mistaken for each other by their bytes: of two different lists of the same length, neither's bytes are the beginning
-- of the other's. Beginnings are the library's: `IsPrefix xs ys` says that xs with some bytes behind it is ys.
use Rattle.std.specs.Prelude.{ℕ, ◌^◌, ◌≢◌, ◌≡◌, length}
use mathlib.Core.List.{List, [], ◌∷◌, ◌++◌, IsPrefix}
use Rattle.error.specs.Refusal.{accepted}
use Rattle.scripthash_stream.specs.Stream.{Rising, stream, scan}

-- A list, as FORMAT has it: its numbers have 64 bits, the first is above 0, and they rise strictly.
abbrev pub IsList : List ℕ → Type 0
IsList ns = Rising (2 ^ 64) 0 ns

-- Two lists of the same length.
pub record SameLength (ms ns : List ℕ) : Type 0 where
  pub first : IsList ms
  pub second : IsList ns
  pub counts : length ms ≡ length ns

-- A way to write lists as bytes that cannot be mistaken.
pub record PrefixFree (bytes : List ℕ → List ℕ) : Type 0 where
  -- Of two different lists of the same length, neither's bytes are the beginning of the other's.
  pub neither : (ms ns : List ℕ) → SameLength ms ns → ms ≢ ns → (IsPrefix (bytes ms) (bytes ns) → ⊥) × (IsPrefix (bytes ns) (bytes ms) → ⊥)
  -- Length and bytes fix the list, with other bytes after it or without; and then those are the same too.
  pub fixed : (ms ns xs ys : List ℕ) → SameLength ms ns → bytes ms ++ xs ≡ bytes ns ++ ys → (ms ≡ ns) × (xs ≡ ys)

-- Some bytes read as the list of one number, in so many of them.
abbrev pub ReadsOne : List ℕ → ℕ → ℕ → Type 0
ReadsOne bs n len = scan 1 bs ≡ accepted (record { numbers = n ∷ []; taken = len })

-- Why each thing is asked: without it, streams can be mistaken.
pub record Mistaken : Type 0 where
  -- Lists of different lengths: the stream of 5, which is 05, is the beginning of that of 5, 300, which is 05 A7 02.
  pub lengths : IsPrefix (stream (5 ∷ [])) (stream (5 ∷ 300 ∷ []))
  -- Numbers that don't rise: 5, 3 would have the stream of 5, 4, which is 05 00.
  pub falling : stream (5 ∷ 3 ∷ []) ≡ stream (5 ∷ 4 ∷ [])
  -- Other bytes before it: 80 and the stream of 1, which is 01, are the stream of 128.
  pub before : 128 ∷ stream (1 ∷ []) ≡ stream (128 ∷ [])
  -- Streams that were written elsewhere: 05 and the padded 85 00 both read as the list 5.
  pub padded : ReadsOne (5 ∷ []) 5 1 × ReadsOne (133 ∷ 0 ∷ []) 5 2
