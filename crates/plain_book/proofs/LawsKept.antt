-- Kept streams: a list written anew, and a stream with one number more; both have a byte at least for each number, and are as long as
-- shortest forms, the second where it was before. Assumes nothing.
use Prim.Native.Nat.{ℕ, ◌+◌, ◌-◌, ◌≤◌}
use mathlib.Core.List.{List, [], ◌∷◌, ◌++◌}
use mathlib.Core.Path.{◌≡◌, refl, ap, ◌∙◌}
use native.Mathlib.Omega.{arith}
use lib.ListN.{length, length-append}
use Rattle.compact.specs.Uleb128.{uleb_len}
use Rattle.compact.proofs.LawsLength.{len_pos}
use Rattle.scripthash_stream.specs.Stream.{last_from, stream_len, stream_len_from}
use Rattle.scripthash_stream.proofs.LawsStream.{stream_len_append}
use Rattle.plain_book.specs.Key.{Kept, written, longer}
use Rattle.plain_book.specs.Sound.{ByteEach, Shortest}

-- The stream of a list with one number more has the bytes of the difference more.
pub len_snoc : (prev : ℕ) (ns : List ℕ) (n : ℕ)
    → stream_len_from prev (ns ++ (n ∷ [])) ≡ stream_len_from prev ns + uleb_len (n - last_from prev ns)
unfolding stream_len_from
len_snoc prev ns n = omega (arith, stream_len_append prev ns (n ∷ []))

-- A list written anew holds that list.
pub written_numbers : (ns : List ℕ) → (written ns).numbers ≡ ns
unfolding written
written_numbers ns = refl

-- It takes the bytes of its stream.
pub written_bytes : (ns : List ℕ) → (written ns).bytes ≡ stream_len ns
unfolding written
written_bytes ns = refl

-- So it is kept in shortest forms.
pub written_shortest : (ns : List ℕ) → Shortest (written ns)
unfolding written
written_shortest ns = refl

-- A stream with one number more holds the numbers before, and that one.
pub longer_numbers : (n : ℕ) (k : Kept) → (longer n k).numbers ≡ k.numbers ++ (n ∷ [])
unfolding longer
longer_numbers n k = refl

-- Shortest forms stay shortest with one number more.
pub shortest_longer : (n : ℕ) (k : Kept) → Shortest k → Shortest (longer n k)
unfolding longer
shortest_longer n k h = omega (arith, len_snoc 0 k.numbers n)

-- A list kept in shortest forms is, with one number more, as long as written anew.
pub longer_bytes : (n : ℕ) (k : Kept) (ns : List ℕ) → k.numbers ≡ ns → Shortest k → (longer n k).bytes ≡ stream_len (ns ++ (n ∷ []))
longer_bytes n k ns is h = shortest_longer n k h ∙ ap stream_len (longer_numbers n k ∙ ap (λ (l : List ℕ). l ++ (n ∷ [])) is)

-- Every number takes a byte at least.
pub count_stream : (prev : ℕ) (ns : List ℕ) → length ns ≤ stream_len_from prev ns
unfolding stream_len_from
count_stream prev [] = omega arith
count_stream prev (n ∷ ns) = omega (arith, len_pos (n - prev), count_stream n ns)

-- So it is of a list written anew,
pub written_each : (ns : List ℕ) → ByteEach (written ns)
unfolding written
written_each ns = count_stream 0 ns

-- and of a stream with one number more, in whatever forms the others are kept.
pub longer_each : (n : ℕ) (k : Kept) → ByteEach k → ByteEach (longer n k)
unfolding longer
longer_each n k h = omega (arith, length-append k.numbers (n ∷ []), len_pos (n - last_from 0 k.numbers))
