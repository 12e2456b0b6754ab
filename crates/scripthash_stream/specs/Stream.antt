-- Streams of rising numbers: the first number, then the differences, each as a ULEB128 form. A number before the first counts as 0.
use Rattle.std.specs.Prelude.{ℕ, zero, suc, ◌+◌, ◌-◌, ◌^◌, ◌<◌, cond, ◌&&◌, List, [], ◌∷◌, ◌++◌, leb, ltb, eqb, drop}
use Rattle.error.specs.Refusal.{Answer, accepted, refused, refuse_if, and_then, offered_first_zero, offered_bit63, offered_not_rising, does_not_fit}
use Rattle.error.specs.Refusal.{answered, value_or, list_too_short}
use Rattle.error.specs.Refusal.{stored_first_zero, stored_difference_zero, stored_sum_overflow, stored_bit63}
use Rattle.buffer.specs.Bytes.{overwrite}
use Rattle.compact.specs.Uleb128.{Reading, read_uleb, uleb_len, shortest, padded, one}

-- The most numbers that a slab, a page or a load is offered.
abbrev pub max_offered : ℕ
max_offered = 65535

-- Numbers that rise strictly from above `prev` and stay below `top`.
unfoldable pub Rising : ℕ → ℕ → List ℕ → Type 0
Rising top prev [] = Unit {0}
Rising top prev (n ∷ ns) = (prev < n) × (n < top) × Rising top n ns

-- The last of some numbers, or the one before them where there are none.
unfoldable pub last_from : ℕ → List ℕ → ℕ
last_from prev [] = prev
last_from prev (n ∷ ns) = last_from n ns

-- ---- written

-- The stream of some numbers behind `prev`: the shortest forms of their differences.
unfoldable pub stream_from : ℕ → List ℕ → List ℕ
stream_from prev [] = []
stream_from prev (n ∷ ns) = shortest (n - prev) ++ stream_from n ns

-- The length of that stream: the sum of the forms' lengths.
unfoldable pub stream_len_from : ℕ → List ℕ → ℕ
stream_len_from prev [] = 0
stream_len_from prev (n ∷ ns) = uleb_len (n - prev) + stream_len_from n ns

-- The stream of a list.
abbrev pub stream : List ℕ → List ℕ
stream ns = stream_from 0 ns

-- The length of that stream.
abbrev pub stream_len : List ℕ → ℕ
stream_len ns = stream_len_from 0 ns

-- An offered list is judged number by number: the first that is refused decides, else what comes after.
unfoldable pub judged : {A : Type 0} → ℕ → List ℕ → Answer A → Answer A
judged prev [] after = after
judged prev (n ∷ ns) after =
    refuse_if (eqb prev 0 && eqb n 0) offered_first_zero
    (refuse_if (leb (2 ^ 63) n) offered_bit63
    (refuse_if (leb n prev) offered_not_rising (judged n ns after)))

-- Writing the stream of an offered list where there is room for some bytes: its length, or a refusal.
unfoldable pub encode_stream : ℕ → List ℕ → Answer ℕ
encode_stream room ns = judged 0 ns (refuse_if (ltb room (stream_len ns)) does_not_fit (accepted (stream_len ns)))

-- What the destination holds after an answer: the stream at its start, or what it held.
unfoldable pub after_encode : List ℕ → List ℕ → Answer ℕ → List ℕ
after_encode out ns (accepted len) = overwrite out 0 (stream ns)
after_encode out ns (refused number) = out

-- ---- read

-- The number that a stored difference, as it was read, gives behind another; its form keeps its length.
unfoldable pub stored_number : ℕ → Reading → Answer Reading
stored_number prev d =
    refuse_if (eqb d.value 0) (cond (eqb prev 0) stored_first_zero stored_difference_zero)
    (refuse_if (leb (2 ^ 64) (prev + d.value)) stored_sum_overflow
    (refuse_if (leb (2 ^ 63) (prev + d.value)) stored_bit63 (accepted (record { value = prev + d.value; len = d.len }))))

-- The next number of a stream, and the bytes that its form takes.
unfoldable pub next_number : ℕ → List ℕ → Answer Reading
next_number prev bs = and_then (read_uleb bs) (stored_number prev)

-- What scanning a stream gives: its numbers, and how many bytes it takes.
pub record Scan : Type 0 where
  pub numbers : List ℕ
  pub taken : ℕ

-- Scanning a count of numbers behind `prev`; it stops at the first number that cannot be read.
unfoldable pub scan_from : ℕ → ℕ → List ℕ → Answer Scan
scan_from prev zero bs = accepted (record { numbers = []; taken = 0 })
scan_from prev (suc k) bs =
    and_then (next_number prev bs)
    (λ r. and_then (scan_from r.value k (drop r.len bs))
    (λ s. accepted (record { numbers = r.value ∷ s.numbers; taken = r.len + s.taken })))

-- Scanning a stream of a count of numbers.
abbrev pub scan : ℕ → List ℕ → Answer Scan
scan n bs = scan_from 0 n bs

-- How many of a count of numbers at the start of some bytes have a padded form, up to the first whose form cannot be read.
unfoldable pub padded_in : ℕ → List ℕ → ℕ
padded_in zero bs = 0
padded_in (suc k) bs = value_or (λ r. one (padded r) + padded_in k (drop r.len bs)) (read_uleb bs) 0

-- What a scan tells of its end: the bytes that it takes, and its last number, 0 where it has none.
pub record End : Type 0 where
  pub taken : ℕ
  pub last : ℕ

-- The end of a scan behind `prev`.
abbrev pub end_from : ℕ → Scan → End
end_from prev s = record { taken = s.taken; last = last_from prev s.numbers }

-- k numbers behind `prev` are left to scan, and those before took `off` bytes: where the whole scan ends.
unfoldable pub ends_from : ℕ → ℕ → ℕ → List ℕ → Answer End
ends_from off prev k bs = answered (λ s. record { taken = off + s.taken; last = last_from prev s.numbers }) (scan_from prev k bs)

-- Reading a stream of n numbers into a lent list with room for some, or a refusal.
unfoldable pub decode_stream : ℕ → ℕ → List ℕ → Answer Scan
decode_stream room n bs = and_then (scan n bs) (λ s. refuse_if (ltb room n) list_too_short (accepted s))

-- What reading a stream tells: the bytes that it takes, and how many of its numbers are padded.
pub record StreamTold : Type 0 where
  pub taken : ℕ
  pub padded : ℕ

-- The same of n numbers that were scanned at the start of some bytes.
abbrev pub stream_told : ℕ → List ℕ → Scan → StreamTold
stream_told n bs s = record { taken = s.taken; padded = padded_in n bs }

-- What the lent list holds after an answer: the numbers at its start, or what it held.
unfoldable pub after_decode : List ℕ → Answer Scan → List ℕ
after_decode out (accepted s) = overwrite out 0 s.numbers
after_decode out (refused number) = out
