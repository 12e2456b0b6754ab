-- The stream of a list: its length, more numbers behind it, and that it reads as the list. Assumes nothing.
use Prim.Native.Nat.{ℕ, ◌+◌, ◌-◌, ◌^◌, ◌≤◌, ◌<◌}
use mathlib.Core.List.{List, [], ◌∷◌, ◌++◌, append_assoc, append-nil}
use mathlib.Core.Path.{◌≡◌, refl, sym, ap, ◌∙◌}
use native.Mathlib.Nat.{add_assoc, zero-add}
use native.Mathlib.Numerals.{add-one}
use native.Mathlib.Omega.{arith}
use lib.ListN.{length, drop, get_or, length-append}
use lib.Seq.{drop_at, drop-cons}
use Rattle.error.specs.Refusal.{accepted}
use Rattle.compact.specs.Uleb128.{read_uleb, uleb_len, shortest}
use Rattle.compact.proofs.LawsLength.{length_shortest}
use Rattle.compact.proofs.LawsRead.{read_shortest}
use Rattle.scripthash_stream.specs.Stream.{Rising, last_from, stream_from, stream_len_from, next_number}
use Rattle.scripthash_stream.specs.Stream.{scan_from}
use Rattle.scripthash_stream.proofs.LawsScan.{stored_sum, next_is, scan_cons}

-- ---- lists

-- the first of the numbers from a place on
pub front : (ns : List ℕ) (k : ℕ) → k < length ns → drop k ns ≡ get_or ns k 0 ∷ drop (k + 1) ns
front ns k h = drop-cons ns k 0 h ∙ ap (λ (j : ℕ). get_or ns k 0 ∷ drop j ns) (sym (add-one k))

-- rising numbers are those before and those behind
pub rising_append : (top prev : ℕ) (ms ns : List ℕ) → Rising top prev ms → Rising top (last_from prev ms) ns → Rising top prev (ms ++ ns)
unfolding Rising last_from
rising_append top prev [] ns h k = k
rising_append top prev (m ∷ ms) ns h k = (h.0, h.1, rising_append top m ms ns h.2 k)

-- numbers that stay below a limit stay below a higher one
pub rising_below : (top higher prev : ℕ) (ns : List ℕ) → top ≤ higher → Rising top prev ns → Rising higher prev ns
unfolding Rising
rising_below top higher prev [] h r = tt
rising_below top higher prev (n ∷ ns) h r = (r.0, omega (arith, r.1), rising_below top higher n ns h r.2)

-- the last of rising numbers is below the limit
pub last_below : (top prev : ℕ) (ns : List ℕ) → prev < top → Rising top prev ns → last_from prev ns < top
unfolding Rising last_from
last_below top prev [] h k = h
last_below top prev (n ∷ ns) h k = last_below top n ns k.1 k.2

-- the last of numbers, and of more behind them
pub last_append : (prev : ℕ) (ms ns : List ℕ) → last_from prev (ms ++ ns) ≡ last_from (last_from prev ms) ns
unfolding last_from
last_append prev [] ns = refl
last_append prev (m ∷ ms) ns = last_append m ms ns

-- ---- streams

-- the length of a stream is the sum of its forms' lengths
pub length_stream : (prev : ℕ) (ns : List ℕ) → length (stream_from prev ns) ≡ stream_len_from prev ns
unfolding stream_from stream_len_from
length_stream prev [] = refl
length_stream prev (n ∷ ns) = rw (length-append (shortest (n - prev)) (stream_from n ns), length_shortest (n - prev), length_stream n ns)

-- the stream of numbers and of more behind them
pub stream_append : (prev : ℕ) (ms ns : List ℕ) → stream_from prev (ms ++ ns) ≡ stream_from prev ms ++ stream_from (last_from prev ms) ns
unfolding stream_from last_from
stream_append prev [] ns = refl
stream_append prev (m ∷ ms) ns = rw (stream_append m ms ns, append_assoc)

pub stream_len_append : (prev : ℕ) (ms ns : List ℕ)
    → stream_len_from prev (ms ++ ns) ≡ stream_len_from prev ms + stream_len_from (last_from prev ms) ns
unfolding stream_len_from last_from
stream_len_append prev [] ns = rw zero-add
stream_len_append prev (m ∷ ms) ns = rw (stream_len_append m ms ns, add_assoc)

-- the stream of a list with one more number is the stream and that difference's form
pub stream_snoc : (prev : ℕ) (ns : List ℕ) (n : ℕ)
    → stream_from prev (ns ++ (n ∷ [])) ≡ stream_from prev ns ++ shortest (n - last_from prev ns)
unfolding stream_from
stream_snoc prev ns n = stream_append prev ns (n ∷ []) ∙ ap (λ (l : List ℕ). stream_from prev ns ++ l)
    (append-nil (shortest (n - last_from prev ns)))

-- a stream reads as its list, with its length, whatever follows
pub scan_stream : (prev : ℕ) (ns rest : List ℕ) → Rising (2 ^ 63) prev ns
    → scan_from prev (length ns) (stream_from prev ns ++ rest) ≡ accepted (record { numbers = ns; taken = stream_len_from prev ns })
unfolding Rising stream_from stream_len_from scan_from
scan_stream prev [] rest h = refl
scan_stream prev (n ∷ ns) rest h =
    let d = n - prev in
    let bs = shortest d ++ (stream_from n ns ++ rest) in
    let back : prev + d ≡ n = omega arith in
    let read : read_uleb bs ≡ accepted (record { value = d; len = uleb_len d }) = read_shortest d (stream_from n ns ++ rest) (omega arith) in
    let sum = stored_sum prev (record { value = d; len = uleb_len d }) (omega arith) (omega arith) in
    let next : next_number prev bs ≡ accepted (record { value = n; len = uleb_len d }) =
    rw back at (next_is prev bs (record { value = d; len = uleb_len d }) read ∙ sum) in
    let after : drop (uleb_len d) bs ≡ stream_from n ns ++ rest =
    drop_at (shortest d) (stream_from n ns ++ rest) (uleb_len d) (length_shortest d) in
    rw (append_assoc)
    (scan_cons prev (length ns) bs (record { value = n; len = uleb_len d }) (record { numbers = ns; taken = stream_len_from n ns }) next
    (rw after (scan_stream n ns rest h.2)))
