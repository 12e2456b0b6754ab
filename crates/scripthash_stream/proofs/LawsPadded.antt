-- Padded numbers of a stream: those of an accepted one are the bytes 0 among those taken. Assumes nothing.
use Prim.Native.Nat.{ℕ, zero, suc, ◌+◌, ◌-◌, ◌^◌, ◌≤◌, ◌<◌}
use mathlib.Core.Bool.{Bool, true, false}
use mathlib.Core.List.{List, [], ◌∷◌, ◌++◌, append_assoc}
use mathlib.Core.Path.{◌≡◌, refl, sym, ap, ◌∙◌}
use native.Mathlib.Nat.{add-zero}
use borrow.Author.Tests.{le-ltb}
use lib.Dec.{eqb}
use native.Mathlib.Omega.{arith}
use lib.ListN.{length, take, drop, get_or, length-append}
use lib.Seq.{take-add, take_at, length-take-le}
use Rattle.error.specs.Refusal.{Answer, accepted, refused, value_or}
use Rattle.error.proofs.LawsAnswer.{accepted_inj}
use Rattle.compact.specs.Uleb128.{Reading, read_uleb, uleb_len, shortest, padded, one, zeros}
use Rattle.compact.proofs.LawsLength.{len_pos, length_shortest}
use Rattle.compact.proofs.LawsPadded.{zeros_append, read_zeros, zeros_shortest}
use Rattle.scripthash_stream.specs.Stream.{Rising, stream, stream_from, stream_len_from, Scan, scan_from, scan, padded_in}
use Rattle.scripthash_stream.proofs.LawsScan.{next_accepted, Step, scan_step, scan_accepted}
use Rattle.scripthash_stream.proofs.LawsStream.{front, length_stream, scan_stream}

-- the padded numbers of a stream that scans are the bytes 0 among those that it takes: a byte 0 ends a form, and a difference of 0, or a
-- first number 0, is refused
pub padded_zeros : (prev k : ℕ) (bs : List ℕ) (s : Scan) → scan_from prev k bs ≡ accepted s → padded_in k bs ≡ zeros (take s.taken bs)
unfolding scan_from padded_in zeros
padded_zeros prev zero bs s e = rw (sym (accepted_inj e))
padded_zeros prev (suc k) bs s e = behind (scan_step prev k bs s e) (λ r t f. padded_zeros r.value k (drop r.len bs) t f)
  where
    behind : (w : Step prev k bs s)
        → ((r : Reading) (t : Scan) → scan_from r.value k (drop r.len bs) ≡ accepted t
        → padded_in k (drop r.len bs) ≡ zeros (take t.taken (drop r.len bs)))
        → padded_in (suc k) bs ≡ zeros (take s.taken bs)
    behind w ih =
        let l = w.first.len in
        let d : Reading = record { value = w.first.value - prev; len = l } in
        let n = next_accepted prev bs w.first w.next in
        let here : zeros (take l bs) ≡ one (padded d) = read_zeros bs d n.read (omega (arith, n.above)) in
        rw (w.whole, take-add l w.rest.taken bs, zeros_append (take l bs) (take w.rest.taken (drop l bs)), here, n.read)
        (ap (λ (m : ℕ). one (padded d) + m) (ih w.first w.rest w.more))

-- the stream of rising numbers has no byte 0
pub zeros_stream : (top prev : ℕ) (ns : List ℕ) → Rising top prev ns → zeros (stream_from prev ns) ≡ 0
unfolding Rising stream_from zeros
zeros_stream top prev [] h = refl
zeros_stream top prev (n ∷ ns) h =
    rw (zeros_append (shortest (n - prev)) (stream_from n ns), zeros_shortest (n - prev) (omega arith), zeros_stream top n ns h.2)

-- the zeros up to an index are those up to an earlier one, and those of the part between
pub zeros_part : (bs : List ℕ) (i n j : ℕ) → i + n ≡ j → zeros (take j bs) ≡ zeros (take i bs) + zeros (take n (drop i bs))
zeros_part bs i n j e = rw (← e, take-add i n bs) (zeros_append (take i bs) (take n (drop i bs)))

-- one byte more
pub zeros_next : (bs : List ℕ) (i : ℕ) → i < length bs → zeros (take (i + 1) bs) ≡ zeros (take i bs) + one (eqb (get_or bs i 0) 0)
unfolding zeros
zeros_next bs i h =
    rw (take-add i 1 bs, zeros_append (take i bs) (take 1 (drop i bs)), front bs i h) (ap (λ (m : ℕ). zeros (take i bs) + m) (add-zero _))

-- there are no more of them than bytes
pub zeros_most : (bs : List ℕ) → zeros bs ≤ length bs
unfolding zeros
zeros_most [] = omega arith
zeros_most (b ∷ bs) = most (eqb b 0) (zeros bs) (length bs) (zeros_most bs)
  where
    most : (t : Bool) (z n : ℕ) → z ≤ n → one t + z ≤ suc n
    most true z n h = omega arith
    most false z n h = omega arith

-- of no bytes none
pub zeros_nothing : (bs : List ℕ) → zeros (take 0 bs) ≡ 0
unfolding zeros
zeros_nothing bs = refl

-- a stream has a byte at least for each number
count_at_most : (prev : ℕ) (ns : List ℕ) → length ns ≤ stream_len_from prev ns
unfolding stream_len_from
count_at_most prev [] = omega arith
count_at_most prev (n ∷ ns) = omega (arith, len_pos (n - prev), count_at_most n ns)

-- a stream of as many bytes as numbers has no padded one: each form has one byte, and no form is longer than the shortest then
pub padded_bytes : (prev k : ℕ) (bs : List ℕ) (s : Scan) → scan_from prev k bs ≡ accepted s → s.taken ≡ k → padded_in k bs ≡ 0
unfolding scan_from padded_in padded
padded_bytes prev zero bs s e h = refl
padded_bytes prev (suc k) bs s e h =
    behind (scan_step prev k bs s e) (λ r t f. padded_bytes r.value k (drop r.len bs) t f)
  where
    behind : (w : Step prev k bs s)
        → ((r : Reading) (t : Scan) → scan_from r.value k (drop r.len bs) ≡ accepted t → t.taken ≡ k
        → padded_in k (drop r.len bs) ≡ 0)
        → padded_in (suc k) bs ≡ 0
    behind w ih =
        let n = next_accepted prev bs w.first w.next in
        let t = scan_accepted w.first.value k (drop w.first.len bs) w.rest w.more in
        let least = count_at_most w.first.value w.rest.numbers in
        let sum : w.first.len + w.rest.taken ≡ suc k = sym (ap (λ (x : Scan). x.taken) w.whole) ∙ h in
        let one_byte : w.first.len ≡ 1 = omega (arith, n.len_pos, t.at_least, t.counted, least) in
        let rest : w.rest.taken ≡ k = omega arith in
        rw (
          n.read,
          ih w.first w.rest w.more rest,
          one_byte,
          le-ltb (uleb_len (w.first.value - prev)) 1 (len_pos (w.first.value - prev)),
        )

-- what is counted over the bytes that a stream takes
pub padded_counted : (n : ℕ) (bs : List ℕ) (s : Scan) (taken : ℕ) → scan n bs ≡ accepted s → s.taken ≡ taken
    → zeros (take taken bs) ≡ padded_in n bs
padded_counted n bs s taken e h = ap (λ (m : ℕ). zeros (take m bs)) (sym h) ∙ sym (padded_zeros 0 n bs s e)

-- no more numbers are padded than are counted
pub padded_most : (k : ℕ) (bs : List ℕ) → padded_in k bs ≤ k
unfolding padded_in
padded_most zero bs = omega arith
padded_most (suc k) bs = first (read_uleb bs) (λ cs. padded_most k cs)
  where
    most : (t : Bool) (z n : ℕ) → z ≤ n → one t + z ≤ suc n
    most true z n h = omega arith
    most false z n h = omega arith

    first : (a : Answer Reading) → ((cs : List ℕ) → padded_in k cs ≤ k)
        → value_or (λ r. one (padded r) + padded_in k (drop r.len bs)) a 0 ≤ suc k
    first (accepted r) ih = most (padded r) (padded_in k (drop r.len bs)) k (ih (drop r.len bs))
    first (refused number) ih = omega arith

-- numbers that are written as a stream have no padded one, whatever follows
pub padded_written : (ns rest : List ℕ) → Rising (2 ^ 63) 0 ns → padded_in (length ns) (stream ns ++ rest) ≡ 0
padded_written ns rest h =
    padded_zeros 0 (length ns) (stream ns ++ rest) _ (scan_stream 0 ns rest h)
    ∙ ap (λ (n : ℕ). zeros (take n (stream ns ++ rest))) (sym (length_stream 0 ns))
    ∙ ap zeros (take_at (stream ns) rest (length (stream ns)) refl)
    ∙ zeros_stream (2 ^ 63) 0 ns h

-- one number more behind a stream, in its shortest form, is not padded
pub padded_more : (k j d : ℕ) (bs cs rest : List ℕ) (s t : Scan) → 0 < d → scan k bs ≡ accepted s → scan j cs ≡ accepted t
    → t.taken ≡ s.taken + uleb_len d → cs ≡ take s.taken bs ++ (shortest d ++ rest) → padded_in j cs ≡ padded_in k bs
padded_more k j d bs cs rest s t h e f taken whole =
    let within = (scan_accepted 0 k bs s e).within in
    let front : length (take s.taken bs) ≡ s.taken = length-take-le s.taken bs within in
    let size : t.taken ≡ length (take s.taken bs ++ shortest d) =
    taken ∙ sym (length-append (take s.taken bs) (shortest d) ∙ rw (front, length_shortest d)) in
    padded_zeros 0 j cs t f
    ∙ ap (λ (b : List ℕ). zeros (take t.taken b)) (whole ∙ sym (append_assoc (take s.taken bs) (shortest d) rest))
    ∙ ap (λ (n : ℕ). zeros (take n ((take s.taken bs ++ shortest d) ++ rest))) size
    ∙ ap zeros (take_at (take s.taken bs ++ shortest d) rest (length (take s.taken bs ++ shortest d)) refl)
    ∙ zeros_append (take s.taken bs) (shortest d) ∙ rw (zeros_shortest d h) (add-zero _)
    ∙ sym (padded_zeros 0 k bs s e)
