-- Streams cannot be mistaken: length and stream fix the list. It goes by one fact about ULEB128, that a number's shortest form fixes the
-- number and what is behind it. Of lists of different lengths the shorter is then the beginning of the longer; and any bytes, padded ones
-- too, read in at most one way. Assumes nothing.
use Prim.Native.Nat.{ℕ, ◌-◌, ◌^◌, ◌≤◌}
use mathlib.Core.List.{List, [], ◌∷◌, ◌++◌, append_assoc, append-nil, append_cancel_left, IsPrefix}
use mathlib.Core.Path.{◌≡◌, refl, sym, ap, ap₂, ◌∙◌}
use native.Mathlib.Omega.{arith}
use lib.ListN.{length, take, length-append}
use Rattle.error.specs.Refusal.{accepted, refuse_if, and_then}
use Rattle.error.proofs.LawsAnswer.{accepted_inj}
use Rattle.compact.specs.Uleb128.{is_form, value, form_at, overflows, read_form, read_uleb, divided, shortest}
use Rattle.compact.proofs.LawsPrefix.{shortest_fixed}
use Rattle.scripthash_stream.specs.Stream.{Rising, last_from, stream_from, stream_len, stream}
use Rattle.scripthash_stream.specs.Stream.{stored_number, next_number, Scan, scan_from, scan}
use Rattle.scripthash_prefix.specs.PrefixFree.{IsList, SameLength, PrefixFree, Mistaken}
use Rattle.scripthash_stream.proofs.LawsScan.{scan_same}
use Rattle.scripthash_stream.proofs.LawsStream.{scan_stream}

-- ---- bytes that begin with two streams

-- What is known of lists whose streams behind a number begin the same bytes: one is the other and more numbers, whose stream comes next.
record Longer (prev : ℕ) (ms ns xs ys : List ℕ) : Type 0 where
  more : List ℕ
  list : ms ++ more ≡ ns
  behind : xs ≡ stream_from (last_from prev ms) more ++ ys

-- one number before both
longer_cons : (prev m n : ℕ) (ms ns xs ys : List ℕ) → n ≡ m → Longer m ms ns xs ys → Longer prev (m ∷ ms) (n ∷ ns) xs ys
unfolding last_from
longer_cons prev m n ms ns xs ys e w =
    record { more = w.more; list = ap₂ (λ (x : ℕ) (l : List ℕ). x ∷ l) (sym e) w.list; behind = w.behind }

longer : (top prev : ℕ) (ms ns xs ys : List ℕ) → Rising top prev ms → Rising top prev ns → length ms ≤ length ns
    → stream_from prev ms ++ xs ≡ stream_from prev ns ++ ys → Longer prev ms ns xs ys
unfolding Rising stream_from last_from
longer top prev [] ns xs ys h k l e = record { more = ns; list = refl; behind = e }
longer top prev (m ∷ ms) [] xs ys h k l e = absurd (omega arith)
longer top prev (m ∷ ms) (n ∷ ns) xs ys h k l e =
    let left = append_assoc (shortest (m - prev)) (stream_from m ms) xs in
    let right = append_assoc (shortest (n - prev)) (stream_from n ns) ys in
    let (difference, rest) = shortest_fixed (m - prev) (n - prev) (stream_from m ms ++ xs) (stream_from n ns ++ ys) (sym left ∙ e ∙ right) in
    let first : n ≡ m = omega (arith, h.0, k.0) in
    longer_cons prev m n ms ns xs ys first (longer top m ms ns xs ys h.2 (rw first at k.2) (omega arith) (rw first at rest))

-- of the same length, nothing is left
none_left : (prev : ℕ) (ms ns xs ys more : List ℕ) → length ms ≡ length ns → ms ++ more ≡ ns
    → xs ≡ stream_from (last_from prev ms) more ++ ys → (ms ≡ ns) × (xs ≡ ys)
unfolding stream_from
none_left prev ms ns xs ys [] l e d = (sym (append-nil ms) ∙ e, d)
none_left prev ms ns xs ys (n ∷ more) l e d = absurd (omega (arith, length-append ms (n ∷ more), ap length e))

-- ---- written streams

-- where streams begin the same bytes, the shorter list is the beginning of the longer
pub stream_begins : (ms ns xs ys : List ℕ) → IsList ms → IsList ns → length ms ≤ length ns → stream ms ++ xs ≡ stream ns ++ ys
    → IsPrefix ms ns
stream_begins ms ns xs ys h k l e = let w = longer (2 ^ 64) 0 ms ns xs ys h k l e in (w.more, w.list)

-- bytes that fix lists of the same length cannot be mistaken
fixed_free : (bytes : List ℕ → List ℕ)
    → ((ms ns xs ys : List ℕ) → SameLength ms ns → bytes ms ++ xs ≡ bytes ns ++ ys → (ms ≡ ns) × (xs ≡ ys)) → PrefixFree bytes
fixed_free bytes fixed =
    record {
      neither = λ ms ns same different. (
        λ (xs, e). different (fixed ms ns xs [] same (e ∙ sym (append-nil (bytes ns)))).0,
        λ (ys, e). different (fixed ms ns [] ys same (append-nil (bytes ms) ∙ sym e)).0,
      );
      -- whichever way round the equation stands
      fixed = λ ms ns xs ys same e. let d : bytes ms ++ xs ≡ bytes ns ++ ys = cc in fixed ms ns xs ys same d;
    }

stream_fixed : (ms ns xs ys : List ℕ) → SameLength ms ns → stream ms ++ xs ≡ stream ns ++ ys → (ms ≡ ns) × (xs ≡ ys)
stream_fixed ms ns xs ys same e =
    let count : length ms ≡ length ns = omega (arith, same.counts) in
    let w = longer (2 ^ 64) 0 ms ns xs ys same.first same.second (omega arith) e in
    none_left 0 ms ns xs ys w.more count w.list w.behind

-- The theorem: streams cannot be mistaken.
pub stream_prefix_free : PrefixFree stream
stream_prefix_free = fixed_free stream stream_fixed

-- Nor can a stream with bytes before it that depend on the list's length alone, whatever is behind it.
module _ (bytes : List ℕ → List ℕ) (before : ℕ → List ℕ) (after : List ℕ → List ℕ)
    (is : (ns : List ℕ) → bytes ns ≡ before (length ns) ++ (stream ns ++ after ns)) where
  joined : (ns ys : List ℕ) → bytes ns ++ ys ≡ before (length ns) ++ (stream ns ++ (after ns ++ ys))
  joined ns ys =
      ap (λ (l : List ℕ). l ++ ys) (is ns) ∙ append_assoc (before (length ns)) (stream ns ++ after ns) ys
      ∙ ap (λ (l : List ℕ). before (length ns) ++ l) (append_assoc (stream ns) (after ns) ys)

  framed_fixed : (ms ns xs ys : List ℕ) → SameLength ms ns → bytes ms ++ xs ≡ bytes ns ++ ys → (ms ≡ ns) × (xs ≡ ys)
  framed_fixed ms ns xs ys same e =
      let count : length ns ≡ length ms = omega (arith, same.counts) in
      let counted = ap (λ (k : ℕ). before k ++ (stream ns ++ (after ns ++ ys))) count in
      let behind = append_cancel_left (before (length ms)) _ _ (sym (joined ms xs) ∙ e ∙ joined ns ys ∙ counted) in
      let (lists, rest) = stream_fixed ms ns (after ms ++ xs) (after ns ++ ys) same behind in
      (lists, append_cancel_left (after ms) xs ys (rest ∙ ap (λ (l : List ℕ). after l ++ ys) (sym lists)))

  pub framed_prefix_free : PrefixFree bytes
  framed_prefix_free = fixed_free bytes framed_fixed

-- ---- any bytes

-- no stream of so many numbers, padded or not, is the proper beginning of another: where the bytes that a scan takes are the beginning of
-- others that scan, the two scans are one
pub scan_fixed : (prev k : ℕ) (bs cs : List ℕ) (s t : Scan) → scan_from prev k bs ≡ accepted s → scan_from prev k cs ≡ accepted t
    → IsPrefix (take s.taken bs) cs → s ≡ t
scan_fixed prev k bs cs s t e d (rest, begins) = accepted_inj (sym (scan_same prev k bs rest s e) ∙ ap (scan_from prev k) begins ∙ d)

-- bytes that begin with the stream of a list below 2^63, as stored numbers are, scan as that list alone
pub scan_begun : (ns bs : List ℕ) (s : Scan) → Rising (2 ^ 63) 0 ns → IsPrefix (stream ns) bs → scan (length ns) bs ≡ accepted s
    → s ≡ record { numbers = ns; taken = stream_len ns }
scan_begun ns bs s h (rest, begins) e = accepted_inj (sym e ∙ ap (scan (length ns)) (sym begins) ∙ scan_stream 0 ns rest h)

-- ---- what is asked of the lists is needed

pub mistaken : Mistaken
unfolding refuse_if and_then is_form value form_at overflows read_form read_uleb divided shortest stream_from stored_number next_number scan_from
mistaken = record { lengths = (167 ∷ 2 ∷ [], refl); falling = refl; before = refl; padded = (refl, refl) }
