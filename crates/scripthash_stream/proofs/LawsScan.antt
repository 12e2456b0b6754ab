-- Scanning: the numbers one by one, what a scanned list is, and that bytes past the stream don't matter. Assumes nothing.
use Prim.Native.Nat.{ℕ, zero, suc, ◌+◌, ◌-◌, ◌^◌, ◌≤◌, ◌<◌}
use mathlib.Core.List.{List, [], ◌∷◌, ◌++◌, append_assoc}
use mathlib.Core.Logic.{⊎_elim}
use mathlib.Core.Path.{◌≡◌, refl, sym, ap, ◌∙◌}
use native.Mathlib.Nat.{not-suc-le-zero, le_of_suc-le-suc}
use native.Mathlib.Omega.{arith}
use borrow.Author.Tests.{leb-false, eqb-false, lt-leb, ne_eqb}
use lib.Dec.{leb, eqb}
use lib.ListN.{length, take, drop, length-drop}
use lib.Seq.{take-add, drop_at, drop-drop, length-take-le}
use Rattle.error.specs.Refusal.{accepted, refused, refuse_if, and_then}
use Rattle.error.proofs.LawsAnswer.{accepted_inj, passed, went_on, then_yes, then_no}
use Rattle.buffer.proofs.LawsOrder.{lt_or_ge}
use Rattle.compact.specs.Uleb128.{Reading, read_uleb, uleb_len}
use Rattle.compact.proofs.LawsRead.{read_accepted, read_same, read_least}
use Rattle.scripthash_stream.specs.Stream.{Rising, last_from, stream_len_from, stored_number, next_number, Scan, scan_from}

-- ---- one number

-- a stored difference above 0 whose sum stays below 2 ^ 63 gives that sum
pub stored_sum : (prev : ℕ) (d : Reading) → 0 < d.value → prev + d.value < 2 ^ 63
    → stored_number prev d ≡ accepted (record { value = prev + d.value; len = d.len })
unfolding stored_number refuse_if
stored_sum prev d h k =
    rw (
      ne_eqb d.value 0 (λ (e : d.value ≡ 0). omega arith),
      lt-leb (2 ^ 64) (prev + d.value) (omega arith),
      lt-leb (2 ^ 63) (prev + d.value) k,
    )

-- and no other difference is accepted
stored_accepted : (prev : ℕ) (d r : Reading) → stored_number prev d ≡ accepted r
    → (0 < d.value) × (prev + d.value < 2 ^ 63) × (record { value = prev + d.value; len = d.len } ≡ r)
unfolding stored_number
stored_accepted prev d r e =
    let none = passed (eqb d.value 0) _ _ e in
    let over = passed (leb (2 ^ 64) (prev + d.value)) _ _ none.1 in
    let flag = passed (leb (2 ^ 63) (prev + d.value)) _ _ over.1 in
    let ne : d.value ≡ 0 → ⊥ = eqb-false d.value 0 none.0 in (
      ⊎_elim (λ (p : 0 < d.value). p) (λ (q : d.value ≤ 0). absurd (ne (omega arith))) (lt_or_ge 0 d.value),
      leb-false (2 ^ 63) (prev + d.value) flag.0,
      accepted_inj flag.1,
    )

-- What is known of the next number of a stream: it was read as a difference, is above the one before, below 2 ^ 63, and takes bytes that
-- are there.
pub record Next (prev : ℕ) (bs : List ℕ) (r : Reading) : Type 0 where
  pub read : read_uleb bs ≡ accepted (record { value = r.value - prev; len = r.len })
  pub above : prev < r.value
  pub below : r.value < 2 ^ 63
  pub len_pos : 1 ≤ r.len
  pub len_within : r.len ≤ length bs

pub next_accepted : (prev : ℕ) (bs : List ℕ) (r : Reading) → next_number prev bs ≡ accepted r → Next prev bs r
unfolding next_number
next_accepted prev bs r e =
    let got = went_on (read_uleb bs) (stored_number prev) e in
    known got.0 got.1 (stored_accepted prev got.0 r got.2)
  where
    known : (d : Reading) → read_uleb bs ≡ accepted d
        → (0 < d.value) × (prev + d.value < 2 ^ 63) × (record { value = prev + d.value; len = d.len } ≡ r) → Next prev bs r
    known d e w =
        let a = read_accepted bs d e in
        let v : prev + d.value ≡ r.value = ap (λ (x : Reading). x.value) w.2 in
        let l : d.len ≡ r.len = ap (λ (x : Reading). x.len) w.2 in
        let back : d.value ≡ r.value - prev = omega arith in
        record {
          read = rw (← back, ← l) e;
          above = omega arith;
          below = omega arith;
          len_pos = omega (arith, a.len_pos);
          len_within = omega (arith, a.len_within);
        }

-- the number that was read at an offset ends within the bytes
pub next_inside : (bs : List ℕ) (off prev : ℕ) (r : Reading) → off ≤ length bs → next_number prev (drop off bs) ≡ accepted r
    → off + r.len ≤ length bs
next_inside bs off prev r h is =
    let within = simp length-drop at (next_accepted prev (drop off bs) r is).len_within in omega arith

-- a difference that reads gives the next number
pub next_is : (prev : ℕ) (bs : List ℕ) (d : Reading) → read_uleb bs ≡ accepted d → next_number prev bs ≡ stored_number prev d
unfolding next_number
next_is prev bs d e = then_yes (read_uleb bs) (stored_number prev) e

-- one that doesn't read is refused
pub next_refused : (prev : ℕ) (bs : List ℕ) {number : ℕ} → read_uleb bs ≡ refused number → next_number prev bs ≡ refused number
unfolding next_number
next_refused prev bs e = then_no (read_uleb bs) (stored_number prev) e

-- bytes after a number's form don't matter
pub next_same : (prev : ℕ) (bs rest : List ℕ) (r : Reading) → next_number prev bs ≡ accepted r
    → next_number prev (take r.len bs ++ rest) ≡ accepted r
next_same prev bs rest r e =
    let n = next_accepted prev bs r e in
    let d : Reading = record { value = r.value - prev; len = r.len } in
    let from : next_number prev bs ≡ stored_number prev d = next_is prev bs d n.read in
    next_is prev (take r.len bs ++ rest) d (read_same bs rest d n.read) ∙ sym from ∙ e

-- ---- a count of numbers

-- What a scan of one number and more is made of.
pub record Step (prev k : ℕ) (bs : List ℕ) (s : Scan) : Type 0 where
  pub first : Reading
  pub rest : Scan
  pub next : next_number prev bs ≡ accepted first
  pub more : scan_from first.value k (drop first.len bs) ≡ accepted rest
  pub whole : s ≡ record { numbers = first.value ∷ rest.numbers; taken = first.len + rest.taken }

pub scan_step : (prev k : ℕ) (bs : List ℕ) (s : Scan) → scan_from prev (suc k) bs ≡ accepted s → Step prev k bs s
unfolding scan_from
scan_step prev k bs s e =
    let got = went_on (next_number prev bs) _ e in
    let more = went_on (scan_from got.0.value k (drop got.0.len bs)) _ got.2 in
    record { first = got.0; rest = more.0; next = got.1; more = more.1; whole = sym (accepted_inj more.2) }

-- a number that reads, and a scan behind it
pub scan_cons : (prev k : ℕ) (bs : List ℕ) (r : Reading) (s : Scan) → next_number prev bs ≡ accepted r
    → scan_from r.value k (drop r.len bs) ≡ accepted s
    → scan_from prev (suc k) bs ≡ accepted (record { numbers = r.value ∷ s.numbers; taken = r.len + s.taken })
unfolding scan_from and_then
scan_cons prev k bs r s e f = rw (e, f)

-- a number that is refused behind k numbers that scan is the refusal of every longer scan
pub scan_stops : (prev k n : ℕ) (bs : List ℕ) (s : Scan) {number : ℕ} → k < n → scan_from prev k bs ≡ accepted s
    → next_number (last_from prev s.numbers) (drop s.taken bs) ≡ refused number → scan_from prev n bs ≡ refused number
unfolding scan_from last_from
scan_stops prev k zero bs s h e f = absurd (not-suc-le-zero h)
scan_stops prev zero (suc n) bs s h e f =
    let none : s ≡ record { numbers = []; taken = 0 } = sym (accepted_inj e) in
    then_no (next_number prev bs) _ (rw none at f)
scan_stops prev (suc k) (suc n) bs s {number} h e f =
    let w = scan_step prev k bs s e in
    let l = w.first.len in
    let split : drop (l + w.rest.taken) bs ≡ drop w.rest.taken (drop l bs) = sym (drop-drop w.rest.taken l bs) in
    let last = last_from w.first.value w.rest.numbers in
    let here : next_number last (drop (l + w.rest.taken) bs) ≡ refused number = rw w.whole at f in
    then_yes (next_number prev bs) _ w.next
    ∙ then_no (scan_from w.first.value n (drop l bs)) _
    (scan_stops w.first.value k n (drop l bs) w.rest (le_of_suc-le-suc h) w.more (rw split at here))

-- What is known of a scan: it has as many numbers as were asked for, they rise and stay below 2 ^ 63, and it takes bytes that are there.
pub record Scanned (prev k : ℕ) (bs : List ℕ) (s : Scan) : Type 0 where
  pub counted : length s.numbers ≡ k
  pub rising : Rising (2 ^ 63) prev s.numbers
  pub within : s.taken ≤ length bs
  pub at_least : stream_len_from prev s.numbers ≤ s.taken

pub scan_accepted : (prev k : ℕ) (bs : List ℕ) (s : Scan) → scan_from prev k bs ≡ accepted s → Scanned prev k bs s
unfolding scan_from Rising stream_len_from
scan_accepted prev zero bs s e = rw (sym (accepted_inj e))
    (record { counted = refl; rising = tt; within = omega arith; at_least = omega arith })
scan_accepted prev (suc k) bs s e = behind (scan_step prev k bs s e) (λ r t f. scan_accepted r.value k (drop r.len bs) t f)
  where
    behind : (w : Step prev k bs s)
        → ((r : Reading) (t : Scan) → scan_from r.value k (drop r.len bs) ≡ accepted t → Scanned r.value k (drop r.len bs) t)
        → Scanned prev (suc k) bs s
    behind w ih =
        let n = next_accepted prev bs w.first w.next in
        let t = ih w.first w.rest w.more in
        let inside : w.rest.taken ≤ length bs - w.first.len = simp length-drop at t.within in
        let least : uleb_len (w.first.value - prev) ≤ w.first.len =
        read_least bs (record { value = w.first.value - prev; len = w.first.len }) n.read in
        rw w.whole (record {
          counted = ap suc t.counted;
          rising = (n.above, n.below, t.rising);
          within = omega (arith, n.len_within);
          at_least = omega (arith, t.at_least);
        })

-- bytes after the stream don't matter
pub scan_same : (prev k : ℕ) (bs rest : List ℕ) (s : Scan) → scan_from prev k bs ≡ accepted s
    → scan_from prev k (take s.taken bs ++ rest) ≡ accepted s
unfolding scan_from
scan_same prev zero bs rest s e = e
scan_same prev (suc k) bs rest s e = behind (scan_step prev k bs s e) (λ r t more f. scan_same r.value k (drop r.len bs) more t f)
  where
    behind : (w : Step prev k bs s) → ((r : Reading) (t : Scan) (more : List ℕ) → scan_from r.value k (drop r.len bs) ≡ accepted t
        → scan_from r.value k (take t.taken (drop r.len bs) ++ more) ≡ accepted t)
        → scan_from prev (suc k) (take s.taken bs ++ rest) ≡ accepted s
    behind w ih =
        let l = w.first.len in
        let n = next_accepted prev bs w.first w.next in
        let tail = take w.rest.taken (drop l bs) ++ rest in
        let split : take s.taken bs ++ rest ≡ take l bs ++ tail = rw (w.whole, take-add l w.rest.taken bs, append_assoc) in
        let after : drop l (take l bs ++ tail) ≡ tail = drop_at (take l bs) tail l (length-take-le l bs n.len_within) in
        let ih-here : scan_from w.first.value k (drop l (take l bs ++ tail)) ≡ accepted w.rest =
        rw after (ih w.first w.rest rest w.more) in
        rw split (scan_cons prev k (take l bs ++ tail) w.first w.rest (next_same prev bs tail w.first w.next) ih-here
        ∙ ap accepted (sym w.whole))
