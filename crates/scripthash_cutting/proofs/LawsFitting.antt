-- The longest part that fits a room: what is known of its length. Assumes nothing.
use Prim.Native.Nat.{ℕ, zero, suc, ◌+◌, ◌-◌, ◌*◌, ◌^◌, ◌≤◌, ◌<◌, zero-le, suc-le-suc}
use mathlib.Core.List.{List, [], ◌∷◌}
use mathlib.Core.Logic.{⊎_elim}
use mathlib.Core.Path.{◌≡◌}
use native.Mathlib.Nat.{sub-zero}
use native.Mathlib.Omega.{arith}
use borrow.Author.Tests.{le-leb, lt-leb}
use lib.ListN.{length, get_or, take, drop}
use lib.Seq.{get_or-drop}
use Rattle.buffer.proofs.LawsOrder.{lt_or_ge}
use Rattle.compact.specs.Uleb128.{uleb_len}
use Rattle.compact.proofs.LawsLength.{len_at_most}
use Rattle.scripthash_stream.specs.Stream.{stream_len_from, stream_len}
use Rattle.scripthash_cutting.specs.Cutting.{fitting, first_part}

-- All numbers of a list are below 2 ^ 64.
abbrev pub Words : List ℕ → Type 0
Words ns = (i : ℕ) → get_or ns i 0 < 2 ^ 64

-- so are those from an index on
pub words_drop : (k : ℕ) (ns : List ℕ) → Words ns → Words (drop k ns)
words_drop k ns w i = rw get_or-drop (w (k + i))

-- and those before one
pub words_take : (k : ℕ) (ns : List ℕ) → Words ns → Words (take k ns)
words_take zero ns w i = omega arith
words_take (suc k) [] w i = omega arith
words_take (suc k) (n ∷ ns) w zero = w 0
words_take (suc k) (n ∷ ns) w (suc i) = words_take k ns (λ j. w (suc j)) i

-- a number that fits, and one that doesn't
pub fit_yes : (room prev n : ℕ) (ns : List ℕ) → uleb_len (n - prev) ≤ room
    → fitting room prev (n ∷ ns) ≡ suc (fitting (room - uleb_len (n - prev)) n ns)
unfolding fitting
fit_yes room prev n ns h = rw (le-leb (uleb_len (n - prev)) room h)

pub fit_no : (room prev n : ℕ) (ns : List ℕ) → room < uleb_len (n - prev) → fitting room prev (n ∷ ns) ≡ 0
unfolding fitting
fit_no room prev n ns h = rw (lt-leb (uleb_len (n - prev)) room h)

-- What is known of the count f of numbers behind prev that fit a room.
pub record Fitting (room prev : ℕ) (ns : List ℕ) (f : ℕ) : Type 0 where
  pub within : f ≤ length ns
  pub fits : stream_len_from prev (take f ns) ≤ room
  pub longest : (i : ℕ) → i ≤ length ns → stream_len_from prev (take i ns) ≤ room → i ≤ f
  -- where numbers are left over, the room is nearly full: there were at least so many, and those left over are a short stream
  pub many : Words ns → f < length ns → room < 10 * suc f
  pub rest : Words ns → f < length ns → stream_len (drop f ns) + room ≤ stream_len_from prev ns + 9

-- behind a number that fits, and at one that doesn't
fit_more : (room prev n : ℕ) (ns : List ℕ) {f : ℕ} → uleb_len (n - prev) ≤ room → Fitting (room - uleb_len (n - prev)) n ns f
    → Fitting room prev (n ∷ ns) (suc f)
unfolding stream_len_from
fit_more room prev n ns {f} p k = record {
  within = suc-le-suc k.within;
  fits = omega (arith, k.fits);
  longest = longer;
  many = λ w h. omega (arith, k.many (λ i. w (suc i)) (omega arith), len_at_most (n - prev) (omega (arith, w 0)));
  rest = λ w h. omega (arith, k.rest (λ i. w (suc i)) (omega arith));
}
  where
    longer : (i : ℕ) → i ≤ suc (length ns) → stream_len_from prev (take i (n ∷ ns)) ≤ room → i ≤ suc f
    longer zero h e = zero-le
    longer (suc i) h e = suc-le-suc (k.longest i (omega arith) (omega arith))

fit_none : (room prev n : ℕ) (ns : List ℕ) → room < uleb_len (n - prev) → Fitting room prev (n ∷ ns) 0
unfolding stream_len_from
fit_none room prev n ns q = record {
  within = zero-le;
  fits = zero-le;
  longest = longer;
  many = λ w h. omega (arith, len_at_most (n - prev) (omega (arith, w 0)));
  rest = λ w h. rw sub-zero (omega (arith, len_at_most n (w 0)));
}
  where
    longer : (i : ℕ) → i ≤ suc (length ns) → stream_len_from prev (take i (n ∷ ns)) ≤ room → i ≤ 0
    longer zero h e = zero-le
    longer (suc i) h e = absurd (omega arith)

-- all of that holds of the count
pub fit_known : (room prev : ℕ) (ns : List ℕ) → Fitting room prev ns (fitting room prev ns)
unfolding stream_len_from fitting
fit_known room prev [] =
    record {
      within = zero-le;
      fits = zero-le;
      longest = λ i h k. h;
      many = λ w h. absurd (omega arith);
      rest = λ w h. absurd (omega arith);
    }
fit_known room prev (n ∷ ns) =
    ⊎_elim (λ (q : room < uleb_len (n - prev)). rw (fit_no room prev n ns q) (fit_none room prev n ns q))
    (λ (p : uleb_len (n - prev) ≤ room). rw (fit_yes room prev n ns p)
    (fit_more room prev n ns p (fit_known (room - uleb_len (n - prev)) n ns)))
    (lt_or_ge room (uleb_len (n - prev)))

-- the first part takes a number
pub part_some : (room n : ℕ) (ns : List ℕ) → 0 < first_part room (n ∷ ns)
unfolding first_part
part_some room n ns = suc-le-suc zero-le

-- and where a number always fits, those that fit behind none
pub part_known : (room n : ℕ) (ns : List ℕ) → 10 ≤ room → Words (n ∷ ns) → Fitting room 0 (n ∷ ns) (first_part room (n ∷ ns))
unfolding first_part
part_known room n ns h w =
    let whole : uleb_len (n - 0) ≡ uleb_len n = rw sub-zero in
    let first : uleb_len (n - 0) ≤ room = omega (arith, len_at_most n (w 0)) in
    let same : fitting room 0 (n ∷ ns) ≡ suc (fitting (room - uleb_len n) n ns) = rw whole at (fit_yes room 0 n ns first) in
    rw same at (fit_known room 0 (n ∷ ns))
