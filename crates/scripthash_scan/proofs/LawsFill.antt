-- Streams read straight into a list, and short ones in one pass: what the tries tell. Assumes nothing.
use Prim.Native.Nat.{ℕ, ◌-◌, ◌≤◌, ◌<◌}
use mathlib.Core.List.{List, ◌++◌, append-nil}
use mathlib.Core.Logic.{inl, inr}
use mathlib.Core.Path.{◌≡◌, refl, sym, ap, ◌∙◌, subst}
use native.Mathlib.Nat.{sub-zero, zero-add}
use native.Mathlib.Omega.{arith}
use lib.ListN.{length, take, drop}
use lib.Seq.{length-take-le, take_all, drop-length}
use Rattle.error.specs.Refusal.{Answer, accepted, answered}
use Rattle.error.proofs.LawsAnswer.{accepted_inj, was_accepted, answered_yes}
use Rattle.buffer.specs.Bytes.{overwrite}
use Rattle.scripthash_stream.specs.Stream.{last_from, Scan, scan, End, end_from, decode_stream, after_decode}
use Rattle.scripthash_stream.proofs.LawsScan.{scan_accepted}
use Rattle.scripthash_stream.proofs.LawsDecode.{decode_fits, after_accepted}
use Rattle.scripthash_forms.specs.Quick.{Quick, QuickEnd, QuickSum, ShortRead, unread, short}
use Rattle.scripthash_forms.proofs.LawsTries.{scan_at_start, scan_at_end, quick_right}

-- numbers that were summed up into a list: their scan
module _ (taken last n : ℕ) (bs space : List ℕ) (q : QuickSum taken last 0 0 n bs space) (h : 0 < taken) (room : n ≤ length space) where
  pub summed_scan : scan n bs ≡ accepted (record { numbers = take n space; taken = taken })
  summed_scan = sym (scan_at_start n bs) ∙ q.numbers room h

  summed_last : last_from 0 (take n space) ≡ last
  unfolding QuickEnd
  summed_last = ap (λ (e : End). e.last) (accepted_inj (sym (scan_at_end 0 0 n bs _ (q.numbers room h)) ∙ q.ends h))

  -- and copied from there
  pub short_summed : (top : ℕ) (out after : List ℕ) → last < top → n ≤ length out → after ≡ overwrite out 0 (take n space)
      → ShortRead taken top out after (scan n bs)
  short_summed top out after low fits e =
      short (record { numbers = take n space; taken = taken }) h summed_scan refl (omega (arith, length-take-le n space room))
      (omega (arith, summed_last)) e

-- a try with a limit is one at a reading of all
pub short_quick : (told top n : ℕ) (bs out after : List ℕ) → n ≤ length out → ShortRead told top out after (scan n bs)
    → Quick told out after (decode_stream (length out) n bs)
unfolding Quick
short_quick told top n bs out after fits (unread none same) = inl (none, same)
short_quick told top n bs out after fits (short s some is size room low wrote) =
    let read = decode_fits (length out) n bs is fits in
    inr (some, answered_yes (λ t. t.taken) _ read ∙ ap accepted size, wrote ∙ sym (after_accepted out _ read))

-- a stream whose last number was told first
pub short_told : (taken last told n top : ℕ) (bs out after : List ℕ) → QuickEnd taken last (answered (end_from 0) (scan n bs)) → 0 < taken
    → last < top
    → n ≤ length out → 0 < told → Quick told out after (decode_stream (length out) n bs) → ShortRead told top out after (scan n bs)
unfolding QuickEnd
short_told taken last told n top bs out after q h low fits some d =
    let was = was_accepted (end_from 0) (scan n bs) (q h) in
    let s = was.0 in
    let read = decode_fits (length out) n bs was.1 fits in
    let done = quick_right told out after _ d some in
    let size : s.taken ≡ told = sym (accepted_inj (done.0 ∙ answered_yes (λ t. t.taken) _ read)) in
    let is_last_lem : last_from 0 s.numbers ≡ last = ap (λ (e : End). e.last) was.2 in
    let count = (scan_accepted 0 n bs s was.1).counted in
    short s some was.1 size (omega arith) (omega arith) (done.1 ∙ after_accepted out _ read)

-- a list that holds what a reading of a stream that scans leaves
pub filled : (n : ℕ) (bs out after : List ℕ) (s : Scan) → scan n bs ≡ accepted s → n ≤ length out
    → after ≡ after_decode out (decode_stream (length out) n bs) → after ≡ overwrite out 0 s.numbers
filled n bs out after s e h w = w ∙ after_accepted out _ (decode_fits (length out) n bs e h)

-- a list with its first n numbers lent, and put back as others
put_front : (out part : List ℕ) (n : ℕ) → length part ≡ n → part ++ drop (n - 0) (drop 0 out) ≡ overwrite out 0 part
unfolding overwrite
put_front out part n h = rw (zero-add (length part), h, sub-zero n)

-- a list that has room for no more holds the numbers alone
whole_list : (out ys : List ℕ) → length ys ≡ length out → overwrite out 0 ys ≡ ys
unfolding overwrite
whole_list out ys h = rw (zero-add (length ys), h, drop-length out, append-nil)

pub filled_whole : (n : ℕ) (bs out after : List ℕ) (s : Scan) → scan n bs ≡ accepted s → length out ≡ n
    → after ≡ overwrite out 0 s.numbers → after ≡ s.numbers
filled_whole n bs out after s e h w = w ∙ whole_list out s.numbers ((scan_accepted 0 n bs s e).counted ∙ sym h)

-- where all of them were summed up, it does
pub filled_summed : (taken last n : ℕ) (bs out : List ℕ) (s : Scan) → scan n bs ≡ accepted s → QuickSum taken last 0 0 n bs out → 0 < taken
    → length out ≡ n → out ≡ s.numbers
filled_summed taken last n bs out s e q h size =
    let same : s ≡ record { numbers = take n out; taken = taken } =
    accepted_inj (sym e ∙ summed_scan taken last n bs out q h (omega arith)) in
    sym (take_all n out (omega arith)) ∙ ap (λ (x : Scan). x.numbers) (sym same)

-- the first n places of a list hold them, and the others what they held
pub filled_front : (n : ℕ) (bs out part : List ℕ) (s : Scan) → scan n bs ≡ accepted s → part ≡ s.numbers
    → part ++ drop (n - 0) (drop 0 out) ≡ overwrite out 0 s.numbers
filled_front n bs out part s e is =
    put_front out part n (ap length is ∙ (scan_accepted 0 n bs s e).counted) ∙ ap (overwrite out 0) is

-- a try that did nothing, and then another
pub short_again : (told top : ℕ) (out between after : List ℕ) (a : Answer Scan) → ShortRead 0 top out between a
    → ShortRead told top between after a → ShortRead told top out after a
short_again told top out between after a (unread none same) w =
    subst (λ (l : List ℕ). ShortRead told top l after a) same w
short_again told top out between after a (short s some is size room low wrote) w = absurd (omega (arith, some))
