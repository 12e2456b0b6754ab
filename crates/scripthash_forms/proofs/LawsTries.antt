-- Tries at scanning and at reading a stream: what they tell, and tries at its parts put together. Assumes nothing.
use Prim.Native.Nat.{ℕ, zero, suc, ◌+◌, ◌-◌, ◌≤◌, ◌<◌}
use mathlib.Core.List.{List, [], ◌∷◌, ◌++◌}
use mathlib.Core.Logic.{inl, inr, ⊎_elim}
use mathlib.Core.Path.{◌≡◌, refl, sym, ap, ◌∙◌}
use native.Mathlib.Nat.{zero-add, add-zero, add_assoc, not-suc-le-zero}
use native.Mathlib.Omega.{arith}
use lib.ListN.{length, take, drop}
use lib.Seq.{drop-drop, length-take-le}
use Rattle.error.specs.Refusal.{Answer, accepted, refused, answered}
use Rattle.error.proofs.LawsAnswer.{accepted_inj, was_accepted, answered_yes}
use Rattle.buffer.specs.Bytes.{overwrite}
use Rattle.buffer.proofs.LawsApart.{overwrite_apart}
use Rattle.buffer.proofs.LawsOverwrite.{overwrite_adjoin}
use Rattle.compact.specs.Uleb128.{Reading}
use Rattle.scripthash_stream.specs.Stream.{last_from, next_number, Scan, scan_from, scan, End, end_from, ends_from, decode_stream, after_decode}
use Rattle.scripthash_stream.proofs.LawsScan.{Step, scan_step, scan_cons}
use Rattle.scripthash_stream.proofs.LawsScanEnd.{ends_whole, ends_parts}
use Rattle.scripthash_stream.proofs.LawsDecode.{decode_fits, after_accepted}
use Rattle.scripthash_forms.specs.Quick.{Quick, QuickEnd, QuickSum, QuickPart, left, read, later, scan_at}

-- ---- a scan from a place on

-- no bytes later it ends where it does
no_later : (a : Answer Scan) → answered (later 0) a ≡ a
unfolding answered
no_later (accepted s) = rw (zero-add s.taken)
no_later (refused number) = refl

-- from the start it is the whole scan
pub scan_at_start : (n : ℕ) (bs : List ℕ) → scan_at 0 0 n bs ≡ scan n bs
unfolding scan_at
scan_at_start n bs = no_later (scan n bs)

-- no number
pub scan_at_none : (off prev : ℕ) (bs : List ℕ) → scan_at off prev 0 bs ≡ accepted (record { numbers = []; taken = off })
unfolding scan_at scan_from answered
scan_at_none off prev bs = rw (add-zero off)

-- a number, and a scan behind it
pub scan_at_next : (off prev k : ℕ) (bs : List ℕ) (r : Reading) (s : Scan) → next_number prev (drop off bs) ≡ accepted r
    → scan_at (off + r.len) r.value k bs ≡ accepted s → scan_at off prev (suc k) bs ≡ accepted
    (record { numbers = r.value ∷ s.numbers; taken = s.taken })
unfolding scan_at
scan_at_next off prev k bs r s e f =
    let was = was_accepted (later (off + r.len)) (scan_from r.value k (drop (off + r.len) bs)) f in
    let t = was.0 in
    let behind : scan_from r.value k (drop r.len (drop off bs)) ≡ accepted t = rw (drop-drop r.len off bs) was.1 in
    answered_yes (later off) _ (scan_cons prev k (drop off bs) r t e behind)
    ∙ ap (λ (u : Scan). accepted (record { numbers = r.value ∷ u.numbers; taken = u.taken }))
    (rw (add_assoc off r.len t.taken) at was.2)

-- where it ends
pub scan_at_end : (off prev k : ℕ) (bs : List ℕ) (s : Scan) → scan_at off prev k bs ≡ accepted s
    → ends_from off prev k (drop off bs) ≡ accepted (record { taken = s.taken; last = last_from prev s.numbers })
unfolding scan_at ends_from
scan_at_end off prev k bs s e =
    let was = was_accepted (later off) (scan_from prev k (drop off bs)) e in
    answered_yes _ _ was.1 ∙ ap (λ (u : Scan). accepted (record { taken = u.taken; last = last_from prev u.numbers })) was.2

-- the numbers of a part, and those behind it
scan_at_part : (off prev k m : ℕ) (bs : List ℕ) (s : Scan) (t : Scan) → scan_from prev k (drop off bs) ≡ accepted s
    → scan_at (off + s.taken) (last_from prev s.numbers) m bs ≡ accepted t
    → scan_at off prev (k + m) bs ≡ accepted (record { numbers = s.numbers ++ t.numbers; taken = t.taken })
unfolding scan_from last_from
scan_at_part off prev zero m bs s t e f =
    let none : record { numbers = []; taken = 0 } ≡ s = accepted_inj e in
    rw (← none) (rw (zero-add m) (rw (← none, add-zero off) at f))
scan_at_part off prev (suc k) m bs s t e f =
    behind (scan_step prev k (drop off bs) s e) (λ o r u g h. scan_at_part o r.value k m bs u t g h)
  where
    behind : (w : Step prev k (drop off bs) s)
        → ((o : ℕ) (r : Reading) (u : Scan) → scan_from r.value k (drop o bs) ≡ accepted u
        → scan_at (o + u.taken) (last_from r.value u.numbers) m bs ≡ accepted t
        → scan_at o r.value (k + m) bs ≡ accepted (record { numbers = u.numbers ++ t.numbers; taken = t.taken }))
        → scan_at off prev (suc k + m) bs ≡ accepted (record { numbers = s.numbers ++ t.numbers; taken = t.taken })
    behind w ih =
        let r = w.first in
        let u = w.rest in
        let count : suc k + m ≡ suc (k + m) = omega arith in
        let more : scan_from r.value k (drop (off + r.len) bs) ≡ accepted u = rw (← (drop-drop r.len off bs)) w.more in
        let rest : scan_at (off + r.len + u.taken) (last_from r.value u.numbers) m bs ≡ accepted t =
        rw (add_assoc off r.len u.taken) (rw w.whole at f) in
        rw (w.whole, count)
        (scan_at_next off prev (k + m) bs r (record { numbers = u.numbers ++ t.numbers; taken = t.taken }) w.next
        (ih (off + r.len) r u more rest))

pub scan_at_parts : (off prev k m : ℕ) (bs : List ℕ) (s : Scan) (t : Scan) → scan_at off prev k bs ≡ accepted s
    → scan_at s.taken (last_from prev s.numbers) m bs ≡ accepted t
    → scan_at off prev (k + m) bs ≡ accepted (record { numbers = s.numbers ++ t.numbers; taken = t.taken })
unfolding scan_at
scan_at_parts off prev k m bs s t e f =
    let was = was_accepted (later off) (scan_from prev k (drop off bs)) e in
    rw (← was.2) (scan_at_part off prev k m bs was.0 t was.1 (rw (← was.2) at f))

-- ---- a scan that was made quickly

-- no bytes tell nothing
pub quick_end_none : (a : Answer End) → QuickEnd 0 0 a
unfolding QuickEnd
quick_end_none a h = absurd (not-suc-le-zero h)

-- some bytes tell the scan's end
pub quick_end_some : (taken last : ℕ) (a : Answer End) → QuickEnd taken last a → 0 < taken
    → accepted (record { taken = taken; last = last }) ≡ a
unfolding QuickEnd
quick_end_some taken last a q h = sym (q h)

-- a quick scan of the first numbers, and one of those behind them
pub quick_end_parts : (n lead from prev taken last : ℕ) (buf : List ℕ) → lead ≤ n → 0 < from
    → QuickEnd from prev (ends_from 0 0 lead (drop 0 buf))
    → QuickEnd taken last (ends_from from prev (n - lead) (drop from buf)) → QuickEnd taken last (answered (end_from 0) (scan n buf))
unfolding QuickEnd
quick_end_parts n lead from prev taken last buf few some q r h =
    let was = was_accepted (end_from 0) (scan lead buf) (sym (ends_whole lead buf) ∙ q some) in
    let s = was.0 in
    let at : s.taken ≡ from = ap (λ (e : End). e.taken) was.2 in
    let before : last_from 0 s.numbers ≡ prev = ap (λ (e : End). e.last) was.2 in
    let all : lead + (n - lead) ≡ n = omega arith in
    let parts : ends_from 0 0 n buf ≡ ends_from from prev (n - lead) (drop from buf) =
    rw (all, zero-add, at, before) at (ends_parts 0 0 lead (n - lead) buf s was.1) in
    sym (ends_whole n buf) ∙ parts ∙ r h

-- ---- a try at reading

-- one that does nothing
pub quick_none : (out : List ℕ) (a : Answer Scan) → Quick 0 out out a
unfolding Quick
quick_none out a = inl (refl, refl)

-- one that reads the whole stream
pub quick_all : (n : ℕ) (bs out : List ℕ) (s : Scan) → scan n bs ≡ accepted s → n ≤ length out → 0 < s.taken
    → Quick s.taken out (overwrite out 0 s.numbers) (decode_stream (length out) n bs)
unfolding Quick
quick_all n bs out s e h p =
    let answer = decode_fits (length out) n bs e h in
    inr (p, answered_yes (λ t. t.taken) _ answer, sym (after_accepted out _ answer))

module _ (told : ℕ) (before after : List ℕ) (a : Answer Scan) (q : Quick told before after a) where
  -- one that told 0 left the list
  pub quick_left : told ≤ 0 → after ≡ before
  unfolding Quick
  quick_left h = ⊎_elim (λ w. w.1) (λ w. absurd (omega (arith, w.0))) q

  -- one that told more is the whole reading
  pub quick_right : 0 < told → (accepted told ≡ answered (λ s. s.taken) a) × (after ≡ after_decode before a)
  unfolding Quick
  quick_right h = ⊎_elim (λ w. absurd (omega (arith, w.0))) (λ w. (sym w.1, w.2)) q

-- ---- a part of a stream

-- one that does nothing
pub part_left : (out : List ℕ) (at : ℕ) (a : Answer Scan) → QuickPart 0 out out at a
part_left out at a = left refl refl

-- one that was summed up into a list, and copied from there
pub part_summed : (taken last from prev n : ℕ) (bs space out after : List ℕ) (at : ℕ) → QuickSum taken last from prev n bs space → 0 < taken
    → n ≤ length space → after ≡ overwrite out at (take n space) → QuickPart taken out after at (scan_at from prev n bs)
part_summed taken last from prev n bs space out after at q h l e = read (take n space) h (q.numbers l h) e

-- one whose first m numbers were summed up, and copied when those behind them were read
module _ (m mid last told from prev n at : ℕ) (bs space out out' after : List ℕ) (q : QuickSum mid last from prev m bs space) (h : 0 < mid)
    (room : m ≤ length space) (many : m ≤ n) (inside : at + n ≤ length out) (some : 0 < told)
    (copied : after ≡ overwrite out' at (take m space)) where
  first : scan_at from prev m bs ≡ accepted (record { numbers = take m space; taken = mid })
  first = q.numbers room h

  is_last_lem : last_from prev (take m space) ≡ last
  unfolding QuickEnd
  is_last_lem = ap (λ (e : End). e.last) (accepted_inj (sym (scan_at_end from prev m bs _ first) ∙ q.ends h))

  count : length (take m space) ≡ m
  count = length-take-le m space room

  joined : (ns : List ℕ) → scan_at mid last (n - m) bs ≡ accepted (record { numbers = ns; taken = told })
      → scan_at from prev n bs ≡ accepted (record { numbers = take m space ++ ns; taken = told })
  joined ns e =
      let all : m + (n - m) ≡ n = omega arith in
      rw all at (scan_at_parts from prev m (n - m) bs (record { numbers = take m space; taken = mid })
      (record { numbers = ns; taken = told }) first (rw is_last_lem e))

  both : (ns : List ℕ) → out' ≡ overwrite out (at + m) ns → after ≡ overwrite out at (take m space ++ ns)
  both ns e =
      let next : at + length (take m space) ≡ at + m = ap (λ (k : ℕ). at + k) count in
      copied ∙ ap (λ (l : List ℕ). overwrite l at (take m space)) e
      ∙ sym (overwrite_apart out at (take m space) (at + m) ns (omega (arith, count)) (omega arith))
      ∙ (rw next at (overwrite_adjoin out at (take m space) ns (omega arith)))

  pub part_more : QuickPart told out out' (at + m) (scan_at mid last (n - m) bs) → QuickPart told out after at (scan_at from prev n bs)
  part_more (left e f) = absurd (omega (arith, e))
  part_more (read ns p e f) = read (take m space ++ ns) some (joined ns e) (both ns f)

-- a part that told 0 left the list
pub part_none : (told : ℕ) (out after : List ℕ) (at at' : ℕ) (a a' : Answer Scan) → QuickPart told out after at a → told ≡ 0
    → QuickPart 0 out after at' a'
part_none told out after at at' a a' (left e f) h = left refl f
part_none told out after at at' a a' (read ns p e f) h = absurd (omega (arith, h))

-- one of a whole stream
pub part_whole : (told n : ℕ) (bs out after : List ℕ) → n ≤ length out → QuickPart told out after 0 (scan_at 0 0 n bs)
    → Quick told out after (decode_stream (length out) n bs)
unfolding Quick
part_whole told n bs out after h (left e f) = inl (e, f)
part_whole told n bs out after h (read ns p e f) =
    rw f (quick_all n bs out (record { numbers = ns; taken = told }) (sym (scan_at_start n bs) ∙ e) h p)
