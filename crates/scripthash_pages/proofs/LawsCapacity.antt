-- Number 19 (FORMAT, Refusals), a page stream past its capacity, is retired: no page has one. The stream handed to the reader is just
-- as long as the capacity, so that a number that would end beyond it is cut short (17) or overflows (18) first. Assumes nothing.
use Prim.Native.Nat.{ℕ, zero, suc, ◌+◌, ◌-◌, ◌^◌, ◌≤◌, ◌<◌}
use mathlib.Core.Bool.{Bool, true, false, cond, not, ◌&&◌, ◌||◌}
use mathlib.Core.List.{List, ◌++◌}
use mathlib.Core.Logic.{◌⊎◌, inl, inr, ⊎_elim}
use mathlib.Core.Path.{◌≡◌, refl, sym, ◌∙◌}
use native.Mathlib.Omega.{arith}
use borrow.Author.Tests.{le-ltb}
use lib.Dec.{leb, ltb, eqb}
use lib.ListN.{length, drop, length-drop}
use Rattle.error.specs.Refusal.{Answer, accepted, refused, refuse_if, and_then, page_length, count_above_capacity, version_bad, list_too_short}
use Rattle.error.specs.Refusal.{offered_first_zero, offered_bit63, offered_not_rising, uleb_cut_short, uleb_overflow}
use Rattle.error.specs.Refusal.{stored_first_zero, stored_difference_zero, stored_sum_overflow, stored_bit63}
use Rattle.error.proofs.LawsAnswer.{refused≢accepted, refuse_no, never_if, never_then}
use Rattle.compact.specs.Uleb128.{is_form, form_at, overflows, read_form, read_uleb}
use Rattle.compact.proofs.LawsRead.{read_cut}
use Rattle.scripthash_layout.specs.Sizes.{page_size}
use Rattle.scripthash_stream.specs.Stream.{Scan, scan, scan_from, last_from, next_number, stored_number}
use Rattle.scripthash_stream.proofs.LawsScan.{scan_accepted, next_refused, scan_stops}
use Rattle.scripthash_fields.specs.Page.{version_of, count_of, names_extent, stream_cap}
use Rattle.scripthash_pages.specs.Entries.{StreamAt, stream_place, page_scan, page_entries, last_of, append_spot}
use Rattle.scripthash_pages.proofs.LawsEntries.{place_accepted, scan_yes, scan_placed}

-- the stream handed to the reader is as long as the page's capacity
pub stream_handed : (page : List ℕ) (p : StreamAt) → stream_place page ≡ accepted p → length (drop p.off page) ≡ stream_cap page
stream_handed page p e =
    let placed = place_accepted page p e in
    omega (arith, length-drop p.off page, placed.long, placed.off_is)

-- on every page, of every version and count, the bytes taken are within the capacity after each number, whatever the number of those read
pub within_after : (page : List ℕ) (p : StreamAt) → stream_place page ≡ accepted p
    → (k : ℕ) (s : Scan) → scan k (drop p.off page) ≡ accepted s → s.taken ≤ stream_cap page
within_after page p e k s f = omega (arith, (scan_accepted 0 k (drop p.off page) s f).within, stream_handed page p e)

-- so the scan of the whole page takes at most the capacity
pub within_capacity : (page : List ℕ) (s : Scan) → page_scan page ≡ accepted s → s.taken ≤ stream_cap page
within_capacity page s e = let (p, place, scanned) = scan_placed page s e in within_after page p place p.count s scanned

-- a test behind a scan that never holds is idle
idle_test : (cap number : ℕ) (a : Answer Scan) → ((s : Scan) → a ≡ accepted s → s.taken ≤ cap)
    → and_then a (λ s. refuse_if (ltb cap s.taken) number (accepted s)) ≡ a
unfolding and_then
idle_test cap number (accepted s) h = refuse_no (ltb cap s.taken) _ _ (le-ltb cap s.taken (h s refl))
idle_test cap number (refused other) h = refl

-- so the scan of a page with a test for 19 behind it is, on every page, the scan without that test
pub retired_19 : (page : List ℕ)
    → and_then (stream_place page)
    (λ p. and_then (scan p.count (drop p.off page)) (λ s. refuse_if (ltb (page_size - p.off) s.taken) 19 (accepted s)))
    ≡ page_scan page
unfolding page_scan and_then
retired_19 page = go (stream_place page) refl
  where
    go : (a : Answer StreamAt) → stream_place page ≡ a
        → and_then a
        (λ p. and_then (scan p.count (drop p.off page)) (λ s. refuse_if (ltb (page_size - p.off) s.taken) 19 (accepted s)))
        ≡ and_then a (λ p. scan p.count (drop p.off page))
    go (accepted p) e =
        let placed = place_accepted page p e in
        idle_test (page_size - p.off) 19 (scan p.count (drop p.off page))
        (λ s f. omega (arith, within_after page p e p.count s f, placed.off_is))
    go (refused number) e = refl

-- a number that would end beyond the capacity, whatever bytes stood behind the page, is cut short or overflows: k numbers of the page scan,
-- and the form behind them is longer than what is left of the page
pub past_capacity : (page : List ℕ) (p : StreamAt) → stream_place page ≡ accepted p
    → (k : ℕ) (s : Scan) → k < p.count → scan k (drop p.off page) ≡ accepted s
    → (behind : List ℕ) → stream_cap page < s.taken + length (form_at (drop s.taken (drop p.off page) ++ behind))
    → (page_scan page ≡ refused uleb_cut_short) ⊎ (page_scan page ≡ refused uleb_overflow)
past_capacity page p e k s h f behind past =
    let bs = drop p.off page in
    let left = drop s.taken bs in
    let longer : length left < length (form_at (left ++ behind)) =
    omega (arith, length-drop s.taken bs, stream_handed page p e, (scan_accepted 0 k bs s f).within) in
    let stops : (number : ℕ) → read_uleb left ≡ refused number → page_scan page ≡ refused number =
    λ number q. scan_yes page p e ∙ scan_stops 0 k p.count bs s h f (next_refused (last_from 0 s.numbers) left q) in
    ⊎_elim (λ q. inl (stops uleb_cut_short q)) (λ q. inr (stops uleb_overflow q)) (read_cut left behind longer)

-- ---- no reading of a page answers 19

-- one form
form_never : (bs : List ℕ) → read_uleb bs ≡ refused 19 → ⊥
unfolding read_uleb read_form
form_never bs =
    never_if (overflows (form_at bs)) uleb_overflow _ (λ (e : 18 ≡ 19). omega arith)
    (never_if (not (is_form (form_at bs))) uleb_cut_short _ (λ (e : 17 ≡ 19). omega arith) (λ e. refused≢accepted (sym e)))

-- a difference of 0 gets 20 or 21
zero_never : (first : Bool) → cond first stored_first_zero stored_difference_zero ≡ 19 → ⊥
zero_never true e = omega arith
zero_never false e = omega arith

-- one number
next_never : (prev : ℕ) (bs : List ℕ) → next_number prev bs ≡ refused 19 → ⊥
unfolding next_number stored_number
next_never prev bs =
    never_then (read_uleb bs) _ (form_never bs)
    (λ d. never_if (eqb d.value 0) _ _ (zero_never (eqb prev 0))
    (never_if (leb (2 ^ 64) (prev + d.value)) stored_sum_overflow _ (λ (e : 22 ≡ 19). omega arith)
    (never_if (leb (2 ^ 63) (prev + d.value)) stored_bit63 _ (λ (e : 23 ≡ 19). omega arith) (λ e. refused≢accepted (sym e)))))

-- a count of numbers
scan_never : (prev k : ℕ) (bs : List ℕ) → scan_from prev k bs ≡ refused 19 → ⊥
unfolding scan_from
scan_never prev zero bs e = refused≢accepted (sym e)
scan_never prev (suc k) bs e =
    never_then (next_number prev bs) _ (next_never prev bs)
    (λ r. never_then (scan_from r.value k (drop r.len bs)) _ (scan_never r.value k (drop r.len bs))
    (λ s f. refused≢accepted (sym f))) e

-- the stream's place
place_never : (page : List ℕ) → stream_place page ≡ refused 19 → ⊥
unfolding stream_place
place_never page =
    never_if (not (eqb (length page) page_size)) page_length _ (λ (e : 4 ≡ 19). omega arith)
    (never_if (ltb (stream_cap page) (count_of page)) count_above_capacity _ (λ (e : 15 ≡ 19). omega arith)
    (never_if (not (eqb (version_of page) 1 || names_extent page || (eqb (version_of page) 0 && eqb (count_of page) 0))) version_bad _
    (λ (e : 16 ≡ 19). omega arith)
    (λ e. refused≢accepted (sym e))))

-- scanning a page
pub scan_never_19 : (page : List ℕ) → page_scan page ≡ refused 19 → ⊥
unfolding page_scan
scan_never_19 page = never_then (stream_place page) _ (place_never page) (λ p. scan_never 0 p.count (drop p.off page))

-- reading its numbers
pub entries_never_19 : (room : ℕ) (page : List ℕ) → page_entries room page ≡ refused 19 → ⊥
unfolding page_entries
entries_never_19 room page =
    never_then (page_scan page) _ (scan_never_19 page)
    (λ s. never_if (ltb room (length s.numbers)) list_too_short _ (λ (e : 34 ≡ 19). omega arith) (λ e. refused≢accepted (sym e)))

-- appending to it
pub append_never_19 : (page : List ℕ) (fk : ℕ) → append_spot page fk ≡ refused 19 → ⊥
unfolding append_spot
append_never_19 page fk =
    never_if (not (eqb (length page) page_size)) page_length _ (λ (e : 4 ≡ 19). omega arith)
    (never_if (eqb fk 0) offered_first_zero _ (λ (e : 12 ≡ 19). omega arith)
    (never_if (leb (2 ^ 63) fk) offered_bit63 _ (λ (e : 13 ≡ 19). omega arith)
    (never_then (page_scan page) _ (scan_never_19 page)
    (λ s. never_if (leb fk (last_of s)) offered_not_rising _ (λ (e : 32 ≡ 19). omega arith) (λ e. refused≢accepted (sym e))))))
