-- Writing a chain's numbers into a lent list, page by page: what is left to write makes the whole. Assumes nothing.
use Prim.Native.Nat.{ℕ, suc, ◌+◌, ◌-◌, ◌≤◌, ◌<◌}
use mathlib.Core.List.{List, ◌++◌}
use mathlib.Core.Logic.{⊎_elim}
use mathlib.Core.Path.{◌≡◌, refl, sym, ap, ◌∙◌, subst}
use native.Mathlib.Nat.{sub-zero, add-zero}
use native.Mathlib.Omega.{arith}
use borrow.Author.Tests.{le-ltb, ltb-false}
use lib.Dec.{ltb}
use lib.ListN.{length, length-append, length-take, length-drop}
use Rattle.error.specs.Refusal.{Answer, accepted, refused}
use Rattle.error.proofs.LawsAnswer.{refused≢accepted, accepted_inj, passed, refuse_no, then_yes, went_on}
use Rattle.buffer.specs.Bytes.{overwrite}
use Rattle.buffer.proofs.LawsBytes.{length_overwrite, overwrite_part}
use Rattle.buffer.proofs.LawsOverwrite.{overwrite_adjoin}
use Rattle.scripthash_stream.specs.Stream.{Scan, scan, last_from}
use Rattle.scripthash_stream.proofs.LawsLent.{lent, put_back, length_lent}
use Rattle.scripthash_fields.specs.Page.{next_off, count_of, link_of, stream_of, link_offset}
use Rattle.scripthash_pages.specs.Entries.{page_scan, page_entries}
use Rattle.book_keys.specs.Keys.{page_at, link_scan, Chain, page_then, walk, Ground}
use Rattle.book_keys.specs.Steps.{page_into, FillTold, fill_told, PageFilled}
use Rattle.book_keys.proofs.LawsPages.{PageRead, page_read, link_sound, into_on}
use Rattle.book_keys.proofs.LawsWalk.{Ends, GoesOn, walk_step}

-- ---- one page

-- what reading a page tells besides its numbers
pub read_told : (page : List ℕ) (c : Scan) (r : FillTold) → fill_told page c ≡ r
    → (length c.numbers ≡ r.count) × (next_off page ≡ r.next)
read_told page c r e = (ap (λ (x : FillTold). x.count) e, ap (λ (x : FillTold). x.next) e)

-- a page that was read fits the list, and its stream scans
entries_read : (room : ℕ) (page : List ℕ) (c : Scan) → page_entries room page ≡ accepted c → (PageRead page c) × (length c.numbers ≤ room)
unfolding page_entries
entries_read room page c e =
    let read = went_on (page_scan page) _ e in
    let fits = passed (ltb room (length read.0.numbers)) _ _ read.2 in
    let same : read.0 ≡ c = accepted_inj fits.1 in
    (page_read page c (read.1 ∙ ap accepted same), rw same at (ltb-false room (length read.0.numbers) fits.0))

-- filling a list from a page that has no room in it
pub page_short : (page out : List ℕ) {number : ℕ} → length out < count_of page
    → PageFilled (refused number) out out page (page_entries (length out) page)
page_short page out h =
    record {
      reads = λ c e. let k = entries_read (length out) page c e in absurd (omega (arith, h, k.0.counted, k.1));
      within = λ t e. absurd (refused≢accepted e);
    }

-- from one that has
pub page_filled : (page out after : List ℕ) (count next : ℕ) → count ≡ count_of page → next ≡ next_off page → count ≤ length out
    → ((c : Scan) → scan count (stream_of page) ≡ accepted c → count ≤ length out → after ≡ overwrite out 0 c.numbers)
    → PageFilled (accepted (record { count = count; next = next })) out after page (page_entries (length out) page)
page_filled page out after count next n m h f =
    record {
      reads = λ c e.
          let k = (entries_read (length out) page c e).0 in (
            ap accepted (rw (n, m, k.counted)),
            f c (ap (λ (i : ℕ). scan i (stream_of page)) n ∙ k.scanned) h,
          );
      within = λ t e. let is : count ≡ t.count = ap (λ (x : FillTold). x.count) (accepted_inj e) in omega arith;
    }

-- from one that can't stand
pub page_nowhere : (page out : List ℕ) (a : Answer Scan) {number m : ℕ} → a ≡ refused m → PageFilled (refused number) out out page a
page_nowhere page out a e =
    record { reads = λ c f. absurd (refused≢accepted (sym e ∙ f)); within = λ t f. absurd (refused≢accepted f) }

-- the same by other terms
pub filled_as : (told : Answer FillTold) (before after : List ℕ) {page page' : List ℕ} {a a' : Answer Scan} → page ≡ page' → a ≡ a'
    → PageFilled told before after page a → PageFilled told before after page' a'
filled_as told before after {page} {page'} {a} {a'} e f h =
    subst (λ (x : Answer Scan). PageFilled told before after page' x) f (subst (λ (p : List ℕ). PageFilled told before after p a) e h)

-- a sound page that fits the list is read
pub into_sound : (room : ℕ) (s : Ground) (prev off : ℕ) (c : Scan) → link_scan s prev off ≡ accepted c → length c.numbers ≤ room
    → page_into room s off ≡ accepted c
unfolding page_entries
into_sound room s prev off c e h =
    let k = link_sound s prev off c e in
    into_on room s off k.stands ∙ then_yes (page_scan (page_at s off)) _ k.scanned ∙ refuse_no (ltb room (length c.numbers)) _ _
    (le-ltb room (length c.numbers) h)

-- the list with a page's numbers written into its lent part
pub page_written : (out : List ℕ) (at : ℕ) (part : List ℕ) (c : Scan) → at + length c.numbers ≤ length out
    → part ≡ overwrite (lent out at) 0 c.numbers → put_back out at part ≡ overwrite out at c.numbers
page_written out at part c h e =
    ap (put_back out at) e
    ∙ overwrite_part out at (length out - at) 0 c.numbers (omega arith) (omega arith) ∙ ap (λ (p : ℕ). overwrite out p c.numbers)
    (add-zero at)

-- it is as long as before
pub length_put : (out : List ℕ) (at : ℕ) (part : List ℕ) → at ≤ length out → length part ≡ length (lent out at)
    → length (put_back out at part) ≡ length out
length_put out at part h e = simp (length-append, length-take, length-drop) (omega (arith, e, length_lent out at h))

-- a page's numbers, where they were told, fit what is left of the list
pub filled_room : (t : FillTold) (out part page : List ℕ) (at : ℕ) (a : Answer Scan) → at ≤ length out
    → PageFilled (accepted t) (lent out at) part page a → at + t.count ≤ length out
filled_room t out part page at a h f = omega (arith, f.within t refl, length_lent out at h)

-- ---- what is left

-- At most k pages are left to walk, from the one at an offset on, and their numbers, written from an index on, make the whole list.
pub record Filling (k : ℕ) (s : Ground) (last : ℕ) (before : List ℕ) (whole : Chain) (out : List ℕ) (at off : ℕ) : Type 0 where
  pub prev : ℕ
  pub rest : Chain
  pub walks : walk k s last prev off ≡ accepted rest
  pub fits : at + length rest.numbers ≤ length out
  pub writes : overwrite out at rest.numbers ≡ overwrite before 0 whole.numbers

-- the same by other terms
pub filling_as : (k : ℕ) (s : Ground) (last : ℕ) (before : List ℕ) (whole : Chain) {out out' : List ℕ} {at at' off off' : ℕ}
    → out ≡ out' → at ≡ at' → off ≡ off' → Filling k s last before whole out at off → Filling k s last before whole out' at' off'
filling_as k s last before whole {out} {out'} {at} {at'} {off} {off'} e f g h =
    subst (λ (o : ℕ). Filling k s last before whole out' at' o) g
    (subst (λ (a : ℕ). Filling k s last before whole out' a off) f (subst (λ (l : List ℕ). Filling k s last before whole l at off) e h))

-- at first all pages are left
pub fill_start : (most : ℕ) (s : Ground) (last : ℕ) (out : List ℕ) (whole : Chain) (first : ℕ) → walk most s last 0 first ≡ accepted whole
    → length whole.numbers ≤ length out → Filling (most - 0) s last out whole out 0 first
fill_start most s last out whole first e h =
    record { prev = 0; rest = whole; walks = rw (sub-zero most) e; fits = omega arith; writes = refl }

module _ (s : Ground) (last : ℕ) (before : List ℕ) (whole : Chain) (out : List ℕ) (at off : ℕ) where
  -- some page is left
  pub fill_some : Filling 0 s last before whole out at off → ⊥
  unfolding walk
  fill_some f = refused≢accepted f.walks

  module _ (k : ℕ) (f : Filling (suc k) s last before whole out at off) where
    -- What is known of the next page: it reads and fits, and the list with its numbers is the whole, or the rest makes it so.
    pub record Turn : Type 0 where
      pub page : Scan
      pub read : page_into (length out - at) s off ≡ accepted page
      pub ends : off ≡ last → overwrite out at page.numbers ≡ overwrite before 0 whole.numbers
      pub goes : (off ≡ last → ⊥)
          → Filling k s last before whole (overwrite out at page.numbers) (at + length page.numbers) (next_off (page_at s off))

    pub fill_turn : Turn
    unfolding page_then next_off
    fill_turn =
        let w = walk_step k s last f.prev off f.rest f.walks in
        ⊎_elim (by_end w.page w.is) (by_rest w.page w.is) w.goes
      where
        by_end : (p : Scan) → link_scan s f.prev off ≡ accepted p → Ends s last off p f.rest → Turn
        by_end p is d =
            let size : length f.rest.numbers ≡ length p.numbers = ap (λ (x : Chain). length x.numbers) d.whole in
            record {
              page = p;
              read = into_sound (length out - at) s f.prev off p is (omega (arith, f.fits));
              ends = λ e. ap (λ (x : Chain). overwrite out at x.numbers) (sym d.whole) ∙ f.writes;
              goes = λ n. absurd (n d.there);
            }

        by_rest : (p : Scan) → link_scan s f.prev off ≡ accepted p → GoesOn k s last f.prev off p f.rest → Turn
        by_rest p is g =
            let all : f.rest.numbers ≡ p.numbers ++ g.rest.numbers = ap (λ (x : Chain). x.numbers) g.whole in
            let size : length f.rest.numbers ≡ length p.numbers + length g.rest.numbers =
            ap length all ∙ length-append p.numbers g.rest.numbers in
            let fits = f.fits in
            let next : next_off (page_at s off) ≡ link_offset (link_of (page_at s off)) = rw g.unflagged in
            record {
              page = p;
              read = into_sound (length out - at) s f.prev off p is (omega arith);
              ends = λ e. absurd (g.not_there e);
              goes = λ n. record {
                prev = last_from f.prev p.numbers;
                rest = g.rest;
                walks = rw next g.walks;
                fits = rw (length_overwrite out at p.numbers (omega arith)) (omega arith);
                writes = overwrite_adjoin out at p.numbers g.rest.numbers (omega arith) ∙ ap (overwrite out at) (sym all)
                    ∙ f.writes;
              };
            }

    -- a turn whose page was tried
    module _ (part : List ℕ) (h : at ≤ length out) where
      turn : Turn
      turn = fill_turn

      tried : page_into (length (lent out at)) s off ≡ accepted turn.page
      tried = ap (λ (n : ℕ). page_into n s off) (length_lent out at h) ∙ turn.read

      -- it was read
      pub turn_read : {number : ℕ} → PageFilled (refused number) (lent out at) part (page_at s off) (page_into (length (lent out at)) s off) → ⊥
      turn_read r = refused≢accepted (r.reads turn.page tried).0

      module _ (t : FillTold) (r : PageFilled (accepted t) (lent out at) part (page_at s off) (page_into (length (lent out at)) s off)) where
        is : (length turn.page.numbers ≡ t.count) × (next_off (page_at s off) ≡ t.next)
        is = read_told (page_at s off) turn.page t (accepted_inj (sym (r.reads turn.page tried).0))

        wrote : put_back out at part ≡ overwrite out at turn.page.numbers
        wrote =
            let room = filled_room t out part (page_at s off) at _ h r in
            page_written out at part turn.page (omega (arith, is.0, room)) (r.reads turn.page tried).1

        -- and the list is whole behind the last one
        pub turn_ends : off ≡ last → put_back out at part ≡ overwrite before 0 whole.numbers
        turn_ends e = wrote ∙ turn.ends e

        -- and the rest makes it so behind another
        pub turn_goes : (off ≡ last → ⊥) → Filling k s last before whole (put_back out at part) (at + t.count) t.next
        turn_goes n = filling_as k s last before whole (sym wrote) (ap (λ (i : ℕ). at + i) is.0) is.1 (turn.goes n)
