-- The pages of a sound key, as the plain book of a start holds them: their parts are the key's list, each fits its room, and each reads as
-- it should. By induction on the walk. Assumes nothing.
use Prim.Native.Nat.{ℕ, zero, suc, ◌-◌, ◌^◌, ◌≤◌}
use mathlib.Core.Bool.{Bool, true, false, cond}
use mathlib.Core.List.{List, [], ◌∷◌, ◌++◌, append-nil}
use mathlib.Core.Logic.{⊎_elim}
use mathlib.Core.Option.{some}
use mathlib.Core.Path.{◌≡◌, refl, sym, ap, ap₂, subst, ◌∙◌}
use native.Mathlib.Omega.{arith}
use Rattle.error.specs.Refusal.{accepted}
use Rattle.error.proofs.LawsAnswer.{refused≢accepted}
use Rattle.buffer.specs.Bytes.{part}
use Rattle.scripthash_layout.specs.Sizes.{slab_bytes, page_class, page_size}
use Rattle.scripthash_stream.specs.Stream.{Rising, Scan, last_from}
use Rattle.scripthash_stream.proofs.LawsScan.{scan_accepted}
use Rattle.scripthash_stream.proofs.LawsStream.{rising_append}
use Rattle.scripthash_cutting.specs.Cutting.{page_room, last_page_room}
use Rattle.scripthash_fields.specs.Page.{link_of, count_of, names_extent, stream_of, stream_cap, is_last_link, link_offset}
use Rattle.scripthash_pages.proofs.LawsAppended.{count_least}
use Rattle.scripthash_free.specs.FreeList.{Block, is_block}
use Rattle.scripthash_pages.specs.Entries.{page_padded}
use Rattle.plain_book.specs.Key.{Kept, Page, last_page, kept_as}
use Rattle.plain_book.specs.Sound.{held, FitsPage, FitPages}
use Rattle.plain_book.specs.Owners.{page_no}
use Rattle.plain_book.proofs.LawsOwners.{some_inj, none_some}
use Rattle.book_space.specs.Space.{Space}
use Rattle.book_keys.specs.Keys.{link_scan, Chain, page_then, walk}
use Rattle.book_keys.specs.Keys.{page_at as page_bytes}
use Rattle.book_keys.proofs.LawsPages.{link_sound}
use Rattle.book_keys.proofs.LawsWalk.{Ends, GoesOn, walk_step}
use Rattle.book_history.specs.Agrees.{scan_of, PageReads, LastReads, NextReads, ChainReads}
use Rattle.book_history.specs.PlainOf.{kept_by, page_from, pages_from}
use Rattle.book.specs.Book.{seen}

-- A block stands below the mark, and its bytes are so.
abbrev pub BlockAs : Space → (List ℕ → Type 0) → Block → Type 0
BlockAs s P x = (is_block x.class x.off s.mark ≡ true) × P (part s.body x.off (slab_bytes x.class))

-- ---- one page

-- A page has room for at most 4,088 bytes, and one that names an extent for 4,072.
cap_most : (page : List ℕ) → stream_cap page ≤ page_room
cap_most page = go (names_extent page)
  where
    go : (t : Bool) → page_size - cond t 24 8 ≤ page_room
    go true = omega arith
    go false = omega arith

cap_last : (page : List ℕ) → names_extent page ≡ true → stream_cap page ≡ last_page_room
cap_last page e = rw e

module _ (s : Space) (prev off : ℕ) (c : Scan) (is : link_scan (seen s) prev off ≡ accepted c) where
  -- What a page of a sound chain keeps.
  part_is : (page_from s off).part ≡ kept_as c.numbers c.taken (page_padded (page_bytes (seen s) off))
  unfolding page_from kept_by
  part_is = rw (link_sound (seen s) prev off c is).scanned

  -- It reads so.
  page_reads : PageReads (page_from s off) (page_bytes (seen s) off)
  unfolding page_from
  page_reads =
      record {
        reads = (link_sound (seen s) prev off c is).scanned ∙ ap (λ (k : Kept). accepted (scan_of k)) (sym part_is);
        room = refl;
        padded = ap (λ (k : Kept). k.padded) (sym part_is);
      }

  -- It fits.
  page_fits : FitsPage (page_from s off)
  unfolding page_from
  page_fits =
      let k = link_sound (seen s) prev off c is in
      let fits = k.read.taken_fits in
      let each = (scan_accepted 0 (count_of (page_bytes (seen s) off)) (stream_of (page_bytes (seen s) off)) c k.read.scanned).at_least in
      let least = count_least 0 c.numbers in
      rw part_is (k.going.some, omega arith, cap_most (page_bytes (seen s) off), omega arith)

-- ---- a walk

-- What is known of the pages at the offsets of a walk that gave some numbers, behind a number: their parts are those numbers, which rise,
-- they fit, the last one is the key's, and each stands below the mark and reads as it should.
pub record PagesRead (s : Space) (first total last prev : ℕ) (numbers offs : List ℕ) : Type 0 where
  pub holds : held (pages_from s offs) ≡ numbers
  pub rises : Rising (2 ^ 62) prev numbers
  pub fit : FitPages (pages_from s offs)
  pub ends : (page : Page) → (last_page page (pages_from s offs)).off ≡ last
  pub each : (i : ℕ) (x : Block) → page_no i (pages_from s offs) ≡ some x → BlockAs s (ChainReads first total i (pages_from s offs)) x

-- A walk's offsets begin with the one that it begins at.
pub walk_offs : (k : ℕ) (s : Space) (last prev off : ℕ) (c : Chain) → walk k (seen s) last prev off ≡ accepted c
    → (os : List ℕ) × (c.offs ≡ off ∷ os)
unfolding walk page_then
walk_offs zero s last prev off c e = absurd (refused≢accepted e)
walk_offs (suc k) s last prev off c e =
    let w = walk_step k (seen s) last prev off c e in
    ⊎_elim (λ (d : Ends (seen s) last off w.page c). ([], ap (λ (x : Chain). x.offs) d.whole))
    (λ (g : GoesOn k (seen s) last prev off w.page c). (g.rest.offs, ap (λ (x : Chain). x.offs) g.whole)) w.goes

module _ (s : Space) (first total last : ℕ) (header : LastReads first total (page_bytes (seen s) last)) (prev off : ℕ) (c : Scan)
    (is : link_scan (seen s) prev off ≡ accepted c) where
  -- What is read in the first page of a walk is read in its block.
  first_block : (P : List ℕ → Type 0) → P (page_bytes (seen s) off) → (x : Block) → some (record { class = page_class; off = off }) ≡ some x
      → BlockAs s P x
  first_block P p x e = subst (BlockAs s P) (some_inj e) ((link_sound (seen s) prev off c is).stands, p)

  -- The key's last page.
  one_read : off ≡ last → PagesRead s first total last prev c.numbers (off ∷ [])
  unfolding page_from pages_from held FitPages last_page page_no ChainReads
  one_read e =
      record {
        holds = ap (λ (k : Kept). k.numbers ++ []) (part_is s prev off c is) ∙ append-nil c.numbers;
        rises = (link_sound (seen s) prev off c is).going.rising;
        fit = (page_fits s prev off c is, cap_last (page_bytes (seen s) off) (rw e header.extent));
        ends = λ page. e;
        each = each;
      }
    where
      each : (i : ℕ) (x : Block) → page_no i (page_from s off ∷ []) ≡ some x → BlockAs s (ChainReads first total i (page_from s off ∷ [])) x
      each zero x f =
          first_block (λ bytes. PageReads (page_from s off) bytes × LastReads first total bytes)
          (page_reads s prev off c is, subst (λ (o : ℕ). LastReads first total (page_bytes (seen s) o)) (sym e) header) x f
      each (suc i) x f = absurd (none_some f)

  -- A page before others.
  more_read : (ns : List ℕ) (next : ℕ) (os : List ℕ) → is_last_link (link_of (page_bytes (seen s) off)) ≡ false
      → link_offset (link_of (page_bytes (seen s) off)) ≡ next
      → PagesRead s first total last (last_from prev c.numbers) ns (next ∷ os)
      → PagesRead s first total last prev (c.numbers ++ ns) (off ∷ next ∷ os)
  unfolding page_from pages_from held FitPages last_page page_no ChainReads
  more_read ns next os more to rest =
      record {
        holds = ap₂ (λ (k : Kept) (ms : List ℕ). k.numbers ++ ms) (part_is s prev off c is) rest.holds;
        rises = rising_append (2 ^ 62) prev c.numbers ns (link_sound (seen s) prev off c is).going.rising rest.rises;
        fit = (page_fits s prev off c is, rest.fit);
        ends = λ page. rest.ends (page_from s off);
        each = each;
      }
    where
      each : (i : ℕ) (x : Block) → page_no i (pages_from s (off ∷ next ∷ os)) ≡ some x
          → BlockAs s (ChainReads first total i (pages_from s (off ∷ next ∷ os))) x
      each zero x f =
          first_block (λ bytes. PageReads (page_from s off) bytes × NextReads next bytes)
          (page_reads s prev off c is, record { more = more; next = to }) x f
      each (suc i) x f = rest.each i x f

-- All pages of a walk.
pub pages_read : (k : ℕ) (s : Space) (first total last : ℕ) → LastReads first total (page_bytes (seen s) last) → (prev off : ℕ) (c : Chain)
    → walk k (seen s) last prev off ≡ accepted c → PagesRead s first total last prev c.numbers c.offs
unfolding walk page_then
pages_read zero s first total last header prev off c e = absurd (refused≢accepted e)
pages_read (suc k) s first total last header prev off c e =
    let w = walk_step k (seen s) last prev off c e in
    ⊎_elim
    (λ (d : Ends (seen s) last off w.page c). rw d.whole (one_read s first total last header prev off w.page w.is d.there))
    (λ (g : GoesOn k (seen s) last prev off w.page c).
    let next = link_offset (link_of (page_bytes (seen s) off)) in
    let (os, offs) = walk_offs k s last (last_from prev w.page.numbers) next g.rest g.walks in
    let rest = pages_read k s first total last header (last_from prev w.page.numbers) next g.rest g.walks in
    rw (g.whole, offs)
    (more_read s first total last header prev off w.page w.is g.rest.numbers next os g.unflagged refl (rw offs at rest)))
    w.goes
