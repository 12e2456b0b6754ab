-- Chains of pages in a good plain book: how many pages and numbers there can be, and how the numbers rise from page to page. Assumes
-- nothing.
use Prim.Native.Nat.{ℕ, zero, suc, ◌*◌, ◌/◌, ◌^◌, ◌≤◌, ◌<◌, zero-le}
use mathlib.Core.Bool.{Bool, true, false, cond}
use mathlib.Core.List.{List, [], ◌∷◌, ◌++◌, append-nil}
use mathlib.Core.Logic.{⊎_elim, ◌≢◌}
use mathlib.Core.Option.{none, some}
use mathlib.Core.Path.{◌≡◌, refl, sym, ap, ◌∙◌}
use native.Mathlib.Omega.{arith}
use lib.Dec.{eqb}
use lib.ListN.{length, get_or, length-append}
use borrow.Author.Tests.{eqb-true, eqb-false}
use Rattle.scripthash_layout.specs.Sizes.{page_class}
use Rattle.scripthash_free.proofs.LawsBlock.{block_stands}
use Rattle.scripthash_stream.specs.Stream.{Rising, last_from}
use Rattle.scripthash_stream.proofs.LawsStream.{last_append}
use Rattle.scripthash_cutting.proofs.LawsRising.{rising_left, rising_right}
use Rattle.book_limits.specs.Limits.{out_of_shape, most_body}
use Rattle.book_limits.proofs.LawsLimits.{in_shape}
use Rattle.plain_book.specs.Key.{Page, pages, last_page, no_page}
use Rattle.plain_book.specs.Book.{Book, key_of}
use Rattle.plain_book.specs.Sound.{held, FitsPage, FitPages, Fits, RisesFrom}
use Rattle.plain_book.specs.Owners.{page_of, page_no, page_in, has, places}
use Rattle.plain_book.specs.Good.{GoodPlain}
use Rattle.plain_book.proofs.LawsOwners.{depth_of}

-- ---- how many pages

-- Numbers below m, no two of them equal, are at most m.
pub few_below : (m n : ℕ) (f : ℕ → ℕ) → ((i : ℕ) → i < n → f i < m) → ((i j : ℕ) → i < n → j < n → f i ≡ f j → i ≡ j) → n ≤ m
few_below m zero f low one = zero-le
few_below zero (suc n) f low one = let z = low 0 (omega arith) in absurd (omega arith)
few_below (suc m) (suc n) f low one = let fewer = few_below m n g g_low g_one in omega arith
  where
    -- the one that is m, if any, gives its place to the last
    g : ℕ → ℕ
    g i = cond (eqb (f i) m) (f n) (f i)

    g_low : (i : ℕ) → i < n → g i < m
    g_low i l = go (eqb (f i) m) refl
      where
        go : (x : Bool) → eqb (f i) m ≡ x → cond x (f n) (f i) < m
        go true q =
            let is = eqb-true (f i) m q in
            let high = low n (omega arith) in
            let other : f n ≢ m = λ (z : f n ≡ m). let w = one i n (omega arith) (omega arith) (is ∙ sym z) in omega arith in
            omega arith
        go false q =
            let other : f i ≢ m = eqb-false (f i) m q in
            let high = low i (omega arith) in
            omega arith

    g_one : (i j : ℕ) → i < n → j < n → g i ≡ g j → i ≡ j
    g_one i j l k e = go (eqb (f i) m) refl (eqb (f j) m) refl e
      where
        go : (x : Bool) → eqb (f i) m ≡ x → (y : Bool) → eqb (f j) m ≡ y → cond x (f n) (f i) ≡ cond y (f n) (f j) → i ≡ j
        go true q true r e = one i j (omega arith) (omega arith) (eqb-true (f i) m q ∙ sym (eqb-true (f j) m r))
        go true q false r e = let w = one n j (omega arith) (omega arith) e in absurd (omega arith)
        go false q true r e = let w = one i n (omega arith) (omega arith) e in absurd (omega arith)
        go false q false r e = one i j (omega arith) (omega arith) e

-- The page at an index.
page_at_lem : (i : ℕ) (ps : List Page) → i < length ps → page_no i ps ≡ some (record { class = page_class; off = (get_or ps i no_page).off })
unfolding page_no
page_at_lem i [] l = absurd (omega arith)
page_at_lem zero (p ∷ ps) l = refl
page_at_lem (suc i) (p ∷ ps) l = page_at_lem i ps (omega arith)

-- A key of a good book has at most as many pages as lie below the mark.
pub pages_few : {b : Book} (key : ℕ) (ps : List Page) → GoodPlain b → (key_of key b).place ≡ pages ps → length ps ≤ b.space.mark / 4096
unfolding has
pages_few {b} key ps g is = few_below (b.space.mark / 4096) (length ps) (λ i. (get_or ps i no_page).off / 4096) low one
  where
    mine : (i : ℕ) → i < length ps
        → has b.space (places b) none (page_of key i) ≡ some (record { class = page_class; off = (get_or ps i no_page).off })
    mine i l = ap (page_in i) is ∙ page_at_lem i ps l

    low : (i : ℕ) → i < length ps → (get_or ps i no_page).off / 4096 < b.space.mark / 4096
    low i l =
        let s = block_stands _ _ _ (g.space.apart.stands (page_of key i) _ (mine i l)) in
        let e = s.ends in
        omega arith

    one : (i j : ℕ) → i < length ps → j < length ps → (get_or ps i no_page).off / 4096 ≡ (get_or ps j no_page).off / 4096 → i ≡ j
    one i j l k e = go (eqb i j) refl
      where
        go : (x : Bool) → eqb i j ≡ x → i ≡ j
        go true q = eqb-true i j q
        go false q =
            let s = block_stands _ _ _ (g.space.apart.stands (page_of key i) _ (mine i l)) in
            let s' = block_stands _ _ _ (g.space.apart.stands (page_of key j) _ (mine j k)) in
            let a = s.aligned in
            let a' = s'.aligned in
            absurd
            (⊎_elim (λ d. omega arith) (λ d. omega arith)
            (g.space.apart.apart (page_of key i) (page_of key j) _ _ (λ (z : page_of key i ≡ page_of key j). eqb-false i j q (ap depth_of z))
            (mine i l) (mine j k)))

-- The mark of a good book in shape is at most 2^41.
pub mark_most : {b : Book} → GoodPlain b → out_of_shape b.size (length b.keys) ≡ false → b.space.mark ≤ most_body
mark_most {b} g shape = omega (arith, g.within shape, (in_shape b.size (length b.keys) shape).most)

-- ---- how many numbers

-- A page has at most 4,088 numbers.
pub page_count : (p : Page) → FitsPage p → length p.part.numbers ≤ 4088
page_count p (some', fits, room, each) = omega arith

-- So have pages together, each.
pub held_count_lem : (ps : List Page) → FitPages ps → length (held ps) ≤ 4088 * length ps
unfolding FitPages held
held_count_lem [] f = absurd f
held_count_lem (p ∷ []) (f, r) = simp (length-append) (omega (arith, page_count p f))
held_count_lem (p ∷ q ∷ ps) (f, fs) = rw (length-append p.part.numbers (held (q ∷ ps)))
    (omega (arith, page_count p f, held_count_lem (q ∷ ps) fs))

-- A list in pages has at most 4,088 numbers a page.
pub pages_count : {b : Book} (key : ℕ) (ps : List Page) → GoodPlain b → (key_of key b).place ≡ pages ps
    → length (key_of key b).list ≤ 4088 * length ps
unfolding Fits
pages_count {b} key ps g is =
    let (same, fit) = rw is at (g.keys key).fits in
    rw (← same) (held_count_lem ps fit)

-- ---- how the numbers rise

-- The last of some numbers doesn't depend on the one before them.
pub last_any : (m n : ℕ) (ns : List ℕ) → 0 < length ns → last_from m ns ≡ last_from n ns
unfolding last_from
last_any m n [] l = absurd (omega arith)
last_any m n (x ∷ ns) l = refl

-- The last number of all pages is the last of the last page's part.
pub held_last : (prev : ℕ) (page : Page) (ps : List Page) → FitPages ps
    → last_from prev (held ps) ≡ last_from 0 (last_page page ps).part.numbers
unfolding FitPages held last_page
held_last prev page [] f = absurd f
held_last prev page (p ∷ []) (f, r) = ap (last_from prev) (append-nil p.part.numbers) ∙ last_any prev 0 p.part.numbers f.0
held_last prev page (p ∷ q ∷ ps) (f, fs) =
    last_append prev p.part.numbers (held (q ∷ ps)) ∙ held_last (last_from prev p.part.numbers) p (q ∷ ps) fs

-- Numbers behind others rise from the last of those.
rising_behind : (top prev : ℕ) (ms ns : List ℕ) → Rising top prev (ms ++ ns) → Rising top (last_from prev ms) ns
unfolding Rising last_from
rising_behind top prev [] ns r = r
rising_behind top prev (m ∷ ms) ns (a, b, r) = rising_behind top m ms ns r

-- Pages whose numbers rise, rise from page to page.
pub held_rises : (prev : ℕ) (ps : List Page) → FitPages ps → Rising (2 ^ 62) prev (held ps) → RisesFrom prev ps
unfolding FitPages held RisesFrom
held_rises prev [] f r = tt
held_rises prev (p ∷ []) (f, last) r = (f.0, rising_left (2 ^ 62) prev p.part.numbers [] r, tt)
held_rises prev (p ∷ q ∷ ps) (f, fs) r =
    let behind = rising_behind (2 ^ 62) prev p.part.numbers (held (q ∷ ps)) r in (
      f.0,
      rising_left (2 ^ 62) prev p.part.numbers (held (q ∷ ps)) r,
      held_rises (last_from 0 p.part.numbers) (q ∷ ps) fs
          (rw (last_any prev 0 p.part.numbers f.0) at behind),
    )

-- A page's own part rises from 0, below 2^62.
pub part_rises : (prev : ℕ) (ns : List ℕ) → Rising (2 ^ 62) prev ns → Rising (2 ^ 62) 0 ns
part_rises prev ns r = rising_right (2 ^ 62) prev [] ns r

-- ---- of a key

-- What is known of the pages of a key: they hold its list, fit, and rise from page to page, and the last number is the last page's last.
pub record Chain (list : List ℕ) (ps : List Page) : Type 0 where
  pub holds : held ps ≡ list
  pub fit : FitPages ps
  pub rises : RisesFrom 0 ps
  pub last : last_from 0 list ≡ last_from 0 (last_page no_page ps).part.numbers

-- It is known of each key in pages of a good book.
pub chain : {b : Book} (key : ℕ) (ps : List Page) → GoodPlain b → (key_of key b).place ≡ pages ps → Chain (key_of key b).list ps
unfolding Fits
chain {b} key ps g is =
    let (same, fit) = rw is at (g.keys key).fits in
    record {
      holds = same;
      fit = fit;
      rises = held_rises 0 ps fit (rw (← same) at (g.keys key).rises);
      last = ap (last_from 0) (sym same) ∙ held_last 0 no_page ps fit;
    }
