-- A chain's pages: none is met twice, and a chain is the same in another space with the same bytes at its pages. By induction on the walk.
-- Assumes nothing.
use Prim.Native.Nat.{ℕ, zero, suc, ◌+◌, ◌^◌, ◌≤◌, ◌<◌}
use mathlib.Core.Bool.{false}
use mathlib.Core.List.{List, [], ◌∷◌, ◌++◌}
use mathlib.Core.Logic.{⊎_elim}
use mathlib.Core.Path.{◌≡◌, sym, ap, ◌∙◌}
use native.Mathlib.Nat.{le_refl}
use native.Mathlib.Omega.{arith}
use Rattle.error.specs.Refusal.{accepted}
use Rattle.error.proofs.LawsAnswer.{accepted_inj, refused≢accepted, then_yes}
use Rattle.scripthash_stream.specs.Stream.{Rising, Scan, last_from}
use Rattle.scripthash_fields.specs.Page.{link_of, is_last_link, link_offset}
use Rattle.scripthash_pages.specs.Entries.{page_scan, page_padded}
use Rattle.book_keys.specs.Keys.{page_at, link_scan, Chain, page_then, walk, Ground}
use Rattle.book_keys.proofs.LawsSound.{last_above, Going}
use Rattle.book_keys.proofs.LawsPages.{link_sound}
use Rattle.book_keys.proofs.LawsWalk.{Ends, GoesOn, walk_step, walk_last, walk_more}

-- ---- no page twice

-- the last of numbers that go on behind another is above it
pub going_above : (prev : ℕ) (ns : List ℕ) → Going prev ns → prev < last_from prev ns
unfolding Rising last_from
going_above prev [] g = absurd (omega (arith, g.some))
going_above prev (n ∷ ns) g = let r = g.rising in omega (arith, r.0, last_above (2 ^ 62) n ns r.2)

-- a page of a chain isn't met again behind its last number, nor behind a later one
pub page_once : (s : Ground) (prev off : ℕ) (c : Scan) → link_scan s prev off ≡ accepted c → (later o : ℕ) (d : Scan)
    → link_scan s later o ≡ accepted d
    → last_from prev c.numbers ≤ later → o ≡ off → ⊥
page_once s prev off c e later o d f h same =
    let k = link_sound s prev off c e in
    let l = link_sound s later o d f in
    let again : c ≡ d = accepted_inj (sym k.scanned ∙ ap (λ (p : ℕ). page_scan (page_at s p)) (sym same) ∙ l.scanned) in
    let ends : last_from later d.numbers ≡ last_from prev c.numbers
    = l.going.same_last ∙ ap (λ (x : Scan). last_from 0 x.numbers) (sym again) ∙ sym k.going.same_last in
    omega (arith, going_above later d.numbers l.going)

-- ---- the same pages elsewhere

-- Another space has the same mark, and the same bytes at each page that reads behind a number or a later one.
pub record SameBehind (s t : Ground) (prev : ℕ) : Type 0 where
  pub mark : t.mark ≡ s.mark
  pub pages : (later off : ℕ) (c : Scan) → prev ≤ later → link_scan s later off ≡ accepted c → page_at t off ≡ page_at s off

-- what is the same behind a number is so behind a later one
pub same_later : {s t : Ground} (prev later : ℕ) → prev ≤ later → SameBehind s t prev → SameBehind s t later
same_later prev later h b = record { mark = b.mark; pages = λ l off c k e. b.pages l off c (omega arith) e }

-- a page with the same bytes reads the same
pub link_same : (s t : Ground) (prev off : ℕ) → t.mark ≡ s.mark → page_at t off ≡ page_at s off → link_scan t prev off ≡ link_scan s prev off
unfolding link_scan
link_same s t prev off mark page = rw (mark, page)

-- A chain of one page, by the page's bytes.
abbrev alone_as : ℕ → Scan → List ℕ → Chain
alone_as off c page = record { numbers = c.numbers; offs = off ∷ []; padded = page_padded page }

-- the same page before the same others
then_same : (s t : Ground) (off : ℕ) (c : Scan) (rest : Chain) → page_at t off ≡ page_at s off → page_then t off c rest ≡ page_then s off c rest
unfolding page_then
then_same s t off c rest page =
    ap (λ (p : List ℕ). record { numbers = c.numbers ++ rest.numbers; offs = off ∷ rest.offs; padded = page_padded p + rest.padded })
    page

-- a chain that is walked in a space is walked in another one that has the same behind the number before it
pub walk_same : (k : ℕ) (s t : Ground) (last prev off : ℕ) (c : Chain) → SameBehind s t prev → walk k s last prev off ≡ accepted c
    → walk k t last prev off ≡ accepted c
unfolding walk
walk_same zero s t last prev off c b e = absurd (refused≢accepted e)
walk_same (suc k) s t last prev off c b e =
    let w = walk_step k s last prev off c e in
    let page = b.pages prev off w.page (le_refl prev) w.is in
    let is : link_scan t prev off ≡ accepted w.page = link_same s t prev off b.mark page ∙ w.is in
    let above = going_above prev w.page.numbers (link_sound s prev off w.page w.is).going in
    let next = last_from prev w.page.numbers in
    ⊎_elim
    (λ (d : Ends s last off w.page c).
    walk_last k t last prev off w.page is d.there ∙ ap accepted (ap (alone_as off w.page) page ∙ sym d.whole))
    (λ (g : GoesOn k s last prev off w.page c).
    let flag : is_last_link (link_of (page_at t off)) ≡ false = ap (λ (p : List ℕ). is_last_link (link_of p)) page ∙ g.unflagged in
    let rest : walk k t last next (link_offset (link_of (page_at t off))) ≡ accepted g.rest
    = ap (λ (p : List ℕ). walk k t last next (link_offset (link_of p))) page
    ∙ walk_same k s t last next (link_offset (link_of (page_at s off))) g.rest (same_later prev next (omega arith) b) g.walks in
    walk_more k t last prev off w.page is g.not_there flag
    ∙ then_yes (walk k t last next (link_offset (link_of (page_at t off)))) _ rest
    ∙ ap accepted (then_same s t off w.page g.rest page ∙ sym g.whole))
    w.goes
