-- For callers: what is known of a sound chain's pages and numbers. Assumes nothing.
use Prim.Native.Nat.{ℕ, zero, suc, ◌*◌, ◌/◌, ◌^◌, ◌≤◌, ◌<◌}
use mathlib.Core.Bool.{true, false}
use mathlib.Core.List.{List, [], ◌∷◌}
use mathlib.Core.Logic.{⊎_elim}
use mathlib.Core.Path.{◌≡◌, refl, sym, ap, subst}
use native.Mathlib.Omega.{arith}
use lib.ListN.{length, length-append}
use Rattle.error.specs.Refusal.{accepted}
use Rattle.error.proofs.LawsAnswer.{refused≢accepted}
use Rattle.scripthash_layout.specs.Sizes.{page_class, page_size}
use Rattle.scripthash_stream.specs.Stream.{Rising, Scan, last_from}
use Rattle.scripthash_stream.proofs.LawsStream.{rising_append}
use Rattle.scripthash_fields.specs.Page.{link_of, is_last_link, link_offset}
use Rattle.scripthash_free.specs.FreeList.{is_block}
use Rattle.book_keys.specs.Keys.{page_at, link_scan, Chain, page_then, walk, chain_at, Ground}
use Rattle.book_keys.proofs.LawsPages.{link_sound}
use Rattle.book_keys.proofs.LawsWalk.{alone, Ends, GoesOn, walk_step}
use Rattle.book_keys.proofs.LawsChain.{chain_sound}

-- ---- something of every number

-- Something holds of each number of a list.
unfoldable pub Every : (ℕ → Type 0) → List ℕ → Type 0
Every P [] = Unit
Every P (o ∷ os) = P o × Every P os

-- ---- by steps

-- What holds of the first page alone, and of a page and more behind it, holds of every walk.
module _ (P : ℕ → ℕ → Chain → Type 0) (s : Ground) (last : ℕ)
    (ends : (prev : ℕ) (page : Scan) → link_scan s prev last ≡ accepted page → P prev last (alone s last page))
    (goes : (prev off : ℕ) (page : Scan) (rest : Chain) → link_scan s prev off ≡ accepted page → (off ≡ last → ⊥)
    → is_last_link (link_of (page_at s off)) ≡ false
    → P (last_from prev page.numbers) (link_offset (link_of (page_at s off))) rest → P prev off (page_then s off page rest)) where
  pub by_steps : (k prev off : ℕ) (c : Chain) → walk k s last prev off ≡ accepted c → P prev off c
  unfolding walk
  by_steps zero prev off c e = absurd (refused≢accepted e)
  by_steps (suc k) prev off c e =
      let w = walk_step k s last prev off c e in
      ⊎_elim (λ (d : Ends s last off w.page c). here w.page w.is d)
      (λ (g : GoesOn k s last prev off w.page c).
      subst (λ (x : Chain). P prev off x) (sym g.whole)
      (goes prev off w.page g.rest w.is g.not_there g.unflagged
      (by_steps k (last_from prev w.page.numbers) (link_offset (link_of (page_at s off))) g.rest g.walks)))
      w.goes
    where
      here : (page : Scan) → link_scan s prev off ≡ accepted page → Ends s last off page c → P prev off c
      here page is d =
          subst (λ (x : Chain). P prev off x) (sym d.whole)
          (subst (λ (o : ℕ). P prev o (alone s o page)) (sym d.there)
          (ends prev page (subst (λ (o : ℕ). link_scan s prev o ≡ accepted page) d.there is)))

-- ---- a sound chain

module _ (s : Ground) (last : ℕ) where
  -- the numbers rise from above the number before, and stay below 2 ^ 62
  pub walk_rising : (k prev off : ℕ) (c : Chain) → walk k s last prev off ≡ accepted c → Rising (2 ^ 62) prev c.numbers
  unfolding page_then
  walk_rising =
      by_steps (λ prev off c. Rising (2 ^ 62) prev c.numbers) s last (λ prev page is. (link_sound s prev last page is).going.rising)
      (λ prev off page rest is n u ih. rising_append (2 ^ 62) prev page.numbers rest.numbers
      (link_sound s prev off page is).going.rising ih)

  -- each page stands below the mark
  pub walk_stands : (k prev off : ℕ) (c : Chain) → walk k s last prev off ≡ accepted c
      → Every (λ o. is_block page_class o s.mark ≡ true) c.offs
  unfolding Every page_then
  walk_stands =
      by_steps (λ prev off c. Every (λ o. is_block page_class o s.mark ≡ true) c.offs) s last
      (λ prev page is. ((link_sound s prev last page is).stands, tt))
      (λ prev off page rest is n u ih. ((link_sound s prev off page is).stands, ih))

  -- the last page is the key's
  pub walk_ends : (k prev off : ℕ) (c : Chain) → walk k s last prev off ≡ accepted c → (x : ℕ) → last_from x c.offs ≡ last
  unfolding page_then last_from
  walk_ends = by_steps (λ prev off c. (x : ℕ) → last_from x c.offs ≡ last) s last (λ prev page is x. refl)
      (λ prev off page rest is n u ih x. ih off)

  -- a page has no more numbers than bytes
  pub walk_counts : (k prev off : ℕ) (c : Chain) → walk k s last prev off ≡ accepted c → length c.numbers ≤ page_size * length c.offs
  unfolding page_then
  walk_counts =
      by_steps (λ prev off c. length c.numbers ≤ page_size * length c.offs) s last
      (λ prev page is. let k = (link_sound s prev last page is).read in omega (arith, k.counted, k.count_fits))
      (λ prev off page rest is n u ih. let k = (link_sound s prev off page is).read in
      omega (arith, length-append page.numbers rest.numbers, k.counted, k.count_fits))

  -- there is a page, and a number
  pub walk_some : (k prev off : ℕ) (c : Chain) → walk k s last prev off ≡ accepted c → (0 < length c.offs) × (0 < length c.numbers)
  unfolding page_then
  walk_some =
      by_steps (λ prev off c. (0 < length c.offs) × (0 < length c.numbers)) s last
      (λ prev page is. (omega arith, (link_sound s prev last page is).going.some))
      (λ prev off page rest is n u ih. (omega arith, omega (arith, length-append page.numbers rest.numbers, ih.1)))

-- there are no more pages than were to be walked
pub walk_few : (k : ℕ) (s : Ground) (last prev off : ℕ) (c : Chain) → walk k s last prev off ≡ accepted c → length c.offs ≤ k
unfolding walk page_then
walk_few zero s last prev off c e = absurd (refused≢accepted e)
walk_few (suc k) s last prev off c e =
    let w = walk_step k s last prev off c e in
    ⊎_elim (λ (d : Ends s last off w.page c). omega (arith, ap (λ (x : Chain). length x.offs) d.whole))
    (λ (g : GoesOn k s last prev off w.page c).
    omega (
      arith,
      ap (λ (x : Chain). length x.offs) g.whole,
      walk_few k s last (last_from prev w.page.numbers) (link_offset (link_of (page_at s off))) g.rest g.walks,
    ))
    w.goes

-- What is known of a sound chain's list and pages.
pub record ChainKnown (s : Ground) (last : ℕ) (c : Chain) : Type 0 where
  pub rising : Rising (2 ^ 62) 0 c.numbers
  pub stands : Every (λ o. is_block page_class o s.mark ≡ true) c.offs
  pub few : length c.offs ≤ s.mark / page_size
  pub counts : length c.numbers ≤ page_size * length c.offs
  pub some : (0 < length c.offs) × (0 < length c.numbers)
  pub ends : last_from 0 c.offs ≡ last

pub chain_known : (s : Ground) (last : ℕ) (c : Chain) → chain_at s last ≡ accepted c → ChainKnown s last c
chain_known s last c e =
    let k = chain_sound s last c e in
    let most = s.mark / page_size in
    let first = k.header.first in
    record {
      rising = walk_rising s last most 0 first c k.walks;
      stands = walk_stands s last most 0 first c k.walks;
      few = walk_few most s last 0 first c k.walks;
      counts = walk_counts s last most 0 first c k.walks;
      some = walk_some s last most 0 first c k.walks;
      ends = walk_ends s last most 0 first c k.walks 0;
    }
