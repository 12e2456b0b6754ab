-- Walking a chain: a step, the pages left to walk, and the numbers left to write. Assumes nothing.
use Prim.Native.Nat.{ℕ, zero, suc, ◌+◌, ◌-◌, ◌≤◌, ◌<◌}
use mathlib.Core.Bool.{Bool, true, false, cond, not}
use mathlib.Core.List.{[], ◌∷◌, ◌++◌}
use mathlib.Core.Logic.{◌⊎◌, inl, inr, ⊎_elim}
use mathlib.Core.Path.{◌≡◌, refl, sym, ap, ◌∙◌}
use native.Mathlib.Nat.{sub-zero}
use native.Mathlib.Omega.{arith}
use borrow.Author.Tests.{eq-eqb, ne_eqb, eqb-true, eqb-false, not-true}
use lib.Dec.{eqb}
use lib.ListN.{length, get_or, length-append}
use Rattle.error.specs.Refusal.{Answer, accepted, refused, and_then, answered, key_unsound}
use Rattle.error.proofs.LawsAnswer.{accepted_inj, refused≢accepted, then_yes, then_no, went_on}
use Rattle.scripthash_stream.specs.Stream.{Scan, last_from}
use Rattle.scripthash_fields.specs.Page.{link_of, is_last_link, link_offset}
use Rattle.scripthash_pages.specs.Entries.{page_padded}
use Rattle.book_keys.specs.Keys.{soundly, sure, page_at, link_scan, Chain, page_then, walk, Ground}
use Rattle.book_keys.specs.Steps.{Walked, walked_from, if_asked}
use Rattle.book_keys.proofs.LawsSound.{was_unsound, sure_yes, sure_no, was_sure, turned_back, let_through}
use Rattle.book_keys.proofs.LawsPages.{link_sound}

-- A chain of one page.
abbrev pub alone : Ground → ℕ → Scan → Chain
alone s off c = record { numbers = c.numbers; offs = off ∷ []; padded = page_padded (page_at s off) }

-- A walk that goes on behind a page that isn't the key's last.
abbrev behind : ℕ → Ground → ℕ → ℕ → ℕ → Scan → Answer Chain
behind k s last prev off page =
    sure (not (is_last_link (link_of (page_at s off))))
    (and_then (walk k s last (last_from prev page.numbers) (link_offset (link_of (page_at s off))))
    (λ rest. accepted (page_then s off page rest)))

-- ---- a step

module _ (k : ℕ) (s : Ground) (last prev off : ℕ) where
  -- a page that isn't sound ends the walk
  pub walk_refused : {number : ℕ} → link_scan s prev off ≡ refused number → walk (suc k) s last prev off ≡ refused number
  unfolding walk
  walk_refused e = then_no (link_scan s prev off) _ e

  module _ (c : Scan) (is : link_scan s prev off ≡ accepted c) where
    -- the key's last page ends it too
    pub walk_last : off ≡ last → walk (suc k) s last prev off ≡ accepted (alone s off c)
    unfolding walk
    walk_last e = then_yes (link_scan s prev off) _ is ∙ ap (λ (t : Bool). cond t (accepted (alone s off c)) (behind k s last prev off c))
        (eq-eqb off last e)

    -- another page with LAST
    pub walk_flagged : (off ≡ last → ⊥) → is_last_link (link_of (page_at s off)) ≡ true → walk (suc k) s last prev off ≡ refused key_unsound
    unfolding walk
    walk_flagged n e =
        then_yes (link_scan s prev off) _ is ∙ ap (λ (t : Bool). cond t (accepted (alone s off c)) (behind k s last prev off c))
        (ne_eqb off last n) ∙ sure_no (not (is_last_link (link_of (page_at s off)))) _ (ap not e)

    -- and else the walk goes on behind it
    pub walk_more : (off ≡ last → ⊥) → is_last_link (link_of (page_at s off)) ≡ false
        → walk (suc k) s last prev off ≡ and_then (walk k s last (last_from prev c.numbers) (link_offset (link_of (page_at s off))))
        (λ rest. accepted (page_then s off c rest))
    unfolding walk
    walk_more n e =
        then_yes (link_scan s prev off) _ is ∙ ap (λ (t : Bool). cond t (accepted (alone s off c)) (behind k s last prev off c))
        (ne_eqb off last n) ∙ sure_yes (not (is_last_link (link_of (page_at s off)))) _ (ap not e)

-- The walk ends with its first page.
pub record Ends (s : Ground) (last off : ℕ) (page : Scan) (c : Chain) : Type 0 where
  pub there : off ≡ last
  pub whole : c ≡ alone s off page

-- The walk goes on behind its first page.
pub record GoesOn (k : ℕ) (s : Ground) (last prev off : ℕ) (page : Scan) (c : Chain) : Type 0 where
  pub not_there : off ≡ last → ⊥
  pub unflagged : is_last_link (link_of (page_at s off)) ≡ false
  pub rest : Chain
  pub walks : walk k s last (last_from prev page.numbers) (link_offset (link_of (page_at s off))) ≡ accepted rest
  pub whole : c ≡ page_then s off page rest

-- What an accepted walk is made of: its first page, with which it ends, or behind which it goes on.
pub record Step (k : ℕ) (s : Ground) (last prev off : ℕ) (c : Chain) : Type 0 where
  pub page : Scan
  pub is : link_scan s prev off ≡ accepted page
  pub goes : Ends s last off page c ⊎ GoesOn k s last prev off page c

pub walk_step : (k : ℕ) (s : Ground) (last prev off : ℕ) (c : Chain) → walk (suc k) s last prev off ≡ accepted c → Step k s last prev off c
unfolding walk
walk_step k s last prev off c e =
    let got = went_on (link_scan s prev off) _ e in
    record { page = got.0; is = got.1; goes = by_end got.0 (eqb off last) refl got.2 }
  where
    by_end : (page : Scan) (t : Bool) → eqb off last ≡ t → cond t (accepted (alone s off page)) (behind k s last prev off page) ≡ accepted c
        → Ends s last off page c ⊎ GoesOn k s last prev off page c
    by_end page true t e = inl (record { there = eqb-true off last t; whole = sym (accepted_inj e) })
    by_end page false t e =
        let plain = was_sure (not (is_last_link (link_of (page_at s off)))) _ e in
        let more = went_on (walk k s last (last_from prev page.numbers) (link_offset (link_of (page_at s off)))) _ plain.1 in
        inr (record {
          not_there = eqb-false off last t;
          unflagged = not-true _ plain.0;
          rest = more.0;
          walks = more.1;
          whole = sym (accepted_inj more.2);
        })

-- a walk begins where it was told to
pub walk_first : (k : ℕ) (s : Ground) (last prev off : ℕ) (c : Chain) → walk k s last prev off ≡ accepted c → get_or c.offs 0 0 ≡ off
unfolding walk page_then
walk_first zero s last prev off c e = absurd (refused≢accepted e)
walk_first (suc k) s last prev off c e =
    let w = walk_step k s last prev off c e in
    ⊎_elim (λ (d : Ends s last off w.page c). ap (λ (x : Chain). get_or x.offs 0 0) d.whole)
    (λ (g : GoesOn k s last prev off w.page c). ap (λ (x : Chain). get_or x.offs 0 0) g.whole) w.goes

-- ---- the pages left to walk

-- So many numbers, pages and padded numbers were passed, and at most k pages are left to walk: what the whole walk tells.
unfoldable pub told : Bool → ℕ → ℕ → ℕ → ℕ → Ground → ℕ → ℕ → ℕ → Answer Walked
told counted count pages padded k s last prev off = answered (walked_from counted count pages padded) (soundly (walk k s last prev off))

-- a count of two parts is asked for as each part is
asked_both : (counted : Bool) (a b : ℕ) → if_asked counted (a + b) ≡ if_asked counted a + if_asked counted b
unfolding if_asked
asked_both true a b = refl
asked_both false a b = refl

-- a count that is asked for, and one that isn't
pub asked_yes : (counted : Bool) (n : ℕ) → counted ≡ true → if_asked counted n ≡ n
unfolding if_asked
asked_yes counted n e = rw e refl

pub asked_no : (counted : Bool) (n : ℕ) → counted ≡ false → if_asked counted n ≡ 0
unfolding if_asked
asked_no counted n e = rw e refl

-- a count that may not be asked for is no larger
pub asked_most : (counted : Bool) (n : ℕ) → if_asked counted n ≤ n
unfolding if_asked
asked_most true n = omega arith
asked_most false n = omega arith

-- what is told of a page and more behind it
told_linked : (counted : Bool) (s : Ground) (count pages padded off : ℕ) (page : Scan) (a : Answer Chain)
    → answered (walked_from counted count pages padded) (soundly (and_then a (λ rest. accepted (page_then s off page rest))))
    ≡ answered (walked_from counted (count + length page.numbers) (pages + 1) (padded + if_asked counted (page_padded (page_at s off))))
    (soundly a)
unfolding and_then soundly answered page_then
told_linked counted s count pages padded off page (accepted rest) =
    let numbers : count + length (page.numbers ++ rest.numbers) ≡ count + length page.numbers + length rest.numbers =
    rw length-append (omega arith) in
    let offs : pages + suc (length rest.offs) ≡ pages + 1 + length rest.offs = omega arith in
    let more : padded + if_asked counted (page_padded (page_at s off) + rest.padded)
    ≡ padded + if_asked counted (page_padded (page_at s off)) + if_asked counted rest.padded =
    rw (asked_both counted (page_padded (page_at s off)) rest.padded) (omega arith) in
    rw (numbers, offs, more)
told_linked counted s count pages padded off page (refused number) = refl

module _ (counted : Bool) (count pages padded most : ℕ) (s : Ground) (last prev off : ℕ) (h : pages < most) where
  left : most - pages ≡ suc (most - (pages + 1))
  left = omega arith

  -- the next page isn't sound
  pub told_refused : {number : ℕ} → soundly (link_scan s prev off) ≡ refused number
      → refused key_unsound ≡ told counted count pages padded (most - pages) s last prev off
  unfolding told
  told_refused e =
      rw left (turned_back (walked_from counted count pages padded) _
      (walk_refused (most - (pages + 1)) s last prev off (was_unsound _ e).1))

  module _ (c : Scan) (is : link_scan s prev off ≡ accepted c) where
    -- it is the last one
    pub told_last : off ≡ last
        → accepted (record {
          length = count + length c.numbers;
          pages = pages + 1;
          padded = padded + if_asked counted (page_padded (page_at s off));
        }) ≡ told counted count pages padded (most - pages) s last prev off
    unfolding told
    told_last e = rw left (let_through (walked_from counted count pages padded) _ (walk_last (most - (pages + 1)) s last prev off c is e))

    -- it has LAST, and isn't the last one
    pub told_flagged : (off ≡ last → ⊥) → is_last_link (link_of (page_at s off)) ≡ true
        → refused key_unsound ≡ told counted count pages padded (most - pages) s last prev off
    unfolding told
    told_flagged n e =
        rw left (turned_back (walked_from counted count pages padded) _ (walk_flagged (most - (pages + 1)) s last prev off c is n e))

    -- the walk goes on behind it
    pub told_more : (off ≡ last → ⊥) → is_last_link (link_of (page_at s off)) ≡ false
        → told counted (count + length c.numbers) (pages + 1) (padded + if_asked counted (page_padded (page_at s off)))
        (most - (pages + 1)) s last
        (last_from 0 c.numbers) (link_offset (link_of (page_at s off)))
        ≡ told counted count pages padded (most - pages) s last prev off
    unfolding told
    told_more n e =
        let k = most - (pages + 1) in
        let next = link_offset (link_of (page_at s off)) in
        let same = (link_sound s prev off c is).going.same_last in
        rw left
        (sym (ap (λ (a : Answer Chain). answered (walked_from counted count pages padded) (soundly a)) (walk_more k s last prev off c is n e)
        ∙ told_linked counted s count pages padded off c (walk k s last (last_from prev c.numbers) next)
        ∙ ap (λ (p : ℕ). answered (walked_from counted (count + length c.numbers) (pages + 1)
        (padded + if_asked counted (page_padded (page_at s off))))
        (soundly (walk k s last p next))) same))

-- no page is left
pub told_none : (counted : Bool) (count pages padded most : ℕ) (s : Ground) (last prev off : ℕ) → most ≤ pages
    → refused key_unsound ≡ told counted count pages padded (most - pages) s last prev off
unfolding told walk
told_none counted count pages padded most s last prev off h = let none : most - pages ≡ 0 = omega arith in
    rw none (turned_back (walked_from counted count pages padded) (walk 0 s last prev off) refl)

-- at first all are left
pub told_start : (counted : Bool) (most : ℕ) (s : Ground) (last off : ℕ)
    → told counted 0 0 0 (most - 0) s last 0 off ≡ answered (walked_from counted 0 0 0) (soundly (walk most s last 0 off))
unfolding told
told_start counted most s last off = rw (sub-zero most)
