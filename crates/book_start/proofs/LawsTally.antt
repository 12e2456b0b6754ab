-- The pages of keys, tallied by desk, a free list of pages, followed, and the judgement of counts, step by step. Assumes nothing.
use Prim.Native.Nat.{ℕ, suc, ◌+◌, ◌-◌, ◌*◌, ◌/◌, ◌^◌, ◌≤◌, ◌<◌}
use mathlib.Core.Bool.{Bool, true, false, cond, not}
use mathlib.Core.List.{List, [], ◌∷◌}
use mathlib.Core.Logic.{◌≢◌, ⊎_elim}
use mathlib.Core.Option.{none, some}
use mathlib.Core.Path.{◌≡◌, refl, sym, ap, subst, ◌∙◌}
use native.Mathlib.Omega.{arith}
use borrow.Author.Tests.{eq-eqb, ne_eqb, lt-ltb, le-ltb}
use lib.Dec.{ltb, eqb}
use lib.ListN.{length, get_or, set, replicate, length-set, get_or-replicate}
use lib.Seq.{get_or-set_same, get_or-set_other}
use Rattle.error.specs.Refusal.{Answer, accepted, refused}
use Rattle.error.proofs.LawsAnswer.{accepted_inj}
use Rattle.scripthash_layout.specs.Sizes.{page_size, page_class}
use Rattle.scripthash_layout.specs.declared.head.ShHeadValue.{ShHeadValue}
use Rattle.scripthash_layout.specs.declared.head.ShHeadValue.TheVariants.{Empty, Inline, Slab, Extent}
use Rattle.scripthash_free.specs.FreeList.{is_block, next_of, IsFreeList, Each}
use Rattle.book_desks.specs.Desks.{desks, desk_count, sum_to, total, lacks, desk_of}
use Rattle.book_desks.specs.Counts.{freed_count, held_count, held_in, limits_in}
use Rattle.book_desks.proofs.LawsSums.{same_or_not, sum_none, sum_step, sum_most}
use Rattle.book_desks.proofs.LawsCounts.{held_at_lem, reserve_at_lem, ceiling_at_lem}
use Rattle.book_keys.specs.Keys.{Ground, Chain, Content, soundly, chain_at, content_at, content}
use Rattle.book_keys.proofs.LawsContent.{content_empty, content_inline, was_slab, was_pages, was_content, content_pages, content_no_pages}
use Rattle.book_keys.proofs.LawsKeys.{chain_known}
use Rattle.book.specs.Book.{Book}
use Rattle.book_start.specs.Start.{Stands, blocks_at, followed, pages_in, pages_held, pages_for, pages_of_desk, freed_of, to_be_had_in}
use Rattle.book_start.specs.Start.{Verdict, good, key_unsound, key_shares, free_strays, free_shares, counts_exceed, freed_differs}
use Rattle.book_start.specs.Start.{held_differs, held_high, reserve_high, lacks_open, desk_fault, fault_or, judge_desks}
use Rattle.book_start.specs.Start.{counts_verdict, counts_behind}
use Rattle.book_start.specs.Steps.{SmallHeld}
use Rattle.book_start.specs.Answers.{ground_of, lost_of}

-- ---- the pages of a key

module _ (s : Ground) where
  -- A place without pages.
  pub pages_empty : 0 ≡ pages_in (soundly (content_at s Empty))
  unfolding soundly content_at
  pages_empty = refl

  pub pages_inline : (entry used : ℕ) → 0 ≡ pages_in (soundly (content_at s (Inline entry used)))
  unfolding soundly content_at
  pages_inline entry used = refl

  pub pages_slab : (class used off : ℕ) → 0 ≡ pages_in (soundly (content_at s (Slab class used off)))
  unfolding soundly
  pages_slab class used off = go (content_at s (Slab class used off)) refl
    where
      go : (a : Answer Content) → content_at s (Slab class used off) ≡ a → 0 ≡ pages_in (soundly a)
      go (accepted k) e = ap (λ (c : Content). c.pages) (was_slab s class used off k e).2
      go (refused number) e = refl

  -- A word that tells no place.
  pub pages_nowhere : (word : ℕ) {number : ℕ} → content s word ≡ refused number → 0 ≡ pages_in (content s word)
  pages_nowhere word e = rw e

  -- A chain.
  pub pages_chain : (last : ℕ) (c : Chain) → chain_at s last ≡ accepted c → length c.offs ≡ pages_in (soundly (content_at s (Extent last)))
  unfolding soundly
  pages_chain last c e = rw (content_pages s last c e)

  pub pages_unsound : (last number : ℕ) → chain_at s last ≡ refused number → 0 ≡ pages_in (soundly (content_at s (Extent last)))
  unfolding soundly
  pages_unsound last number e = rw (content_no_pages s last e)

  -- No key has more pages than lie below the mark.
  pub pages_few : (word : ℕ) → pages_in (content s word) ≤ s.mark / page_size
  pages_few word = go (content s word) refl
    where
      by_place : (v : ShHeadValue) (k : Content) → content_at s v ≡ accepted k → k.pages ≤ s.mark / page_size
      by_place Empty k e = let z : 0 ≡ k.pages = ap (λ (c : Content). c.pages) (accepted_inj (sym (content_empty s) ∙ e)) in omega arith
      by_place (Inline entry used) k e =
          let z : 0 ≡ k.pages = ap (λ (c : Content). c.pages) (accepted_inj (sym (content_inline s entry used) ∙ e)) in omega arith
      by_place (Slab class used off) k e =
          let z : 0 ≡ k.pages = ap (λ (c : Content). c.pages) (was_slab s class used off k e).2 in omega arith
      by_place (Extent last) k e =
          let w = was_pages s last k e in
          let n : length w.0.offs ≡ k.pages = ap (λ (c : Content). c.pages) w.2 in
          let f = (chain_known s last w.0 w.1).few in
          omega arith

      go : (a : Answer Content) → content s word ≡ a → pages_in a ≤ s.mark / page_size
      go (accepted k) e = let w = was_content s word k e in by_place w.0 k w.2
      go (refused number) e = omega arith

-- ---- a tally

-- A tally by desk of the keys below a number.
pub record TalliedTo (ds : List ℕ) (b : Book) (tally : List ℕ) (key : ℕ) : Type 0 where
  pub sixteen : length tally ≡ desks
  pub sums : (d : ℕ) → d < desks → desk_count d tally ≡ sum_to key (pages_for ds b d)

-- Of no keys.
pub tallied_none : (ds : List ℕ) (b : Book) → TalliedTo ds b (replicate desks 0) 0
tallied_none ds b = record { sixteen = refl; sums = λ d h. get_or-replicate desks d 0 0 h ∙ sum_none (pages_for ds b d) }

module _ (ds : List ℕ) (b : Book) (tally : List ℕ) (key : ℕ) (t : TalliedTo ds b tally key) where
  -- The pages of a key for its desk, and for another.
  own_pages : pages_for ds b (desk_of ds key) key ≡ pages_held b key
  own_pages = ap (λ (x : Bool). cond x (pages_held b key) 0) (eq-eqb (desk_of ds key) (desk_of ds key) refl)

  other_pages : (d : ℕ) → d ≢ desk_of ds key → pages_for ds b d key ≡ 0
  other_pages d n = ap (λ (x : Bool). cond x (pages_held b key) 0) (ne_eqb (desk_of ds key) d (λ (e : desk_of ds key ≡ d). n (sym e)))

  -- A sum over so many keys is small.
  pub tally_small : (most d : ℕ) → ((k : ℕ) → pages_held b k ≤ most) → d < desks → desk_count d tally ≤ key * most
  tally_small most d few h =
      let s = sum_most key most (pages_for ds b d) (λ i l. at_most (eqb (desk_of ds i) d) (pages_held b i) (few i)) in
      let e = t.sums d h in
      omega arith
    where
      at_most : (x : Bool) (n : ℕ) → n ≤ most → cond x n 0 ≤ most
      at_most true n l = l
      at_most false n l = omega arith

  -- One key more, with its pages counted for its desk.
  module _ (pages : ℕ) (within : desk_of ds key < desks) (is : pages ≡ pages_held b key) where
    abbrev desk : ℕ
    desk = desk_of ds key

    abbrev next : List ℕ
    next = set tally desk (desk_count desk tally + pages)

    own_sum : desk_count desk next ≡ sum_to (key + 1) (pages_for ds b desk)
    own_sum =
        get_or-set_same tally desk (desk_count desk tally + pages) 0 (let l = t.sixteen in omega arith)
        ∙ sum_step (pages_for ds b desk) key (desk_count desk tally) pages (t.sums desk within) (is ∙ sym own_pages)

    other_sum : (d : ℕ) → d < desks → d ≢ desk → desk_count d next ≡ sum_to (key + 1) (pages_for ds b d)
    other_sum d h n =
        let z : desk_count d tally + 0 ≡ sum_to (key + 1) (pages_for ds b d)
        = sum_step (pages_for ds b d) key (desk_count d tally) 0 (t.sums d h) (sym (other_pages d n)) in
        let e = get_or-set_other tally desk d (desk_count desk tally + pages) 0 n in
        omega arith

    pub tally_next : TalliedTo ds b next (key + 1)
    tally_next =
        record {
          sixteen = length-set tally desk (desk_count desk tally + pages) ∙ t.sixteen;
          sums = λ d h.
              ⊎_elim (λ (e : d ≡ desk). subst (λ (x : ℕ). desk_count x next ≡ sum_to (key + 1) (pages_for ds b x)) (sym e) own_sum)
              (λ (n : d ≢ desk). other_sum d h n) (same_or_not d desk);
        }

-- ---- a free list

-- What is left of a free list of pages that is followed from its head on, behind so many pages.
pub record Follows (body : List ℕ) (mark head off count : ℕ) : Type 0 where
  pub rest : List ℕ
  pub names : IsFreeList body off rest
  pub stand : Each (Stands mark) (blocks_at page_class rest)
  pub counted : count + length rest ≡ length (followed (mark / 16) body head)

-- A page that is named stands, and what it names is left.
pub follows_more : (body : List ℕ) (mark head off count : ℕ) → off ≢ 0 → Follows body mark head off count
    → (is_block page_class off mark ≡ true) × Follows body mark head (next_of body off) (count + 1)
unfolding IsFreeList blocks_at Each
follows_more body mark head off count more f = go f.rest f.names f.stand f.counted
  where
    go : (rest : List ℕ) → IsFreeList body off rest → Each (Stands mark) (blocks_at page_class rest)
        → count + length rest ≡ length (followed (mark / 16) body head)
        → (is_block page_class off mark ≡ true) × Follows body mark head (next_of body off) (count + 1)
    go [] n s e = absurd (more n)
    go (o ∷ os) n s e = (
      ap (λ (x : ℕ). is_block page_class x mark) n.0 ∙ s.0,
      record {
        rest = os;
        names = subst (λ (x : ℕ). IsFreeList body (next_of body x) os) (sym n.0) n.3;
        stand = s.1;
        counted = omega arith;
      },
    )

-- Where nothing is named, all pages are counted.
pub follows_end : (body : List ℕ) (mark head off count : ℕ) → off ≡ 0 → Follows body mark head off count
    → count ≡ length (followed (mark / 16) body head)
unfolding IsFreeList
follows_end body mark head off count z f = go f.rest f.names f.counted
  where
    go : (rest : List ℕ) → IsFreeList body off rest → count + length rest ≡ length (followed (mark / 16) body head)
        → count ≡ length (followed (mark / 16) body head)
    go [] n e = omega arith
    go (o ∷ os) n e = let p = n.1 in let q = n.0 in absurd (omega arith)

-- ---- desks

module _ (ds : List ℕ) (b : Book) (after : Verdict) where
  abbrev ceiling : ℕ → ℕ
  ceiling d = get_or b.counts (33 + d) 0

  abbrev reserve : ℕ → ℕ
  reserve d = get_or b.counts (17 + d) 0

  -- The verdict on the desks from one on.
  abbrev pub from : ℕ → Verdict
  from d = judge_desks ds b d (desks - d) after

  module _ (d : ℕ) (within : d < desks) where
    -- One of them is judged first.
    desks_step : from d ≡ fault_or (desk_fault ds b d) (from (d + 1))
    unfolding judge_desks
    desks_step =
        let k : desks - d ≡ suc (desks - (d + 1)) = omega arith in ap (λ (n : ℕ). judge_desks ds b d n after) k

    -- Its faults, in the words of the counts.
    fault_in : desk_fault ds b d
        ≡ cond (not (eqb (held_count d b.counts) (pages_of_desk ds b d))) (some (held_differs d))
        (cond (ltb (ceiling d) (held_count d b.counts)) (some (held_high d))
        (cond (ltb (ceiling d) (reserve d)) (some (reserve_high d)) none))
    unfolding desk_fault
    fault_in = rw (ceiling_at_lem b.counts d within, reserve_at_lem b.counts d within)

    -- Its count differs.
    pub desk_differs : held_count d b.counts ≢ pages_of_desk ds b d → from d ≡ held_differs d
    unfolding fault_or
    desk_differs n = desks_step ∙ rw (fault_in, ne_eqb (held_count d b.counts) (pages_of_desk ds b d) n)

    module _ (exact : held_count d b.counts ≡ pages_of_desk ds b d) where
      -- It holds more than its ceiling.
      pub desk_high : ceiling d < held_count d b.counts → from d ≡ held_high d
      unfolding fault_or
      desk_high h =
          desks_step
          ∙ rw (fault_in, eq-eqb (held_count d b.counts) (pages_of_desk ds b d) exact, lt-ltb (ceiling d) (held_count d b.counts) h)

      module _ (low : held_count d b.counts ≤ ceiling d) where
        -- Its reserve is above its ceiling.
        pub desk_reserve : ceiling d < reserve d → from d ≡ reserve_high d
        unfolding fault_or
        desk_reserve h =
            desks_step
            ∙ rw (
              fault_in,
              eq-eqb (held_count d b.counts) (pages_of_desk ds b d) exact,
              le-ltb (ceiling d) (held_count d b.counts) low,
              lt-ltb (ceiling d) (reserve d) h,
            )

        -- It is good: the others are judged.
        pub desk_good : reserve d ≤ ceiling d → from d ≡ from (d + 1)
        unfolding fault_or
        desk_good h =
            desks_step
            ∙ rw (
              fault_in,
              eq-eqb (held_count d b.counts) (pages_of_desk ds b d) exact,
              le-ltb (ceiling d) (held_count d b.counts) low,
              le-ltb (ceiling d) (reserve d) h,
            )

  -- Behind the last comes what comes after.
  pub desks_end : (d : ℕ) → d ≡ desks → from d ≡ after
  unfolding judge_desks
  desks_end d e = rw e

-- ---- counts

-- What the desks hold together, where each holds no more than the largest body has pages.
pub total_small : (counts : List ℕ) → SmallHeld counts → total (held_in counts) ≤ 16 * 2 ^ 29
total_small counts small =
    sum_most desks (2 ^ 29) (λ d. desk_count d (held_in counts)) (λ d h. let e = held_at_lem counts d h in let s = small d h in omega arith)

module _ (ds : List ℕ) (b : Book) (lost : ℕ) where
  abbrev told : ℕ
  told = 1 + (total (held_in b.counts) + to_be_had_in b)

  -- They tell of more pages than the body has.
  pub counts_exceed_lem : length b.space.body / page_size < told → counts_verdict ds b lost ≡ counts_exceed
  unfolding counts_verdict
  counts_exceed_lem h = rw (lt-ltb (length b.space.body / page_size) told h)

  module _ (fit : told ≤ length b.space.body / page_size) where
    -- The count of freed pages differs.
    pub counts_freed : freed_count b.counts ≢ length (freed_of b.space page_class) → counts_verdict ds b lost ≡ freed_differs
    unfolding counts_verdict
    counts_freed n =
        rw (le-ltb (length b.space.body / page_size) told fit, ne_eqb (freed_count b.counts) (length (freed_of b.space page_class)) n)

    -- The desks are judged.
    pub counts_desks : freed_count b.counts ≡ length (freed_of b.space page_class) → counts_verdict ds b lost
        ≡ judge_desks ds b 0 desks (cond (ltb (to_be_had_in b) (lacks (limits_in b.counts) (held_in b.counts))) lacks_open (good lost))
    unfolding counts_verdict
    counts_desks e =
        rw (le-ltb (length b.space.body / page_size) told fit, eq-eqb (freed_count b.counts) (length (freed_of b.space page_class)) e)

-- ---- behind the blocks

-- A verdict with a ground stays, and one without is good.
pub ground_stays : (ds : List ℕ) (b : Book) (v : Verdict) → ground_of v ≢ 0 → counts_behind ds b v ≡ v
unfolding counts_behind
ground_stays ds b (good lost) n = absurd (n refl)
ground_stays ds b (key_unsound key) n = refl
ground_stays ds b (key_shares key) n = refl
ground_stays ds b (free_strays class) n = refl
ground_stays ds b (free_shares class) n = refl
ground_stays ds b counts_exceed n = refl
ground_stays ds b freed_differs n = refl
ground_stays ds b (held_differs d) n = refl
ground_stays ds b (held_high d) n = refl
ground_stays ds b (reserve_high d) n = refl
ground_stays ds b lacks_open n = refl

pub groundless : (v : Verdict) → ground_of v ≡ 0 → v ≡ good (lost_of v)
groundless (good lost) e = refl
groundless (key_unsound key) e = absurd (omega arith)
groundless (key_shares key) e = absurd (omega arith)
groundless (free_strays class) e = absurd (omega arith)
groundless (free_shares class) e = absurd (omega arith)
groundless counts_exceed e = absurd (omega arith)
groundless freed_differs e = absurd (omega arith)
groundless (held_differs d) e = absurd (omega arith)
groundless (held_high d) e = absurd (omega arith)
groundless (reserve_high d) e = absurd (omega arith)
groundless lacks_open e = absurd (omega arith)
