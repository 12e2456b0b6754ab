-- Desks of a book over bytes and of a plain book that tells the same of them: the counts of the one are good just where the desks of the
-- other are. Assumes nothing.
use Prim.Native.Nat.{ℕ, ◌/◌, ◌%◌, ◌≤◌, ◌<◌}
use mathlib.Core.Bool.{Bool, true, false, cond}
use mathlib.Core.Path.{◌≡◌, refl, sym, ap, ap₂, subst, ◌∙◌}
use native.Mathlib.Omega.{arith}
use lib.Dec.{eqb}
use lib.ListN.{length}
use Rattle.scripthash_layout.specs.Sizes.{page_class, page_size}
use Rattle.book_desks.specs.Desks.{desks, Limits, desk_of, desk_count, sum_to, total, lacks, list_bad}
use Rattle.book_desks.specs.Counts.{freed_count, held_count, held_in, limits_in}
use Rattle.book_desks.proofs.LawsSums.{sum_same, term_least}
use Rattle.book_desks.proofs.LawsCounts.{length_held, held_at_lem, reserve_at_lem, counts_low, none_high}
use Rattle.plain_book.specs.Key.{pages_of}
use Rattle.plain_book.specs.Book.{Book as PlainBook, key_of, freed_in}
use Rattle.plain_book.specs.Good.{pages_for as plain_for, pages_of_desk as plain_of_desk, to_be_had_in as plain_had_in, GoodDesks}
use Rattle.book.specs.Book.{Book}
use Rattle.book_start.specs.Start.{freed_of, pages_held, pages_for, pages_of_desk, to_be_had_in, GoodCounts}
use Rattle.book_history.specs.Agrees.{AgreesCounts}

-- A book over bytes tells the same as a plain book of all that desks are judged by.
pub record SameDesks (plain : PlainBook) (b : Book) : Type 0 where
  -- Lengths and marks are the same.
  pub size : length b.space.body ≡ plain.size
  pub count : length b.heads ≡ length plain.keys
  pub mark : b.space.mark ≡ plain.space.mark
  -- The free list of pages names as many as are freed.
  pub freed : length (freed_of b.space page_class) ≡ freed_in plain.space
  -- Each key holds as many pages as its place has.
  pub pages : (key : ℕ) → key < length b.heads → pages_held b key ≡ pages_of (key_of key plain).place
  -- The counts are the plain book's.
  pub counts : AgreesCounts plain b.counts

-- No pages are none, of whichever desk.
pub none_for : (own : Bool) (n : ℕ) → n ≡ 0 → cond own n 0 ≡ 0
none_for true n e = e
none_for false n e = refl

module _ (plain : PlainBook) (b : Book) (s : SameDesks plain b) where
  -- As many pages are to be had.
  had_same : to_be_had_in b ≡ plain_had_in plain
  had_same = rw (s.size, s.mark, s.counts.freed)

  -- The keys of a desk have as many pages.
  desk_same : (d : ℕ) → pages_of_desk plain.desks b d ≡ plain_of_desk plain d
  desk_same d =
      sum_same (length b.heads) (pages_for plain.desks b d) (plain_for plain d)
      (λ key h. ap (λ (n : ℕ). cond (eqb (desk_of plain.desks key) d) n 0) (s.pages key h))
      ∙ ap (λ (n : ℕ). sum_to n (plain_for plain d)) s.count

  -- A desk's count.
  held_same : (d : ℕ) → d < desks → held_count d b.counts ≡ desk_count d plain.held
  held_same d h = sym (held_at_lem b.counts d h) ∙ ap (desk_count d) s.counts.held

  -- Its ceiling and its reserve.
  ceiling_same : (d : ℕ) → desk_count d (limits_in b.counts).ceiling ≡ desk_count d plain.limits.ceiling
  ceiling_same d = ap (λ (l : Limits). desk_count d l.ceiling) s.counts.limits

  reserve_same : (d : ℕ) → desk_count d (limits_in b.counts).reserve ≡ desk_count d plain.limits.reserve
  reserve_same d = ap (λ (l : Limits). desk_count d l.reserve) s.counts.limits

  -- What the desks lack and hold.
  lacks_same : lacks (limits_in b.counts) (held_in b.counts) ≡ lacks plain.limits plain.held
  lacks_same = ap₂ lacks s.counts.limits s.counts.held

  total_same : total (held_in b.counts) ≡ total plain.held
  total_same = ap total s.counts.held

  -- The body's pages.
  size_same : length b.space.body / page_size ≡ plain.size / page_size
  size_same = ap (λ (n : ℕ). n / page_size) s.size

  -- Where the counts are good, the plain book's desks are.
  pub counts_desks : plain.size % page_size ≡ 0 → GoodCounts plain.desks b → GoodDesks plain
  counts_desks paged g =
      record {
        paged = paged;
        named = subst (λ (n : ℕ). list_bad plain.desks n ≡ false) s.count g.named;
        sixteen = ap length (sym s.counts.held) ∙ length_held b.counts;
        exact = λ d h. sym (held_same d h) ∙ g.exact d h ∙ desk_same d;
        ceilings = λ d h. let e = held_same d h in let f = ceiling_same d in let l = g.ceilings d h in omega arith;
        reserves = λ d h. let e = reserve_same d in let f = ceiling_same d in let l = g.reserves d h in omega arith;
        low = λ d h.
            let e = reserve_same d in
            let f = reserve_at_lem b.counts d h in
            let l = (counts_low (length b.space.body) b.counts g.low).reserve d h in
            let z = size_same in
            omega arith;
        covered = (let e = lacks_same in let f = had_same in let l = g.covered in omega arith);
        balanced = (let e = total_same in let f = had_same in let z = size_same in let l = g.balanced in omega arith);
      }

  -- Where the plain book's desks are good, the counts are.
  pub desks_counts : GoodDesks plain → GoodCounts plain.desks b
  desks_counts g =
      record {
        words = s.counts.words;
        low = none_high (length b.space.body) b.counts few
            (λ d h. let e = held_at_lem b.counts d h in let f = held_same d h in let l = held_few d h in omega arith)
            (λ d h. let e = reserve_same d in let z = size_same in let l = g.low d h in omega arith);
        named = subst (λ (n : ℕ). list_bad plain.desks n ≡ false) (sym s.count) g.named;
        balanced = (let e = total_same in let f = had_same in let z = size_same in let l = g.balanced in omega arith);
        freed = s.counts.freed ∙ sym s.freed;
        exact = λ d h. held_same d h ∙ g.exact d h ∙ sym (desk_same d);
        ceilings = λ d h. let e = held_same d h in let f = ceiling_same d in let l = g.ceilings d h in omega arith;
        reserves = λ d h. let e = reserve_same d in let f = ceiling_same d in let l = g.reserves d h in omega arith;
        covered = (let e = lacks_same in let f = had_same in let l = g.covered in omega arith);
      }
    where
      few : freed_count b.counts ≤ length b.space.body / page_size
      few = let f = s.counts.freed in let z = size_same in let l = g.balanced in omega arith

      held_few : (d : ℕ) → d < desks → desk_count d plain.held ≤ length b.space.body / page_size
      held_few d h =
          let t = term_least desks d (λ i. desk_count i plain.held) h in let z = size_same in let l = g.balanced in omega arith
