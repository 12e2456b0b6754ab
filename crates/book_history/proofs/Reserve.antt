-- What desks are promised (FORMAT, Desks), over the bytes, from every good start, and so of every book that was made: a desk below its
-- reserve that needs one page by an append gets it, whatever was called before and by whom; no desk passes its ceiling; and the counts stay
-- true. Assumes nothing.
use Prim.Native.Nat.{ℕ, ◌^◌, ◌≤◌, ◌<◌}
use mathlib.Core.Bool.{true, false}
use mathlib.Core.List.{List}
use mathlib.Core.Path.{◌≡◌, sym, ap, subst, ◌∙◌}
use native.Mathlib.Omega.{arith}
use lib.ListN.{length, get_or, length-replicate}
use Rattle.error.specs.Refusal.{accepted, answered}
use Rattle.scripthash_stream.specs.Stream.{last_from}
use Rattle.book_rules.specs.Outcomes.{Appended, answer_of}
use Rattle.book_statements.specs.Calls.{append, Call}
use Rattle.book_limits.specs.Limits.{out_of_shape}
use Rattle.book_desks.specs.Desks.{desks, Limits, desk_count, lacks, desk_of}
use Rattle.book_desks.specs.Counts.{ceiling_at, held_count, held_in, limits_in}
use Rattle.book_desks.proofs.LawsCounts.{held_at_lem, reserve_at_lem, ceiling_at_lem}
use Rattle.plain_book.specs.Key.{empty_key}
use Rattle.plain_book.specs.Book.{Book as PlainBook, fresh as plain_fresh, makes, key_of, desk_in, does as plain_does, after as plain_after}
use Rattle.plain_book.specs.Needs.{needs_page}
use Rattle.plain_book.specs.Good.{GoodPlain}
use Rattle.plain_book.proofs.LawsGood.{is_made, fresh_good, calls_good, shapes_kept}
use Rattle.plain_book.proofs.LawsServed.{served}
use Rattle.book.specs.Book.{Book, fresh}
use Rattle.book_start.specs.Start.{to_be_had_in, GoodStart}
use Rattle.book_history.specs.Calls.{does, after}
use Rattle.book_history.specs.Agrees.{Agrees}
use Rattle.book_history.specs.PlainOf.{plain_of, Sixteen}
use Rattle.book_history.specs.Reserve.{DesksKept, PagePromised}
use Rattle.book_history.proofs.LawsCalls.{alike_answer, books_agree}
use Rattle.book_history.proofs.LawsDesks.{key_desk}
use Rattle.book_history.proofs.LawsEach.{each_alike}
use Rattle.book_history.proofs.LawsStart.{key_is, start_list_lem, start_good, start_agrees, start_shape}
use Rattle.book_history.proofs.LawsStartFresh.{fresh_plain, fresh_start, fresh_agrees}
use Rattle.book_history.proofs.LawsStartKept.{shape_after, after_agrees, start_kept}

-- ---- a desk below its reserve gets the page that it needs

-- By any book that stands for a good plain book, in shape.
served_alike : (plain : PlainBook) (b : Book) (key n : ℕ) → GoodPlain plain → Agrees plain b
    → out_of_shape plain.size (length plain.keys) ≡ false → key < length plain.keys → last_from 0 (key_of key plain).list < n
    → n < 2 ^ 62 → needs_page (key_of key plain) n ≡ true
    → desk_count (desk_in plain key) plain.held < desk_count (desk_in plain key) plain.limits.reserve
    → (a : Appended) × (answer_of (does plain.desks b (append key n)) ≡ accepted a)
unfolding plain_does answered
served_alike plain b key n g a shape within rises low needs below =
    let (o, is) = served plain key n g shape within rises low needs below in
    (o.told, alike_answer (each_alike plain b (append key n) g a) ∙ ap answer_of is)

-- From any such pair, after any calls.
pub reserve_good : (plain : PlainBook) (b : Book) (cs : List Call) → GoodPlain plain → Agrees plain b
    → out_of_shape plain.size (length plain.keys) ≡ false → (key n : ℕ) → let p = plain_after plain cs in
    key < length p.keys → last_from 0 (key_of key p).list < n → n < 2 ^ 62 → needs_page (key_of key p) n ≡ true
    → desk_count (desk_in plain key) p.held < desk_count (desk_in plain key) p.limits.reserve
    → (a : Appended) × (answer_of (does plain.desks (after plain.desks b cs) (append key n)) ≡ accepted a)
reserve_good plain b cs g a shape key n within rises low needs below =
    let p = plain_after plain cs in
    let (size, keys, lent, limits) = shapes_kept plain cs in
    let b' = after plain.desks b cs in
    subst (λ (list : List ℕ). (a : Appended) × (answer_of (does list b' (append key n)) ≡ accepted a)) lent
    (served_alike p b' key n (calls_good cs g) (books_agree each_alike plain b cs g a) (rw (size, keys) shape) within rises low needs
    (subst (λ (list : List ℕ). desk_count (desk_of list key) p.held < desk_count (desk_of list key) p.limits.reserve) (sym lent) below))

-- From every good start, after any calls.
pub reserve_kept : (ds : List ℕ) (b : Book) → GoodStart ds b → (cs : List Call) (key n : ℕ) → let p = plain_after (plain_of ds b) cs in
    key < length p.keys → last_from 0 (key_of key p).list < n → n < 2 ^ 62 → needs_page (key_of key p) n ≡ true
    → desk_count (desk_of ds key) p.held < desk_count (desk_of ds key) p.limits.reserve
    → (a : Appended) × (answer_of (does ds (after ds b cs) (append key n)) ≡ accepted a)
unfolding plain_of
reserve_kept ds b g cs key n within rises low needs below =
    reserve_good (plain_of ds b) b cs (start_good ds b g) (start_agrees ds b g) (start_shape ds b g.blocks) key n within rises low needs
    below

-- The same of any good start by its bytes alone,
pub page_had : (ds : List ℕ) (b : Book) (key n : ℕ) → GoodStart ds b → PagePromised ds b key n
    → (a : Appended) × (answer_of (does ds b (append key n)) ≡ accepted a)
unfolding plain_of
page_had ds b key n g h =
    let good = start_good ds b g in
    let a = start_agrees ds b g in
    let known = key_desk (plain_of ds b) key good.desks in
    let kept = reserve_at_lem b.counts (desk_of ds key) known in
    let has = held_at_lem b.counts (desk_of ds key) known in
    let below = h.below in
    served_alike (plain_of ds b) b key n good a (start_shape ds b g.blocks) (subst (λ (k : ℕ). key < k) a.count h.within)
    (rw (start_list_lem ds b key) h.rises) h.low
    (rw (key_is ds b key) h.needs) (omega arith)

-- and so after any calls from one.
pub reserve_told : (ds : List ℕ) (b : Book) → GoodStart ds b → (cs : List Call) (key n : ℕ) → PagePromised ds (after ds b cs) key n
    → (a : Appended) × (answer_of (does ds (after ds b cs) (append key n)) ≡ accepted a)
reserve_told ds b g cs key n h = page_had ds (after ds b cs) key n (start_kept ds b cs g) h

-- ---- ceilings, counts and what is kept

-- Calls from a good start leave the limits.
limits_kept : (ds : List ℕ) (b : Book) (cs : List Call) → GoodStart ds b → limits_in (after ds b cs).counts ≡ limits_in b.counts
unfolding plain_of
limits_kept ds b cs g =
    let (size, keys, lent, limits) = shapes_kept (plain_of ds b) cs in
    let (shape, same) = shape_after ds b cs g.blocks in
    ((after_agrees ds b cs g).inside shape).counts.limits ∙ limits

-- After any calls from a good start its desks are kept, with the limits that it had then.
pub desks_kept : (ds : List ℕ) (b : Book) (cs : List Call) → GoodStart ds b → DesksKept ds (limits_in b.counts) (after ds b cs)
desks_kept ds b cs g =
    let same = limits_kept ds b cs g in
    let c = (start_kept ds b cs g).counts in
    record {
      limits = same;
      freed = c.freed;
      held = c.exact;
      ceilings = λ d h. subst (λ (l : Limits). held_count d (after ds b cs).counts ≤ desk_count d l.ceiling) same (c.ceilings d h);
      covered = subst (λ (l : Limits). lacks l (held_in (after ds b cs).counts) ≤ to_be_had_in (after ds b cs)) same c.covered;
    }

-- No desk's count in the words is ever above the ceiling that stands in them at the start.
pub ceilings_kept : (ds : List ℕ) (b : Book) (cs : List Call) → GoodStart ds b → (d : ℕ) → d < desks
    → held_count d (after ds b cs).counts ≤ get_or b.counts (ceiling_at d) 0
ceilings_kept ds b cs g d h =
    let most = (desks_kept ds b cs g).ceilings d h in let same = ceiling_at_lem b.counts d h in omega arith

-- ---- every book that was made

module _ (ds body : List ℕ) (heads : ℕ) (l : Limits)
    (made : makes ds (length body) heads l ≡ accepted (plain_fresh ds (length body) heads l)) (sixteen : Sixteen l) where
  -- A desk below its reserve gets the page that it needs,
  pub reserve_fresh : (cs : List Call) (key n : ℕ) → let p = plain_after (plain_fresh ds (length body) heads l) cs in
      key < heads → last_from 0 (key_of key p).list < n → n < 2 ^ 62 → needs_page (key_of key p) n ≡ true
      → desk_count (desk_of ds key) p.held < desk_count (desk_of ds key) l.reserve
      → (a : Appended) × (answer_of (does ds (after ds (fresh body heads l) cs) (append key n)) ≡ accepted a)
  reserve_fresh cs key n within rises low needs below =
      let start = plain_fresh ds (length body) heads l in
      let (size, keys, lent, limits) = shapes_kept start cs in
      let many : length (plain_after start cs).keys ≡ heads = keys ∙ length-replicate heads empty_key in
      reserve_good start (fresh body heads l) cs (fresh_good ds (length body) heads l made) (fresh_agrees ds body heads l made sixteen)
      (rw (length-replicate heads empty_key) (is_made ds (length body) heads l made).shape) key n (omega arith) rises low needs
      (rw limits below)

  -- also as its bytes tell it,
  pub reserve_fresh_told : (cs : List Call) (key n : ℕ) → PagePromised ds (after ds (fresh body heads l) cs) key n
      → (a : Appended) × (answer_of (does ds (after ds (fresh body heads l) cs) (append key n)) ≡ accepted a)
  reserve_fresh_told cs key n h = reserve_told ds (fresh body heads l) (fresh_start ds body heads l made sixteen) cs key n h

  -- and its desks are kept, with the limits that it was made with.
  pub desks_fresh : (cs : List Call) → DesksKept ds l (after ds (fresh body heads l) cs)
  unfolding plain_of
  desks_fresh cs =
      subst (λ (m : Limits). DesksKept ds m (after ds (fresh body heads l) cs))
      (ap (λ (p : PlainBook). p.limits) (fresh_plain ds body heads l sixteen))
      (desks_kept ds (fresh body heads l) cs (fresh_start ds body heads l made sixteen))
