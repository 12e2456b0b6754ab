-- The promise to desks: one that holds fewer pages than are kept for it gets the page that an append needs. Assumes nothing.
use Prim.Native.Nat.{ℕ, ◌+◌, ◌*◌, ◌^◌, ◌≤◌, ◌<◌}
use mathlib.Core.Bool.{Bool, true, false, cond, not, true≢false}
use mathlib.Core.List.{List, [], ◌∷◌}
use mathlib.Core.Option.{Option, none, some}
use mathlib.Core.Path.{◌≡◌, refl, sym, ap, ◌∙◌}
use native.Mathlib.Omega.{arith}
use borrow.Author.Tests.{le-ltb, lt-leb}
use lib.ListN.{length, set}
use lib.Seq.{get_or-set_same}
use Rattle.error.specs.Refusal.{Answer, accepted, and_then}
use Rattle.error.proofs.LawsAnswer.{refuse_no, then_yes}
use Rattle.scripthash_layout.specs.Sizes.{page_class, page_size}
use Rattle.scripthash_stream.specs.Stream.{last_from, stream_len}
use Rattle.book_limits.specs.Limits.{out_of_shape, page_after, past_slabs}
use Rattle.book_rules.specs.Outcomes.{Appended}
use Rattle.book_rules.specs.Places.{stays, moves_to}
use Rattle.book_rules.proofs.LawsOffered.{rising_on}
use Rattle.book_desks.specs.Desks.{desks, desk_count}
use Rattle.book_desks.proofs.LawsDesks.{permits_by, one_lacks}
use Rattle.plain_book.specs.Space.{Space, stack_of, Taken, take_mark, rounded, run_at_mark, take_fresh, take_from, take_block}
use Rattle.plain_book.specs.Key.{Place, empty, inline, slab, pages, longer, joins, Leave, Placed, moved, begin_page, append_pages}
use Rattle.plain_book.specs.Key.{append_place}
use Rattle.plain_book.specs.Book.{Book, Outcome, on_key, freed_in, allowed, key_of, desk_in, leave_of, extended, appends}
use Rattle.plain_book.specs.Needs.{unplaced, needs_at, needs_page}
use Rattle.plain_book.specs.Good.{GoodDesks, GoodPlain}
use Rattle.plain_book.proofs.LawsDesks.{had_in, rounded_freed, rounded_at}
use Rattle.plain_book.proofs.LawsCounts.{desk_known}

module _ (b : Book) (desk : ℕ) (good : GoodDesks b) (nine : length b.space.stacks ≡ 9) (known : desk < desks)
    (below : desk_count desk b.held < desk_count desk b.limits.reserve) where
  abbrev s : Space
  s = b.space

  -- A take that leaves just one page less is allowed to that desk.
  permitted_one : (t : Taken) → had_in b.size s ≤ had_in b.size t.space + 1
      → allowed b.limits b.size desk b.held 1 (accepted t) ≡ accepted t
  unfolding allowed and_then
  permitted_one t less =
      let o = one_lacks b.limits b.held desk known below in
      let c = good.covered in
      let r = good.reserves desk known in
      permits_by b.limits b.size desk 1 b.held (freed_in t.space) t.space.mark (accepted t) (λ n. omega arith) (omega arith)

  -- There is a page, freed or past the mark.
  some_page : 1 ≤ had_in b.size s
  some_page = let o = one_lacks b.limits b.held desk known below in let c = good.covered in omega arith

  -- What the mark gives.
  from_mark : 1 ≤ had_in b.size s → freed_in s ≡ 0
      → run_at_mark b.size 1 s
      ≡ accepted (record { off = (rounded s).mark; space = record { mark = (rounded s).mark + 1 * page_size; stacks = (rounded s).stacks } })
  unfolding run_at_mark take_mark rounded
  from_mark had none_freed_lem =
      let room : page_after s.mark + 1 * page_size ≤ b.size = omega arith in
      refuse_no _ _ _ (le-ltb _ _ room)

  -- What a stack gives: a page is never past the end of slabs.
  from_stack : (o : ℕ) (os : List ℕ)
      → take_from b.size page_class (o ∷ os) s
      ≡ accepted (record { off = o; space = record { mark = s.mark; stacks = set s.stacks page_class os } })
  unfolding take_from past_slabs
  from_stack o os = refuse_no _ _ _ refl

  -- A page that such a desk needs by an append is taken.
  pub promised : (t : Taken) × (allowed b.limits b.size desk b.held 1 (take_block b.size page_class s) ≡ accepted t)
  unfolding take_from take_fresh
  promised = go (stack_of page_class s) refl
    where
      go : (os : List ℕ) → stack_of page_class s ≡ os
          → (t : Taken) × (allowed b.limits b.size desk b.held 1 (take_from b.size page_class os s) ≡ accepted t)
      go [] q =
          let f = rounded_freed s in
          let m = rounded_at s in
          let z : freed_in s ≡ 0 = ap length q in
          let after : Space = record { mark = (rounded s).mark + 1 * page_size; stacks = (rounded s).stacks } in
          let t : Taken = record { off = (rounded s).mark; space = after } in
          (t, ap (allowed b.limits b.size desk b.held 1) (from_mark some_page z) ∙ permitted_one t (omega arith))
      go (o ∷ os) q =
          let left : freed_in (record { mark = s.mark; stacks = set s.stacks page_class os }) ≡ length os =
          ap length (get_or-set_same s.stacks page_class os [] (omega arith)) in
          let before : freed_in s ≡ length os + 1 = ap length q ∙ omega arith in
          let t : Taken = record { off = o; space = record { mark = s.mark; stacks = set s.stacks page_class os } } in
          (t, ap (allowed b.limits b.size desk b.held 1) (from_stack o os) ∙ permitted_one t (omega arith))

-- ---- where a page is needed

module _ (end : ℕ) (leave : Leave) (held : ℕ) (list : List ℕ) (s : Space) {t : Taken}
    (got : leave 1 (take_block end page_class s) ≡ accepted t) where
  -- A list for which no class is chosen moves to the page.
  moved_by : (o : Option ℕ) (old : Place) → unplaced o ≡ true → (p : Placed) × (moved end leave o held list old s ≡ accepted p)
  unfolding moved
  moved_by none old e = (_, then_yes _ _ got)
  moved_by (some class) old e = absurd (true≢false (sym e))

  -- One that can't stay does.
  outgrown_by : {A : Type 0} (b u : Bool) (x y : Answer A) → cond b false u ≡ true → (u ≡ true → (p : A) × (y ≡ accepted p))
      → (p : A) × (cond b x y ≡ accepted p)
  outgrown_by true u x y e g = absurd (true≢false (sym e))
  outgrown_by false u x y e g = g e

  -- A number that doesn't join begins it.
  begun_by : {A : Type 0} (b : Bool) (x y : Answer A) {p : A} → not b ≡ true → y ≡ accepted p → (q : A) × (cond b x y ≡ accepted q)
  begun_by true x y e g = absurd (true≢false (sym e))
  begun_by false x y {p} e g = (p, g)

  -- An append that needs a page places its list where the page is had.
  placed_by : (n : ℕ) (place : Place) → needs_at list n place ≡ true
      → (p : Placed) × (append_place end leave held list n place s ≡ accepted p)
  unfolding needs_at append_place append_pages begin_page
  placed_by n empty e = absurd (true≢false (sym e))
  placed_by n inline e = moved_by (moves_to (length list) (stream_len list)) inline e
  placed_by n (slab class off kept) e =
      outgrown_by (stays class (length list) (longer n kept).bytes) (unplaced (moves_to (length list) (stream_len list))) _ _ e
      (λ f. moved_by (moves_to (length list) (stream_len list)) (slab class off kept) f)
  placed_by n (pages ps) e = begun_by (joins n ps) _ _ e (then_yes _ _ got)

-- A desk below its reserve is served: an append of its key that needs a page, of a number that rises, is accepted.
pub served : (b : Book) (key n : ℕ) → GoodPlain b → out_of_shape b.size (length b.keys) ≡ false → key < length b.keys
    → last_from 0 (key_of key b).list < n → n < 2 ^ 62 → needs_page (key_of key b) n ≡ true
    → desk_count (desk_in b key) b.held < desk_count (desk_in b key) b.limits.reserve
    → (o : Outcome Appended) × (appends b key n ≡ accepted o)
unfolding appends on_key
served b key n good shape within rises low needs below =
    let (t, took) = promised b (desk_in b key) good.desks good.space.nine (desk_known b key good.desks within) below in
    let (p, is) = placed_by b.size (leave_of b key) (length (key_of key b).list) (extended (key_of key b).list n) b.space took n
    (key_of key b).place needs in (
      _,
      refuse_no _ _ _ shape ∙ refuse_no _ _ _ good.desks.named ∙ refuse_no _ _ _ (lt-leb _ _ within)
          ∙ rising_on true _ n _ rises low ∙ then_yes _ _ is,
    )
