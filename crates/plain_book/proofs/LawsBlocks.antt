-- After any list of calls on a fresh plain book the blocks of its keys and stacks stand apart, below the mark. Assumes nothing.
use Prim.Native.Nat.{ℕ, zero, suc, ◌<◌}
use mathlib.Core.Bool.{Bool, true, false, cond}
use mathlib.Core.List.{List, [], ◌∷◌}
use mathlib.Core.Option.{none, some}
use mathlib.Core.Path.{◌≡◌, refl, sym, ap, ◌∙◌}
use native.Mathlib.Omega.{arith}
use lib.Dec.{eqb}
use lib.ListN.{length}
use Rattle.error.specs.Refusal.{Answer, accepted, refused}
use Rattle.scripthash_layout.specs.Sizes.{page_class}
use Rattle.scripthash_stream.specs.Stream.{stream_len}
use Rattle.scripthash_cutting.specs.Cutting.{cutting, replace_last}
use Rattle.scripthash_free.specs.FreeList.{Block}
use Rattle.book_rules.specs.declared.places.SlabFit.{SlabFit}
use Rattle.book_rules.specs.Outcomes.{book_after}
use Rattle.book_statements.specs.Calls.{Change, load, append, drop, Made, Call}
use Rattle.plain_book.specs.Space.{Space}
use Rattle.plain_book.specs.Key.{Key, Page, Place, empty, inline, slab, pages, one_page, freed_place, Placed, written, longer, key_in}
use Rattle.plain_book.specs.Key.{empty_key}
use Rattle.plain_book.specs.Key.{longer_page, joined_to}
use Rattle.plain_book.specs.Book.{Book, fresh, Outcome, key_of, with_key, extended, does, after, serves}
use Rattle.plain_book.specs.Owners.{Owner, hand, stack, slab_of, page_of, at_depth, page_no, slab_at, page_in, has, Apart, places}
use Rattle.plain_book.specs.Good.{Good}
use Rattle.plain_book.specs.Did.{LoadDid, loaded_none, loaded_one, loaded_slab, loaded_run, AppendDid, began, stayed, moved_slab}
use Rattle.plain_book.specs.Did.{moved_page, joined_page, begun_page}
use Rattle.book_rules.proofs.LawsRules.{moves_to_lem, loads_to_lem}
use Rattle.book_statements.proofs.LawsCalls.{calls_keep}
use Rattle.book_desks.specs.Desks.{Limits}
use Rattle.plain_book.proofs.LawsHistory.{all_same, load_did, append_did, drop_did, fresh_key, key_with}
use Rattle.plain_book.proofs.LawsOwners.{none_some, at_key, good_slab, good_page, good_fewer, good_twice, good_kept, good_freed_place}
use Rattle.plain_book.proofs.LawsTaking.{InHand, good_taken, good_run_clear}
use Rattle.plain_book.proofs.LawsRunFreed.{run_clear, cutting_some}

-- What an append or a load of a key leaves is good.
abbrev pub Leaves : (ℕ → Place) → ℕ → Placed → Type 0
Leaves at key p = Good p.space (at_key key p.place at) none

-- ---- moving

-- No pages have none at any index.
no_page_lem : (i : ℕ) (x : Block) → page_no i [] ≡ some x → ⊥
unfolding page_no
no_page_lem i x z = none_some z

-- ---- pages

-- The pages of a list whose last one has a number more stand where they stood.
pub joined_at : (i n : ℕ) (ps : List Page) → page_no i (replace_last (λ p. longer_page n p ∷ []) ps) ≡ page_no i ps
unfolding page_no replace_last
joined_at i n [] = refl
joined_at zero n (p ∷ []) = refl
joined_at (suc i) n (p ∷ []) = refl
joined_at zero n (p ∷ q ∷ ps) = refl
joined_at (suc i) n (p ∷ q ∷ ps) = joined_at i n (q ∷ ps)

-- ---- an append, and a load

module _ (end : ℕ) (s : Space) (at : ℕ → Place) (key : ℕ) (g : Good s at none) where
  append_good : (held : ℕ) (list : List ℕ) (n : ℕ) {old : Place} {p : Placed} → at key ≡ old → AppendDid end held list n s old p
      → Leaves at key p
  append_good held list n is began =
      good_kept s at none key inline (λ x h. absurd (none_some h)) (λ i x h. absurd (none_some h)) g
  append_good held list n is (stayed class off kept q) =
      good_kept s at none key (slab class off (longer n kept)) (λ x h. ap slab_at is ∙ h) (λ i x h. absurd (none_some h)) g
  append_good held list n is (moved_slab old c t out q got) =
      let m = moves_to_lem (length list) (stream_len list) q in
      let h : InHand at c t = good_taken end c s at (omega (arith, m.slab)) got g in
      let f = good_freed_place t.space at (some (record { class = c; off = t.off })) key old is h in
      good_twice (freed_place old t.space) at none key empty (slab c t.off (written list))
      (good_slab (freed_place old t.space) (at_key key empty at) key c t.off (written list) f)
  append_good held list n is (moved_page old t out q got) =
      let h : InHand at page_class t = good_taken end page_class s at (omega arith) got g in
      let f = good_freed_place t.space at (some (record { class = page_class; off = t.off })) key old is h in
      good_twice (freed_place old t.space) at none key empty (pages (one_page t.off list))
      (good_page (freed_place old t.space) (at_key key empty at) key t.off [] list (λ i x z. absurd (no_page_lem i x z)) f)
  append_good held list n is (joined_page ps q) =
      good_kept s at none key (joined_to n ps) (λ x h. absurd (none_some h)) (λ i x h. ap (page_in i) is ∙ sym (joined_at i n ps) ∙ h) g
  append_good held list n is (begun_page ps t q got) =
      good_page t.space at key t.off ps (n ∷ []) (λ i x z. ap (page_in i) is ∙ z) (good_taken end page_class s at (omega arith) got g)

  load_good : {fit : SlabFit} {ns : List ℕ} {p : Placed} → LoadDid fit end s ns p → Leaves at key p
  load_good loaded_none = good_kept s at none key empty (λ x h. absurd (none_some h)) (λ i x h. absurd (none_some h)) g
  load_good loaded_one = good_kept s at none key inline (λ x h. absurd (none_some h)) (λ i x h. absurd (none_some h)) g
  load_good {fit} {ns} (loaded_slab c t two q got) =
      let (few, class, fits) = loads_to_lem fit (length ns) (stream_len ns) q in
      good_slab t.space at key c t.off (written ns) (good_taken end c s at (omega arith) got g)
  load_good {fit} {ns} (loaded_run t two q got) =
      let (good, clear) = run_clear end (length (cutting ns)) s at (cutting_some ns (omega arith)) got g in
      good_run_clear t.space at key t.off (cutting ns) good clear

-- ---- books

-- A book's space is good, with its keys' places and nothing in hand.
abbrev pub GoodSpace : Book → Type 0
GoodSpace b = Good b.space (places b) none

-- The places of a book with a key changed.
pub key_place : (b : Book) (key : ℕ) (new : Key) (space : Space) → key < length b.keys → (j : ℕ)
    → places (with_key key new space b) j ≡ at_key key new.place (places b) j
key_place b key new space l j = ap (λ (k : Key). k.place) (key_with b key new l j) ∙ inside (eqb j key)
  where
    inside : (t : Bool) → (cond t new (key_of j b)).place ≡ cond t new.place (places b j)
    inside true = refl
    inside false = refl

pub good_with : (b : Book) (key : ℕ) (new : Key) (space : Space) → key < length b.keys
    → Good space (at_key key new.place (places b)) none
    → GoodSpace (with_key key new space b)
good_with b key new space l g =
    good_fewer space (at_key key new.place (places b)) (places (with_key key new space b)) none
    (λ j x h. ap slab_at (sym (key_place b key new space l j)) ∙ h)
    (λ j i x h. ap (page_in i) (sym (key_place b key new space l j)) ∙ h)
    g

-- A call keeps a book's space good.
pub call_space : (b : Book) (c : Change) (a : Answer (Outcome (Made c))) → does b c ≡ a → GoodSpace b → GoodSpace (book_after b a)
unfolding does book_after
call_space b c (refused number) e g = g
call_space b (load fit key ns) (accepted o) e g =
    let (p, within, free, rises, got, is) = load_did fit b key ns e in
    rw (ap (λ (x : Outcome _). x.book) is) (good_with b key (key_in ns p.place true) p.space within
    (load_good b.size b.space (places b) key g got))
call_space b (append key n) (accepted o) e g =
    let (p, within, rises, low, got, is) = append_did b key n e in
    rw (ap (λ (x : Outcome _). x.book) is)
    (good_with b key (key_in (extended (key_of key b).list n) p.place _) p.space within
    (append_good b.size b.space (places b) key g (length (key_of key b).list) (extended (key_of key b).list n) n refl got))
call_space b (drop key) (accepted o) e g =
    let (within, is) = drop_did b key e in
    rw (ap (λ (x : Outcome _). x.book) is)
    (good_with b key empty_key (freed_place (key_of key b).place b.space) within
    (good_freed_place b.space (places b) none key (key_of key b).place refl g))

-- So is a fresh one's: nobody has a block.
pub fresh_space : (ds : List ℕ) (size heads : ℕ) (l : Limits) → GoodSpace (fresh ds size heads l)
unfolding has at_depth
fresh_space ds size heads l =
    record {
      nine = refl;
      aligned = refl;
      from = omega arith;
      apart = record { stands = λ w x e. absurd (nobody w x e); apart = λ v w x y n e e'. absurd (nobody v x e) };
    }
  where
    nobody : (w : Owner) (x : Block) → has (fresh ds size heads l).space (places (fresh ds size heads l)) none w ≡ some x → ⊥
    nobody hand x e = none_some e
    nobody (stack c d) x e = none_some (ap (at_depth c d) (sym (all_same {A = List ℕ} [] 9 c)) ∙ e)
    nobody (slab_of k) x e = none_some (ap (λ (y : Key). slab_at y.place) (sym (fresh_key ds size heads l k)) ∙ e)
    nobody (page_of k i) x e = none_some (ap (λ (y : Key). page_in i y.place) (sym (fresh_key ds size heads l k)) ∙ e)

-- Take any book whose space is good and any list of calls: no two blocks, held or freed, share a byte afterwards, and each lies where a
-- block of its class may, below the mark.
pub apart_from : (b : Book) (cs : List Call) → GoodSpace b
    → Apart (after b cs).space.mark (has (after b cs).space (places (after b cs)) none)
apart_from b cs g = (calls_keep serves GoodSpace (λ b c g. call_space b c (does b c) refl g) b cs g).apart

-- So it is after any list of calls on a fresh book.
pub blocks_apart : (ds : List ℕ) (size heads : ℕ) (l : Limits) (cs : List Call)
    → let b = after (fresh ds size heads l) cs in Apart b.space.mark (has b.space (places b) none)
blocks_apart ds size heads l cs = apart_from (fresh ds size heads l) cs (fresh_space ds size heads l)
