-- From the start or the last drop no key is moved more than 9 times, nor has more than 765 records rewritten by moves. Assumes nothing.
use Prim.Native.Nat.{ℕ, zero, suc, ◌+◌, ◌≤◌, ◌<◌}
use mathlib.Core.Bool.{true, false}
use mathlib.Core.List.{List}
use mathlib.Core.Logic.{◌⊎◌, inl, inr, ⊎_elim}
use mathlib.Core.Option.{some}
use mathlib.Core.Path.{◌≡◌, refl, sym, ap, ◌∙◌}
use native.Mathlib.Nat.{le_refl, add-zero}
use native.Mathlib.Omega.{arith}
use lib.ListN.{length}
use borrow.Author.Tests.{ne_eqb}
use Rattle.scripthash_layout.specs.Sizes.{slab_slots, max_slab_class, max_slab_count}
use Rattle.scripthash_stream.specs.Stream.{stream_len}
use Rattle.book_rules.specs.declared.places.SlabFit.{SlabFit}
use Rattle.plain_book.specs.Space.{Space}
use Rattle.book_rules.specs.Places.{stays, moves_to}
use Rattle.plain_book.specs.Key.{Place, empty, inline, slab, pages, Kept, written, longer, Placed}
use Rattle.book_statements.specs.Moves.{Tally, with_move}
use Rattle.plain_book.specs.Sound.{Shortest}
use Rattle.plain_book.specs.Ceilings.{most_moves, most_rewritten}
use Rattle.plain_book.specs.Did.{LoadDid, loaded_none, loaded_one, loaded_slab, loaded_run, Outgrown, AppendDid, began, stayed}
use Rattle.plain_book.specs.Did.{moved_slab, moved_page, joined_page, begun_page}
use Rattle.book_rules.proofs.LawsRules.{slots_mono, slots_twice, stays_holds, Moves, moves_to_lem, loads_to_lem}
use Rattle.plain_book.proofs.LawsKept.{written_shortest, shortest_longer}

-- ---- what a tally may be, by the place

-- A list of n numbers that moves brought into a slab of class c: it has slots there; each class was entered once at most, and left with no
-- more records than it has slots.
pub record Grown (c n : ℕ) (t : Tally) : Type 0 where
  pub holds : n ≤ slab_slots c
  pub moves : t.moves ≤ suc c
  pub rewritten : ((t.rewritten + 2 ≤ slab_slots c) × (t.rewritten ≤ 509)) ⊎ ((n ≡ max_slab_count) × (t.rewritten ≤ 255))

-- A list of n numbers kept in a slab of class c: it was found or loaded there, or brought there by moves, which write shortest forms.
pub record InSlab (c n : ℕ) (kept : Kept) (t : Tally) : Type 0 where
  pub class : c ≤ max_slab_class
  pub few : n ≤ max_slab_count
  pub so_far : ((t.moves ≡ 0) × (t.rewritten ≡ 0)) ⊎ (Grown c n t × Shortest kept)

-- What the tally of a key with n numbers may be.
abbrev pub Spent : ℕ → Place → Tally → Type 0
Spent n empty t = (n ≡ 0) × (t.moves ≡ 0) × (t.rewritten ≡ 0)
Spent n inline t = (n ≡ 1) × (t.moves ≡ 0) × (t.rewritten ≡ 0)
Spent n (slab class off kept) t = InSlab class n kept t
Spent n (pages ps) t = (t.moves ≤ most_moves) × (t.rewritten ≤ most_rewritten)

-- Wherever a list stands, the tally is within the ceilings.
pub spent_most : (n : ℕ) (p : Place) (t : Tally) → Spent n p t → (t.moves ≤ most_moves) × (t.rewritten ≤ most_rewritten)
spent_most n empty t (e, m, r) = (omega arith, omega arith)
spent_most n inline t (e, m, r) = (omega arith, omega arith)
spent_most n (slab class off kept) t i =
    ⊎_elim (λ (m, r). (omega arith, omega arith))
    (λ (g, shortest). (omega (arith, g.moves, i.class), ⊎_elim (λ (a, b). omega arith) (λ (a, b). omega arith) g.rewritten))
    i.so_far
spent_most n (pages ps) t s = s

-- ---- counting

-- An append that rewrites some records counts as one move at most, and adds its records.
counted_moves : (r : ℕ) (t : Tally) → (with_move r t).moves ≤ suc t.moves
unfolding with_move
counted_moves zero t = omega arith
counted_moves (suc r) t = rw (ne_eqb (suc r) 0 (λ (e : suc r ≡ 0). omega arith)) (le_refl (suc t.moves))

counted_rewritten : (r : ℕ) (t : Tally) → (with_move r t).rewritten ≡ t.rewritten + r
unfolding with_move
counted_rewritten zero t = sym (add-zero t.rewritten)
counted_rewritten (suc r) t = rw (ne_eqb (suc r) 0 (λ (e : suc r ≡ 0). omega arith))

-- An append that rewrites none leaves the tally.
pub counted_none : (t : Tally) → with_move 0 t ≡ t
unfolding with_move
counted_none t = refl

-- ---- moving

-- A list of held + 1 numbers moves to a slab of class c: out of one of class d, which it doesn't fit, or out of the head word.
module _ (held bytes c : ℕ) (kept : Kept) (shortest : Shortest kept) (t : Tally) (m : Moves (held + 1) bytes c) where
  abbrev now : Tally
  now = with_move held t

  moves_now : now.moves ≤ suc t.moves
  moves_now = counted_moves held t

  rewritten_now : now.rewritten ≡ t.rewritten + held
  rewritten_now = counted_rewritten held t

  -- nothing moved before
  first_move : t.moves ≡ 0 → t.rewritten ≡ 0 → InSlab c (held + 1) kept now
  first_move e f =
      record {
        class = m.slab;
        few = m.few;
        so_far = inr (
          record {
            holds = m.holds;
            moves = omega (arith, moves_now);
            rewritten = ⊎_elim (λ g. inr (g, omega (arith, rewritten_now)))
                (λ g. inl (omega (arith, rewritten_now), omega (arith, rewritten_now, m.few))) m.spare;
          },
          shortest,
        );
      }

  -- out of a slab that moves had brought it to
  next_move : (d : ℕ) → d < c → Grown d held t → InSlab c (held + 1) kept now
  next_move d l g =
      let twice = slots_twice l in
      let six : slab_slots d ≤ 256 = slots_mono {c = d} {d = 6} (omega (arith, m.slab)) in
      record {
        class = m.slab;
        few = m.few;
        so_far = inr (
          record {
            holds = m.holds;
            moves = omega (arith, moves_now, g.moves);
            rewritten = ⊎_elim (λ (a, b). inl (omega (arith, rewritten_now, g.holds), omega (arith, rewritten_now, m.few)))
                (λ (a, b). absurd (omega (arith, m.few))) g.rewritten;
          },
          shortest,
        );
      }

-- Out of a slab into a page.
to_page : (held c : ℕ) (kept : Kept) (t : Tally) → InSlab c held kept t → ((with_move held t).moves ≤ most_moves)
    × ((with_move held t).rewritten ≤ most_rewritten)
to_page held c kept t i =
    let a = counted_moves held t in
    let b = counted_rewritten held t in
    ⊎_elim (λ (m, r). (omega arith, omega (arith, i.few)))
    (λ (g, shortest).
    (omega (arith, g.moves, i.class), ⊎_elim (λ (x, y). omega (arith, i.few)) (λ (x, y). omega (arith, i.few)) g.rewritten))
    i.so_far

-- ---- an append, and a load

-- Where a list goes that outgrew its place: to a slab,
to_slab : (held : ℕ) (list : List ℕ) (n : ℕ) (old : Place) (t : Tally) → length list ≡ held + 1
    → ((class off : ℕ) (kept : Kept) → old ≡ slab class off kept → (longer n kept).numbers ≡ list) → Spent held old t → Outgrown list n old
    → (c : ℕ) → moves_to (length list) (stream_len list) ≡ some c → InSlab c (held + 1) (written list) (with_move held t)
to_slab held list n empty t l same h out c q = absurd out
to_slab held list n inline t l same (o, m, r) out c q =
    first_move held (stream_len list) c (written list) (written_shortest list) t (rw l at (moves_to_lem (length list) (stream_len list) q)) m r
to_slab held list n (slab d off kept) t l same i out c q =
    let m : Moves (held + 1) (stream_len list) c = rw l at (moves_to_lem (length list) (stream_len list) q) in
    let short = written_shortest list in
    ⊎_elim (λ (x, y). first_move held (stream_len list) c (written list) short t m x y)
    (λ (g, shortest).
    let bytes : (longer n kept).bytes ≡ stream_len list = shortest_longer n kept shortest ∙ ap stream_len (same d off kept refl) in
    let b' : stays d (held + 1) (stream_len list) ≡ false = rw (l, bytes) at out in
    next_move held (stream_len list) c (written list) short t m d (m.grows d b') g)
    i.so_far
to_slab held list n (pages ps) t l same h out c q = absurd out

-- or to a page.
to_pages : (held : ℕ) (list : List ℕ) (n : ℕ) (old : Place) (t : Tally) → Spent held old t → Outgrown list n old
    → ((with_move held t).moves ≤ most_moves) × ((with_move held t).rewritten ≤ most_rewritten)
to_pages held list n empty t h out = absurd out
to_pages held list n inline t (o, m, r) out = (omega (arith, counted_moves held t), omega (arith, counted_rewritten held t))
to_pages held list n (slab d off kept) t i out = to_page held d kept t i
to_pages held list n (pages ps) t h out = absurd out

-- A list that stays in its slab.
stays_spent : (d held : ℕ) (list : List ℕ) (n : ℕ) (kept : Kept) (t : Tally) → length list ≡ held + 1 → InSlab d held kept t
    → stays d (length list) (longer n kept).bytes ≡ true → InSlab d (length list) (longer n kept) t
stays_spent d held list n kept t l i b =
    let (few, holds, fits) = stays_holds d (length list) (longer n kept).bytes b in
    record {
      class = i.class;
      few = few;
      so_far = ⊎_elim (λ u. inl u)
          (λ (g, shortest). inr (
            record { holds = holds; moves = g.moves; rewritten = ⊎_elim (λ u. inl u) (λ (x, y). absurd (omega arith)) g.rewritten },
            shortest_longer n kept shortest,
          ))
          i.so_far;
    }

-- An append keeps the tally within what the new place allows.
pub append_spent : (end held : ℕ) (list : List ℕ) (n : ℕ) (s : Space) {old : Place} {p : Placed} (t : Tally) → length list ≡ held + 1
    → ((class off : ℕ) (kept : Kept) → old ≡ slab class off kept → (longer n kept).numbers ≡ list) → Spent held old t
    → AppendDid end held list n s old p → Spent (length list) p.place (with_move p.rewritten t)
append_spent end held list n s t l same h began = let (z, m, r) = h in rw (counted_none t) (omega arith, m, r)
append_spent end held list n s t l same i (stayed d off kept q) = rw (counted_none t) (stays_spent d held list n kept t l i q)
append_spent end held list n s t l same h (moved_slab old c x out q got) = rw l (to_slab held list n old t l same h out c q)
append_spent end held list n s t l same h (moved_page old x out q got) = to_pages held list n old t h out
append_spent end held list n s t l same h (joined_page ps q) = rw (counted_none t) h
append_spent end held list n s t l same h (begun_page ps x q got) = rw (counted_none t) h

-- A load moves nothing, and its place allows that.
pub load_spent : {fit : SlabFit} (end : ℕ) (s : Space) {ns : List ℕ} {p : Placed} (t : Tally) → t.moves ≡ 0 → t.rewritten ≡ 0
    → LoadDid fit end s ns p
    → Spent (length ns) p.place t
load_spent end s t m r loaded_none = (refl, m, r)
load_spent end s t m r loaded_one = (refl, m, r)
load_spent {fit} end s {ns} t m r (loaded_slab c x two q got) =
    let (few, class, fits) = loads_to_lem fit (length ns) (stream_len ns) q in
    record { class = class; few = few; so_far = inl (m, r) }
load_spent end s t m r (loaded_run x two q got) = (omega arith, omega arith)
