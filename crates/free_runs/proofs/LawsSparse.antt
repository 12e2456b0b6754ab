-- Pages kept of a window: those below an end, one more, all of a list, and the least of them from one on. Assumes nothing.
use Rattle.std.proofs.Common.{◌≡◌, ℕ, zero, suc, ◌+◌, ◌*◌, ◌/◌, ◌%◌, ◌^◌, ◌<◌, ◌≤◌, min, Bool, false, cond, ◌||◌, eqb, List, [], ◌∷◌, length, get_or, take, set, sym, refl, ap, ◌∙◌, subst, ⊎_elim, arith, length-set, get_or-set_other, get_or-set_same, le-ltb, lt-ltb, eq-eqb, ne_eqb}
use Rattle.std.proofs.lemmas.List.{get_or-take, length-take-le}
use Rattle.buffer.proofs.LawsOrder.{lt_or_ge}
use Rattle.free_runs.specs.Runs.{is_in}
use Rattle.free_runs.specs.Steps.{Sought, ToGoOn}
use Rattle.free_runs.specs.Sparse.{holds, KeepsBelow, KeepsWindow, KeepsOne, Collects, LeastFrom, begins_from}
use Rattle.free_runs.proofs.LawsRuns.{or_left, or_right}
use Rattle.free_runs.proofs.LawsMark.{same_page, none_or, turn_or}
use Rattle.free_runs.proofs.LawsSought.{sought_past, sought_freed}

-- ---- one place

pub holds_none : (kept : List ℕ) (p : ℕ) → holds kept 0 p ≡ false
unfolding holds
holds_none kept p = refl

pub holds_step : (kept : List ℕ) (n p : ℕ) → holds kept (n + 1) p ≡ eqb (get_or kept n 0) p || holds kept n p
unfolding holds
holds_step kept n p = let z : n + 1 ≡ suc n = omega arith in rw z

-- A place behind those counted is another.
pub holds_behind : (kept : List ℕ) (at v : ℕ) (n p : ℕ) → n ≤ at → holds (set kept at v) n p ≡ holds kept n p
unfolding holds
holds_behind kept at v zero p h = refl
holds_behind kept at v (suc n) p h =
    ap (λ (x : ℕ). eqb x p || holds (set kept at v) n p) (get_or-set_other kept at n v 0 (λ z. omega arith))
    ∙ ap (λ (b : Bool). eqb (get_or kept n 0) p || b) (holds_behind kept at v n p (omega arith))

-- A page put behind them is held too.
pub holds_put : (kept : List ℕ) (n v p : ℕ) → n < length kept → holds (set kept n v) (n + 1) p ≡ eqb v p || holds kept n p
holds_put kept n v p h =
    holds_step (set kept n v) n p
    ∙ (ap (λ (x : ℕ). eqb x p || holds (set kept n v) n p) (get_or-set_same kept n v 0 h)
    ∙ ap (λ (b : Bool). eqb v p || b) (holds_behind kept n v n p (omega arith)))

-- ---- those below an end

-- Of the first i pages those below the end are kept, and the others still stand where they did.
pub record Sifting (end : ℕ) (before after : List ℕ) (i stay : ℕ) : Type 0 where
  pub fewer : stay ≤ i
  pub long : length after ≡ length before
  pub tells : (p : ℕ) → p < end → holds after stay p ≡ holds before i p
  pub rest : (j : ℕ) → i ≤ j → get_or after j 0 ≡ get_or before j 0

module _ (end : ℕ) (before : List ℕ) where
  pub sift_none : Sifting end before before 0 0
  sift_none =
      record { fewer = omega arith; long = refl; tells = λ p h. holds_none before p ∙ sym (holds_none before p); rest = λ j h. refl }

  module _ (after : List ℕ) (i stay : ℕ) (s : Sifting end before after i stay) where
    pub sift_keeps : i < length before → Sifting end before (set after stay (get_or after i 0)) (i + 1) (stay + 1)
    sift_keeps h =
        let f = s.fewer in
        let e = s.long in
        record {
          fewer = omega arith;
          long = length-set after stay (get_or after i 0) ∙ e;
          tells = λ p k.
              holds_put after stay (get_or after i 0) p (omega arith)
              ∙ (ap (λ (x : ℕ). eqb x p || holds after stay p) (s.rest i (omega arith))
              ∙ (ap (λ (b : Bool). eqb (get_or before i 0) p || b) (s.tells p k) ∙ sym (holds_step before i p)));
          rest = λ j k. get_or-set_other after stay j (get_or after i 0) 0 (λ z. omega arith) ∙ s.rest j (omega arith);
        }

    pub sift_drops : end ≤ get_or after i 0 → Sifting end before after (i + 1) stay
    sift_drops l =
        let f = s.fewer in
        record {
          fewer = omega arith;
          long = s.long;
          tells = λ p k.
              s.tells p k
              ∙ sym (holds_step before i p
              ∙ ap (λ (b : Bool). b || holds before i p)
              (ne_eqb (get_or before i 0) p (λ z. let r = s.rest i (omega arith) in omega arith)));
          rest = λ j k. s.rest j (omega arith);
        }

pub sift_done : (end : ℕ) (before after : List ℕ) (count stay : ℕ) → Sifting end before after count stay
    → KeepsBelow end before count after stay
sift_done end before after count stay s = record { fewer = s.fewer; long = s.long; tells = s.tells }

-- ---- a window that ends earlier

module _ (from end : ℕ) (before : List ℕ) (count : ℕ) where
  pub kept_all : from ≤ end → KeepsWindow from end before count before count end
  kept_all h = record { long = refl; low = h; high = omega arith; tells = λ p l m. refl }

  module _ (after : List ℕ) (left limit : ℕ) (k : KeepsWindow from end before count after left limit) where
    pub kept_below : (after' : List ℕ) (left' limit' : ℕ) → from ≤ limit' → limit' ≤ limit → KeepsBelow limit' after left after' left'
        → KeepsWindow from end before count after' left' limit'
    kept_below after' left' limit' low less b =
        record {
          long = b.long ∙ k.long;
          low = low;
          high = let h = k.high in omega arith;
          tells = λ p l m. b.tells p m ∙ k.tells p l (omega arith);
        }

    pub kept_nothing : (left' : ℕ) → KeepsWindow from end before count after left' from
    kept_nothing left' =
        record {
          long = k.long;
          low = omega arith;
          high = let l = k.low in let h = k.high in omega arith;
          tells = λ p l m. absurd (omega arith);
        }

-- ---- one more

module _ (from end page : ℕ) (before : List ℕ) (count : ℕ) where
  -- It doesn't lie in the window.
  pub one_outside : (after : List ℕ) (left limit : ℕ) → left ≤ 4096 → KeepsWindow from end before count after left limit
      → ((p : ℕ) → from ≤ p → p < limit → page ≡ p → ⊥) → KeepsOne from end page before count after left limit
  one_outside after left limit r k n =
      record {
        room = r;
        long = k.long;
        low = k.low;
        high = k.high;
        tells = λ p l m. k.tells p l m ∙ ap (λ (b : Bool). b || holds before count p) (sym (ne_eqb page p (n p l m)));
      }

  pub one_inside : (after : List ℕ) (left limit : ℕ) → left < length after → left < 4096
      → KeepsWindow from end before count after left limit
      → KeepsOne from end page before count (set after left page) (left + 1) limit
  one_inside after left limit h r k =
      record {
        room = omega arith;
        long = length-set after left page ∙ k.long;
        low = k.low;
        high = k.high;
        tells = λ p l m. holds_put after left page p h ∙ ap (λ (b : Bool). eqb page p || b) (k.tells p l m);
      }

-- ---- the pages of a list

-- With this rest of a list still to be walked, the pages of the window are kept at the end.
pub record Collecting (os : List ℕ) (from end : ℕ) (kept : List ℕ) (count limit : ℕ) (rest : List ℕ) : Type 0 where
  pub long : length kept ≡ 4096
  pub room : count ≤ 4096
  pub low : from ≤ limit
  pub high : limit ≤ end
  pub tells : (p : ℕ) → from ≤ p → p < limit → holds kept count p || is_in (p * 4096) rest ≡ is_in (p * 4096) os

module _ (os : List ℕ) (from end : ℕ) where
  pub collect_none : (kept : List ℕ) → length kept ≡ 4096 → from ≤ end → Collecting os from end kept 0 end os
  collect_none kept long h =
      record {
        long = long;
        room = omega arith;
        low = h;
        high = omega arith;
        tells = λ p l m. ap (λ (b : Bool). b || is_in (p * 4096) os) (holds_none kept p);
      }

  pub collect_one : (kept kept' : List ℕ) (count count' limit limit' o : ℕ) (rest : List ℕ) → o % 4096 ≡ 0
      → Collecting os from end kept count limit (o ∷ rest) → KeepsOne from limit (o / 4096) kept count kept' count' limit'
      → Collecting os from end kept' count' limit' rest
  unfolding is_in
  collect_one kept kept' count count' limit limit' o rest a g k =
      let h = k.high in
      let i = g.high in
      record {
        long = k.long ∙ g.long;
        room = k.room;
        low = k.low;
        high = omega arith;
        tells = λ p l m.
            ap (λ (b : Bool). b || is_in (p * 4096) rest)
            (k.tells p l m ∙ ap (λ (b : Bool). b || holds kept count p) (sym (same_page o p a)))
            ∙ (turn_or (eqb o (p * 4096)) (holds kept count p) (is_in (p * 4096) rest) ∙ g.tells p l (omega arith));
      }

  pub collect_done : (kept : List ℕ) (count limit : ℕ) → Collecting os from end kept count limit [] → Collects os from end kept count limit
  unfolding is_in
  collect_done kept count limit g =
      record {
        room = g.room;
        low = g.low;
        high = g.high;
        tells = λ p l m. sym (none_or (holds kept count p)) ∙ g.tells p l m;
      }

-- The places behind those counted don't matter.
holds_front : (kept : List ℕ) (m n p : ℕ) → n ≤ m → holds (take m kept) n p ≡ holds kept n p
unfolding holds
holds_front kept m zero p h = refl
holds_front kept m (suc n) p h =
    ap (λ (x : ℕ). eqb x p || holds (take m kept) n p) (get_or-take m kept n 0 (omega arith))
    ∙ ap (λ (b : Bool). eqb (get_or kept n 0) p || b) (holds_front kept m n p (omega arith))

-- They are those of the window that ends where it does, and the places counted tell them.
pub collects_own : (os : List ℕ) (from end : ℕ) (kept : List ℕ) (count limit : ℕ) → Collects os from end kept count limit
    → count ≤ length kept → Collects os from limit (take count kept) (length (take count kept)) limit
collects_own os from end kept count limit c h =
    rw (length-take-le count kept h)
    (record {
      room = c.room;
      low = c.low;
      high = omega arith;
      tells = λ p l m. holds_front kept count count p (omega arith) ∙ c.tells p l m;
    })

-- ---- the least from a page on

module _ (kept : List ℕ) (page end : ℕ) where
  pub least_none : page ≤ end → LeastFrom kept 0 page end end
  least_none h =
      record { low = h; high = omega arith; held = λ l. absurd (omega arith); none_below = λ p l m. holds_none kept p }

  -- A place more: it holds a page before, one no lower than the least so far, or a lower one.
  pub least_kept : (i least : ℕ) → LeastFrom kept i page end least → (page ≤ get_or kept i 0 → least ≤ get_or kept i 0)
      → LeastFrom kept (i + 1) page end least
  least_kept i least s n =
      record {
        low = s.low;
        high = s.high;
        held = λ l. holds_step kept i least ∙ or_right (eqb (get_or kept i 0) least) (holds kept i least) (s.held l);
        none_below = λ p l m.
            holds_step kept i p
            ∙ rw (
              ne_eqb (get_or kept i 0) p (λ z. let k = n (omega arith) in omega arith),
              s.none_below p l m,
            );
      }

  pub least_taken : (i least : ℕ) → LeastFrom kept i page end least → page ≤ get_or kept i 0 → get_or kept i 0 ≤ least
      → LeastFrom kept (i + 1) page end (get_or kept i 0)
  least_taken i least s h k =
      let high = s.high in
      record {
        low = h;
        high = omega arith;
        held = λ l. holds_step kept i (get_or kept i 0) ∙ or_left (eqb (get_or kept i 0) (get_or kept i 0)) _ (eq-eqb (get_or kept i 0) _ refl);
        none_below = λ p l m. holds_step kept i p ∙ rw (ne_eqb (get_or kept i 0) p (λ z. omega arith), s.none_below p l (omega arith));
      }

  -- The distance of a page, which wraps where it lies before.
  pub least_step : (i near ahead : ℕ) → LeastFrom kept i page end (page + near) → page + near < 2 ^ 64 → ahead < 2 ^ 64
      → (ahead + page) % 2 ^ 64 ≡ get_or kept i 0 → LeastFrom kept (i + 1) page end (page + min near ahead)
  least_step i near ahead s small fits e =
      ⊎_elim
      (λ (h : ahead < near).
      let z : page + min near ahead ≡ get_or kept i 0 = omega arith in
      subst (λ (n : ℕ). LeastFrom kept (i + 1) page end n) (sym z) (least_taken i (page + near) s (omega arith) (omega arith)))
      (λ (h : near ≤ ahead).
      let z : page + min near ahead ≡ page + near = omega arith in
      subst (λ (n : ℕ). LeastFrom kept (i + 1) page end n) (sym z) (least_kept i (page + near) s (λ k. omega arith)))
      (lt_or_ge ahead near)

-- ---- the search goes on

module _ (os : List ℕ) (from end : ℕ) (kept : List ℕ) (count : ℕ) (c : Collects os from end kept count end)
    (n page start : ℕ) (s : Sought n page start os) (g : ToGoOn page start n) (low : from ≤ page)
    (next : ℕ) (l : LeastFrom kept count page end next)
  where
    -- up to the next page that is freed, or the end
    pub begins_there : Sought n next (begins_from start page next) os
    unfolding begins_from
    begins_there =
        let a = l.low in
        let b = l.high in
        ⊎_elim
        (λ (h : page < next).
        subst (λ (t : Bool). Sought n next (cond t next start) os) (sym (lt-ltb page next h))
        (sought_past n page start os s next g.some_pages g.short h
        (λ p m k. sym (c.tells p (omega arith) (omega arith)) ∙ l.none_below p m k)))
        (λ (h : next ≤ page).
        subst (λ (t : Bool). Sought n next (cond t next start) os) (sym (le-ltb page next h))
        (let z : page ≡ next = omega arith in subst (λ (q : ℕ). Sought n q start os) z s))
        (lt_or_ge page next)

    -- and past that page
    pub begins_freed : next < end → Sought n (next + 1) (begins_from start page next) os
    begins_freed h =
        let a = l.low in
        sought_freed n next (begins_from start page next) os begins_there (sym (c.tells next (omega arith) h) ∙ l.held h)

pub begins_on : (start page next n : ℕ) → ToGoOn page start n → page ≤ next → ToGoOn next (begins_from start page next) n
unfolding begins_from
begins_on start page next n g h =
    let some = g.some_pages in
    let begun = g.begun in
    let short = g.short in
    ⊎_elim
    (λ (k : page < next).
    subst (λ (t : Bool). ToGoOn next (cond t next start) n) (sym (lt-ltb page next k))
    (record { some_pages = some; begun = omega arith; short = omega arith }))
    (λ (k : next ≤ page).
    subst (λ (t : Bool). ToGoOn next (cond t next start) n) (sym (le-ltb page next k))
    (record { some_pages = some; begun = omega arith; short = omega arith }))
    (lt_or_ge page next)
