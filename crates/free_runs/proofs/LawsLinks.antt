-- Taking the pages of a run out of a list: which are passed over, and what the links become. Assumes nothing.
use Rattle.std.proofs.Common.{◌≡◌, ℕ, zero, suc, ◌+◌, ◌-◌, ◌%◌, ◌<◌, ◌≤◌, Bool, true, false, cond, ◌&&◌, ◌||◌, eqb, leb, List, [], ◌∷◌, length, drop, sym, refl, ap, ◌∙◌, subst, ⊎_elim, true≢false, arith, take-append-drop, drop-drop, le-ltb, lt-ltb, eq-eqb, eqb-true, le-leb}
use borrow.Author.Tests.{lt-leb}
use Rattle.buffer.specs.Bytes.{part, overwrite}
use Rattle.buffer.specs.LittleEndian.{little_endian, bytes_of, AreBytes}
use Rattle.buffer.proofs.LawsOverwrite.{length_part, part_before, part_after}
use Rattle.buffer.proofs.LawsBytes.{length_overwrite}
use Rattle.buffer.proofs.LawsApart.{overwrite_apart}
use Rattle.buffer.proofs.LawsLittleEndian.{bytes_of_little_endian, part_bytes}
use Rattle.buffer.proofs.LawsOrder.{lt_or_ge}
use Rattle.scripthash_free.specs.FreeList.{next_of, is_block}
use Rattle.scripthash_free.proofs.LawsBlock.{stands_block, not_holds, Standing}
use Rattle.free_runs.proofs.LawsRuns.{and_both, either, or_left, or_right}
use Rattle.free_runs.specs.Runs.{is_in, in_run, left_of}
use Rattle.free_runs.specs.PageList.{walked, pages_end, top_of, relinked}
use Rattle.free_runs.specs.Steps.{PassedOver}
use Rattle.free_runs.proofs.LawsWalk.{ends_page, ends_apart, walked_step, walked_pages}

-- ---- passing over

-- From a place on, pages of a run were passed over, up to another.
pub record Passed (mark : ℕ) (body : List ℕ) (from end at left to rest : ℕ) : Type 0 where
  pub ends : pages_end mark rest body to ≡ true
  pub fewer : rest ≤ left
  pub same : left_of from end (walked rest body to) ≡ left_of from end (walked left body at)
  pub among : (x : ℕ) → is_in x (walked left body at) ≡ false → is_in x (walked rest body to) ≡ false

pub left_taken : (from end x : ℕ) (xs : List ℕ) → in_run from end x ≡ true → left_of from end (x ∷ xs) ≡ left_of from end xs
unfolding left_of
left_taken from end x xs e = ap (λ (t : Bool). cond t (left_of from end xs) (x ∷ left_of from end xs)) e

pub left_kept : (from end x : ℕ) (xs : List ℕ) → in_run from end x ≡ false → left_of from end (x ∷ xs) ≡ x ∷ left_of from end xs
unfolding left_of
left_kept from end x xs e = ap (λ (t : Bool). cond t (left_of from end xs) (x ∷ left_of from end xs)) e

-- An offset that isn't in a list is not its first, and not in its rest.
pub not_in : (x y : ℕ) (ys : List ℕ) → is_in x (y ∷ ys) ≡ false → (y ≡ x → ⊥) × (is_in x ys ≡ false)
unfolding is_in
not_in x y ys e = split (eqb y x) (is_in x ys) e (λ (z : y ≡ x). eq-eqb y x z)
  where
    split : (a b : Bool) → a || b ≡ false → (y ≡ x → a ≡ true) → (y ≡ x → ⊥) × (b ≡ false)
    split true b e f = absurd (true≢false e)
    split false b e f = (λ z. true≢false (sym (f z)), e)

module _ (mark : ℕ) (body : List ℕ) (from end at left : ℕ) where
  pub passed_none : pages_end mark left body at ≡ true → Passed mark body from end at left at left
  passed_none e = record { ends = e; fewer = omega arith; same = refl; among = λ x h. h }

  module _ (to rest : ℕ) (p : Passed mark body from end at left to rest) where
    pub passed_one : 0 < rest → from ≤ to → to < end → Passed mark body from end at left (next_of body to) (rest - 1)
    passed_one more l h =
        let s = walked_step mark body rest to more in
        let in-run : in_run from end to ≡ true = simp (le-leb from to l, lt-ltb to end h) in
        record {
          ends = (ends_page mark body rest to more p.ends).1;
          fewer = let f = p.fewer in omega arith;
          same = sym (left_taken from end to _ in-run) ∙ (ap (λ (xs : List ℕ). left_of from end xs) (sym s) ∙ p.same);
          among = λ x k. (not_in x to _ (rw s at (p.among x k))).1;
        }

    pub passed_to : (0 < rest → in_run from end to ≡ false) → PassedOver mark body from end at left to rest
    passed_to h = record { ends = p.ends; fewer = p.fewer; same = p.same; stays = h; among = p.among }

pub below_run : (from end x : ℕ) → x < from → in_run from end x ≡ false
below_run from end x h = rw (lt-leb from x h)

none_and : (a : Bool) → a && false ≡ false
none_and true = refl
none_and false = refl

pub behind_run : (from end x : ℕ) → end ≤ x → in_run from end x ≡ false
behind_run from end x h = rw (le-ltb x end h) (none_and (leb from x))

-- ---- a link that stays

pub overwrite_same : (b : List ℕ) (o n : ℕ) → o + n ≤ length b → overwrite b o (part b o n) ≡ b
unfolding overwrite part
overwrite_same b o n h =
    rw (length_part b o n h, ← drop-drop n o b, take-append-drop n (drop o b), take-append-drop o b)

pub link_kept : (b : List ℕ) (at : ℕ) → AreBytes b → at + 8 ≤ length b → overwrite b at (bytes_of 8 (next_of b at)) ≡ b
link_kept b at bytes h =
    let e : bytes_of 8 (next_of b at) ≡ part b at 8 =
    ap (λ (k : ℕ). bytes_of k (next_of b at)) (sym (length_part b at 8 h)) ∙ bytes_of_little_endian (part b at 8) (part_bytes b at 8 bytes) in
    ap (λ (ys : List ℕ). overwrite b at ys) e ∙ overwrite_same b at 8 h

-- ---- links

-- A page of a list, in a body that has all of them: none of them is it, and each is a page within the body.
pub record Apart (size x : ℕ) (xs : List ℕ) : Type 0 where
  pub other : is_in x xs ≡ false
  pub aligned : x % 4096 ≡ 0
  pub fits : x + 8 ≤ size
  pub pages : (y : ℕ) → is_in y xs ≡ true → (y % 4096 ≡ 0) × (y + 8 ≤ size)

pub in_first : (y : ℕ) (ys : List ℕ) → is_in y (y ∷ ys) ≡ true
unfolding is_in
in_first y ys = ap (λ (a : Bool). a || is_in y ys) (eq-eqb y y refl)

pub in_rest : (x y : ℕ) (ys : List ℕ) → is_in x ys ≡ true → is_in x (y ∷ ys) ≡ true
unfolding is_in
in_rest x y ys e = ap (λ (b : Bool). eqb y x || b) e ∙ or_true (eqb y x)
  where
    or_true : (a : Bool) → a || true ≡ true
    or_true true = refl
    or_true false = refl

apart_rest : (size x y : ℕ) (ys : List ℕ) → Apart size x (y ∷ ys) → Apart size x ys
apart_rest size x y ys a =
    record {
      other = (not_in x y ys a.other).1;
      aligned = a.aligned;
      fits = a.fits;
      pages = λ z e. a.pages z (in_rest z y ys e);
    }

-- Two writes of links at pages apart may come in either order.
links_turn : (b : List ℕ) (x y v w : ℕ) → (y ≡ x → ⊥) → x % 4096 ≡ 0 → y % 4096 ≡ 0 → x + 8 ≤ length b → y + 8 ≤ length b
    → overwrite (overwrite b x (bytes_of 8 v)) y (bytes_of 8 w) ≡ overwrite (overwrite b y (bytes_of 8 w)) x (bytes_of 8 v)
links_turn b x y v w n ax ay fx fy =
    ⊎_elim (λ (l : x < y). overwrite_apart b x (bytes_of 8 v) y (bytes_of 8 w) (omega arith) (omega arith))
    (λ (g : y ≤ x). sym (overwrite_apart b y (bytes_of 8 w) x (bytes_of 8 v) (omega arith) (omega arith)))
    (lt_or_ge x y)

pub length_relinked : (xs b : List ℕ) → ((y : ℕ) → is_in y xs ≡ true → y + 8 ≤ length b) → length (relinked xs b) ≡ length b
unfolding relinked
length_relinked [] b h = refl
length_relinked (x ∷ xs) b h =
    let rest = length_relinked xs b (λ y e. h y (in_rest y x xs e)) in
    let fits = h x (in_first x xs) in
    length_overwrite (relinked xs b) x (bytes_of 8 (top_of xs)) (omega arith) ∙ rest

-- A link written first, or behind the links of others.
pub linked_turn : (xs b : List ℕ) (x v : ℕ) → Apart (length b) x xs
    → relinked xs (overwrite b x (bytes_of 8 v)) ≡ overwrite (relinked xs b) x (bytes_of 8 v)
unfolding relinked
linked_turn [] b x v a = refl
linked_turn (y ∷ ys) b x v a =
    let r = apart_rest (length b) x y ys a in
    let here = a.pages y (in_first y ys) in
    let long = length_relinked ys b (λ z e. (r.pages z e).1) in
    ap (λ (c : List ℕ). overwrite c y (bytes_of 8 (top_of ys))) (linked_turn ys b x v r)
    ∙ links_turn (relinked ys b) x y v (top_of ys) (not_in x y ys a.other).0 a.aligned here.0 (let f = a.fits in omega arith)
    (let f = here.1 in omega arith)

-- ---- the walk after a write

-- A page that isn't in the list has its link written: the list is the same.
module _ (mark : ℕ) (b : List ℕ) (x v : ℕ) (ax : x % 4096 ≡ 0) (fx : x + 8 ≤ length b) where
  next_same : (o : ℕ) → (o ≡ x → ⊥) → o % 4096 ≡ 0 → next_of (overwrite b x (bytes_of 8 v)) o ≡ next_of b o
  next_same o n ao =
      ap little_endian
      (⊎_elim (λ (l : x < o). part_after b x (bytes_of 8 v) fx o 8 (omega arith))
      (λ (g : o ≤ x). part_before b x (bytes_of 8 v) fx o 8 (omega arith))
      (lt_or_ge x o))

  pub walk_same : (k o : ℕ) → pages_end mark k b o ≡ true → is_in x (walked k b o) ≡ false
      → (walked k (overwrite b x (bytes_of 8 v)) o ≡ walked k b o) × (pages_end mark k (overwrite b x (bytes_of 8 v)) o ≡ true)
  unfolding walked pages_end
  walk_same zero o e n = (refl, e)
  walk_same (suc k) o e n =
      let p = ends_page mark b (suc k) o (omega arith) e in
      let z : suc k - 1 ≡ k = omega arith in
      let m = not_in x o (walked k b (next_of b o)) n in
      let s = next_same o m.0 p.0.aligned in
      let r = walk_same k (next_of b o) (rw z at p.1) m.1 in (
        ap (λ (l : ℕ). o ∷ walked k (overwrite b x (bytes_of 8 v)) l) s ∙ ap (λ (os : List ℕ). o ∷ os) r.0,
        and_both (is_block 8 o mark) _ (stands_block 8 o mark p.0)
            (subst (λ (l : ℕ). pages_end mark k (overwrite b x (bytes_of 8 v)) l ≡ true) (sym s) r.1),
      )

-- ---- a page of the list whose link is written

-- What is left of a list is of it.
in_both : (y x : ℕ) (xs ys : List ℕ) → (is_in y xs ≡ true → is_in y ys ≡ true) → is_in y (x ∷ xs) ≡ true → is_in y (x ∷ ys) ≡ true
unfolding is_in
in_both y x xs ys f e =
    ⊎_elim (λ (h : eqb x y ≡ true). or_left (eqb x y) (is_in y ys) h)
    (λ (h : is_in y xs ≡ true). or_right (eqb x y) (is_in y ys) (f h))
    (either (eqb x y) (is_in y xs) e)

left_step : (from end y x : ℕ) (xs : List ℕ) (t : Bool) → in_run from end x ≡ t → (is_in y (left_of from end xs) ≡ true → is_in y xs ≡ true)
    → is_in y (left_of from end (x ∷ xs)) ≡ true → is_in y (x ∷ xs) ≡ true
left_step from end y x xs true h f e = in_rest y x xs (f (subst (λ (l : List ℕ). is_in y l ≡ true) (left_taken from end x xs h) e))
left_step from end y x xs false h f e =
    in_both y x (left_of from end xs) xs f (subst (λ (l : List ℕ). is_in y l ≡ true) (left_kept from end x xs h) e)

pub left_among : (from end y : ℕ) (os : List ℕ) → is_in y (left_of from end os) ≡ true → is_in y os ≡ true
unfolding left_of
left_among from end y [] e = e
left_among from end y (x ∷ xs) e = left_step from end y x xs (in_run from end x) refl (left_among from end y xs) e

-- The first page that is left is where the passing over ends.
pub skipped_top : (mark : ℕ) (body : List ℕ) (from end at left to rest : ℕ) → PassedOver mark body from end at left to rest
    → top_of (left_of from end (walked rest body to)) ≡ to
unfolding walked left_of pages_end
skipped_top mark body from end at left to zero s = sym (eqb-true to 0 s.ends)
skipped_top mark body from end at left to (suc rest) s =
    ap top_of (left_kept from end to (walked rest body (next_of body to)) (s.stays (omega arith)))

module _
    (mark : ℕ) (body : List ℕ) (within : mark ≤ length body) (from end x left : ℕ)
    (ends : pages_end mark left body x ≡ true) (more : 0 < left) (stays : in_run from end x ≡ false)
    (to rest : ℕ) (s : PassedOver mark body from end (next_of body x) (left - 1) to rest)
  where
    abbrev after : List ℕ
    after = overwrite body x (bytes_of 8 to)

    abbrev kept : List ℕ
    kept = left_of from end (walked rest body to)

    here : Standing 8 x mark
    here = (ends_page mark body left x more ends).0

    fits : x + 8 ≤ length body
    fits = let h = here.ends in omega arith

    away : is_in x (walked rest body to) ≡ false
    away =
        let z : suc (left - 1) ≡ left = omega arith in
        s.among x (ends_apart mark body (left - 1) x (rw z ends))

    apart : Apart (length body) x kept
    apart =
        record {
          other = not_holds _ (λ e. true≢false (sym (left_among from end x (walked rest body to) e) ∙ away));
          aligned = here.aligned;
          fits = fits;
          pages = λ y e.
              let ps = walked_pages mark body rest to s.ends in
              let m = left_among from end y (walked rest body to) e in
              (ps.aligned y m, let b = ps.below y m in omega arith);
        }

    pub still_ends : pages_end mark rest after to ≡ true
    still_ends = (walk_same mark body x to here.aligned fits rest to s.ends away).1

    pub still_long : length after ≡ length body
    still_long = length_overwrite body x (bytes_of 8 to) fits

    -- With its link written, what is left of the list gives the whole.
    pub link_step : relinked (left_of from end (walked rest after to)) after ≡ relinked (left_of from end (walked left body x)) body
    unfolding relinked
    link_step =
        ap (λ (os : List ℕ). relinked (left_of from end os) after) (walk_same mark body x to here.aligned fits rest to s.ends away).0
        ∙ (linked_turn kept body x to apart
        ∙ (ap (λ (v : ℕ). overwrite (relinked kept body) x (bytes_of 8 v))
        (sym (skipped_top mark body from end (next_of body x) (left - 1) to rest s))
        ∙ ap (λ (os : List ℕ). relinked os body)
        (ap (λ (os : List ℕ). x ∷ os) s.same
        ∙ (sym (left_kept from end x (walked (left - 1) body (next_of body x)) stays)
        ∙ ap (λ (os : List ℕ). left_of from end os) (sym (walked_step mark body left x more))))))
