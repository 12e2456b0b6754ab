-- A stack and the list that names it: no page twice, how many there can be and are left, what the links name, which bytes stay; and no
-- page in use is on a list that passed. By induction on the list. Assumes nothing.
use Rattle.std.proofs.Common.{◌≡◌, ℕ, zero, suc, ◌+◌, ◌-◌, ◌*◌, ◌/◌, ◌%◌, ◌^◌, ◌<◌, ◌≤◌, Bool, true, false, cond, eqb, ◌⊎◌, List, [], ◌∷◌, length, get_or, sym, refl, ap, ◌∙◌, subst, inl, inr, ⊎_elim, true≢false, arith, le-ltb, lt-ltb, eq-eqb, eqb-true, le-leb}
use borrow.Author.Tests.{lt-leb}
use Rattle.buffer.specs.Bytes.{part, overwrite}
use Rattle.buffer.specs.LittleEndian.{little_endian, bytes_of}
use Rattle.buffer.proofs.LawsOrder.{lt_or_ge}
use Rattle.buffer.proofs.LawsOverwrite.{part_written, part_before, part_after, part_step}
use Rattle.buffer.proofs.LawsLittleEndian.{little_endian_bytes_of}
use Rattle.buffer.proofs.LawsBytes.{length_overwrite}
use Rattle.scripthash_free.specs.FreeList.{next_of, is_block, IsFreeList, Clear}
use Rattle.scripthash_free.proofs.LawsBlock.{not_holds}
use Rattle.scripthash_free.proofs.LawsFreeList.{free_list_write}
use Rattle.free_runs.specs.Runs.{is_in, in_run, left_of, Freed}
use Rattle.free_runs.specs.PageList.{walked, pages_end, top_of, relinked}
use Rattle.free_runs.proofs.LawsRuns.{and_both, either}
use Rattle.free_runs.proofs.LawsFlags.{same_or_not}
use Rattle.free_runs.proofs.LawsWalk.{ends_page, ends_apart, from_member, walked_pages}
use Rattle.free_runs.proofs.LawsLinks.{not_in, left_kept, left_taken, left_among, in_first, in_rest, length_relinked}

-- ---- the stack and the list

-- Every offset of a list is a page's below a mark.
unfoldable pub AllPages : ℕ → List ℕ → Type 0
AllPages mark [] = Unit
AllPages mark (o ∷ os) = (is_block 8 o mark ≡ true) × AllPages mark os

-- The list that names a stack is walked as it, and ends after as many pages as it has.
pub names_walked : (body : List ℕ) (head : ℕ) (os : List ℕ) → IsFreeList body head os → walked (length os) body head ≡ os
unfolding IsFreeList walked
names_walked body head [] n = refl
names_walked body head (o ∷ os) n =
    let rest = subst (λ (h : ℕ). IsFreeList body (next_of body h) os) (sym n.0) n.3 in
    ap (λ (x : ℕ). x ∷ walked (length os) body (next_of body head)) n.0
    ∙ ap (λ (xs : List ℕ). o ∷ xs) (names_walked body (next_of body head) os rest)

pub names_end : (mark : ℕ) (body : List ℕ) (head : ℕ) (os : List ℕ) → AllPages mark os → IsFreeList body head os
    → pages_end mark (length os) body head ≡ true
unfolding IsFreeList pages_end AllPages
names_end mark body head [] a n = eq-eqb head 0 n
names_end mark body head (o ∷ os) a n =
    let rest = subst (λ (h : ℕ). IsFreeList body (next_of body h) os) (sym n.0) n.3 in
    and_both _ _ (subst (λ (h : ℕ). is_block 8 h mark ≡ true) (sym n.0) a.0) (names_end mark body (next_of body head) os a.1 rest)

-- A list that passed names what is walked.
pub ends_names : (mark : ℕ) (body : List ℕ) → mark ≤ length body → (k head : ℕ) → pages_end mark k body head ≡ true
    → IsFreeList body head (walked k body head)
unfolding IsFreeList walked pages_end
ends_names mark body within zero head e = eqb-true head 0 e
ends_names mark body within (suc k) head e =
    let p = ends_page mark body (suc k) head (omega arith) e in
    let z : suc k - 1 ≡ k = omega arith in
    let b = p.0.begins in
    let f = p.0.ends in
    (refl, omega arith, omega arith, ends_names mark body within k (next_of body head) (rw z at p.1))

pub length_walked : (k : ℕ) (body : List ℕ) (head : ℕ) → length (walked k body head) ≡ k
unfolding walked
length_walked zero body head = refl
length_walked (suc k) body head = ap (λ (n : ℕ). suc n) (length_walked k body (next_of body head))

-- ---- no page twice

unfoldable pub Distinct : List ℕ → Type 0
Distinct [] = Unit
Distinct (o ∷ os) = (is_in o os ≡ false) × Distinct os

pub walked_distinct : (mark : ℕ) (body : List ℕ) (k head : ℕ) → pages_end mark k body head ≡ true → Distinct (walked k body head)
unfolding Distinct walked
walked_distinct mark body zero head e = tt
walked_distinct mark body (suc k) head e =
    let z : suc k - 1 ≡ k = omega arith in
    let rest = (ends_page mark body (suc k) head (omega arith) e).1 in
    (ends_apart mark body k head e, walked_distinct mark body k (next_of body head) (rw z at rest))

left_by : (from end x : ℕ) (xs : List ℕ) (t : Bool) → in_run from end x ≡ t → is_in x xs ≡ false → Distinct (left_of from end xs)
    → Distinct (left_of from end (x ∷ xs))
unfolding Distinct
left_by from end x xs true e n d = subst (λ (l : List ℕ). Distinct l) (sym (left_taken from end x xs e)) d
left_by from end x xs false e n d =
    subst (λ (l : List ℕ). Distinct l) (sym (left_kept from end x xs e))
    (not_holds _ (λ h. true≢false (sym (left_among from end x xs h) ∙ n)), d)

pub left_distinct : (from end : ℕ) (os : List ℕ) → Distinct os → Distinct (left_of from end os)
unfolding Distinct left_of
left_distinct from end [] d = tt
left_distinct from end (x ∷ xs) d = left_by from end x xs (in_run from end x) refl d.0 (left_distinct from end xs d.1)

-- ---- how many are left

-- Of a list without a page, what is left is the same with that page in the run.
same_run : (from end x : ℕ) → x % 4096 ≡ 0 → from % 4096 ≡ 0 → end % 4096 ≡ 0 → from ≤ end → (end ≡ x → ⊥)
    → in_run from (end + 4096) x ≡ in_run from end x
same_run from end x a b c l n =
    ⊎_elim
    (λ (h : x < end). rw (lt-ltb x end h, lt-ltb x (end + 4096) (omega arith)))
    (λ (h : end ≤ x). rw (le-ltb x end h, le-ltb x (end + 4096) (omega arith)))
    (lt_or_ge x end)

module _ (from end : ℕ) (b : from % 4096 ≡ 0) (c : end % 4096 ≡ 0) (l : from ≤ end) where
  -- The page at the end isn't in the list.
  left_same : (os : List ℕ) → ((o : ℕ) → is_in o os ≡ true → o % 4096 ≡ 0) → is_in end os ≡ false
      → left_of from (end + 4096) os ≡ left_of from end os
  unfolding left_of
  left_same [] a n = refl
  left_same (x ∷ xs) a n =
      let m = not_in end x xs n in
      let r = left_same xs (λ o h. a o (in_rest o x xs h)) m.1 in
      let t = same_run from end x (a x (in_first x xs)) b c l (λ z. m.0 (sym z)) in
      ap (λ (u : Bool). cond u (left_of from (end + 4096) xs) (x ∷ left_of from (end + 4096) xs)) t
      ∙ ap (λ (ys : List ℕ). cond (in_run from end x) ys (x ∷ ys)) r

  abbrev Fewer : List ℕ → Type 0
  Fewer os = length (left_of from (end + 4096) os) + 1 ≡ length (left_of from end os)

  -- It is in the list, once.
  fewer_first : (xs : List ℕ) → ((o : ℕ) → is_in o xs ≡ true → o % 4096 ≡ 0) → is_in end xs ≡ false → Fewer (end ∷ xs)
  fewer_first xs a n =
      let gone : in_run from (end + 4096) end ≡ true = simp (le-leb from end l, lt-ltb end (end + 4096) (omega arith)) in
      let there : in_run from end end ≡ false = rw (le-leb from end l, le-ltb end end (omega arith)) in
      let p = ap length (left_taken from (end + 4096) end xs gone) in
      let q = ap length (left_kept from end end xs there) in
      let r = ap length (left_same xs a n) in
      omega arith

  fewer_rest : (x : ℕ) (xs : List ℕ) (t : Bool) → in_run from end x ≡ t → in_run from (end + 4096) x ≡ t → Fewer xs → Fewer (x ∷ xs)
  fewer_rest x xs true e f r =
      let p = ap length (left_taken from (end + 4096) x xs f) in let q = ap length (left_taken from end x xs e) in omega arith
  fewer_rest x xs false e f r =
      let p = ap length (left_kept from (end + 4096) x xs f) in let q = ap length (left_kept from end x xs e) in omega arith

  pub left_fewer : (os : List ℕ) → ((o : ℕ) → is_in o os ≡ true → o % 4096 ≡ 0) → Distinct os → is_in end os ≡ true → Fewer os
  unfolding Distinct is_in
  left_fewer [] a d i = absurd (true≢false (sym i))
  left_fewer (x ∷ xs) a d i =
      ⊎_elim
      (λ (z : x ≡ end).
      subst (λ (y : ℕ). Fewer (y ∷ xs)) (sym z)
      (fewer_first xs (λ o h. a o (in_rest o x xs h)) (subst (λ (y : ℕ). is_in y xs ≡ false) z d.0)))
      (λ (n : x ≡ end → ⊥).
      fewer_rest x xs (in_run from end x) refl (same_run from end x (a x (in_first x xs)) b c l (λ z. n (sym z)))
      (left_fewer xs (λ o h. a o (in_rest o x xs h)) d.1
      (⊎_elim (λ (h : eqb x end ≡ true). absurd (n (eqb-true x end h))) (λ (h : is_in end xs ≡ true). h)
      (either (eqb x end) (is_in end xs) i))))
      (same_or_not x end)

left_none : (from : ℕ) (os : List ℕ) → left_of from (from + 0 * 4096) os ≡ os
unfolding left_of
left_none from [] = refl
left_none from (x ∷ xs) =
    let out : in_run from (from + 0 * 4096) x ≡ false =
    ⊎_elim (λ (h : x < from). rw (lt-leb from x h))
    (λ (h : from ≤ x). rw (le-leb from x h) (le-ltb x (from + 0 * 4096) (omega arith)))
    (lt_or_ge x from) in
    left_kept from (from + 0 * 4096) x xs out ∙ ap (λ (ys : List ℕ). x ∷ ys) (left_none from xs)

-- A run takes as many pages out as it has.
pub left_count : (from n : ℕ) (os : List ℕ) → from % 4096 ≡ 0 → ((o : ℕ) → is_in o os ≡ true → o % 4096 ≡ 0) → Distinct os → Freed n from os
    → length (left_of from (from + n * 4096) os) + n ≡ length os
left_count from zero os b a d f = let z = ap length (left_none from os) in omega arith
left_count from (suc n) os b a d f =
    let r = left_count from n os b a d (λ i h. f i (omega arith)) in
    let s = left_fewer from (from + n * 4096) b (omega arith) (omega arith) os a d (f n (omega arith)) in
    let z : from + suc n * 4096 ≡ from + n * 4096 + 4096 = omega arith in
    rw z (omega arith)

-- ---- how many there can be

module _ (from : ℕ) (b : from % 4096 ≡ 0) (os : List ℕ) (a : (o : ℕ) → is_in o os ≡ true → o % 4096 ≡ 0) (d : Distinct os) where
  -- A page more takes at most one more out.
  one_more : (end : ℕ) (t : Bool) → end % 4096 ≡ 0 → from ≤ end → is_in end os ≡ t
      → length (left_of from end os) ≤ length (left_of from (end + 4096) os) + 1
  one_more end true c l e = let r = left_fewer from end b c l os a d e in omega arith
  one_more end false c l e = let r = ap length (left_same from end b c l os a e) in omega arith

  -- So many pages side by side take at most as many out.
  at_most : (n : ℕ) → length os ≤ length (left_of from (from + n * 4096) os) + n
  at_most zero = let z = ap length (left_none from os) in omega arith
  at_most (suc n) =
      let r = at_most n in
      let s = one_more (from + n * 4096) (is_in (from + n * 4096) os) (omega arith) (omega arith) refl in
      let z : from + suc n * 4096 ≡ from + n * 4096 + 4096 = omega arith in
      rw z (omega arith)

-- Nothing is left where all offsets lie between the two.
left_nothing : (from end : ℕ) (os : List ℕ) → ((o : ℕ) → is_in o os ≡ true → (from ≤ o) × (o < end)) → left_of from end os ≡ []
unfolding left_of
left_nothing from end [] h = refl
left_nothing from end (x ∷ xs) h =
    let w = h x (in_first x xs) in
    left_taken from end x xs (and_both _ _ (le-leb from x w.0) (lt-ltb x end w.1))
    ∙ left_nothing from end xs (λ o i. h o (in_rest o x xs i))

-- A list that passed has fewer pages than lie below the mark: the first 4,096 bytes are none of them.
pub ends_few : (mark count : ℕ) (body : List ℕ) (head : ℕ) → 4096 ≤ mark → pages_end mark count body head ≡ true → count + 1 ≤ mark / 4096
ends_few mark count body head room e =
    let os = walked count body head in
    let ps = walked_pages mark body count head e in
    let n = mark / 4096 - 1 in
    let between : (o : ℕ) → is_in o os ≡ true → (4096 ≤ o) × (o < 4096 + n * 4096) =
    λ o h.
    let r = from_member mark body count head o e h in
    let s = (ends_page mark body r.0 o r.2 r.3).0 in
    let i = s.begins in
    let j = ps.below o h in
    (i, omega arith) in
    let m = at_most 4096 refl os ps.aligned (walked_distinct mark body count head e) n in
    let none = ap length (left_nothing 4096 (4096 + n * 4096) os between) in
    let long = length_walked count body head in
    omega arith

-- A list of as many pages as lie below the mark, or more, doesn't pass.
pub ends_many : (mark count : ℕ) (body : List ℕ) (head : ℕ) → 4096 ≤ mark → mark / 4096 ≤ count → pages_end mark count body head ≡ false
ends_many mark count body head room many =
    not_holds _ (λ e. let few = ends_few mark count body head room e in omega arith)

-- ---- what the bytes hold afterwards

-- A list of pages keeps clear of the link of a page that isn't in it.
clear_of : (x : ℕ) → x % 4096 ≡ 0 → (os : List ℕ) → ((o : ℕ) → is_in o os ≡ true → o % 4096 ≡ 0) → is_in x os ≡ false → Clear 4096 x 8 os
unfolding Clear
clear_of x ax [] a n = tt
clear_of x ax (y ∷ ys) a n =
    let m = not_in x y ys n in
    let ay = a y (in_first y ys) in (
      ⊎_elim (λ (h : x < y). inr (omega arith)) (λ (h : y ≤ x). inl (let k : (y ≡ x → ⊥) = m.0 in omega arith)) (lt_or_ge x y),
      clear_of x ax ys (λ o h. a o (in_rest o y ys h)) m.1,
    )

-- The first of some pages fits 8 bytes.
top_fits : (os : List ℕ) (size : ℕ) → size < 256 ^ 8 → ((o : ℕ) → is_in o os ≡ true → o + 8 ≤ size) → top_of os < 256 ^ 8
top_fits [] size h f = omega arith
top_fits (o ∷ os) size h f = let k = f o (in_first o os) in omega arith

-- Pages that are relinked are named, from the first on.
pub linked_names : (body : List ℕ) → length body < 256 ^ 8 → (os : List ℕ) → ((o : ℕ) → is_in o os ≡ true → o % 4096 ≡ 0)
    → ((o : ℕ) → is_in o os ≡ true → (0 < o) × (o + 8 ≤ length body)) → Distinct os → IsFreeList (relinked os body) (top_of os) os
unfolding IsFreeList relinked Distinct
linked_names body small [] a f d = refl
linked_names body small (x ∷ xs) a f d =
    let rest = linked_names body small xs (λ o h. a o (in_rest o x xs h)) (λ o h. f o (in_rest o x xs h)) d.1 in
    let long = length_relinked xs body (λ o h. (f o (in_rest o x xs h)).1) in
    let here = f x (in_first x xs) in
    let fits : x + 8 ≤ length (relinked xs body) = let k = here.1 in omega arith in
    let same = length_overwrite (relinked xs body) x (bytes_of 8 (top_of xs)) fits in
    let next : next_of (overwrite (relinked xs body) x (bytes_of 8 (top_of xs))) x ≡ top_of xs =
    ap little_endian (part_written (relinked xs body) x (bytes_of 8 (top_of xs)) fits)
    ∙ little_endian_bytes_of 8 (top_of xs) (top_fits xs (length body) small (λ o h. (f o (in_rest o x xs h)).1)) in (
      refl,
      here.0,
      omega arith,
      subst (λ (h : ℕ). IsFreeList (overwrite (relinked xs body) x (bytes_of 8 (top_of xs))) h xs) (sym next)
          (free_list_write (relinked xs body) x (bytes_of 8 (top_of xs)) fits 4096 (omega arith) (top_of xs) xs
          (clear_of x (a x (in_first x xs)) xs (λ o h. a o (in_rest o x xs h)) d.0) rest),
    )

-- Bytes that keep clear of the links stay.
pub linked_part : (body : List ℕ) (os : List ℕ) (p n : ℕ)
    → ((o : ℕ) → is_in o os ≡ true → (o + 8 ≤ length body) × ((p + n ≤ o) ⊎ (o + 8 ≤ p)))
    → part (relinked os body) p n ≡ part body p n
unfolding relinked
linked_part body [] p n f = refl
linked_part body (x ∷ xs) p n f =
    let long = length_relinked xs body (λ o h. (f o (in_rest o x xs h)).0) in
    let here = f x (in_first x xs) in
    let fits : x + 8 ≤ length (relinked xs body) = let k = here.0 in omega arith in
    ⊎_elim (λ (h : p + n ≤ x). part_before (relinked xs body) x (bytes_of 8 (top_of xs)) fits p n h)
    (λ (h : x + 8 ≤ p). part_after (relinked xs body) x (bytes_of 8 (top_of xs)) fits p n h) here.1
    ∙ linked_part body xs p n (λ o h. f o (in_rest o x xs h))

-- ---- a page in use

-- The low byte of a page's link is its first byte.
link_low : (body : List ℕ) (p : ℕ) → p < length body → next_of body p % 256 ≡ get_or body p 0 % 256
link_low body p h = let e = ap little_endian (part_step body p 7 h) in ap (λ (n : ℕ). n % 256) e ∙ omega arith

-- A list that passed begins with 0 or a page.
ends_low : (mark : ℕ) (body : List ℕ) (k o : ℕ) → pages_end mark k body o ≡ true → o % 256 ≡ 0
unfolding pages_end
ends_low mark body zero o e = let z = eqb-true o 0 e in omega arith
ends_low mark body (suc k) o e = let a = (ends_page mark body (suc k) o (omega arith) e).0.aligned in omega arith

-- A page whose first byte is 1 to 255, as that of a page that holds records, doesn't stand in a list that passed.
pub held_not_freed : (mark : ℕ) (body : List ℕ) (k head p : ℕ) → pages_end mark k body head ≡ true → p < length body → 0 < get_or body p 0
    → get_or body p 0 < 256 → is_in p (walked k body head) ≡ false
held_not_freed mark body k head p e h low high =
    not_holds _ (λ i.
    let r = from_member mark body k head p e i in
    let after = (ends_page mark body r.0 p r.2 r.3).1 in
    let odd : next_of body p % 256 ≡ 0 → ⊥ = λ z. let l = link_low body p h in omega arith in
    odd (ends_low mark body (r.0 - 1) (next_of body p) after))
