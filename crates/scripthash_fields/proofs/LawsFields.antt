-- What the calls on a page's fields answer, case by case, from what the code found. Assumes nothing.
use Prim.Native.Nat.{ℕ, ◌+◌, ◌-◌, ◌*◌, ◌/◌, ◌%◌, ◌^◌, ◌≤◌, ◌<◌}
use mathlib.Core.Bool.{Bool, true, false, cond, not, ◌&&◌, ◌||◌}
use mathlib.Core.List.{List, [], ◌∷◌, ◌++◌}
use mathlib.Core.Option.{none, some}
use mathlib.Core.Path.{◌≡◌, refl, ap, sym, ◌∙◌}
use native.Mathlib.Numerals.{add-one}
use native.Mathlib.Omega.{arith}
use borrow.Author.Tests.{eq-eqb, ne_eqb, lt-ltb, le-ltb, le-leb, lt-leb}
use lib.Dec.{eqb, ltb, leb}
use lib.ListN.{length, set, take, replicate, replicate-append-replicate}
use lib.Seq.{take-suc-set}
use Rattle.error.specs.Refusal.{Answer, accepted, refused, refuse_if, link_unaligned, link_too_large, not_last, extent_count_zero, extent_base_bad}
use Rattle.error.specs.Refusal.{count_above_capacity, version_bad}
use Rattle.error.proofs.LawsAnswer.{refused≢accepted, passed, refuse_yes, refuse_no, refused_alike}
use Rattle.scripthash_layout.specs.Sizes.{page_size}
use Rattle.scripthash_fields.specs.Page.{version_of, count_of, link_of, extent_base_of, extent_count_of, creates_field_of, names_extent}
use Rattle.scripthash_fields.specs.Page.{stream_off, stream_cap}
use Rattle.scripthash_fields.specs.Page.{set_field, extent_version, is_last_link, link_offset, next_off, link_to, on_link, on_extent}
use Rattle.scripthash_fields.specs.Page.{link_named, extent_named, on_delta, delta_header, page_of}
use Rattle.scripthash_fields.specs.Fields.{read_link, is_last, first_off, next_off_of, extent_of, creates_of, n_fks, stream_off_of, stream_cap_of}
use Rattle.scripthash_fields.specs.Fields.{write_link, set_extent, set_creates, empty_page, done, after_set}
use Rattle.scripthash_fields.proofs.LawsPage.{page_yes}

-- ---- links and extents that are offered: each test in turn, and what comes after them

module _ {A : Type 0} (off : ℕ) (after : Answer A) where
  pub link_unaligned_lem : (off % page_size ≡ 0 → ⊥) → on_link off after ≡ refused link_unaligned
  unfolding refuse_if
  link_unaligned_lem h = rw (ne_eqb (off % page_size) 0 h)

  pub link_large : off % page_size ≡ 0 → 2 ^ 39 ≤ off / page_size → on_link off after ≡ refused link_too_large
  unfolding refuse_if
  link_large h l = rw (eq-eqb (off % page_size) 0 h, le-leb (2 ^ 39) (off / page_size) l)

  pub link_good : off % page_size ≡ 0 → off / page_size < 2 ^ 39 → on_link off after ≡ after
  unfolding refuse_if
  link_good h l = rw (eq-eqb (off % page_size) 0 h, lt-leb (2 ^ 39) (off / page_size) l)

-- an offset's remainder r and index q, turned so that the remainder stands above the index: they fit 64 bits, and are below 2^39 where
-- there is no remainder and the index is
module _ (r q : ℕ) where
  pub turned_fits : r < page_size → q < 2 ^ 52 → r * 2 ^ 52 + q < 2 ^ 64
  turned_fits h l = omega arith

  pub turned_named : r * 2 ^ 52 + q < 2 ^ 39 → (r ≡ 0) × (q < 2 ^ 39)
  turned_named h = (omega arith, omega arith)

  pub turned_large : r ≡ 0 → 2 ^ 39 ≤ r * 2 ^ 52 + q → 2 ^ 39 ≤ q
  turned_large h l = omega arith

module _ {A : Type 0} (base count : ℕ) (after : Answer A) where
  pub extent_zero : count ≡ 0 → on_extent base count after ≡ refused extent_count_zero
  unfolding refuse_if
  extent_zero h = rw (eq-eqb count 0 h)

  pub extent_unaligned : (count ≡ 0 → ⊥) → (base % page_size ≡ 0 → ⊥) → on_extent base count after ≡ refused extent_base_bad
  unfolding refuse_if
  extent_unaligned h u = rw (ne_eqb count 0 h, ne_eqb (base % page_size) 0 u)

  pub extent_baseless : (count ≡ 0 → ⊥) → base % page_size ≡ 0 → base ≡ 0 → on_extent base count after ≡ refused extent_base_bad
  unfolding refuse_if
  extent_baseless h u z = rw (ne_eqb count 0 h, eq-eqb (base % page_size) 0 u, eq-eqb base 0 z)

  pub extent_good : (count ≡ 0 → ⊥) → base % page_size ≡ 0 → (base ≡ 0 → ⊥) → on_extent base count after ≡ after
  unfolding refuse_if
  extent_good h u z = rw (ne_eqb count 0 h, eq-eqb (base % page_size) 0 u, ne_eqb base 0 z)

-- where nothing comes after the tests: the same refusal whatever comes after, and what comes after
module _ {A : Type 0} (off : ℕ) (after : Answer A) where
  pub link_no : {number : ℕ} → link_named off ≡ refused number → on_link off after ≡ refused number
  link_no e =
      refused_alike (not (eqb (off % page_size) 0)) link_unaligned _ _
      (refused_alike (leb (2 ^ 39) (off / page_size)) link_too_large _ _ (λ z. absurd (refused≢accepted (sym z)))) e

  pub link_yes : link_named off ≡ accepted tt → on_link off after ≡ after
  link_yes e =
      let u = passed (not (eqb (off % page_size) 0)) _ _ e in
      let l = passed (leb (2 ^ 39) (off / page_size)) _ _ u.1 in
      refuse_no (not (eqb (off % page_size) 0)) _ _ u.0 ∙ refuse_no (leb (2 ^ 39) (off / page_size)) _ _ l.0

module _ {A : Type 0} (base count : ℕ) (after : Answer A) where
  pub extent_no : {number : ℕ} → extent_named base count ≡ refused number → on_extent base count after ≡ refused number
  extent_no e =
      refused_alike (eqb count 0) extent_count_zero _ _
      (refused_alike (not (eqb (base % page_size) 0) || eqb base 0) extent_base_bad _ _ (λ z. absurd (refused≢accepted (sym z)))) e

  pub extent_yes : extent_named base count ≡ accepted tt → on_extent base count after ≡ after
  extent_yes e =
      let u = passed (eqb count 0) _ _ e in
      let l = passed (not (eqb (base % page_size) 0) || eqb base 0) _ _ u.1 in
      refuse_no (eqb count 0) _ _ u.0 ∙ refuse_no (not (eqb (base % page_size) 0) || eqb base 0) _ _ l.0

-- ---- what is asked of a page

within : (t : Bool) → cond t 24 8 ≤ 24
within true = omega arith
within false = omega arith

-- the stream starts at byte 24 at the latest
pub stream_off_within : (page : List ℕ) → stream_off page ≤ 24
stream_off_within page = within (names_extent page)

-- by the version
pub stream_off_extent : (page : List ℕ) → version_of page ≡ 2 → stream_off page ≡ 24
stream_off_extent page h = rw (eq-eqb (version_of page) 2 h)

pub stream_off_other : (page : List ℕ) → (version_of page ≡ 2 → ⊥) → stream_off page ≡ 8
stream_off_other page h = rw (ne_eqb (version_of page) 2 h)

-- by the link l: a page with LAST has none behind it, and another names it
pub behind_none : (page : List ℕ) (l : ℕ) → l ≡ link_of page → l % 2 ≡ 1 → next_off page ≡ 0
unfolding next_off
behind_none page l is h = rw (← is, eq-eqb (l % 2) 1 h)

pub behind_is : (page : List ℕ) (l : ℕ) → l ≡ link_of page → (l % 2 ≡ 1 → ⊥) → next_off page ≡ link_offset l
unfolding next_off
behind_is page l is h = rw (← is, ne_eqb (l % 2) 1 h)

module _ (page : List ℕ) (long : length page ≡ page_size) where
  -- the link l
  pub read_link_lem : (l : ℕ) → l ≡ link_of page → accepted (record { last = is_last_link l; off = link_offset l }) ≡ read_link page
  unfolding read_link refuse_if
  read_link_lem l is = rw (eq-eqb (length page) page_size long, ← is)

  pub is_last_lem : (l : ℕ) → l ≡ link_of page → accepted (is_last_link l) ≡ is_last page
  unfolding is_last refuse_if
  is_last_lem l is = rw (eq-eqb (length page) page_size long, ← is)

  pub first_no : (l : ℕ) → l ≡ link_of page → (l % 2 ≡ 1 → ⊥) → refused not_last ≡ first_off page
  unfolding first_off refuse_if
  first_no l is h = rw (eq-eqb (length page) page_size long, ← is, ne_eqb (l % 2) 1 h)

  pub first_yes : (l : ℕ) → l ≡ link_of page → l % 2 ≡ 1 → accepted (link_offset l) ≡ first_off page
  unfolding first_off refuse_if
  first_yes l is h = rw (eq-eqb (length page) page_size long, ← is, eq-eqb (l % 2) 1 h)

  pub next_is : (off : ℕ) → next_off page ≡ off → accepted off ≡ next_off_of page
  unfolding next_off_of
  next_is off is = sym (page_yes page (accepted (next_off page)) long ∙ ap (λ (o : ℕ). accepted o) is)

  -- the version v, extent and creates
  pub extent_none : (v : ℕ) → v ≡ version_of page → (v ≡ 2 → ⊥) → accepted none ≡ extent_of page
  unfolding extent_of refuse_if
  extent_none v is h = rw (eq-eqb (length page) page_size long, ← is, ne_eqb v 2 h)

  pub extent_is : (v b n : ℕ) → v ≡ version_of page → v ≡ 2 → b ≡ extent_base_of page → n ≡ extent_count_of page
      → on_extent b n (accepted (some (record { base = b; count = n }))) ≡ extent_of page
  unfolding extent_of refuse_if
  extent_is v b n is h base count = rw (eq-eqb (length page) page_size long, ← is, eq-eqb v 2 h, ← base, ← count)

  pub creates_none : (v : ℕ) → v ≡ version_of page → (v ≡ 2 → ⊥) → accepted 0 ≡ creates_of page
  unfolding creates_of refuse_if
  creates_none v is h = rw (eq-eqb (length page) page_size long, ← is, ne_eqb v 2 h)

  pub creates_is : (v n : ℕ) → v ≡ version_of page → v ≡ 2 → n ≡ creates_field_of page → accepted n ≡ creates_of page
  unfolding creates_of refuse_if
  creates_is v n is h e = rw (eq-eqb (length page) page_size long, ← is, eq-eqb v 2 h, ← e)

  -- the stream's start s, and the count n
  pub stream_off_is : (s : ℕ) → s ≡ stream_off page → accepted s ≡ stream_off_of page
  unfolding stream_off_of
  stream_off_is s is = ap (λ (t : ℕ). accepted t) is ∙ sym (page_yes page (accepted (stream_off page)) long)

  pub stream_cap_is : (s : ℕ) → s ≡ stream_off page → accepted (page_size - s) ≡ stream_cap_of page
  unfolding stream_cap_of
  stream_cap_is s is = ap (λ (t : ℕ). accepted (page_size - t)) is ∙ sym (page_yes page (accepted (stream_cap page)) long)

  pub count_above : (s n : ℕ) → s ≡ stream_off page → n ≡ count_of page → page_size - s < n → refused count_above_capacity ≡ n_fks page
  unfolding n_fks
  count_above s n off is h =
      let above : stream_cap page < count_of page = omega arith in
      let tested = refuse_yes (ltb (stream_cap page) (count_of page)) count_above_capacity (accepted (count_of page))
      (lt-ltb (stream_cap page) (count_of page) above) in
      sym (page_yes page (refuse_if (ltb (stream_cap page) (count_of page)) count_above_capacity (accepted (count_of page))) long ∙ tested)

  pub count_is : (s n : ℕ) → s ≡ stream_off page → n ≡ count_of page → n ≤ page_size - s → accepted n ≡ n_fks page
  unfolding n_fks
  count_is s n off is h =
      let within : count_of page ≤ stream_cap page = omega arith in
      let tested = refuse_no (ltb (stream_cap page) (count_of page)) count_above_capacity (accepted (count_of page))
      (le-ltb (stream_cap page) (count_of page) within) in
      ap (λ (m : ℕ). accepted m) is
      ∙ sym (page_yes page (refuse_if (ltb (stream_cap page) (count_of page)) count_above_capacity (accepted (count_of page))) long ∙ tested)

-- the tests of a page that is read, from its stream's start s, its count n and its version v
module _ {A : Type 0} (page : List ℕ) (after : Answer A) (s n : ℕ) (off : s ≡ stream_off page) (is : n ≡ count_of page) where
  pub delta_above : page_size - s < n → on_delta page after ≡ refused count_above_capacity
  unfolding refuse_if
  delta_above h = let above : stream_cap page < count_of page = omega arith in rw (lt-ltb (stream_cap page) (count_of page) above)

  delta_by_version : n ≤ page_size - s → (v : ℕ) → v ≡ version_of page → (k : Bool) → k ≡ (eqb v 1 || eqb v 2 || (eqb v 0 && eqb n 0))
      → on_delta page after ≡ refuse_if (not k) version_bad after
  unfolding refuse_if
  delta_by_version h v version k known =
      let within : count_of page ≤ stream_cap page = omega arith in
      rw (le-ltb (stream_cap page) (count_of page) within, ← version, ← is, ← known)

  pub delta_unknown : n ≤ page_size - s → (v : ℕ) → v ≡ version_of page → (k : Bool) → k ≡ (eqb v 1 || eqb v 2 || (eqb v 0 && eqb n 0))
      → k ≡ false
      → on_delta page after ≡ refused version_bad
  delta_unknown h v version k known no-k = delta_by_version h v version k known ∙ refuse_yes (not k) version_bad after (ap not no-k)

  pub delta_good : n ≤ page_size - s → (v : ℕ) → v ≡ version_of page → (k : Bool) → k ≡ (eqb v 1 || eqb v 2 || (eqb v 0 && eqb n 0))
      → k ≡ true
      → on_delta page after ≡ after
  delta_good h v version k known yes-k = delta_by_version h v version k known ∙ refuse_no (not k) version_bad after (ap not yes-k)

-- ---- what is set

-- a refused call tells so and leaves the page
pub set_no : (page : List ℕ) (a : Answer (List ℕ)) {number : ℕ} → a ≡ refused number → (refused number ≡ done a) × (page ≡ after_set page a)
set_no page a e = (rw e, rw e)

-- an accepted one tells so, and the page is what was set
pub set_yes : (page after : List ℕ) (a : Answer (List ℕ)) {set : List ℕ} → a ≡ accepted set → after ≡ set
    → (accepted tt ≡ done a) × (after ≡ after_set page a)
set_yes page after a e is = (rw e, rw e is)

-- what was told of a call that sets, told back
pub done_no : (a : Answer (List ℕ)) {number : ℕ} → done a ≡ refused number → a ≡ refused number
done_no (accepted set) e = absurd (refused≢accepted (sym e))
done_no (refused number) e = cc

pub done_yes : (a : Answer (List ℕ)) → done a ≡ accepted tt → (set : List ℕ) × (a ≡ accepted set)
done_yes (accepted set) e = (set, refl)
done_yes (refused number) e = absurd (refused≢accepted e)

-- a page takes a link that can be named
pub link_written : (page : List ℕ) → length page ≡ page_size → (last : Bool) (off : ℕ) → link_named off ≡ accepted tt
    → write_link page last off ≡ accepted (set_field page 3 5 (link_to last off))
unfolding write_link
link_written page long last off named =
    page_yes page (on_link off (accepted (set_field page 3 5 (link_to last off)))) long
    ∙ link_yes off (accepted (set_field page 3 5 (link_to last off))) named

-- and an extent
pub extent_written : (page : List ℕ) → length page ≡ page_size → (base count : ℕ) → extent_named base count ≡ accepted tt
    → set_extent page base count ≡ accepted (set_field (set_field (set_field page 0 1 extent_version) 8 8 base) 16 4 count)
unfolding set_extent
extent_written page long base count named =
    let set : Answer (List ℕ) = accepted (set_field (set_field (set_field page 0 1 extent_version) 8 8 base) 16 4 count) in
    page_yes page (on_extent base count set) long ∙ extent_yes base count set named

-- ---- an empty page

-- one more byte is 0
pub clear_step : (b : List ℕ) (i : ℕ) → i < length b → take i b ≡ replicate i 0 → take (i + 1) (set b i 0) ≡ replicate (i + 1) 0
clear_step b i h zeros = ap (λ (k : ℕ). take k (set b i 0)) (add-one i) ∙ take-suc-set b i 0 h ∙ ap (λ (l : List ℕ). l ++ (0 ∷ [])) zeros
    ∙ replicate-append-replicate i 1 0

-- zeros with the version and LAST written
pub empty_written : (b : List ℕ) → b ≡ replicate page_size 0 → set (set b 0 1) 3 1 ≡ empty_page
unfolding empty_page page_of delta_header
empty_written b e = ap (λ (l : List ℕ). set (set l 0 1) 3 1) e

-- creates set, by the version v
module _ (page : List ℕ) (long : length page ≡ page_size) (n v : ℕ) (is : v ≡ version_of page) where
  pub creates_idle : (v ≡ 2 → ⊥) → set_creates page n ≡ accepted page
  unfolding set_creates refuse_if
  creates_idle h = rw (eq-eqb (length page) page_size long, ← is, ne_eqb v 2 h)

  pub creates_set : v ≡ 2 → set_creates page n ≡ accepted (set_field page 20 4 n)
  unfolding set_creates refuse_if
  creates_set h = rw (eq-eqb (length page) page_size long, ← is, eq-eqb v 2 h)
