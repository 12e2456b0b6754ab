-- Laws of blocks: what a block's test tells, and which class a number of bytes has room for. By cases on the tests.
use mathlib.Core.Path.{◌≡◌, refl, ap, sym, ◌∙◌}
use mathlib.Core.Bool.{Bool, true, false, cond, ◌&&◌, true≢false}
use mathlib.Core.Logic.{⊎_elim}
use mathlib.Core.Option.{Option, none, some, some-injective}
use Prim.Native.Nat.{ℕ, zero, suc, ◌+◌, ◌-◌, ◌/◌, ◌%◌, ◌^◌, ◌≤◌, ◌<◌, zero-le}
use native.Mathlib.Nat.{eq-or-lt_of_le, le_of_suc-le-suc, lt_of_lt_of_le, div-lt_iff_lt-mul, le-div_iff_mul-le, pow-suc}
use native.Mathlib.Omega.{arith}
use lib.Count.{count_leading_zeros, leading_top}
use lib.Dec.{leb}
use lib.Pow.{pow_mono, pow_pos}
use borrow.Author.Tests.{leb-true, eqb-true, le-leb, lt-leb, eq-eqb, ne_eqb}
use Rattle.buffer.proofs.LawsOrder.{lt_or_ge}
use Rattle.scripthash_layout.specs.Sizes.{slab_bytes, where_below}
use Rattle.scripthash_layout.proofs.LawsSizes.{where_below_lem, size_below, size_mono}
use Rattle.scripthash_free.specs.FreeList.{is_block, is_gap, unit_of, largest_up_to}

-- A block has at least 16 bytes.
pub bytes_from_16 : (class : ℕ) → 16 ≤ slab_bytes class
bytes_from_16 class = size_mono 4 {c = 0} {d = class} zero-le

-- A block has twice the bytes of one of the class before.
pub bytes_twice : (class : ℕ) → slab_bytes (suc class) ≡ slab_bytes class + slab_bytes class
bytes_twice class = omega (arith, pow-suc 2 class)

-- The bytes of a block of class 0 to 8 fit 64 bits.
pub bytes_fit : (class : ℕ) → class ≤ 8 → where_below 64 (slab_bytes class) ≡ slab_bytes class
bytes_fit class h = where_below_lem 64 (slab_bytes class) (size_below 4 class 64 (omega arith))

-- Bytes with fewer than 16 parts of 2 ^ class are fewer than a block's.
pub parts_short : (class n : ℕ) → n / 2 ^ class < 16 → n < slab_bytes class
parts_short class n h = (div-lt_iff_lt-mul (pow_pos class)).0 h

-- Bytes with 16 parts of 2 ^ class are at least a block's.
pub parts_fit : (class n : ℕ) → 16 ≤ n / 2 ^ class → slab_bytes class ≤ n
parts_fit class n h = (le-div_iff_mul-le (pow_pos class)).0 h

-- Two tests that both hold.
pub both : (a b : Bool) → a && b ≡ true → (a ≡ true) × (b ≡ true)
both true b e = (refl, e)
both false b e = absurd (true≢false (sym e))

-- A choice between two that are true.
either_way : (t : Bool) → cond t true true ≡ true
either_way true = refl
either_way false = refl

-- What is known of a block: its class, its alignment, and where it begins and ends.
pub record Standing (class off end : ℕ) : Type 0 where
  pub class_to_8 : class ≤ 8
  pub aligned : off % unit_of class ≡ 0
  pub begins : 4096 ≤ off
  pub ends : off + slab_bytes class ≤ end

-- A block that passed its test stands so.
pub block_stands : (class off end : ℕ) → is_block class off end ≡ true → Standing class off end
unfolding is_block
block_stands class off end e =
    let p = both _ _ e in
    let q = both _ _ p.1 in
    let r = both _ _ q.1 in
    record {
      class_to_8 = leb-true _ _ p.0;
      aligned = eqb-true _ _ q.0;
      begins = leb-true _ _ r.0;
      ends = leb-true _ _ r.1;
    }

-- A block that stands so passes its test.
pub stands_block : (class off end : ℕ) → Standing class off end → is_block class off end ≡ true
unfolding is_block
stands_block class off end s =
    simp (
      le-leb class 8 s.class_to_8,
      eq-eqb (off % unit_of class) 0 s.aligned,
      le-leb 4096 off s.begins,
      le-leb (off + slab_bytes class) end s.ends,
    )

-- A test that cannot hold does not.
pub not_holds : (t : Bool) → (t ≡ true → ⊥) → t ≡ false
not_holds true f = absurd (f refl)
not_holds false f = refl

-- A block that cannot stand so fails its test.
pub no_block : (class off end : ℕ) → (Standing class off end → ⊥) → is_block class off end ≡ false
no_block class off end f = not_holds (is_block class off end) (λ e. f (block_stands class off end e))

-- A slab begins at a multiple of 16.
slab_unit : (class : ℕ) → class ≤ 7 → unit_of class ≡ 16
slab_unit class small = rw (ne_eqb class 8 (λ z. omega arith))

pub slab_aligned : (class off : ℕ) → class ≤ 7 → off % unit_of class ≡ 0 → off % 16 ≡ 0
slab_aligned class off small e = ap (λ (unit : ℕ). off % unit) (sym (slab_unit class small)) ∙ e

-- A slab at a multiple of 16 from 4,096 on, that ends at or below an end, can stand there.
pub slab_stands : (class off end : ℕ) → class ≤ 7 → off % 16 ≡ 0 → 4096 ≤ off → off + slab_bytes class ≤ end → is_block class off end ≡ true
slab_stands class off end small aligned begins ends =
    let there : off % unit_of class ≡ 0 = ap (λ (unit : ℕ). off % unit) (slab_unit class small) ∙ aligned in
    stands_block class off end (record { class_to_8 = omega arith; aligned = there; begins = begins; ends = ends })

-- What is known of a gap that has bytes: its alignment, and where it begins and ends.
pub record Gap (from to end : ℕ) : Type 0 where
  pub aligned : from % 16 ≡ 0
  pub begins : 4096 ≤ from
  pub ends : to ≤ end

-- A gap that has bytes and passed its test lies so.
pub gap_lies : (from to end : ℕ) → is_gap from to end ≡ true → from < to → Gap from to end
unfolding is_gap
gap_lies from to end e h =
    let p = both _ _ (rw (lt-leb to from h) at e) in
    let q = both _ _ p.1 in
    record { aligned = eqb-true _ _ p.0; begins = leb-true _ _ q.0; ends = leb-true _ _ q.1 }

-- A gap that lies so passes its test.
pub lies_gap : (from to end : ℕ) → Gap from to end → is_gap from to end ≡ true
unfolding is_gap
lies_gap from to end g =
    rw (eq-eqb (from % 16) 0 g.aligned, le-leb 4096 from g.begins, le-leb to end g.ends) (either_way (leb to from))

-- None is no class.
none≢some : {a : ℕ} → ◌≡◌ {A = Option ℕ} none (some a) → ⊥
none≢some e = let z : ◌≡◌ {A = ℕ} 0 1 = cc in omega arith

-- The class up to c is c where its blocks are small enough.
pub largest_found : (c n : ℕ) → slab_bytes c ≤ n → largest_up_to c n ≡ some c
unfolding largest_up_to
largest_found zero n h = rw (le-leb (slab_bytes 0) n h)
largest_found (suc c) n h = rw (le-leb (slab_bytes (suc c)) n h)

-- It is one below where they are too large.
largest_past : (c n : ℕ) → n < slab_bytes (suc c) → largest_up_to (suc c) n ≡ largest_up_to c n
unfolding largest_up_to
largest_past c n h = rw (lt-leb (slab_bytes (suc c)) n h)

-- The class up to d is that up to c where those of the class after c are too large.
largest_skip : (c d n : ℕ) → c ≤ d → n < slab_bytes (suc c) → largest_up_to d n ≡ largest_up_to c n
largest_skip c zero n l h = let z : zero ≡ c = omega arith in ap (λ (k : ℕ). largest_up_to k n) z
largest_skip c (suc d) n l h =
    ⊎_elim (λ (z : c ≡ suc d). ap (λ (k : ℕ). largest_up_to k n) (sym z))
    (λ (less : c < suc d). largest_past d n (lt_of_lt_of_le h (size_mono 4 less)) ∙ largest_skip c d n (le_of_suc-le-suc less) h)
    (eq-or-lt_of_le l)

-- Class c is the largest for the numbers of bytes from its own to below the next one's.
pub largest_is : (c n : ℕ) → c ≤ 7 → slab_bytes c ≤ n → n < slab_bytes (suc c) → largest_up_to 7 n ≡ some c
largest_is c n l fits h = largest_skip c 7 n l h ∙ largest_found c n fits

-- From 16 bytes on, up to those of class 7, the largest class is one less than the length in bits of n / 16, which 63 - its leading
-- zeros is.
module _ (n : ℕ) (low : 16 ≤ n) (high : n < 2048) where
  bits : (j : ℕ) × (count_leading_zeros 64 (n / 16) + suc j ≡ 64) × (2 ^ j ≤ n / 16) × (n / 16 < 2 ^ suc j)
  bits = leading_top 64 (n / 16) (omega arith) (omega arith)

  pub bits_below_64 : count_leading_zeros 64 (n / 16) ≤ 63
  bits_below_64 = omega (arith, bits.1)

  pub largest_bits : largest_up_to 7 n ≡ some (63 - count_leading_zeros 64 (n / 16))
  largest_bits =
      let (j, total, from, below) = bits in
      let same : 63 - count_leading_zeros 64 (n / 16) ≡ j = omega arith in
      let slab : j ≤ 7 = ⊎_elim (λ (more : 7 < j). let past : 2 ^ 8 ≤ 2 ^ j = pow_mono more in
      absurd (omega arith)) (λ (l : j ≤ 7). l) (lt_or_ge 7 j) in
      rw same (largest_is j n slab (omega arith) (omega arith))

-- There is none where even those of class 0 are too large.
pub largest_none : (c n : ℕ) → n < 16 → largest_up_to c n ≡ none
unfolding largest_up_to
largest_none zero n h = rw (lt-leb 16 n h)
largest_none (suc c) n h = rw (lt-leb (slab_bytes (suc c)) n (omega (arith, bytes_from_16 (suc c)))) (largest_none c n h)

-- The class found is one up to c, whose blocks are small enough.
pub largest_some : (c n d : ℕ) → largest_up_to c n ≡ some d → (d ≤ c) × (slab_bytes d ≤ n)
largest_some zero n d e =
    ⊎_elim
    (λ (small : n < slab_bytes 0). let z : ◌≡◌ {A = Option ℕ} none (some d) = sym (largest_none 0 n small) ∙ e in absurd (none≢some z))
    (λ (fits : slab_bytes 0 ≤ n). let z : 0 ≡ d = some-injective _ _ (sym (largest_found 0 n fits) ∙ e) in
    (omega arith, rw (← z) fits))
    (lt_or_ge n (slab_bytes 0))
largest_some (suc c) n d e =
    ⊎_elim
    (λ (small : n < slab_bytes (suc c)).
    let lower : largest_up_to c n ≡ some d = sym (largest_past c n small) ∙ e in
    let h = largest_some c n d lower in
    (omega arith, h.1))
    (λ (fits : slab_bytes (suc c) ≤ n). let z : suc c ≡ d = some-injective _ _ (sym (largest_found (suc c) n fits) ∙ e) in
    (omega arith, rw (← z) fits))
    (lt_or_ge n (slab_bytes (suc c)))

-- Where none is found, not even class 0 fits.
pub largest_nothing : (c n : ℕ) → largest_up_to c n ≡ none → n < 16
largest_nothing zero n e =
    ⊎_elim (λ (small : n < slab_bytes 0). small)
    (λ (fits : slab_bytes 0 ≤ n). absurd (none≢some (sym e ∙ largest_found 0 n fits)))
    (lt_or_ge n (slab_bytes 0))
largest_nothing (suc c) n e =
    ⊎_elim
    (λ (small : n < slab_bytes (suc c)). largest_nothing c n (sym (largest_past c n small) ∙ e))
    (λ (fits : slab_bytes (suc c) ≤ n). absurd (none≢some (sym e ∙ largest_found (suc c) n fits)))
    (lt_or_ge n (slab_bytes (suc c)))
