-- A number that doesn't stay where its key stands: what an end that was told says of it, and a key that isn't sound. Assumes nothing.
use Prim.Native.Nat.{ℕ, ◌+◌, ◌-◌, ◌^◌, ◌<◌}
use mathlib.Core.Bool.{false}
use mathlib.Core.Path.{◌≡◌, refl, sym, ap, subst, ◌∙◌}
use native.Mathlib.Omega.{arith}
use Rattle.error.specs.Refusal.{accepted, refused}
use Rattle.error.proofs.LawsAnswer.{accepted_inj, refused≢accepted}
use Rattle.compact.specs.Uleb128.{uleb_len}
use Rattle.scripthash_layout.specs.Sizes.{page_size}
use Rattle.scripthash_layout.specs.Head.{unpack_head}
use Rattle.scripthash_layout.specs.declared.head.ShHeadValue.{ShHeadValue}
use Rattle.scripthash_layout.specs.declared.head.ShHeadValue.TheVariants.{Empty, Inline, Slab, Extent}
use Rattle.scripthash_stream.specs.Stream.{Scan}
use Rattle.scripthash_pages.specs.Entries.{last_of}
use Rattle.book_rules.specs.Places.{stays}
use Rattle.book_keys.specs.Keys.{Ground, Tail}
use Rattle.book.specs.Book.{Book, word_of, seen}
use Rattle.book_extend.specs.Extends.{standing}
use Rattle.book_extend.specs.Steps.{NotTaken}
use Rattle.book_extend.proofs.LawsPage.{PageEnds}
use Rattle.book_extend.proofs.LawsSlab.{SlabEnds}
use Rattle.book_extend.proofs.LawsExtend.{standing_slab, standing_page}

module _ (g : Ground) (n : ℕ) (w : ℕ) where
  -- What holds where the word tells one place holds where it tells any.
  any_place : {told : ShHeadValue} → unpack_head w ≡ accepted told → NotTaken g n told → (place : ShHeadValue)
      → unpack_head w ≡ accepted place → NotTaken g n place
  any_place {told} is not place e = subst (NotTaken g n) (accepted_inj (sym is ∙ e)) not

  -- Nothing stays in a word that tells no block.
  pub empty_not : unpack_head w ≡ accepted Empty → (place : ShHeadValue) → unpack_head w ≡ accepted place → NotTaken g n place
  empty_not is = any_place is tt

  pub inline_not : (entry used : ℕ) → unpack_head w ≡ accepted (Inline entry used) → (place : ShHeadValue)
      → unpack_head w ≡ accepted place → NotTaken g n place
  inline_not entry used is = any_place is tt

  -- A slab has no room.
  pub slab_not : (class used off : ℕ) {taken fk : ℕ} → unpack_head w ≡ accepted (Slab class used off) → SlabEnds g class used off taken fk
      → (fk < n → n < 2 ^ 62 → stays class (used + 1) (taken + uleb_len (n - fk)) ≡ false)
      → (place : ShHeadValue) → unpack_head w ≡ accepted place → NotTaken g n place
  slab_not class used off {taken} {fk} is e not = any_place is
      (λ c sound above low.
      let same : e.scan ≡ c = accepted_inj (sym e.sound ∙ sound) in
      let t : c.taken ≡ taken = ap (λ (x : Scan). x.taken) (sym same) ∙ e.taken_is in
      let l : last_of c ≡ fk = ap (λ (x : Scan). last_of x) (sym same) ∙ e.fk_is in
      rw (t, l) (not (omega (arith, above, l)) low))

  -- A last page has no spot.
  pub page_not : (last : ℕ) {taken fk creates : ℕ} → unpack_head w ≡ accepted (Extent last) → PageEnds g last taken fk creates
      → (fk < n → n < 2 ^ 62 → page_size < 24 + taken + uleb_len (n - fk))
      → (place : ShHeadValue) → unpack_head w ≡ accepted place → NotTaken g n place
  page_not last {taken} {fk} is e not = any_place is
      (λ t sound above low.
      let same : e.tail ≡ t = accepted_inj (sym e.sound ∙ sound) in
      let k : t.scan.taken ≡ taken = ap (λ (x : Tail). x.scan.taken) (sym same) ∙ e.taken_is in
      let l : last_of t.scan ≡ fk = ap (λ (x : Tail). last_of x.scan) (sym same) ∙ e.fk_is in
      rw (k, l) (not (omega (arith, above, l)) low))

-- No number stays where a key stands that isn't sound.
pub unsound_not : (b : Book) (key n : ℕ) {number : ℕ} → standing b key ≡ refused number → (place : ShHeadValue)
    → unpack_head (word_of key b) ≡ accepted place → NotTaken (seen b.space) n place
unsound_not b key n none Empty e = tt
unsound_not b key n none (Inline entry used) e = tt
unsound_not b key n none (Slab class used off) e = λ c sound above low.
    let s : SlabEnds (seen b.space) class used off c.taken (last_of c) =
    record { scan = c; sound = sound; taken_is = refl; fk_is = refl } in
    absurd (refused≢accepted (sym none ∙ standing_slab b key class used off e s))
unsound_not b key n none (Extent last) e = λ t sound above low.
    let p : PageEnds (seen b.space) last t.scan.taken (last_of t.scan) t.last.creates =
    record { tail = t; sound = sound; taken_is = refl; fk_is = refl; creates_is = refl } in
    absurd (refused≢accepted (sym none ∙ standing_page b key last e p))
