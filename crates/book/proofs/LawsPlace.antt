-- A list written anew to a block that a desk takes: what the take tells, where the block lies, and what placing answers then. Assumes
-- nothing.
use Prim.Native.Nat.{ℕ, ◌+◌, ◌-◌, ◌*◌, ◌^◌, ◌≤◌}
use mathlib.Core.List.{List, [], ◌∷◌}
use mathlib.Core.Option.{none, some}
use mathlib.Core.Path.{◌≡◌, refl, sym, ap, ◌∙◌}
use native.Mathlib.Omega.{arith}
use lib.ListN.{length}
use Rattle.error.specs.Refusal.{Answer, accepted, refused, and_then, answered}
use Rattle.error.proofs.LawsAnswer.{was_accepted, was_refused}
use Rattle.buffer.specs.Bytes.{overwrite}
use Rattle.compact.proofs.LawsLength.{len_at_most}
use Rattle.scripthash_layout.specs.Sizes.{slab_bytes, page_class}
use Rattle.scripthash_layout.specs.declared.head.ShHeadValue.{ShHeadValue}
use Rattle.scripthash_layout.specs.declared.head.ShHeadValue.TheVariants.{Slab, Extent}
use Rattle.scripthash_stream.specs.Stream.{Rising, stream_len_from}
use Rattle.scripthash_slabs.specs.Slab.{slab_payload}
use Rattle.scripthash_free.proofs.LawsBlock.{Standing, block_stands}
use Rattle.book_limits.specs.Limits.{most_body}
use Rattle.book_blocks.specs.Blocks.{last_page_of}
use Rattle.book_blocks.specs.Steps.{PageNamed}
use Rattle.book_space.specs.Space.{Space, space, InShape, take_block}
use Rattle.book_space.specs.Desks.{TakenFor, slab_for, page_for}
use Rattle.book_space.specs.Steps.{space_for, counts_for, TakesFor}
use Rattle.book_space.proofs.LawsTake.{take_took}
use Rattle.book_space.proofs.LawsDesks.{TookFor}
use Rattle.book.specs.Steps.{Placed, places_into, space_with, counts_with, Places}

-- ---- numbers

-- Numbers that rise take at most ten bytes each.
pub stream_at_most : (prev : ℕ) (ns : List ℕ) → Rising (2 ^ 62) prev ns → stream_len_from prev ns ≤ 10 * length ns
unfolding Rising stream_len_from
stream_at_most prev [] r = omega arith
stream_at_most prev (n ∷ ns) r =
    omega (arith, len_at_most (n - prev) (omega (arith, r.1)), stream_at_most n ns r.2)

-- ---- taking

-- What was told of a desk's take, its offset or its refusal, and the space and the counts afterwards.
module _ (s : Space) (counts : List ℕ) (after : Space) (left : List ℕ) (a : Answer TakenFor) {tells : Answer ℕ}
    (takes : TakesFor a s counts after left tells) where
  -- An offset was told: the take is of that offset, and leaves that space and those counts.
  pub took_at : {off : ℕ} → tells ≡ accepted off → a ≡ accepted (record { off = off; space = after; counts = left })
  unfolding space_for counts_for
  took_at {off} e =
      let (t, is, o) = was_accepted (λ (t : TakenFor). t.off) a (sym takes.told ∙ e) in
      let same : after ≡ t.space = takes.left ∙ ap (space_for s) is in
      let counted : left ≡ t.counts = takes.counts ∙ ap (counts_for counts) is in
      rw (sym o, same, counted) is

  -- A refusal was told: the take is refused, and the space and the counts are as they were.
  pub took_none : {number : ℕ} → tells ≡ refused number → (a ≡ refused number) × (after ≡ s) × (left ≡ counts)
  unfolding space_for counts_for
  took_none e =
      let is = was_refused (λ (t : TakenFor). t.off) a (sym takes.told ∙ e) in
      (is, takes.left ∙ ap (space_for s) is, takes.counts ∙ ap (counts_for counts) is)

-- A block lies within the body of a space, behind its first 4,096 bytes; the body is at most 2^41 bytes.
pub record Lies (class off : ℕ) (s : Space) : Type 0 where
  pub begins : 4096 ≤ off
  pub ends : off + slab_bytes class ≤ length s.body
  pub small : length s.body ≤ most_body

-- A block that a desk took from a space in shape.
module _ (class : ℕ) (s : Space) {counts : List ℕ} (t : TakenFor) (i : InShape s) (low : class ≤ page_class)
    (took : TookFor (take_block class s) counts t) where
  -- It stands below the mark of a space in shape.
  stood : InShape t.space × Standing class t.off t.space.mark
  stood =
      let (u, is, o, same, c) = took in
      let k = take_took class s low i is in
      rw (o, same) (k.kept.shape, block_stands class u.off u.space.mark k.stands)

  -- It lies so.
  pub block_lies : Lies class t.off t.space
  block_lies =
      let (shape, b) = stood in
      record { begins = b.begins; ends = omega (arith, b.ends, shape.within); small = shape.most }

-- A page that a desk took from a space in shape can be named by a link.
pub page_named : (s : Space) {counts : List ℕ} (t : TakenFor) → InShape s → TookFor (take_block page_class s) counts t → PageNamed t.off
page_named s t i took =
    let b = (stood page_class s t i (omega arith) took).1 in
    let lies = block_lies page_class s t i (omega arith) took in
    record { aligned = b.aligned; some = omega (arith, b.begins); small = omega (arith, lies.ends, lies.small) }

-- ---- placing

-- What was told of a placing, the place or its refusal, and the space and the counts afterwards.
module _ (s : Space) (counts : List ℕ) (after : Space) (left : List ℕ) (a : Answer Placed) {tells : Answer ShHeadValue}
    (places : Places a s counts after left tells) where
  -- A place was told: it is of that place, and leaves that space and those counts.
  pub placed_at : {place : ShHeadValue} → tells ≡ accepted place → a ≡ accepted (record { place = place; space = after; counts = left })
  unfolding space_with counts_with
  placed_at {place} e =
      let (p, is, o) = was_accepted (λ (p : Placed). p.place) a (sym places.told ∙ e) in
      let same : after ≡ p.space = places.left ∙ ap (space_with s) is in
      let counted : left ≡ p.counts = places.counts ∙ ap (counts_with counts) is in
      rw (sym o, same, counted) is

  -- A refusal was told: it is refused, and the space and the counts are as they were.
  pub placed_none : {number : ℕ} → tells ≡ refused number → (a ≡ refused number) × (after ≡ s) × (left ≡ counts)
  unfolding space_with counts_with
  placed_none e =
      let is = was_refused (λ (p : Placed). p.place) a (sym places.told ∙ e) in
      (is, places.left ∙ ap (space_with s) is, places.counts ∙ ap (counts_with counts) is)

-- A list placed in a space for a desk, by what the take tells.
module _ (desk : ℕ) (s : Space) (counts list : List ℕ) (after : Space) (left : List ℕ) where
  -- A refused take refuses it, and the space and the counts stay.
  pub slab_refused : (class : ℕ) {number : ℕ} → (slab_for desk class s counts ≡ refused number) × (after ≡ s) × (left ≡ counts)
      → Places (places_into desk s counts list (some class)) s counts after left (refused number)
  unfolding places_into space_with counts_with and_then answered
  slab_refused class e = rw (e.0, e.1, e.2) record { told = refl; left = refl; counts = refl }

  -- So it is for a page.
  pub page_refused : {number : ℕ} → (page_for desk s counts ≡ refused number) × (after ≡ s) × (left ≡ counts)
      → Places (places_into desk s counts list none) s counts after left (refused number)
  unfolding places_into space_with counts_with and_then answered
  page_refused e = rw (e.0, e.1, e.2) record { told = refl; left = refl; counts = refl }

  -- A slab that was taken and filled is its place.
  pub slab_placed : (class : ℕ) {off : ℕ} → slab_for desk class s counts ≡ accepted (record { off = off; space = after; counts = left })
      → (body : List ℕ) → body ≡ overwrite after.body off (slab_payload list)
      → Places (places_into desk s counts list (some class)) s counts (space body after.mark after.free) left
      (accepted (Slab class (length list) off))
  unfolding places_into space_with counts_with and_then answered
  slab_placed class e body is = rw (e, is) record { told = refl; left = refl; counts = refl }

  -- A page that was taken and filled is its place.
  pub page_placed : {off : ℕ} → page_for desk s counts ≡ accepted (record { off = off; space = after; counts = left })
      → (body : List ℕ) → body ≡ overwrite after.body off (last_page_of off off 1 (length list) list)
      → Places (places_into desk s counts list none) s counts (space body after.mark after.free) left (accepted (Extent off))
  unfolding places_into space_with counts_with and_then answered
  page_placed e body is = rw (e, is) record { told = refl; left = refl; counts = refl }
