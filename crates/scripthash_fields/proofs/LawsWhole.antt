-- What a whole page answers when it is asked: its count, link, extent and creates. Assumes nothing.
use Prim.Native.Nat.{ℕ, ◌+◌, ◌/◌, ◌%◌, ◌^◌, ◌≤◌, ◌<◌}
use mathlib.Core.Bool.{Bool, true, false, cond, not}
use mathlib.Core.List.{List}
use mathlib.Core.Option.{none, some}
use mathlib.Core.Path.{◌≡◌, refl, sym, ap, ◌∙◌}
use native.Mathlib.Omega.{arith}
use lib.ListN.{length}
use Rattle.error.specs.Refusal.{accepted, refused, not_last}
use Rattle.error.proofs.LawsAnswer.{refuse_yes, refuse_no}
use Rattle.scripthash_layout.specs.Sizes.{page_size}
use Rattle.scripthash_fields.specs.Page.{version_of, link_of, is_last_link, link_offset, link_to, next_off, delta_header, extent_header}
use Rattle.scripthash_fields.specs.Page.{page_of}
use Rattle.scripthash_fields.specs.Fields.{read_link, is_last, first_off, next_off_of, extent_of, creates_of, n_fks}
use Rattle.scripthash_fields.proofs.LawsPage.{page_yes, link_last, link_offset_lem, link_fits}
use Rattle.scripthash_fields.proofs.LawsPage.{length_delta, delta_version_lem, delta_count, delta_link}
use Rattle.scripthash_fields.proofs.LawsPage.{length_extent, extent_version_lem, extent_count, extent_link, extent_base, extent_pages}
use Rattle.scripthash_fields.proofs.LawsPage.{extent_creates}
use Rattle.scripthash_fields.proofs.LawsFields.{stream_off_extent, stream_off_other, read_link_lem, is_last_lem, next_is, extent_none}
use Rattle.scripthash_fields.proofs.LawsFields.{extent_is, extent_good, creates_none, creates_is, count_is}

-- ---- a page that names an aligned offset, LAST or not

module _ (page : List ℕ) (long : length page ≡ page_size) (last : Bool) (off : ℕ) (aligned : off % page_size ≡ 0)
    (is : link_to last off ≡ link_of page) where
  as_last : is_last_link (link_of page) ≡ last
  as_last = ap is_last_link (sym is) ∙ link_last last off

  as_offset : link_offset (link_of page) ≡ off
  as_offset = ap link_offset (sym is) ∙ link_offset_lem last off aligned

  pub whole_link : read_link page ≡ accepted (record { last = last; off = off })
  whole_link =
      sym (read_link_lem page long (link_of page) refl)
      ∙ ap (λ (l : Bool). accepted (record { last = l; off = link_offset (link_of page) })) as_last
      ∙ ap (λ (o : ℕ). accepted (record { last = last; off = o })) as_offset

  pub whole_last : is_last page ≡ accepted last
  whole_last = sym (is_last_lem page long (link_of page) refl) ∙ ap accepted as_last

  -- the page behind it
  pub whole_behind : next_off page ≡ cond last 0 off
  unfolding next_off
  whole_behind = ap (λ (l : Bool). cond l 0 (link_offset (link_of page))) as_last ∙ ap (cond last 0) as_offset

  pub whole_next : next_off_of page ≡ accepted (cond last 0 off)
  whole_next = sym (next_is page long (cond last 0 off) whole_behind)

  -- the first page, which LAST names
  pub whole_first : last ≡ true → first_off page ≡ accepted off
  unfolding first_off
  whole_first h =
      page_yes page _ long ∙ refuse_no (not (is_last_link (link_of page))) _ _ (ap not (as_last ∙ h)) ∙ ap accepted as_offset

  pub whole_not_last : last ≡ false → first_off page ≡ refused not_last
  unfolding first_off
  whole_not_last h = page_yes page _ long ∙ refuse_yes (not (is_last_link (link_of page))) _ _ (ap not (as_last ∙ h))

-- ---- a whole page that names no extent

module _ (count : ℕ) (last : Bool) (off : ℕ) (stream : List ℕ) (fits : 8 + length stream ≤ page_size) where
  abbrev delta : List ℕ
  delta = page_of (delta_header count (link_to last off)) stream

  long_delta : length delta ≡ page_size
  long_delta = length_delta count (link_to last off) stream fits

  not_extent : (v : ℕ) → v ≡ 1 → v ≡ 2 → ⊥
  not_extent v e f = omega arith

  pub delta_n_fks : count ≤ 4088 → n_fks delta ≡ accepted count
  delta_n_fks h =
      sym (count_is delta long_delta 8 count
      (sym (stream_off_other delta (not_extent _ (delta_version_lem count (link_to last off) stream))))
      (sym (delta_count count (link_to last off) stream (omega arith))) h)

  pub delta_link_is : off / page_size < 2 ^ 39 → link_to last off ≡ link_of delta
  delta_link_is h = sym (delta_link count (link_to last off) stream (link_fits last off h))

  pub delta_extent : extent_of delta ≡ accepted none
  delta_extent = sym (extent_none delta long_delta 1 (sym (delta_version_lem count (link_to last off) stream)) (not_extent 1 refl))

  pub delta_creates : creates_of delta ≡ accepted 0
  delta_creates = sym (creates_none delta long_delta 1 (sym (delta_version_lem count (link_to last off) stream)) (not_extent 1 refl))

-- ---- one that does

module _ (count : ℕ) (last : Bool) (off base extents creates : ℕ) (stream : List ℕ) (fits : 24 + length stream ≤ page_size) where
  abbrev whole : List ℕ
  whole = page_of (extent_header count (link_to last off) base extents creates) stream

  long_whole : length whole ≡ page_size
  long_whole = length_extent count (link_to last off) base extents creates stream fits

  version : 2 ≡ version_of whole
  version = sym (extent_version_lem count (link_to last off) base extents creates stream)

  pub extent_n_fks : count ≤ 4072 → n_fks whole ≡ accepted count
  extent_n_fks h =
      sym (count_is whole long_whole 24 count (sym (stream_off_extent whole (sym version)))
      (sym (extent_count count (link_to last off) base extents creates stream (omega arith))) h)

  pub extent_link_is : off / page_size < 2 ^ 39 → link_to last off ≡ link_of whole
  extent_link_is h = sym (extent_link count (link_to last off) base extents creates stream (link_fits last off h))

  -- a good extent whose numbers fit their fields
  pub extent_extent : (extents ≡ 0 → ⊥) → base % page_size ≡ 0 → (base ≡ 0 → ⊥) → base < 256 ^ 8 → extents < 256 ^ 4
      → extent_of whole ≡ accepted (some (record { base = base; count = extents }))
  extent_extent some_extents aligned some-base h k =
      sym (extent_is whole long_whole 2 base extents version refl
      (sym (extent_base count (link_to last off) base extents creates stream h))
      (sym (extent_pages count (link_to last off) base extents creates stream k)))
      ∙ extent_good base extents _ some_extents aligned some-base

  pub extent_creates_is : creates < 256 ^ 4 → creates_of whole ≡ accepted creates
  extent_creates_is h =
      sym (creates_is whole long_whole 2 creates version refl (sym (extent_creates count (link_to last off) base extents creates stream h)))
