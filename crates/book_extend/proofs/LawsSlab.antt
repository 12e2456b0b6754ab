-- A key's slab that gets one number more is sound again, with the number as its last. Assumes nothing.
use Prim.Native.Nat.{ℕ, ◌+◌, ◌-◌, ◌^◌, ◌≤◌, ◌<◌}
use mathlib.Core.Bool.{true}
use mathlib.Core.List.{List, [], ◌∷◌, ◌++◌}
use mathlib.Core.Path.{◌≡◌, sym, ap, ◌∙◌}
use native.Mathlib.Omega.{arith}
use borrow.Author.Tests.{lt-ltb}
use lib.ListN.{length}
use Rattle.error.specs.Refusal.{accepted}
use Rattle.buffer.specs.Bytes.{part, overwrite}
use Rattle.buffer.proofs.LawsOverwrite.{length_part, part_written}
use Rattle.compact.specs.Uleb128.{uleb_len}
use Rattle.scripthash_layout.specs.Sizes.{slab_bytes}
use Rattle.scripthash_stream.specs.Stream.{Scan, Rising, last_from}
use Rattle.scripthash_stream.proofs.LawsStream.{rising_append}
use Rattle.scripthash_slabs.specs.Slab.{slab_used, decode_slab}
use Rattle.scripthash_pages.specs.Entries.{last_of}
use Rattle.scripthash_pages.proofs.LawsAppended.{with_last}
use Rattle.scripthash_free.proofs.LawsBlock.{block_stands}
use Rattle.book_rules.specs.Places.{stays}
use Rattle.book_rules.proofs.LawsRules.{stays_holds}
use Rattle.book_keys.specs.Keys.{Ground, body_ground, go_on, block_at, slab_scan}
use Rattle.book_keys.specs.Steps.{sound_last}
use Rattle.book_keys.proofs.LawsSound.{goes_on_first}
use Rattle.book_keys.proofs.LawsSlab.{SoundSlab, slab_sound, sound_slab}
use Rattle.book_blocks.specs.Blocks.{slab_with}
use Rattle.book_blocks.proofs.LawsReadsSlab.{SlabReads, slab_with_long, slab_more}
use Rattle.book_extend.proofs.LawsPage.{last_snoc}

-- The end of a key's slab: the bytes that its stream takes, and its last number.
pub record SlabEnds (g : Ground) (class used off taken fk : ℕ) : Type 0 where
  pub scan : Scan
  pub sound : slab_scan g class used off ≡ accepted scan
  pub taken_is : scan.taken ≡ taken
  pub fk_is : last_of scan ≡ fk

-- Numbers that rise, with one more above their last and below 2^62, go on behind none.
goes_snoc : (ns : List ℕ) (n : ℕ) → Rising (2 ^ 63) 0 ns → last_from 0 ns < n → n < 2 ^ 62 → go_on 0 (ns ++ (n ∷ [])) ≡ true
unfolding Rising sound_last
goes_snoc ns n rises above low =
    goes_on_first (ns ++ (n ∷ [])) (rising_append (2 ^ 63) 0 ns (n ∷ []) rises (above, omega arith, tt))
    ∙ rw (last_snoc ns n, lt-ltb 0 n (omega arith), lt-ltb n (2 ^ 62) low)

module _ (body : List ℕ) (mark class used off : ℕ) (within : mark ≤ length body) (c : Scan)
    (sound : slab_scan (body_ground body mark) class used off ≡ accepted c) (n : ℕ) (above : last_of c < n) (low : n < 2 ^ 62)
    (holds : stays class (used + 1) (c.taken + uleb_len (n - last_of c)) ≡ true) where
  abbrev block : List ℕ
  block = block_at (body_ground body mark) class off

  abbrev after : List ℕ
  after = slab_with block used c.taken (n - last_of c)

  known : SoundSlab (body_ground body mark) class used off c
  known = slab_sound (body_ground body mark) class used off c sound

  -- the slab lies within the body
  inside : off + slab_bytes class ≤ length body
  inside = omega (arith, (block_stands class off mark known.stands).ends)

  block_long : length block ≡ slab_bytes class
  block_long = length_part body off (slab_bytes class) inside

  -- the number has room
  room : 2 + c.taken + uleb_len (n - last_of c) ≤ length block
  room = omega (arith, block_long, (stays_holds class (used + 1) (c.taken + uleb_len (n - last_of c)) holds).2)

  -- the slab with the number reads as its numbers and that one
  more : SlabReads after (used + 1) (with_last 0 c n)
  more =
      slab_more block used n c (record { counts = known.stored; reads = known.payload.into used (omega (arith, known.counted)) }) above
      (omega arith) room (omega (arith, known.used_to_256))

  -- it is there once it is written
  there : block_at (body_ground (overwrite body off after) mark) class off ≡ after
  there =
      let long = slab_with_long block used c.taken (n - last_of c) room in
      ap (λ (k : ℕ). part (overwrite body off after) off k) (sym (long ∙ block_long))
      ∙ part_written body off after (omega (arith, inside, long, block_long))

  -- it is sound
  slab_again : slab_scan (body_ground (overwrite body off after) mark) class (used + 1) off ≡ accepted (with_last 0 c n)
  slab_again =
      sound_slab (body_ground (overwrite body off after) mark) class (used + 1) off (with_last 0 c n) known.class_to_7 known.stands
      (stays_holds class (used + 1) (c.taken + uleb_len (n - last_of c)) holds).0
      (ap slab_used there ∙ more.counts) (ap (decode_slab (used + 1)) there ∙ more.reads)
      (goes_snoc c.numbers n known.payload.rising above low)

-- A slab that gets one number more ends behind it.
pub slab_ends : (body : List ℕ) (mark class used off : ℕ) {taken fk : ℕ} → mark ≤ length body
    → (e : SlabEnds (body_ground body mark) class used off taken fk) (n : ℕ) → fk < n → n < 2 ^ 62
    → stays class (used + 1) (taken + uleb_len (n - fk)) ≡ true
    → (size : ℕ) → size ≡ slab_bytes class → (written : List ℕ)
    → written ≡ overwrite body off (slab_with (part body off size) used taken (n - fk))
    → SlabEnds (body_ground written mark) class (used + 1) off (taken + uleb_len (n - fk)) n
slab_ends body mark class used off {taken} {fk} within e n above low holds size size_is written w =
    let c = e.scan in
    let stay : stays class (used + 1) (c.taken + uleb_len (n - last_of c)) ≡ true = rw (e.taken_is, e.fk_is) holds in
    let over : last_of c < n = omega (arith, e.fk_is) in
    let is : written ≡ overwrite body off (after body mark class used off within c e.sound n over low stay)
    = w ∙ rw (e.taken_is, e.fk_is, size_is) in
    record {
      scan = with_last 0 c n;
      sound = ap (λ (b : List ℕ). slab_scan (body_ground b mark) class (used + 1) off) is
          ∙ slab_again body mark class used off within c e.sound n over low stay;
      taken_is = rw (e.taken_is, e.fk_is);
      fk_is = last_snoc c.numbers n;
    }
