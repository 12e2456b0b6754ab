-- What a slab reads as once it is written: a whole payload, and one number more behind what it held. Assumes nothing.
use Prim.Native.Nat.{ℕ, ◌+◌, ◌-◌, ◌^◌, ◌≤◌, ◌<◌}
use mathlib.Core.List.{List, ◌++◌, append_assoc}
use mathlib.Core.Path.{◌≡◌, refl, sym, ap, ◌∙◌}
use native.Mathlib.Numerals.{add-one}
use native.Mathlib.Omega.{arith}
use lib.ListN.{length, take, drop, take-append-drop}
use lib.Seq.{take-add, drop_at, length-take-le}
use Rattle.error.specs.Refusal.{accepted}
use Rattle.buffer.specs.Bytes.{part, overwrite}
use Rattle.buffer.specs.LittleEndian.{little_endian, bytes_of}
use Rattle.buffer.proofs.LawsBytes.{length_overwrite}
use Rattle.buffer.proofs.LawsOverwrite.{part_before}
use Rattle.buffer.proofs.LawsLittleEndian.{little_endian_bytes_of}
use Rattle.compact.specs.Uleb128.{uleb_len, shortest}
use Rattle.compact.proofs.LawsLength.{length_shortest}
use Rattle.scripthash_stream.specs.Stream.{max_offered, Rising, Scan, stream_len, scan, padded_in, decode_stream}
use Rattle.scripthash_stream.proofs.LawsScan.{scan_accepted}
use Rattle.scripthash_stream.proofs.LawsDecode.{decode_fits, decode_accepted}
use Rattle.scripthash_stream.proofs.LawsPadded.{padded_written, padded_more}
use Rattle.scripthash_slabs.specs.Slab.{slab_payload, slab_used, slab_padded, decode_slab}
use Rattle.scripthash_slabs.proofs.LawsSlab.{unslab_as_stream, unslab_payload}
use Rattle.scripthash_fields.specs.Page.{field, set_field}
use Rattle.scripthash_fields.proofs.LawsPage.{length_set_field, field_set, drop_set_field}
use Rattle.scripthash_pages.specs.Entries.{last_of}
use Rattle.scripthash_pages.proofs.LawsAppended.{with_last, scan_snoc}
use Rattle.book_blocks.specs.Blocks.{slab_with}

-- What a slab reads as: it counts as many numbers as its head says, and they are a scan's.
pub record SlabReads (block : List ℕ) (used : ℕ) (s : Scan) : Type 0 where
  pub counts : slab_used block ≡ used
  pub reads : decode_slab used block ≡ accepted s

-- a block that starts with the payload of a list reads as the list
pub slab_written : (block ns : List ℕ) → part block 0 (2 + stream_len ns) ≡ slab_payload ns → Rising (2 ^ 63) 0 ns → length ns ≤ max_offered
    → SlabReads block (length ns) (record { numbers = ns; taken = stream_len ns })
unfolding part slab_payload
slab_written block ns starts rises few =
    let rest = drop (2 + stream_len ns) block in
    let whole : slab_payload ns ++ rest ≡ block = ap (λ (b : List ℕ). b ++ rest) (sym starts) ∙ take-append-drop (2 + stream_len ns) block in
    record {
      counts = ap slab_used (sym whole) ∙ little_endian_bytes_of 2 (length ns) (omega arith);
      reads = ap (decode_slab (length ns)) (sym whole) ∙ unslab_payload (length ns) ns rest rises few (omega arith);
    }

-- and has no padded number
pub slab_written_padded : (block ns : List ℕ) → part block 0 (2 + stream_len ns) ≡ slab_payload ns → Rising (2 ^ 63) 0 ns
    → length ns ≤ max_offered → slab_padded block ≡ 0
unfolding part slab_payload slab_padded
slab_written_padded block ns starts rises few =
    let rest = drop (2 + stream_len ns) block in
    let whole : slab_payload ns ++ rest ≡ block = ap (λ (b : List ℕ). b ++ rest) (sym starts) ∙ take-append-drop (2 + stream_len ns) block in
    ap (λ (m : ℕ). padded_in m (drop 2 block)) (slab_written block ns starts rises few).counts
    ∙ ap (λ (b : List ℕ). padded_in (length ns) (drop 2 b)) (sym whole) ∙ padded_written ns rest rises

-- a slab with a form written behind its numbers is as long as before
pub slab_with_long : (block : List ℕ) (used taken difference : ℕ) → 2 + taken + uleb_len difference ≤ length block
    → length (slab_with block used taken difference) ≡ length block
unfolding slab_with
slab_with_long block used taken difference fits =
    let counted = length_overwrite block 0 (bytes_of 2 (used + 1)) (omega arith) in
    length_overwrite (overwrite block 0 (bytes_of 2 (used + 1))) (2 + taken) (shortest difference)
    (omega (arith, length_shortest difference)) ∙ counted

-- what is known of a slab that reads: it has as many numbers as it counts, and they scan from its third byte on
pub slab_scans : {block : List ℕ} {used : ℕ} {s : Scan} → SlabReads block used s → 2 ≤ length block
    → (length s.numbers ≡ used) × (scan used (drop 2 block) ≡ accepted s)
slab_scans {block} {used} {s} r long =
    let decoded = sym (unslab_as_stream used block long) ∙ r.reads in
    let scanned : scan used (drop 2 block) ≡ accepted s =
    ap (λ (k : ℕ). scan k (drop 2 block)) (sym r.counts) ∙ (decode_accepted used (slab_used block) (drop 2 block) decoded).0 in
    ((scan_accepted 0 used (drop 2 block) s scanned).counted, scanned)

-- what stands from an offset on, once something is written behind it
drop_grown : (b : List ℕ) (o t : ℕ) (ys : List ℕ) → o ≤ length b
    → drop o (overwrite b (o + t) ys) ≡ take t (drop o b) ++ (ys ++ drop (o + t + length ys) b)
unfolding overwrite
drop_grown b o t ys h =
    let rest = ys ++ drop (o + t + length ys) b in
    rw (take-add o t b, append_assoc) (drop_at (take o b) (take t (drop o b) ++ rest) o (length-take-le o b h))

module _ (block : List ℕ) (used n : ℕ) (s : Scan) (r : SlabReads block used s) (above : last_of s < n) (below : n < 2 ^ 63)
    (fits : 2 + s.taken + uleb_len (n - last_of s) ≤ length block) (few : used < max_offered) where
  abbrev counted : List ℕ
  counted = set_field block 0 2 (used + 1)

  abbrev form : List ℕ
  form = shortest (n - last_of s)

  abbrev rest : List ℕ
  rest = drop (2 + s.taken + length form) counted

  abbrev after : List ℕ
  after = slab_with block used s.taken (n - last_of s)

  -- with its count written the slab is as long as before
  counted_long : length counted ≡ length block
  counted_long = length_set_field block 0 2 (used + 1) (omega (arith, fits))

  -- and has room for the form
  form_fits : 2 + s.taken + length form ≤ length counted
  form_fits = omega (arith, fits, counted_long, length_shortest (n - last_of s))

  -- it counts one more
  more_counts : slab_used after ≡ used + 1
  unfolding slab_with set_field field
  more_counts =
      ap little_endian (part_before counted (2 + s.taken) form form_fits 0 2 (omega arith))
      ∙ field_set block 0 2 (used + 1) (omega (arith, fits)) (omega (arith, few))

  -- its stream has the form behind
  more_stream : drop 2 after ≡ take s.taken (drop 2 block) ++ (form ++ rest)
  unfolding slab_with set_field
  more_stream =
      drop_grown counted 2 s.taken form (omega (arith, form_fits))
      ∙ ap (λ (b : List ℕ). take s.taken b ++ (form ++ rest))
      (drop_set_field block 0 2 (used + 1) (omega (arith, fits)) 2 (omega arith))

  -- which scans as its numbers and that one
  more_scanned : scan (used + 1) (drop 2 after) ≡ accepted (with_last 0 s n)
  more_scanned =
      let known = slab_scans r (omega (arith, fits)) in
      ap (scan (used + 1)) more_stream
      ∙ ap (λ (k : ℕ). scan k (take s.taken (drop 2 block) ++ (form ++ rest))) (add-one used)
      ∙ scan_snoc 0 used (drop 2 block) rest s n known.1 above below

  -- a slab with one number more written behind its numbers has as many padded ones as before
  pub slab_more_padded : slab_padded after ≡ slab_padded block
  unfolding slab_padded
  slab_more_padded =
      let known = slab_scans r (omega (arith, fits)) in
      ap (λ (m : ℕ). padded_in m (drop 2 after)) more_counts
      ∙ padded_more used (used + 1) (n - last_of s) (drop 2 block) (drop 2 after) rest s (with_last 0 s n) (omega (arith, above)) known.1
      more_scanned refl more_stream
      ∙ ap (λ (m : ℕ). padded_in m (drop 2 block)) (sym r.counts)

  -- and reads as them and that one
  pub slab_more : SlabReads after (used + 1) (with_last 0 s n)
  slab_more =
      let long : 2 ≤ length after = omega (arith, slab_with_long block used s.taken (n - last_of s) fits, fits) in
      record {
        counts = more_counts;
        reads = unslab_as_stream (used + 1) after long ∙ ap (λ (k : ℕ). decode_stream (used + 1) k (drop 2 after)) more_counts
            ∙ decode_fits (used + 1) (used + 1) (drop 2 after) more_scanned (omega arith);
      }
