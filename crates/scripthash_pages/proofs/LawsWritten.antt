-- Writing the stream of a list to a page: the cases of the answer and of the page afterwards, and what the page reads as. Assumes nothing.
use Prim.Native.Nat.{ℕ, ◌≤◌, ◌<◌, ◌+◌, ◌^◌}
use mathlib.Core.Bool.{Bool, not}
use mathlib.Core.List.{List, ◌++◌}
use mathlib.Core.Path.{◌≡◌, sym, ap, ◌∙◌}
use mathlib.Core.Logic.{inl, inr}
use native.Mathlib.Omega.{arith}
use borrow.Author.Tests.{eq-eqb, ne_eqb, lt-ltb, le-ltb, eqb-true, not-false}
use lib.Dec.{ltb, eqb}
use lib.ListN.{length, drop, take}
use lib.Seq.{drop_at, length-take-le}
use Rattle.error.specs.Refusal.{Answer, accepted, refused, page_length, too_many_offered}
use Rattle.error.proofs.LawsAnswer.{refuse_yes, refuse_no, passed}
use Rattle.buffer.specs.Bytes.{overwrite}
use Rattle.buffer.specs.LittleEndian.{bytes_of, little_endian}
use Rattle.buffer.proofs.LawsBytes.{length_overwrite}
use Rattle.buffer.proofs.LawsOverwrite.{part_before}
use Rattle.scripthash_layout.specs.Sizes.{page_size}
use Rattle.scripthash_stream.specs.Stream.{stream, encode_stream, max_offered, Rising, stream_len}
use Rattle.scripthash_stream.proofs.LawsStream.{length_stream}
use Rattle.scripthash_stream.proofs.LawsEncode.{encode_accepted}
use Rattle.scripthash_fields.specs.Page.{set_field, names_extent, stream_off, stream_cap, field, version_of, count_of}
use Rattle.scripthash_fields.proofs.LawsPage.{field_set, field_apart, length_set_field, drop_set_field}
use Rattle.scripthash_fields.proofs.LawsFields.{stream_off_within}
use Rattle.scripthash_pages.specs.Entries.{write_stream, after_write_stream, page_scan}
use Rattle.scripthash_pages.proofs.LawsAppend.{either_of}
use Rattle.scripthash_pages.proofs.LawsAppended.{count_least, off_late}
use Rattle.scripthash_pages.proofs.LawsHeld.{off_by_version, held_scan}

module _ (page ns : List ℕ) where
  -- a buffer of another length is refused
  pub written_length : (length page ≡ page_size → ⊥) → write_stream page ns ≡ refused page_length
  unfolding write_stream
  written_length h = refuse_yes (not (eqb (length page) page_size)) _ _ (ap not (ne_eqb (length page) page_size h))

  -- more numbers than two bytes count are refused
  pub written_many : length page ≡ page_size → max_offered < length ns → write_stream page ns ≡ refused too_many_offered
  unfolding write_stream
  written_many long h =
      refuse_no (not (eqb (length page) page_size)) _ _ (ap not (eq-eqb (length page) page_size long))
      ∙ refuse_yes (ltb max_offered (length ns)) _ _ (lt-ltb max_offered (length ns) h)

  -- and else the stream decides
  pub written_as_stream : length page ≡ page_size → length ns ≤ max_offered → write_stream page ns ≡ encode_stream (stream_cap page) ns
  unfolding write_stream
  written_as_stream long h =
      refuse_no (not (eqb (length page) page_size)) _ _ (ap not (eq-eqb (length page) page_size long))
      ∙ refuse_no (ltb max_offered (length ns)) _ _ (le-ltb max_offered (length ns) h)

  -- a refusal leaves the page as it was
  pub after_written_no : (a : Answer ℕ) {number : ℕ} → a ≡ refused number → after_write_stream page ns a ≡ page
  unfolding after_write_stream
  after_written_no a e = rw e

  -- an acceptance writes the stream at its start, and the count
  pub after_written_yes : (a : Answer ℕ) (off : ℕ) {len : ℕ} → off ≡ stream_off page → a ≡ accepted len
      → overwrite (overwrite page off (stream ns)) 1 (bytes_of 2 (length ns)) ≡ after_write_stream page ns a
  unfolding after_write_stream set_field
  after_written_yes a off off_is e = rw e (ap (λ (o : ℕ). overwrite (overwrite page o (stream ns)) 1 (bytes_of 2 (length ns))) off_is)

-- ---- a page whose stream was written

module _ (page ns : List ℕ) (long : length page ≡ page_size) (rises : Rising (2 ^ 63) 0 ns) (fits : stream_len ns ≤ stream_cap page) where
  abbrev between : List ℕ
  between = overwrite page (stream_off page) (stream ns)

  abbrev after : List ℕ
  after = set_field between 1 2 (length ns)

  inside : stream_off page + length (stream ns) ≤ length page
  inside = omega (arith, length_stream 0 ns, stream_off_within page, long)

  between_long : length between ≡ page_size
  between_long = length_overwrite page (stream_off page) (stream ns) inside ∙ long

  count_inside : 1 + 2 ≤ length between
  count_inside = omega (arith, between_long)

  -- the length, and a field of the header other than the count, stay
  pub written_long : length after ≡ page_size
  written_long = length_set_field between 1 2 (length ns) count_inside ∙ between_long

  early : (o k : ℕ) → o + k ≤ stream_off page → field between o k ≡ field page o k
  unfolding field
  early o k h = ap little_endian (part_before page (stream_off page) (stream ns) inside o k h)

  pub written_version : version_of after ≡ version_of page
  written_version =
      let far = off_late (names_extent page) in
      field_apart between 1 2 (length ns) count_inside 0 1 (inl (omega arith)) ∙ early 0 1 (omega arith)

  pub written_header : (o k : ℕ) → 3 ≤ o → o + k ≤ stream_off page → field after o k ≡ field page o k
  written_header o k h l = field_apart between 1 2 (length ns) count_inside o k (inr h) ∙ early o k l

  pub written_count : count_of after ≡ length ns
  written_count = field_set between 1 2 (length ns) count_inside (omega (arith, count_least 0 ns, fits))

  held : drop (stream_off page) after ≡ stream ns ++ drop (stream_off page + length (stream ns)) page
  unfolding overwrite
  held =
      let far = off_late (names_extent page) in
      drop_set_field between 1 2 (length ns) count_inside (stream_off page) (omega arith)
      ∙ drop_at (take (stream_off page) page) (stream ns ++ drop (stream_off page + length (stream ns)) page) (stream_off page)
      (length-take-le (stream_off page) page (omega (arith, inside)))

  -- in version 2 or 1 it reads as the list
  pub written_scan : (b : Bool) → version_of page ≡ either_of 2 1 b
      → page_scan after ≡ accepted (record { numbers = ns; taken = stream_len ns })
  written_scan b version =
      let start = off_by_version page b version in
      held_scan b after ns _ written_long (written_version ∙ version) written_count (ap (λ (o : ℕ). drop o after) (sym start) ∙ held) rises
      (omega (arith, start))

-- What is known of a list that was written to a page: it rises and fits, and the answer is its stream's length.
pub record Written (page ns : List ℕ) (len : ℕ) : Type 0 where
  pub long : length page ≡ page_size
  pub rises : Rising (2 ^ 63) 0 ns
  pub fits : stream_len ns ≤ stream_cap page
  pub taken : stream_len ns ≡ len

pub write_accepted : (page ns : List ℕ) (len : ℕ) → write_stream page ns ≡ accepted len → Written page ns len
unfolding write_stream
write_accepted page ns len e =
    let l = passed (not (eqb (length page) page_size)) _ _ e in
    let m = passed (ltb max_offered (length ns)) _ _ l.1 in
    let h = encode_accepted (stream_cap page) ns m.1 in
    record {
      long = eqb-true (length page) page_size (not-false (eqb (length page) page_size) l.0);
      rises = h.0;
      fits = h.1;
      taken = h.2;
    }

-- what `sh_page_write_stream` leaves where it accepts, in version 2 or 1
pub write_scan : (page ns : List ℕ) (len : ℕ) (b : Bool) → version_of page ≡ either_of 2 1 b → write_stream page ns ≡ accepted len
    → page_scan (after_write_stream page ns (write_stream page ns)) ≡ accepted (record { numbers = ns; taken = len })
unfolding after_write_stream
write_scan page ns len b version e =
    let w = write_accepted page ns len e in
    rw (e, ← w.taken) (written_scan page ns w.long w.rises w.fits b version)
