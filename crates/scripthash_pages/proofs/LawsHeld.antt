-- A page of version 2 or 1 that holds the stream of a list reads as the list. Assumes nothing.
use Prim.Native.Nat.{ℕ, ◌-◌, ◌^◌, ◌≤◌}
use mathlib.Core.Bool.{Bool, true, false}
use mathlib.Core.List.{List, ◌++◌}
use mathlib.Core.Path.{◌≡◌, sym, ap, ◌∙◌}
use native.Mathlib.Omega.{arith}
use lib.ListN.{length, drop}
use Rattle.error.specs.Refusal.{accepted}
use Rattle.scripthash_layout.specs.Sizes.{page_size}
use Rattle.scripthash_stream.specs.Stream.{Rising, stream, stream_len, scan}
use Rattle.scripthash_stream.proofs.LawsStream.{scan_stream}
use Rattle.scripthash_fields.specs.Page.{version_of, count_of, stream_off}
use Rattle.scripthash_fields.proofs.LawsFields.{stream_off_extent, stream_off_other}
use Rattle.scripthash_pages.specs.Entries.{stream_place, page_scan}
use Rattle.scripthash_pages.proofs.LawsEntries.{version_byte, place_by, place_by_lem, scan_yes}
use Rattle.scripthash_pages.proofs.LawsAppend.{either_of, count_read}
use Rattle.scripthash_pages.proofs.LawsAppended.{count_least, kept_place}

module _ (b : Bool) (page ns rest : List ℕ) (long : length page ≡ page_size) (version : version_of page ≡ either_of 2 1 b)
    (counted : count_of page ≡ length ns)
    (holds : drop (either_of 24 8 b) page ≡ stream ns ++ rest) (rises : Rising (2 ^ 63) 0 ns)
    (fits : stream_len ns ≤ page_size - either_of 24 8 b) where
  held_place : stream_place page ≡ accepted (record { off = either_of 24 8 b; count = length ns })
  held_place =
      place_by_lem page (version_of page) (count_of page) long (sym (version_byte page (omega (arith, long)))) (count_read page)
      ∙ ap (λ (v : ℕ). place_by v (count_of page)) version ∙ ap (place_by (either_of 2 1 b)) counted
      ∙ kept_place b (length ns) (omega (arith, count_least 0 ns))

  -- it reads as the list
  pub held_scan : page_scan page ≡ accepted (record { numbers = ns; taken = stream_len ns })
  held_scan =
      scan_yes page (record { off = either_of 24 8 b; count = length ns }) held_place ∙ ap (scan (length ns)) holds
      ∙ scan_stream 0 ns rest rises

-- the stream's start by the version
pub off_by_version : (page : List ℕ) (b : Bool) → version_of page ≡ either_of 2 1 b → stream_off page ≡ either_of 24 8 b
off_by_version page true e = stream_off_extent page e
off_by_version page false e = stream_off_other page (λ (f : version_of page ≡ 2). omega arith)
