-- `sh_page_entries_into`: the stream's place decides, then the decoder, on the part from there on.
use Prim.Native.Nat.{ℕ, ◌-◌}
use mathlib.Core.List.{List}
use mathlib.Core.Path.{◌≡◌, sym, ap, ◌∙◌}
use lib.ListN.{length, take, drop}
use Rattle.std.proofs.lemmas.Result.{err_from_is_err_and}
use Rattle.error.specs.Refusal.{Answer, accepted, refused, answered}
use Rattle.error.proofs.LawsAnswer.{was_accepted, was_refused, answered_yes, answered_no}
use Rattle.buffer.proofs.LawsBytes.{part_to_end}
use Rattle.scripthash_stream.specs.Stream.{Scan, StreamTold, stream_told, padded_in, decode_stream, after_decode}
use Rattle.scripthash_stream.proofs.LawsScan.{scan_accepted}
use Rattle.scripthash_stream.proofs.LawsDecode.{decode_accepted}
use Rattle.scripthash_pages.specs.Entries.{StreamAt, stream_place, page_entries, page_padded, entries_read_of}
use Rattle.scripthash_pages.proofs.LawsEntries.{entries_yes, padded_at}
use Rattle.scripthash_pages.proofs.entries.sh_page_entries_into.Goals as goal

-- the decoder was lent the part of a page from its stream's place on
module _ (page out : List ℕ) (off count : ℕ) (placed : accepted (record { off = off; count = count }) ≡ stream_place page) where
  abbrev rest : List ℕ
  rest = take (length page - off) (drop off page)

  abbrev place : StreamAt
  place = record { off = off; count = count }

  same : decode_stream (length out) count rest ≡ page_entries (length out) page
  same = ap (decode_stream (length out) count) (part_to_end page off) ∙ sym (entries_yes (length out) page place (sym placed))

  list : (after : List ℕ) → after ≡ after_decode out (decode_stream (length out) count rest)
      → after ≡ after_decode out (page_entries (length out) page)
  list after e = e ∙ ap (after_decode out) same

  stopped : (number : ℕ) → refused number ≡ answered (stream_told count rest) (decode_stream (length out) count rest)
      → refused number ≡ answered (entries_read_of page) (page_entries (length out) page)
  stopped number e =
      let stop = was_refused (stream_told count rest) (decode_stream (length out) count rest) (sym e) in
      sym (answered_no (entries_read_of page) (page_entries (length out) page) (sym same ∙ stop))

  told : (read : StreamTold) → accepted read ≡ answered (stream_told count rest) (decode_stream (length out) count rest)
      → accepted (record { count = count; padded = read.padded }) ≡ answered (entries_read_of page) (page_entries (length out) page)
  told read e =
      let got = was_accepted (stream_told count rest) (decode_stream (length out) count rest) (sym e) in
      let known = scan_accepted 0 _ _ _ (decode_accepted (length out) count rest got.1).0 in
      let counted = sym (ap (λ (t : StreamTold). t.padded) got.2) ∙ ap (padded_in count) (part_to_end page off)
      ∙ padded_at page place (sym placed) in
      ap (λ (n : ℕ). accepted (record { count = n; padded = read.padded })) (sym known.counted)
      ∙ ap (λ (m : ℕ). accepted (record { count = length got.0.numbers; padded = m })) counted
      ∙ sym (answered_yes (entries_read_of page) (page_entries (length out) page) (sym same ∙ got.1))

pub returns-in_err-read-clause-answer : goal.returns-in_err-read-clause-answer
returns-in_err-read-clause-answer c =
    let p = err_from_is_err_and c.from_residual-in_err-read.result c.from_residual-in_err-read.ensures.1 in
    rw (p.1, p.2)
    (stopped c.args.page.now c.args.out.now c.in_ok-place.place.off c.in_ok-place.place.count c.in_ok-place.ensures.answer _
    c.in_err-read.ensures.answer)

pub returns-in_err-read-clause-list : goal.returns-in_err-read-clause-list
returns-in_err-read-clause-list c =
    list c.args.page.now c.args.out.now c.in_ok-place.place.off c.in_ok-place.place.count c.in_ok-place.ensures.answer _
    c.decode_fk_delta_stream_into.ensures.list

pub returns-clause-answer : goal.returns-clause-answer
returns-clause-answer c =
    told c.args.page.now c.args.out.now c.in_ok-place.place.off c.in_ok-place.place.count c.in_ok-place.ensures.answer _
    c.in_ok-read.ensures.answer

pub returns-clause-list : goal.returns-clause-list
returns-clause-list c =
    list c.args.page.now c.args.out.now c.in_ok-place.place.off c.in_ok-place.place.count c.in_ok-place.ensures.answer _
    c.decode_fk_delta_stream_into.ensures.list
