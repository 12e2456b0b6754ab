-- `sh_page_write_stream`: the stream's encoder is lent the part from the stream's start on; the count is written last.
use Prim.Native.Nat.{ℕ, ◌-◌, ◌≤◌}
use mathlib.Core.List.{List}
use mathlib.Core.Path.{◌≡◌, sym, ap, ◌∙◌}
use native.Mathlib.Omega.{arith}
use lib.ListN.{length}
use Rattle.error.specs.Refusal.{accepted, refused}
use Rattle.buffer.specs.Bytes.{overwrite}
use Rattle.buffer.specs.LittleEndian.{bytes_of}
use Rattle.scripthash_layout.specs.Sizes.{page_size}
use Rattle.scripthash_stream.specs.Stream.{encode_stream}
use Rattle.scripthash_stream.proofs.LawsLent.{length_lent, lent_no, lent_yes}
use Rattle.scripthash_fields.specs.Page.{stream_off, stream_cap}
use Rattle.scripthash_fields.proofs.LawsFields.{stream_off_within}
use Rattle.scripthash_pages.specs.Entries.{write_stream}
use Rattle.scripthash_pages.proofs.LawsWritten.{written_as_stream, after_written_no, after_written_yes}
use Rattle.scripthash_pages.proofs.appending.sh_page_write_stream.Goals as goal

pub returns-in_err-len-clause-bytes : goal.returns-in_err-len-clause-bytes
returns-in_err-len-clause-bytes c =
    let page = c.args.page.now in
    let fks = c.args.fks.now in
    let off = c.stream_off-off.result in
    let long : length page ≡ page_size = c.in_ok-whole_page.ensures.whole in
    let within : off ≤ length page = omega (arith, c.stream_off-off.ensures, stream_off_within page, long) in
    let stop = sym (c.in_err-len.ensures.answer ∙ ap (λ (r : ℕ). encode_stream r fks) (length_lent page off within)) in
    let cap : stream_cap page ≡ length page - off = omega (arith, c.stream_off-off.ensures, long) in
    let told = written_as_stream page fks long (omega arith) ∙ ap (λ (r : ℕ). encode_stream r fks) cap ∙ stop in
    lent_no page off within fks c.encode_fk_delta_stream_into.new.out c.in_err-len.ensures.bytes stop
    ∙ sym (after_written_no page fks (write_stream page fks) told)

pub returns-clause-bytes : goal.returns-clause-bytes
returns-clause-bytes c =
    let page = c.args.page.now in
    let fks = c.args.fks.now in
    let off = c.stream_off-off.result in
    let long : length page ≡ page_size = c.in_ok-whole_page.ensures.whole in
    let within : off ≤ length page = omega (arith, c.stream_off-off.ensures, stream_off_within page, long) in
    let is = sym (c.in_ok-len.ensures.answer ∙ ap (λ (r : ℕ). encode_stream r fks) (length_lent page off within)) in
    let cap : stream_cap page ≡ length page - off = omega (arith, c.stream_off-off.ensures, long) in
    let told = written_as_stream page fks long (omega arith) ∙ ap (λ (r : ℕ). encode_stream r fks) cap ∙ is in
    c.put_u16.ensures
    ∙ ap (λ (b : List ℕ). overwrite b 1 (bytes_of 2 (length fks)))
    (lent_yes page off within fks c.encode_fk_delta_stream_into.new.out c.in_ok-len.ensures.bytes is)
    ∙ after_written_yes page fks (write_stream page fks) off c.stream_off-off.ensures told
