-- `fill_page` meets its contract: the count in its header and the room, then its stream.
use Rattle.std.proofs.Common.{ℕ, List, ◌≡◌, ap, ◌∙◌, arith, length, drop}
use Rattle.buffer.proofs.LawsBytes.{part_to_end}
use Rattle.scripthash_stream.specs.Stream.{scan}
use Rattle.scripthash_fields.specs.Page.{count_of}
use Rattle.scripthash_fields.proofs.LawsFields.{stream_off_within}
use Rattle.book_keys.proofs.LawsPages.{field_read}
use Rattle.book_keys.proofs.LawsFill.{page_short, page_filled}
use Rattle.book_keys.proofs.chain.fill_page.Goals as goal

pub returns-then-out-count : goal.returns-then-out-count
returns-then-out-count c =
    let page = c.args.page.now in
    let counts : c.from-count.result ≡ count_of page = c.from-count.ensures ∙ c.get_u16.ensures ∙ field_read page 1 2 in
    page_short page c.args.out.now (omega (arith, c.if-out-count.true, counts))

pub returns : goal.returns
returns c =
    let page = c.args.page.now in
    let counts : c.from-count.result ≡ count_of page = c.from-count.ensures ∙ c.get_u16.ensures ∙ field_read page 1 2 in
    let bytes = part_to_end page c.stream_off-start.result ∙ ap (λ (i : ℕ). drop i page) c.stream_off-start.ensures in
    page_filled page c.args.out.now _ c.from-count.result c.next_off.result counts c.next_off.ensures (omega (arith, c.if-out-count.false))
    (λ s e h. c.fill_fk_delta_stream.ensures s (ap (λ (bs : List ℕ). scan c.from-count.result bs) bytes ∙ e) h)
