-- `page_padded` meets its contract: the bytes from where the stream starts are counted.
use Rattle.std.proofs.Common.{ℕ, sym, ap, ◌∙◌, drop}
use borrow.Author.Tests.{not-true, not-false}
use Rattle.buffer.proofs.LawsBytes.{part_to_end}
use Rattle.book_keys.proofs.LawsPages.{field_read, page_counted}
use Rattle.book_keys.proofs.LawsWalk.{asked_yes, asked_no}
use Rattle.book_keys.proofs.chain.page_padded.Goals as goal

pub returns-then-not-counted : goal.returns-then-not-counted
returns-then-not-counted c = λ s scans taken. sym (asked_no c.args.counted _ (not-true _ c.if-not-counted.true-raw))

pub returns : goal.returns
returns c = λ s scans taken.
    let page = c.args.page.now in
    page_counted page _ c.from-count.result c.args.taken _ (c.from-count.ensures ∙ c.get_u16.ensures ∙ field_read page 1 2)
    (part_to_end page c.stream_off-start.result ∙ ap (λ (i : ℕ). drop i page) c.stream_off-start.ensures)
    c.count_padded.ensures s scans taken
    ∙ sym (asked_yes c.args.counted _ (not-false _ c.if-not-counted.false-raw))
