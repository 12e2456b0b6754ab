-- Whichever way it takes fills all.
use Rattle.scripthash_scan.proofs.LawsFill.{filled_whole}
use Rattle.scripthash_scan.proofs.fill.fill_all.Goals as goal

pub returns-then-fill_by_words : goal.returns-then-fill_by_words
returns-then-fill_by_words c s e =
    let a = c.args in
    filled_whole a.n a.buf.now a.out.now _ s e c.requires (c.fill_by_words.ensures.1 c.if-fill_by_words.true s e)
