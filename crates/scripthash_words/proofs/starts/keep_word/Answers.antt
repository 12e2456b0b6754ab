use Rattle.std.proofs.Common.{arith, rules}
use Rattle.scripthash_words.proofs.LawsStarts.{found_next}
use Rattle.scripthash_words.proofs.starts.keep_word.Goals as goal

pub returns : goal.returns
returns c =
    let a = c.args in (
      search rules,
      search rules,
      λ from k. rw (c.ends_form.ensures.0, c.requires.2) (found_next a.buf.now from a.i a.s a.words.now k (omega arith) (omega arith)),
    )
