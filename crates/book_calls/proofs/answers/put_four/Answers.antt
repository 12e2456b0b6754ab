-- `put_four` meets its contract.
use Rattle.book_calls.proofs.LawsPut.{four_words}
use Rattle.book_calls.proofs.answers.put_four.Goals as goal

pub returns : goal.returns
returns c = four_words c.args.out.now c.args.a c.args.b c.args.c c.args.d c.requires
