-- `put_five` meets its contract.
use Rattle.book_calls.proofs.LawsPut.{five_words}
use Rattle.book_calls.proofs.answers.put_five.Goals as goal

pub returns : goal.returns
returns c = five_words c.args.out.now c.args.a c.args.b c.args.c c.args.d c.args.e c.requires
