-- `put_three` meets its contract.
use Rattle.book_calls.proofs.LawsPut.{three_words}
use Rattle.book_calls.proofs.answers.put_three.Goals as goal

pub returns : goal.returns
returns c = three_words c.args.out.now c.args.a c.args.b c.args.c c.requires
