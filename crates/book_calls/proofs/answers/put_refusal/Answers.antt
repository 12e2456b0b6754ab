-- `put_refusal` meets its contract.
use mathlib.Core.Path.{◌≡◌, ap, ◌∙◌}
use Prim.Native.Nat.{ℕ}
use lib.ListN.{set}
use Rattle.error.specs.Refusal.{refused}
use Rattle.error.specs.Answers.{number_of}
use Rattle.book_calls.specs.Steps.{Answered}
use Rattle.book_calls.proofs.LawsPut.{refusal_put}
use Rattle.book_calls.proofs.answers.put_refusal.Goals as goal

pub returns : goal.returns
returns c =
    rw (c.from-2.ensures, c.from.ensures) (refusal_put c.args.out.now (number_of c.args.refusal) c.requires)
