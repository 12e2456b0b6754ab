-- `write_two` meets its contract: two bytes are room for its forms.
use native.Mathlib.Omega.{arith}
use Rattle.compact.proofs.LawsLength.{len_small, len_two}
use Rattle.compact.proofs.LawsWrite.{starts, goes, written}
use Rattle.compact.proofs.write_two.Goals as goal

pub returns-then-n-lt128 : goal.returns-then-n-lt128
returns-then-n-lt128 c =
    let n = c.args.n in
    let yes = written (starts c.args.dst.now n (omega (arith, len_small n (omega arith)))) (omega arith) in
    record { answer = yes.0; bytes = yes.1 }

pub returns : goal.returns
returns c =
    let n = c.args.n in
    let one = goes (starts c.args.dst.now n (omega (arith, len_two n (omega arith) (omega arith)))) (omega arith) in
    let yes = written one (omega arith) in
    record { answer = yes.0; bytes = yes.1 }
