-- `write_byte` meets its contract: no form fits no byte, and a form of two or more doesn't fit one.
use Prim.Native.Nat.{◌/◌, ◌<◌}
use mathlib.Core.Path.{sym}
use native.Mathlib.Omega.{arith}
use borrow.Author.Tests.{eqb-true, eqb-false}
use lib.ListN.{length}
use Rattle.compact.specs.Uleb128.{uleb_len}
use Rattle.compact.proofs.LawsLength.{len_small, len_large, len_pos}
use Rattle.compact.proofs.LawsWrite.{refuses, starts, written}
use Rattle.compact.proofs.write_byte.Goals as goal
use Rattle.compact.proofs.write_byte.Goals.{then-is_empty-via-then-is_empty, then-is_empty-via-else-is_empty+then-n-ge128}

pub returns-then-is_empty : goal.returns-then-is_empty
returns-then-is_empty c =
    let n = c.args.n in
    let short : length c.args.dst.now < uleb_len n =
    elim c.then-is_empty.branch [
      | then-is_empty-via-then-is_empty w ↦ omega (arith, len_pos n, eqb-true (length c.args.dst.now) 0 (sym w.if-is_empty.ensures))
      | then-is_empty-via-else-is_empty+then-n-ge128 w ↦ omega (arith, len_large n w.if-n-ge128.true, len_pos (n / 128))
    ] in
    let no = refuses c.args.dst.now n short in record { answer = no.0; bytes = no.1 }

pub returns : goal.returns
returns c =
    let n = c.args.n in
    let some = eqb-false (length c.args.dst.now) 0 (sym c.if-is_empty.ensures) in
    let yes = written (starts c.args.dst.now n (omega (arith, some, len_small n c.if-n-ge128.false))) (omega arith) in
    record { answer = yes.0; bytes = yes.1 }
