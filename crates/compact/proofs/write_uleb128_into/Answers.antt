-- `write_uleb128_into` meets its contract: each way of writing does.
use native.Mathlib.Omega.{arith}
use Rattle.compact.proofs.LawsWrite.{accepts, refuses}
use Rattle.compact.proofs.write_uleb128_into.Goals as goal

pub returns-then-dst-uleb128_len : goal.returns-then-dst-uleb128_len
returns-then-dst-uleb128_len c = let no = refuses c.args.dst.now c.args.n (omega arith) in record { answer = no.0; bytes = no.1 }

pub returns : goal.returns
returns c =
    let put = c.put_unrolled.ensures in
    let yes = accepts c.args.dst.now c.put_unrolled.new.dst c.args.n c.put_unrolled.result (omega arith) (put.len, put.bytes) in
    record { answer = yes.0; bytes = yes.1 }
