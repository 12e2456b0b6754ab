use Rattle.std.proofs.Common.{◌≡◌, ◌-◌, ℕ, length, take, drop, arith, length-take, length-drop}
use Rattle.scripthash_words.proofs.LawsFilling.{rest_whole, short_read}
use Rattle.scripthash_words.proofs.read.read_by_words.Goals as goal

pub returns-then-end-gt0 : goal.returns-then-end-gt0
returns-then-end-gt0 c =
    let a = c.args in
    let first = c.in-Some.first in
    let size : length (take (a.n - 1) (drop 1 a.out.now)) ≡ a.n - 1 = omega (arith, length-take {A = ℕ}, length-drop {A = ℕ}) in
    let rest = rest_whole c.read_behind-end.result a.buf.now first.len first.fk (a.n - 1) _ a.out.now c.read_behind-end.new.out
    (omega arith) (rw size at c.read_behind-end.ensures) in
    short_read c.read_behind-end.result a.top a.n first.fk first.len a.buf.now a.out.now _ c.in-Some.ensures (omega arith)
    (omega arith) (omega arith) (omega arith) rest (omega arith)
