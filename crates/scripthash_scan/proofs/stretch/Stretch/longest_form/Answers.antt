-- What each look tells, with what is known of the bytes before.
use Rattle.std.proofs.Common.{arith}
use Rattle.scripthash_scan.proofs.LawsLongest.{longest_two, longest_three, longest_five}
use Rattle.scripthash_scan.proofs.stretch.Stretch.longest_form.Goals as goal

pub returns-then-look : goal.returns-then-look
returns-then-look c =
    let a = c.args.self.now in
    longest_two a.buf.now a.from a.to (c.look.ensures c.if-look.true) (c.requires.0 (omega arith))

pub returns-then-look-2 : goal.returns-then-look-2
returns-then-look-2 c =
    let a = c.args.self.now in
    longest_three a.buf.now a.from a.to (c.look-then-before-le3.ensures c.if-look-2.true) (c.requires.1 (omega arith))

pub returns-then-look-3 : goal.returns-then-look-3
returns-then-look-3 c =
    let a = c.args.self.now in
    longest_five a.buf.now a.from a.to (c.look-2.ensures c.if-look-3.true)
