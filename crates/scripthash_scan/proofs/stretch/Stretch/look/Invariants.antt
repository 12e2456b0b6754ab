-- What the least and the greatest tell of the bytes so far.
use Rattle.scripthash_scan.specs.Weights.{in_a_row}
use Rattle.scripthash_scan.proofs.LawsLongest.{Looked}
use Rattle.scripthash_scan.proofs.stretch.Stretch.look.Given as goal

abbrev pub invariant-loop-i : goal.invariant-loop-i
invariant-loop-i g l = Looked l.self.buf.now (in_a_row g.row.N l.self.buf.now) l.least l.most l.self.from l.i
