-- The forms that ended and those left are the forms wanted.
use Rattle.scripthash_scan.specs.Weights.{Counts}
use Rattle.scripthash_scan.proofs.ends.end_of.Given as goal

abbrev pub invariant-loop-at : goal.invariant-loop-at
invariant-loop-at l = Counts l.buf l.from l.want l.at l.left
