-- The least byte so far goes on where all of them do.
use Rattle.std.proofs.Common.{◌≡◌}
use Rattle.compact.specs.Uleb128.{goes_on}
use Rattle.scripthash_scan.specs.Weights.{in_a_row}
use Rattle.scripthash_scan.proofs.look.least_of.Given as goal

abbrev pub invariant-loop-k : goal.invariant-loop-k
invariant-loop-k g l = goes_on l.least ≡ in_a_row l.k l.buf l.i
