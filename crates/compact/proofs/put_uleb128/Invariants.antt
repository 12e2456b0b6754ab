-- What the loop of `put_uleb128` keeps: i bytes of the form are written.
use Rattle.compact.proofs.LawsWrite.{Writing}
use Rattle.compact.proofs.put_uleb128.Given as goal

abbrev pub invariant-loop-rest : goal.invariant-loop-rest
invariant-loop-rest l = Writing l.initial.dst l.n l.dst l.rest l.i

abbrev pub decreases-loop-rest : goal.decreases-loop-rest
decreases-loop-rest l = l.rest
