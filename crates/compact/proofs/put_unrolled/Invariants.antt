-- What the loop of `put_unrolled` keeps: i bytes of the form are written.
use Rattle.compact.proofs.LawsWrite.{Writing}
use Rattle.compact.proofs.put_unrolled.Given as goal

abbrev pub invariant-loop-i : goal.invariant-loop-i
invariant-loop-i l = Writing l.initial.dst l.n l.dst l.rest l.i
