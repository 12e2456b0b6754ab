-- Of the pages looked at, those below the end are kept.
use Rattle.free_runs.proofs.LawsSparse.{Sifting}
use Rattle.free_runs.proofs.sparse.drop_behind.Given as goal

abbrev pub invariant-loop-i : goal.invariant-loop-i
invariant-loop-i l = Sifting l.end l.initial.kept l.kept l.i l.stay
