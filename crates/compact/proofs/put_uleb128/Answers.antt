-- `put_uleb128` meets its contract.
use Rattle.std.proofs.Common.{arith}
use Rattle.compact.proofs.LawsWrite.{inside, goes, ends}
use Rattle.compact.proofs.put_uleb128.Goals as goal

pub bounds-dst-i : goal.bounds-dst-i
bounds-dst-i c = inside c.loop-rest.invariant

pub loop-rest-preserved : goal.loop-rest-preserved
loop-rest-preserved c = goes c.loop-rest.invariant (omega arith)

pub bounds-dst-i-2 : goal.bounds-dst-i-2
bounds-dst-i-2 c = inside c.loop-rest.invariant

pub returns-clause-len : goal.returns-clause-len
returns-clause-len c = (ends c.loop-rest.invariant (omega arith)).0

pub returns-clause-bytes : goal.returns-clause-bytes
returns-clause-bytes c = (ends c.loop-rest.invariant (omega arith)).1
