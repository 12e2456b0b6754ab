-- The value so far, taken on by the digits behind, is the value of all.
use Rattle.std.proofs.Common.{◌≡◌, ◌<◌, ◌^◌, drop}
use Rattle.decimal.specs.Decimal.{value_from, value_of}
use Rattle.decimal.proofs.value_of.Given as goal

abbrev pub invariant-loop-b : goal.invariant-loop-b
invariant-loop-b l = (value_from l.value (drop l.b-index l.word) ≡ value_of l.word) × (l.value < 2 ^ 64)
