-- What the loop of `read_form` keeps: reading resumed at index i, with the value of the pieces before it, gives the answer for the whole
-- buffer.
use Rattle.std.proofs.Common.{length, ◌≡◌, ◌≤◌, ◌<◌, ◌*◌}
use Prim.Native.Nat.{◌^◌}
use lib.ListN.{drop}
use Rattle.compact.specs.Uleb128.{read_uleb}
use Rattle.compact.proofs.LawsReadFrom.{read_from}
use Rattle.compact.proofs.read_form.Given as goal

abbrev pub invariant-loop-i : goal.invariant-loop-i
invariant-loop-i l = record {
  within : l.i ≤ length l.buf;
  small : l.value < 2 ^ (7 * l.i);
  resumed : read_from l.i l.value (drop l.i l.buf) ≡ read_uleb l.buf;
}
