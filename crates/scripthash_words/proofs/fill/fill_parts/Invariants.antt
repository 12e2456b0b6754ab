use Rattle.std.proofs.Common.{◌≡◌, ◌+◌, ◌-◌, ◌*◌, ◌^◌, ◌<◌, ◌≤◌, length}
use Rattle.scripthash_words.specs.Words.{Filling}
use Rattle.scripthash_words.proofs.fill.fill_parts.Given as goal

abbrev pub invariant-loop-done : goal.invariant-loop-done
invariant-loop-done l = record {
  some : 0 < l.i;
  within : l.i ≤ length l.buf;
  room : length l.words ≡ 136;
  few : l.done ≤ length l.initial.out;
  kept : length l.out ≡ length l.initial.out;
  low : l.sum + 2 ^ 32 * (length l.initial.out - l.done) < 2 ^ 64;
  filling : Filling l.buf l.fn.first.len l.fn.first.fk (length l.initial.out) l.initial.out 0 l.i l.sum (length l.initial.out - l.done) l.out l.done;
}

abbrev pub decreases-loop-done : goal.decreases-loop-done
decreases-loop-done l = length l.initial.out - l.done
