use Rattle.std.proofs.Common.{◌≡◌, ◌+◌, ◌-◌, ◌≤◌, length}
use Rattle.scripthash_words.specs.Words.{Found}
use Rattle.scripthash_words.proofs.starts.find_by_eight.Given as goal

abbrev pub invariant-loop-s : goal.invariant-loop-s
invariant-loop-s l = record {
  behind : l.from ≤ l.i;
  within : l.i ≤ length l.buf;
  few : l.s ≤ l.want + 8;
  kept : length l.words ≡ length l.initial.words;
  found : Found l.buf l.from l.i l.s l.words;
}

abbrev pub decreases-loop-s : goal.decreases-loop-s
decreases-loop-s l = length l.buf - l.i
