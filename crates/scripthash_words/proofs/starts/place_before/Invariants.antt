use Rattle.std.proofs.Common.{◌≡◌, ◌+◌, ◌≤◌, length}
use Rattle.scripthash_words.specs.Words.{words_at}
use Rattle.scripthash_words.proofs.starts.place_before.Given as goal

abbrev pub invariant-loop-left : goal.invariant-loop-left
invariant-loop-left l = record {
  behind : l.from ≤ l.i;
  before : l.i ≤ l.at;
  counted : length (words_at l.buf l.at) + l.more ≡ length (words_at l.buf l.i) + l.left;
}

abbrev pub decreases-loop-left : goal.decreases-loop-left
decreases-loop-left l = l.i
