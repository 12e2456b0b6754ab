use Rattle.std.proofs.Common.{◌≡◌, ℕ, ◌+◌, ◌≤◌, length}
use Rattle.scripthash_words.specs.Words.{Found}
use Rattle.scripthash_words.proofs.starts.keep_eight.Given as goal

abbrev pub invariant-loop-j : goal.invariant-loop-j
invariant-loop-j l = record {
  few : l.next ≤ l.s + l.j;
  kept : length l.words ≡ length l.initial.words;
  found : (from : ℕ) → Found l.buf from l.i l.s l.initial.words → Found l.buf from (l.i + l.j) l.next l.words;
}
