use Rattle.std.proofs.Common.{◌≡◌, ℕ, ◌≤◌, length}
use Rattle.scripthash_words.specs.Words.{Found}
use Rattle.scripthash_words.proofs.starts.find_singly.Given as goal

abbrev pub invariant-loop-i : goal.invariant-loop-i
invariant-loop-i l = record {
  few : l.s ≤ length l.initial.words;
  kept : length l.words ≡ length l.initial.words;
  found : (o : ℕ) → Found l.buf o l.from l.had l.initial.words → Found l.buf o l.i l.s l.words;
}
