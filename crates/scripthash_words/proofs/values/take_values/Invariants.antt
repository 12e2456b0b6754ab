use Rattle.std.proofs.Common.{◌≡◌, ◌*◌, ◌≤◌, length}
use Rattle.scripthash_words.proofs.LawsValues.{Taken}
use Rattle.scripthash_words.proofs.values.take_values.Given as goal

abbrev pub invariant-loop-word : goal.invariant-loop-word
invariant-loop-word l = record {
  few : l.bad ≤ 2 * l.word-index;
  kept : length l.words ≡ length l.initial.words;
  taken : Taken l.initial.words l.words l.word-index l.bad;
}
