-- `fit_of` meets its contract, by its test.
use Rattle.std.proofs.Common.{eq-eqb, ne_eqb}
use Rattle.book_words.specs.SpellCalls.{fit_of}
use Rattle.book_calls.proofs.words.fit_of.Goals as goal

pub returns-then-kind-eq-LOAD : goal.returns-then-kind-eq-LOAD
unfolding fit_of
returns-then-kind-eq-LOAD c = rw (eq-eqb c.args.kind 0 c.if-kind-eq-LOAD.true)

pub returns : goal.returns
unfolding fit_of
returns c = rw (ne_eqb c.args.kind 0 c.if-kind-eq-LOAD.false)
