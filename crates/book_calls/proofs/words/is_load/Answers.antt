-- `is_load` meets its contract, by its test.
use Rattle.std.proofs.Common.{rules, eq-eqb, ne_eqb}
use Rattle.book_words.specs.SpellCalls.{is_load}
use Rattle.book_calls.proofs.words.is_load.Goals as goal

pub returns-then-kind-eq-LOAD : goal.returns-then-kind-eq-LOAD
unfolding is_load
returns-then-kind-eq-LOAD c = rw (eq-eqb c.args.kind 0 c.if-kind-eq-LOAD.true)

pub returns : goal.returns
unfolding is_load
returns c = rw (ne_eqb c.args.kind 0 c.if-kind-eq-LOAD.false) (search rules)
