-- `stored_number` meets its contract: each test of the code is the definition's.
use Prim.Native.Nat.{◌+◌, ◌^◌}
use mathlib.Core.Path.{◌≡◌, sym}
use native.Mathlib.Omega.{arith}
use borrow.Author.Tests.{lt-leb, le-leb, eq-eqb, ne_eqb}
use Rattle.error.specs.Refusal.{refuse_if}
use Rattle.scripthash_stream.specs.Stream.{stored_number}
use Rattle.scripthash_stream.proofs.LawsScan.{stored_sum}
use Rattle.scripthash_stream.proofs.stream.stored_number.Goals as goal

pub returns-then-prev-eq0 : goal.returns-then-prev-eq0
unfolding stored_number refuse_if
returns-then-prev-eq0 c = rw (eq-eqb c.args.d 0 (omega arith), eq-eqb c.args.prev 0 (omega arith))

pub returns-then-d-eq0 : goal.returns-then-d-eq0
unfolding stored_number refuse_if
returns-then-d-eq0 c = rw (eq-eqb c.args.d 0 (omega arith), ne_eqb c.args.prev 0 (λ (e : c.args.prev ≡ 0). omega arith))

pub returns-in_default : goal.returns-in_default
unfolding stored_number refuse_if
returns-in_default c =
    rw (ne_eqb c.args.d 0 (λ (e : c.args.d ≡ 0). omega arith), le-leb (2 ^ 64) (c.args.prev + c.args.d) (omega (arith, c.in_default.ensures)))

pub returns-then-fk-ge-BIT_63 : goal.returns-then-fk-ge-BIT_63
unfolding stored_number refuse_if
returns-then-fk-ge-BIT_63 c =
    rw (
      ne_eqb c.args.d 0 (λ (e : c.args.d ≡ 0). omega arith),
      lt-leb (2 ^ 64) (c.args.prev + c.args.d) c.in-Some.ensures.0,
      le-leb (2 ^ 63) (c.args.prev + c.args.d) (omega (arith, c.in-Some.ensures.1)),
    )

pub returns : goal.returns
returns c =
    rw c.in-Some.ensures.1
    (sym (stored_sum c.args.prev (record { value = c.args.d; len = c.args.len }) (omega arith) (omega (arith, c.in-Some.ensures.1))))
