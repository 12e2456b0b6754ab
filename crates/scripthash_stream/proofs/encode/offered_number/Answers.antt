-- `offered_number` meets its contract: behind a number below 2 ^ 63 one that is no larger has bit 63 clear, so the tests may come in the
-- code's order.
use Rattle.std.proofs.Common.{◌-◌, ◌^◌, ◌≡◌, sym, ap, ◌∙◌, [], ◌∷◌, arith, le-leb, eq-eqb, ne_eqb, eqb}
use borrow.Author.Tests.{lt-leb}
use Rattle.error.specs.Refusal.{refuse_if, accepted}
use Rattle.compact.specs.Uleb128.{uleb_len}
use Rattle.scripthash_stream.specs.Stream.{Rising, judged}
use Rattle.scripthash_stream.proofs.LawsEncode.{and_no, judged_rising}
use Rattle.scripthash_stream.proofs.encode.offered_number.Goals as goal

pub returns-then-prev-eq0 : goal.returns-then-prev-eq0
unfolding judged refuse_if
returns-then-prev-eq0 c =
    let a = c.args in
    rw (eq-eqb a.prev 0 (omega arith), eq-eqb a.fk 0 (omega arith))

pub returns-then-fk-prev : goal.returns-then-fk-prev
unfolding judged refuse_if
returns-then-fk-prev c =
    let a = c.args in
    rw (
      ne_eqb a.prev 0 (λ (e : a.prev ≡ 0). omega arith),
      lt-leb (2 ^ 63) a.fk (omega arith),
      le-leb a.fk a.prev (omega arith),
    )

pub returns-then-fk-ge-BIT_63 : goal.returns-then-fk-ge-BIT_63
unfolding judged refuse_if
returns-then-fk-ge-BIT_63 c =
    let a = c.args in
    rw (and_no (eqb a.prev 0) (eqb a.fk 0) (ne_eqb a.fk 0 (λ (e : a.fk ≡ 0). omega arith)), le-leb (2 ^ 63) a.fk (omega arith))

pub returns : goal.returns
unfolding Rising
returns c =
    let a = c.args in
    ap accepted c.uleb128_len.ensures ∙ sym (judged_rising a.prev (a.fk ∷ []) (accepted (uleb_len (a.fk - a.prev)))
    (omega arith, omega arith, tt))
