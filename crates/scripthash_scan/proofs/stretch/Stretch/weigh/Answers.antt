-- The sums of both halves, and the last byte where it is left over.
use Rattle.std.proofs.Common.{◌≡◌, ℕ, ◌+◌, ◌-◌, ◌*◌, ◌/◌, get_or, ap, ◌∙◌, arith}
use Rattle.std.proofs.lemmas.List.{get_or-replicate}
use Rattle.scripthash_scan.proofs.LawsTotals.{AddEach, both_next, both_all, adds_last, weighed_next, weighed_most}
use Rattle.scripthash_scan.proofs.stretch.Stretch.weigh.Goals as goal
use Rattle.scripthash_scan.proofs.stretch.Stretch.weigh.Goals.{then-self-half, else-self-half}

pub loop-i-preserved : goal.loop-i-preserved
loop-i-preserved g c = (
  c.add_both.ensures.size,
  λ k h.
      let p = c.pieces_at-p.ensures k h in
      let q = c.pieces_at-q.ensures k h in
      rw (c.add_both.ensures.sums k h) (both_next (c.loop-i.invariant.1 k h) p.0 q.0 (omega (arith, p.1, q.1))),
)

pub returns : goal.returns
returns g c =
    let a = c.args.self.now in
    let half = (a.to - a.from) / 2 in
    let done : c.loop-i.i ≡ a.from + half = omega arith in
    let each : AddEach g.row.N a.buf.now a.from a.to c.if-self-half.sums =
    elim c.if-self-half.branch [
      | then-self-half w ↦ λ k h.
          let even = both_all (c.loop-i.invariant.1 k h) done in
          let p = w.pieces_at-p-then-self-half.ensures k h in
          let none = get_or-replicate {A = ℕ} g.row.N k 0 0 h in
          let all : get_or w.add_both-then-self-half.new.sums k 0 ≡ get_or c.loop-i.sums k 0 + get_or w.pieces_at-p-then-self-half.result k 0 =
          omega (arith, w.add_both-then-self-half.ensures.sums k h, none) in
          adds_last a.to _ _ even (omega arith) p.0 p.1 (ap (λ x. get_or x k 0) w.sums-is ∙ all)
      | else-self-half w ↦ λ k h.
          let even = both_all (c.loop-i.invariant.1 k h) done in
          let all : a.from + 2 * half ≡ a.to = omega arith in
          rw w.sums-is (rw all at even)
    ] in (
      rw c.weight_of.ensures (weighed_next g.row.N a.buf.now a.from a.to c.if-self-half.sums each),
      rw c.weight_of.ensures (weighed_most g.row.N a.buf.now a.from a.to c.if-self-half.sums (omega arith) (omega arith) each),
    )
