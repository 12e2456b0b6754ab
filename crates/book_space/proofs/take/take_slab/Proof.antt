-- `take_slab` meets its contract: the slab's end against the body's decides. Assumes nothing.
use Prim.Native.Nat.{ℕ, ◌+◌, ◌≤◌}
use mathlib.Core.Path.{◌≡◌, ap, ◌∙◌}
use native.Mathlib.Omega.{arith}
use Rattle.scripthash_layout.specs.Sizes.{slab_bytes}
use Rattle.scripthash_free.proofs.LawsBlock.{bytes_fit}
use Rattle.scripthash_layout.proofs.LawsSizes.{size_mono}
use Rattle.book_space.specs.Space.{take_mark, take_slab, Space, space}
use Rattle.book_space.proofs.LawsSteps.{takes_yes, takes_no, slab_low, slab_high, mark_yes, mark_no}
use borrow.Author.Rules.{rules}
use Rattle.book_space.proofs.take.take_slab.Statement.{statement}
use Rattle.book_space.proofs.take.take_slab.Tie as tie

-- the space before, and the slab's bytes
module _ (t : tie.After-slab_bytes) where
  abbrev start : tie.Start
  start = t.before.before.before

  abbrev before : Space
  before = space start.args.body.now start.args.mark.now start.args.free.now

  size : t.slab_bytes.result ≡ slab_bytes start.args.class
  size = t.slab_bytes.ensures ∙ bytes_fit start.args.class (omega (arith, start.requires.low))

  few : slab_bytes start.args.class ≤ 2048
  few = size_mono 4 {c = start.args.class} {d = 7} start.requires.low

slab_bytes-requires : tie.Need-slab_bytes-requires
slab_bytes-requires c κs = search rules

overflow_add-end : tie.Need-overflow_add-end
overflow_add-end c = omega (arith, size c, few c, (start c).requires.shape)

returns-then-end-gt-SLABS_END : tie.Need-returns-then-end-gt-SLABS_END
returns-then-end-gt-SLABS_END c =
    let t = c.before in
    let answer = slab_high (slab_bytes (start t).args.class) (before t) (omega (arith, size t, c.if-end-gt-SLABS_END.true)) in
    takes_no (before t) _ answer

-- the slab ends below the end of slabs
low : (c : tie.Else-end-gt-SLABS_END) → let t = c.before in
    take_slab (slab_bytes (start t).args.class) (before t) ≡ take_mark (slab_bytes (start t).args.class) (before t)
low c = let t = c.before in slab_low (slab_bytes (start t).args.class) (before t) (omega (arith, size t, c.if-end-gt-SLABS_END.false))

returns-then-body-end : tie.Need-returns-then-body-end
returns-then-body-end c =
    let t = c.before.before in
    let answer = low c.before ∙ mark_no (slab_bytes (start t).args.class) (before t) (omega (arith, size t, c.if-body-end.true)) in
    takes_no (before t) _ answer

returns : tie.Need-returns
returns c =
    let t = c.before.before in
    let a = (start t).args in
    let answer = low c.before ∙ mark_yes (slab_bytes a.class) (before t) (omega (arith, size t, c.if-body-end.false)) in
    let after = ap (λ (bytes : ℕ). space a.body.now (a.mark.now + bytes) a.free.now) (size t) in
    let took = takes_yes (before t) _ answer in
    record { told = took.told; left = after ∙ took.left }

pub take_slab_spec : {M : Type 1} → statement M
take_slab_spec = tie.close (tie.spec slab_bytes-requires overflow_add-end returns-then-end-gt-SLABS_END returns-then-body-end returns)
