-- `peek_slab` meets its contract: the slab's end against the end of slabs and the body's decides. Assumes nothing.
use Prim.Native.Nat.{◌+◌, ◌≤◌}
use mathlib.Core.Path.{◌≡◌, sym, ap, ◌∙◌}
use native.Mathlib.Omega.{arith}
use borrow.Author.Tests.{lt-ltb, le-ltb}
use Rattle.error.specs.Refusal.{accepted}
use Rattle.error.proofs.LawsAnswer.{refuse_yes, refuse_no}
use Rattle.scripthash_layout.specs.Sizes.{slab_bytes}
use Rattle.scripthash_layout.proofs.LawsSizes.{size_mono}
use Rattle.scripthash_free.proofs.LawsBlock.{bytes_fit}
use Rattle.book_limits.specs.Limits.{slabs_end}
use Rattle.book_space.specs.Steps.{mark_after_slab}
use borrow.Author.Rules.{rules}
use Rattle.book_space.proofs.desks.peek_slab.Statement.{statement}
use Rattle.book_space.proofs.desks.peek_slab.Tie as tie

-- the slab's bytes
module _ (t : tie.After-slab_bytes) where
  abbrev start : tie.Start
  start = t.before

  size : t.slab_bytes.result ≡ slab_bytes start.args.class
  size = t.slab_bytes.ensures ∙ bytes_fit start.args.class (omega (arith, start.requires.1))

  few : slab_bytes start.args.class ≤ 2048
  few = size_mono 4 {c = start.args.class} {d = 7} start.requires.1

slab_bytes-requires : tie.Need-slab_bytes-requires
slab_bytes-requires c κs = search rules

overflow_add-end : tie.Need-overflow_add-end
overflow_add-end c = omega (arith, size c, few c, (start c).requires.0)

returns-then-end-gt-SLABS_END : tie.Need-returns-then-end-gt-SLABS_END
unfolding mark_after_slab
returns-then-end-gt-SLABS_END c =
    let t = c.before in
    let a = (start t).args in
    sym (refuse_yes _ _ _ (lt-ltb slabs_end (a.mark + slab_bytes a.class) (omega (arith, size t, c.if-end-gt-SLABS_END.true))))

returns-then-size-end : tie.Need-returns-then-size-end
unfolding mark_after_slab
returns-then-size-end c =
    let t = c.before.before in
    let a = (start t).args in
    let low = le-ltb slabs_end (a.mark + slab_bytes a.class) (omega (arith, size t, c.before.if-end-gt-SLABS_END.false)) in
    let high = lt-ltb a.size (a.mark + slab_bytes a.class) (omega (arith, size t, c.if-size-end.true)) in
    sym (refuse_no _ _ _ low ∙ refuse_yes _ _ _ high)

returns : tie.Need-returns
unfolding mark_after_slab
returns c =
    let t = c.before.before in
    let a = (start t).args in
    let low = le-ltb slabs_end (a.mark + slab_bytes a.class) (omega (arith, size t, c.before.if-end-gt-SLABS_END.false)) in
    let fits = le-ltb a.size (a.mark + slab_bytes a.class) (omega (arith, size t, c.if-size-end.false)) in
    ap (λ (bytes : _). accepted (a.mark + bytes)) (size t) ∙ sym (refuse_no _ _ _ low ∙ refuse_no _ _ _ fits)

pub peek_slab_spec : {M : Type 1} → statement M
peek_slab_spec = tie.close (tie.spec slab_bytes-requires overflow_add-end returns-then-end-gt-SLABS_END returns-then-size-end returns)
