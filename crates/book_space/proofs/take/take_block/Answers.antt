-- `take_block` meets its contract: what the pop tells decides, and then the class.
use Rattle.std.proofs.Common.{ℕ, ◌≡◌, refl, sym, ap, ◌∙◌}
use Rattle.std.proofs.lemmas.Result.{err_from_is_err_and}
use Rattle.scripthash_layout.specs.Sizes.{slab_bytes}
use Rattle.scripthash_free.specs.Answers.{pop_answer}
use Rattle.book_limits.specs.Limits.{pop_end}
use Rattle.book_space.specs.Space.{Space, space, lists_of, take_slab, run_at_mark, take_fresh, take_block}
use Rattle.book_space.proofs.LawsLists.{left_none, left_refused}
use Rattle.book_space.proofs.LawsSteps.{takes_same, takes_yes, takes_no, fresh_page, fresh_slab, told_block, told_none, told_refused, takes_with}
use Rattle.book_space.proofs.take.take_block.Goals as goal

pub returns-in_err-off : goal.returns-in_err-off
returns-in_err-off c =
    let p = err_from_is_err_and c.from_residual.result c.from_residual.ensures.1 in
    let a = c.args in
    let s : Space = space a.body.now a.mark.now a.free.now in
    let told = sym (rw c.pop_end.ensures at c.in_err-off.ensures.answer) in
    let same = left_refused a.class (pop_end a.class s.mark) (lists_of s) told (rw c.pop_end.ensures at c.in_err-off.ensures.heads) in
    let took = takes_no s _ (told_refused a.class s told) in
    rw (p.1, p.2) (record { told = took.told; left = ap (space a.body.now a.mark.now) same ∙ took.left })

pub returns-in-Some : goal.returns-in-Some
returns-in-Some c =
    let a = c.args in
    let s : Space = space a.body.now a.mark.now a.free.now in
    let told = sym (rw (c.pop_end.ensures, c.in-Some.is) at c.in_ok-off.ensures.answer) in
    takes_yes s _ (told_block a.class s c.pop_lent.new.heads told (rw c.pop_end.ensures at c.in_ok-off.ensures.heads))

pub returns-then-class-eq-SH_PAGE_SLAB_CLASS : goal.returns-then-class-eq-SH_PAGE_SLAB_CLASS
returns-then-class-eq-SH_PAGE_SLAB_CLASS c =
    let a = c.args in
    let s : Space = space a.body.now a.mark.now a.free.now in
    let told = sym (rw (c.pop_end.ensures, c.in_default.is) at c.in_ok-off.ensures.answer) in
    let unpopped = left_none a.class (pop_end a.class s.mark) (lists_of s) told (rw c.pop_end.ensures at c.in_ok-off.ensures.heads) in
    let answer : take_block a.class s ≡ run_at_mark 1 s =
    told_none a.class s told ∙ ap (λ (k : ℕ). take_fresh k s) c.if-class-eq-SH_PAGE_SLAB_CLASS.true ∙ fresh_page s in
    takes_same (sym answer) (takes_with (run_at_mark 1) a.body.now a.mark.now unpopped c.run_at_mark.ensures)

pub returns : goal.returns
returns c =
    let a = c.args in
    let s : Space = space a.body.now a.mark.now a.free.now in
    let told = sym (rw (c.pop_end.ensures, c.in_default.is) at c.in_ok-off.ensures.answer) in
    let unpopped = left_none a.class (pop_end a.class s.mark) (lists_of s) told (rw c.pop_end.ensures at c.in_ok-off.ensures.heads) in
    let answer : take_block a.class s ≡ take_slab (slab_bytes a.class) s =
    told_none a.class s told ∙ fresh_slab a.class s c.if-class-eq-SH_PAGE_SLAB_CLASS.false in
    takes_same (sym answer) (takes_with (take_slab (slab_bytes a.class)) a.body.now a.mark.now unpopped c.take_slab.ensures)
