-- `page_for` meets its contract: the free head and its count, the look ahead, and then the judgement decide.
use Rattle.std.proofs.Common.{ℕ, ◌+◌, false, ◌≡◌, refl, sym, ap, ◌∙◌, arith, length}
use Rattle.std.proofs.lemmas.Result.{err_from_is_err_and}
use Rattle.error.proofs.LawsAnswer.{refuse_yes}
use Rattle.scripthash_layout.specs.Sizes.{page_class}
use Rattle.book_desks.specs.Counts.{held_count, counted}
use Rattle.book_desks.proofs.LawsCounts.{counts_low}
use Rattle.book_space.specs.Space.{Space, space, take_block}
use Rattle.book_space.specs.Desks.{freed_untrue, freed_left, page_for}
use Rattle.book_space.specs.Steps.{judged_number}
use Rattle.book_space.proofs.LawsSteps.{number_some}
use Rattle.book_space.proofs.LawsPeek.{block_within}
use Rattle.book_space.proofs.LawsDesks.{page_tested, freed_less, judged_low, peek_refused, judge_refused, take_judged, takes_for_same, refused_for}
use Rattle.book_space.proofs.desks.page_for.Goals as goal

pub returns-then-freed_untrue : goal.returns-then-freed_untrue
unfolding page_for freed_untrue
returns-then-freed_untrue c =
    let a = c.args in
    let s : Space = space a.body.now a.mark.now a.free.now in
    refused_for s a.counts.now (refuse_yes _ _ _ (sym c.freed_untrue.ensures ∙ c.if-freed_untrue.true))

pub returns-in_err-end : goal.returns-in_err-end
unfolding freed_untrue
returns-in_err-end c =
    let p = err_from_is_err_and c.from_residual.result c.from_residual.ensures.1 in
    let a = c.args in
    let s : Space = space a.body.now a.mark.now a.free.now in
    let counts = a.counts.now in
    let left = freed_left s counts in
    let later = counted left a.desk (held_count a.desk counts + 1) counts in
    let tested : freed_untrue s counts ≡ false = sym c.freed_untrue.ensures ∙ c.if-freed_untrue.false in
    rw (p.1, p.2)
    (refused_for s counts
    (page_tested a.desk s counts tested
    ∙ peek_refused (length s.body) a.desk 1 left counts later (take_block page_class s) (sym c.in_err-end.ensures)))

pub judge_take-requires : goal.judge_take-requires
judge_take-requires c =
    let a = c.args in
    let s : Space = space a.body.now a.mark.now a.free.now in
    let pre = c.requires in
    record {
      known = pre.known;
      body = pre.shape.most;
      asked = omega arith;
      left = omega (arith, c.freed_left-left.ensures, freed_less s a.counts.now);
      within = block_within page_class s (omega arith) pre.shape (sym c.in_ok-end.ensures);
    }

pub returns-in_err-judge_take : goal.returns-in_err-judge_take
unfolding freed_untrue
returns-in_err-judge_take c =
    let p = err_from_is_err_and c.from_residual-in_err-judge_take.result c.from_residual-in_err-judge_take.ensures.1 in
    let a = c.args in
    let s : Space = space a.body.now a.mark.now a.free.now in
    let counts = a.counts.now in
    let left = freed_left s counts in
    let later = counted left a.desk (held_count a.desk counts + 1) counts in
    let tested : freed_untrue s counts ≡ false = sym c.freed_untrue.ensures ∙ c.if-freed_untrue.false in
    let judgement = c.in_err-judge_take.ensures
    ∙ ap (λ (freed : ℕ). judged_number (length s.body) a.desk 1 freed counts c.in_ok-end.end) c.freed_left-left.ensures in
    rw (p.1, p.2)
    (refused_for s counts
    (page_tested a.desk s counts tested
    ∙ judge_refused (length s.body) a.desk 1 left counts later (take_block page_class s) (sym c.in_ok-end.ensures) judgement (number_some _)))

pub overflow_add-held-2 : goal.overflow_add-held-2
overflow_add-held-2 c =
    let a = c.args in
    let s : Space = space a.body.now a.mark.now a.free.now in
    let counts = a.counts.now in
    let left = freed_left s counts in
    let later = counted left a.desk (held_count a.desk counts + 1) counts in
    let judgement = c.in_ok-judge_take.ensures
    ∙ ap (λ (freed : ℕ). judged_number (length s.body) a.desk 1 freed counts c.in_ok-end.end) c.freed_left-left.ensures in
    let low = judged_low (length s.body) a.desk 1 left counts later c.in_ok-end.end judgement refl in
    omega (arith, (counts_low (length s.body) counts low).held a.desk c.requires.known, c.requires.shape.most)

pub returns : goal.returns
unfolding freed_untrue
returns c =
    let a = c.args in
    let s : Space = space a.body.now a.mark.now a.free.now in
    let counts = a.counts.now in
    let left = freed_left s counts in
    let later = counted left a.desk (held_count a.desk counts + 1) counts in
    let tested : freed_untrue s counts ≡ false = sym c.freed_untrue.ensures ∙ c.if-freed_untrue.false in
    let judgement = c.in_ok-judge_take.ensures
    ∙ ap (λ (freed : ℕ). judged_number (length s.body) a.desk 1 freed counts c.in_ok-end.end) c.freed_left-left.ensures in
    let done =
    takes_for_same (page_tested a.desk s counts tested)
    (take_judged (length s.body) a.desk 1 left counts later (take_block page_class s) (sym c.in_ok-end.ensures) judgement refl
    c.take_block.ensures) in
    let put = c.put_counts.ensures
    ∙ ap (λ (freed : ℕ). counted freed a.desk (held_count a.desk counts + 1) counts) c.freed_left-left.ensures in
    record { told = done.told; left = done.left; counts = put ∙ done.counts }
