-- `split_last_chunk_for_extent` meets its contract: by cases on whether there is a last range, and whether it has numbers of the list.
use Prim.Native.Nat.{◌-◌}
use mathlib.Core.List.{[]}
use mathlib.Core.Path.{refl, sym, ◌∙◌}
use native.Mathlib.Omega.{arith}
use borrow.Author.Tests.{lt-ltb}
use lib.ListN.{length, get_or, take}
use Rattle.error.specs.Refusal.{refuse_if}
use Rattle.scripthash_cutting.specs.Cutting.{replace_last, no_room_to_split, split_last, after_split_last}
use Rattle.scripthash_cutting.proofs.LawsFitting.{words_drop, words_take}
use Rattle.scripthash_cutting.proofs.LawsSplit.{split_kept, split_empty, split_outside, split_cut}
use Rattle.scripthash_cutting.proofs.cut.split_last_chunk_for_extent.Goals as goal

pub returns-then-chunks-count-clause-answer : goal.returns-then-chunks-count-clause-answer
unfolding no_room_to_split split_last refuse_if
returns-then-chunks-count-clause-answer c = rw (lt-ltb (length c.args.chunks.now) c.args.count c.if-chunks-count.true) refl

pub returns-then-chunks-count-clause-list : goal.returns-then-chunks-count-clause-list
unfolding no_room_to_split after_split_last
returns-then-chunks-count-clause-list c = rw (lt-ltb (length c.args.chunks.now) c.args.count c.if-chunks-count.true) refl

pub returns-then-count-eq0-clause-answer : goal.returns-then-count-eq0-clause-answer
unfolding replace_last
returns-then-count-eq0-clause-answer c =
    rw c.if-count-eq0.true (sym (split_kept c.args.fks.now c.args.chunks.now 0 (omega arith) refl).0)

pub returns-then-count-eq0-clause-list : goal.returns-then-count-eq0-clause-list
unfolding replace_last
returns-then-count-eq0-clause-list c =
    rw c.if-count-eq0.true (sym (split_kept c.args.fks.now c.args.chunks.now 0 (omega arith) refl).1)

pub returns-then-end-start-clause-answer : goal.returns-then-end-start-clause-answer
returns-then-end-start-clause-answer c =
    let same = split_empty c.args.fks.now c.args.chunks.now c.args.count (omega arith) c.if-chunks-count.false c.if-end-start.true in
    sym (split_kept c.args.fks.now c.args.chunks.now c.args.count c.if-chunks-count.false same).0

pub returns-then-end-start-clause-list : goal.returns-then-end-start-clause-list
returns-then-end-start-clause-list c =
    let same = split_empty c.args.fks.now c.args.chunks.now c.args.count (omega arith) c.if-chunks-count.false c.if-end-start.true in
    sym (split_kept c.args.fks.now c.args.chunks.now c.args.count c.if-chunks-count.false same).1

pub returns-then-fks-end-clause-answer : goal.returns-then-fks-end-clause-answer
returns-then-fks-end-clause-answer c =
    let same = split_outside c.args.fks.now c.args.chunks.now c.args.count (omega arith) c.if-chunks-count.false c.if-end-start.false
    c.if-fks-end.true in
    sym (split_kept c.args.fks.now c.args.chunks.now c.args.count c.if-chunks-count.false same).0

pub returns-then-fks-end-clause-list : goal.returns-then-fks-end-clause-list
returns-then-fks-end-clause-list c =
    let same = split_outside c.args.fks.now c.args.chunks.now c.args.count (omega arith) c.if-chunks-count.false c.if-end-start.false
    c.if-fks-end.true in
    sym (split_kept c.args.fks.now c.args.chunks.now c.args.count c.if-chunks-count.false same).1

pub returns-clause-answer : goal.returns-clause-answer
returns-clause-answer c =
    let last = get_or c.args.chunks.now (c.args.count - 1) [] in
    let words = words_drop (get_or last 0 0) (take (get_or last 1 0) c.args.fks.now)
    (words_take (get_or last 1 0) c.args.fks.now (λ i. omega (arith, c.type_inv.fks i))) in
    let cut = split_cut c.args.fks.now c.args.chunks.now c.args.count (omega arith) c.if-chunks-count.false c.if-end-start.false
    c.if-fks-end.false words in
    (rw c.new-room.ensures at c.cut_from.ensures.answer) ∙ sym cut.0

pub returns-clause-list : goal.returns-clause-list
returns-clause-list c =
    let last = get_or c.args.chunks.now (c.args.count - 1) [] in
    let words = words_drop (get_or last 0 0) (take (get_or last 1 0) c.args.fks.now)
    (words_take (get_or last 1 0) c.args.fks.now (λ i. omega (arith, c.type_inv.fks i))) in
    let cut = split_cut c.args.fks.now c.args.chunks.now c.args.count (omega arith) c.if-chunks-count.false c.if-end-start.false
    c.if-fks-end.false words in
    (rw c.new-room.ensures at c.cut_from.ensures.list) ∙ sym cut.1
