-- `run_call` meets its contract: the call that the words spell is the one that is run.
use Rattle.std.proofs.Common.{◌+◌, ◌≤◌, Bool, true, false, ◌≡◌, sym, ◌∙◌, arith, length, get_or, rules}
use Rattle.book_words.specs.SpellCalls.{is_load}
use Rattle.book_calls.proofs.LawsRun.{re_done, here_is, here_load, here_append, here_read, here_drop, here_load_room, here_append_room, here_read_room, here_drop_room, here_part, read_done}
use Rattle.book_calls.proofs.running.run_call.Goals as goal

pub overflow_add-end : goal.overflow_add-end
overflow_add-end c =
    let known : (t : Bool) → c.is_load.result ≡ t → is_load (get_or c.args.calls.now c.args.at 0) ≡ t =
    λ t e.
    sym c.is_load.ensures ∙ e in
    let is_one : is_load (get_or c.args.calls.now c.args.at 0) ≡ true = known true c.if-is_load.true in
    let load_end : c.args.at + 3 + get_or c.args.calls.now (c.args.at + 2) 0 ≤ length c.args.calls.now =
    (here_load c.requires is_one).0 in
    omega (arith, load_end)

pub slice_bounds-run_load-end : goal.slice_bounds-run_load-end
slice_bounds-run_load-end c =
    let known : (t : Bool) → c.is_load.result ≡ t → is_load (get_or c.args.calls.now c.args.at 0) ≡ t =
    λ t e.
    sym c.is_load.ensures ∙ e in
    let is_one : is_load (get_or c.args.calls.now c.args.at 0) ≡ true = known true c.if-is_load.true in
    let load_end : c.args.at + 3 + get_or c.args.calls.now (c.args.at + 2) 0 ≤ length c.args.calls.now =
    (here_load c.requires is_one).0 in
    search (rules, load_end)

pub run_load-requires : goal.run_load-requires
run_load-requires c =
    let known : (t : Bool) → c.is_load.result ≡ t → is_load (get_or c.args.calls.now c.args.at 0) ≡ t =
    λ t e.
    sym c.is_load.ensures ∙ e in
    let is_one : is_load (get_or c.args.calls.now c.args.at 0) ≡ true = known true c.if-is_load.true in
    here_load_room c.requires is_one

pub returns-then-is_load : goal.returns-then-is_load
returns-then-is_load c =
    let known : (t : Bool) → c.is_load.result ≡ t → is_load (get_or c.args.calls.now c.args.at 0) ≡ t =
    λ t e.
    sym c.is_load.ensures ∙ e in
    let is_one : is_load (get_or c.args.calls.now c.args.at 0) ≡ true = known true c.if-is_load.true in
    let h = c.requires in
    λ b e. re_done (here_is h b e ∙ here_part h _ c.fit_of-fit.ensures is_one) c.run_load.ensures

pub run_append-requires : goal.run_append-requires
run_append-requires c =
    here_append_room c.requires c.if-kind-eq-APPEND.true

pub returns-then-kind-eq-APPEND : goal.returns-then-kind-eq-APPEND
returns-then-kind-eq-APPEND c =
    let h = c.requires in
    λ b e. re_done (here_is h b e ∙ here_append h c.if-kind-eq-APPEND.true) c.run_append.ensures

pub run_read-requires : goal.run_read-requires
run_read-requires c = here_read_room c.requires c.if-kind-eq-READ.true

pub returns-then-kind-eq-READ : goal.returns-then-kind-eq-READ
returns-then-kind-eq-READ c =
    let h = c.requires in
    λ b e. re_done (here_is h b e ∙ here_read h c.if-kind-eq-READ.true) (read_done _ _ _ _ (c.run_read.ensures _ _))

pub run_drop-requires : goal.run_drop-requires
run_drop-requires c =
    let known : (t : Bool) → c.is_load.result ≡ t → is_load (get_or c.args.calls.now c.args.at 0) ≡ t =
    λ t e.
    sym c.is_load.ensures ∙ e in
    here_drop_room c.requires (known false c.if-is_load.false)
    c.if-kind-eq-APPEND.false c.if-kind-eq-READ.false

pub returns : goal.returns
returns c =
    let known : (t : Bool) → c.is_load.result ≡ t → is_load (get_or c.args.calls.now c.args.at 0) ≡ t =
    λ t e.
    sym c.is_load.ensures ∙ e in
    let h = c.requires in
    let is = here_drop h (known false c.if-is_load.false) c.if-kind-eq-APPEND.false
    c.if-kind-eq-READ.false in
    λ b e. re_done (here_is h b e ∙ is) c.run_drop.ensures
