-- Two families of calls: over a whole history from a good start the core's calls, each by its key's desk, answer and leave the same as the
-- calls that are lent the list. Assumes nothing.
use Prim.Native.Nat.{ℕ}
use mathlib.Core.List.{List, [], ◌∷◌}
use mathlib.Core.Path.{◌≡◌, refl, sym, ap, ap₂, ◌∙◌}
use lib.ListN.{length}
use Rattle.error.specs.Refusal.{Answer, accepted}
use Rattle.error.proofs.LawsAnswer.{refuse_no}
use Rattle.book_rules.specs.Outcomes.{book_after, answer_of}
use Rattle.book_statements.specs.Calls.{Enquiry, read, Change, load, append, drop, Call, ask, change, Said, Made, Answers, asked, changed}
use Rattle.book_statements.specs.Calls.{after_calls, answers_to}
use Rattle.book_desks.specs.Desks.{Limits, desk_of}
use Rattle.plain_book.specs.Book.{fresh as plain_fresh, makes}
use Rattle.book.specs.Book.{Book, Outcome, fresh, with_desks}
use Rattle.book_start.specs.Start.{GoodStart}
use Rattle.book_history.specs.Calls.{asks, does, after, answers}
use Rattle.book_history.specs.Core.{core_asks, core_does, core_serves}
use Rattle.book_history.specs.PlainOf.{Sixteen}
use Rattle.book_history.proofs.LawsStartFresh.{fresh_start}
use Rattle.book_history.proofs.LawsStartKept.{start_kept}

-- ---- one call

module _ (ds : List ℕ) (b : Book) (g : GoodStart ds b) where
  -- Nothing is turned back before the core's call: shape, counts and list are good.
  pub start_passes : {A : Type 0} (key : ℕ) (call : ℕ → Answer A) → with_desks ds b key call ≡ call (desk_of ds key)
  unfolding with_desks
  start_passes key call =
      refuse_no _ _ _ (rw (g.blocks.shape, g.counts.low) refl) ∙ refuse_no _ _ _ g.counts.named

  -- An enquiry.
  pub core_asked : (q : Enquiry) → core_asks b q ≡ asks ds b q
  unfolding core_asks asks
  core_asked (read key room) = sym (start_passes key _)

  -- A change.
  pub core_did : (c : Change) → core_does ds b c ≡ does ds b c
  unfolding core_does does
  core_did (load fit key ns) = sym (start_passes key _)
  core_did (append key n) = sym (start_passes key _)
  core_did (drop key) = sym (start_passes key _)

  -- Its book is a good start again.
  still_good : (c : Change) → GoodStart ds (book_after b (does ds b c))
  unfolding after_calls
  still_good c = start_kept ds b (change c ∷ []) g

-- ---- every history

-- From a good start both families leave the same book.
pub core_after : (ds : List ℕ) (b : Book) (cs : List Call) → GoodStart ds b → after_calls (core_serves ds) b cs ≡ after ds b cs
unfolding after_calls
core_after ds b [] g = refl
core_after ds b (ask q ∷ cs) g = core_after ds b cs g
core_after ds b (change c ∷ cs) g =
    ap (λ (o : Answer (Outcome (Made c))). after_calls (core_serves ds) (book_after b o) cs) (core_did ds b g c)
    ∙ core_after ds (book_after b (does ds b c)) cs (still_good ds b g c)

-- From a good start both families answer the same.
pub core_same : (ds : List ℕ) (b : Book) (cs : List Call) → GoodStart ds b → answers_to (core_serves ds) b cs ≡ answers ds b cs
unfolding answers_to
core_same ds b [] g = refl
core_same ds b (ask q ∷ cs) g =
    ap₂ (λ (x : Answer (Said q)) (xs : Answers cs). asked x xs) (core_asked ds b g q) (core_same ds b cs g)
core_same ds b (change c ∷ cs) g =
    ap (λ (o : Answer (Outcome (Made c))). changed (answer_of o) (answers_to (core_serves ds) (book_after b o) cs)) (core_did ds b g c)
    ∙ ap (λ (xs : Answers cs). changed (answer_of (does ds b c)) xs) (core_same ds (book_after b (does ds b c)) cs (still_good ds b g c))

-- So they do on every book that was made.
pub core_fresh : (ds body : List ℕ) (heads : ℕ) (l : Limits) (cs : List Call)
    → makes ds (length body) heads l ≡ accepted (plain_fresh ds (length body) heads l) → Sixteen l
    → (answers_to (core_serves ds) (fresh body heads l) cs ≡ answers ds (fresh body heads l) cs)
    × (after_calls (core_serves ds) (fresh body heads l) cs ≡ after ds (fresh body heads l) cs)
core_fresh ds body heads l cs made sixteen =
    let g = fresh_start ds body heads l made sixteen in (core_same ds (fresh body heads l) cs g, core_after ds (fresh body heads l) cs g)
