-- Hollow books break demand 3: of each, one answer to a short list of calls on a fresh book isn't the plain book's. Assumes nothing.
use Prim.Native.Nat.{ℕ, zero, suc}
use mathlib.Core.List.{List, [], ◌∷◌}
use mathlib.Core.Path.{◌≡◌, refl, sym, ap, ◌∙◌}
use native.Mathlib.Omega.{arith}
use lib.ListN.{length, replicate}
use Rattle.error.specs.Refusal.{accepted, refused, refuse_if, no_room, key_unsound}
use Rattle.book.specs.Book.{Book, fresh}
use Rattle.book_rules.specs.declared.places.SlabFit.TheVariants.{Spare, Tight}
use Rattle.book_statements.specs.Calls.{Enquiry, read, Change, load, append, drop, Call, ask, change, Said, Made, Serves, Answers}
use Rattle.book_statements.specs.Calls.{done, asked, changed}
use Rattle.book_limits.specs.Limits.{out_of_shape}
use Rattle.book_desks.specs.Desks.{Limits, making, sum_to, above, beyond_desks, list_bad, reserve_high}
use Rattle.plain_book.specs.Book.{fresh as plain_fresh, unlimited, makes}
use Rattle.book_history.specs.Calls.{serves}
use Rattle.book_history.specs.PlainOf.{Sixteen}
use Rattle.book_history.specs.Hollow.{Hollow, always, empty_answer, reads_empty, writes_nothing, appends_nothing, writes_first, first_only}
use Rattle.book_history.specs.Hollow.{page_more, rewritten_more, invents, loads_as, one_rule, loads_behind, freed_unused}
use Rattle.book_history.specs.Hollow.{no_reserves, no_ceilings, ignores, one_desk, keeps_count, drops_uncounted}
use Rattle.book_history.proofs.Demand3.{demand_3}
use Rattle.book_history.proofs.Examples.{computed, body_of, in_aRow}

-- ---- what tells them apart

-- A figure of what a change tells, and of what an enquiry does: pages, records rewritten, or a length.
unfoldable made_figure : (c : Change) → Made c → ℕ
made_figure (load fit key ns) told = told.pages
made_figure (append key n) told = told.rewritten
made_figure (drop key) told = told.length

unfoldable said_figure : (q : Enquiry) → Said q → ℕ
said_figure (read key room) told = length told.numbers

-- A figure of the answer at an index: a refusal's number, or a figure of what is told.
unfoldable figure_at : ℕ → {cs : List Call} → Answers cs → ℕ
figure_at i done = 0
figure_at zero (asked {q = q} (accepted told) rest) = said_figure q told
figure_at zero (asked (refused number) rest) = number
figure_at (suc i) (asked a rest) = figure_at i rest
figure_at zero (changed {c = c} (accepted told) rest) = made_figure c told
figure_at zero (changed (refused number) rest) = number
figure_at (suc i) (changed a rest) = figure_at i rest

-- The answers of a book, made fresh with a list of desks and some limits over a body of so many bytes, with one key.
abbrev answers_by : Serves Book → Limits → ℕ → (cs : List Call) → Answers cs
answers_by k l size cs = computed k (fresh (body_of size) 1 l) cs

-- It is enough that one figure differs from our book's.
differs_by : (k : List ℕ → Serves Book) (d : ℕ) (l : Limits) (size : ℕ)
    → makes (d ∷ []) (length (body_of size)) 1 l ≡ accepted (plain_fresh (d ∷ []) (length (body_of size)) 1 l) → Sixteen l
    → (cs : List Call) (i m n : ℕ) → figure_at i (answers_by (k (d ∷ [])) l size cs) ≡ m
    → figure_at i (answers_by (serves (d ∷ [])) l size cs) ≡ n → (m ≡ n → ⊥) → Hollow k
unfolding Hollow computed
differs_by k d l size made sixteen cs i m n one other apart = (
  d ∷ [],
  l,
  body_of size,
  1,
  cs,
  made,
  sixteen,
  λ e. apart (sym one ∙ ap (λ (a : Answers cs). figure_at i a) (e ∙ sym (demand_3 (d ∷ []) (body_of size) 1 l cs made sixteen).0) ∙ other),
)

-- So it is with one desk without limits, over two pages.
differs : (k : List ℕ → Serves Book) (cs : List Call) (i m n : ℕ) → figure_at i (answers_by (k (0 ∷ [])) unlimited 8192 cs) ≡ m
    → figure_at i (answers_by (serves (0 ∷ [])) unlimited 8192 cs) ≡ n → (m ≡ n → ⊥) → Hollow k
unfolding makes making out_of_shape above sum_to list_bad beyond_desks reserve_high refuse_if
differs k cs i m n one other apart =
    differs_by k 0 unlimited 8192 refl (record { reserve = refl; ceiling = refl }) cs i m n one other apart

-- ---- each of them

-- A book that always says 36, or 31: a first append is accepted.
pub always_36 : Hollow (always no_room)
unfolding computed figure_at made_figure said_figure
always_36 = differs (always no_room) (change (append 0 5) ∷ []) 0 36 0 refl refl (λ e. omega arith)

pub always_31 : Hollow (always key_unsound)
unfolding computed figure_at made_figure said_figure
always_31 = differs (always key_unsound) (change (append 0 5) ∷ []) 0 31 0 refl refl (λ e. omega arith)

-- A book where all keys read empty, and one whose append writes nothing: an appended number is read.
pub reads_empty_lem : Hollow reads_empty
unfolding computed empty_answer figure_at made_figure said_figure
reads_empty_lem = differs reads_empty (change (append 0 5) ∷ ask (read 0 1) ∷ []) 1 0 1 refl refl (λ e. omega arith)

pub appends_nothing_lem : Hollow appends_nothing
unfolding computed writes_nothing figure_at made_figure said_figure
appends_nothing_lem = differs appends_nothing (change (append 0 5) ∷ ask (read 0 1) ∷ []) 1 0 1 refl refl (λ e. omega arith)

-- A book that stores only a key's first append: two are read.
pub first_only_lem : Hollow first_only
unfolding computed writes_first figure_at made_figure said_figure
first_only_lem = differs first_only (change (append 0 5) ∷ change (append 0 300) ∷ ask (read 0 2) ∷ []) 2 1 2 refl refl (λ e. omega arith)

-- Books with invented figures: two numbers are loaded into no page, and a first append rewrites nothing.
pub pages_invented : Hollow (invents page_more)
unfolding computed page_more figure_at made_figure said_figure
pages_invented = differs (invents page_more) (change (load Spare 0 (5 ∷ 6 ∷ [])) ∷ []) 0 1 0 refl refl (λ e. omega arith)

pub rewritten_invented : Hollow (invents rewritten_more)
unfolding computed rewritten_more figure_at made_figure said_figure
rewritten_invented = differs (invents rewritten_more) (change (append 0 5) ∷ []) 0 1 0 refl refl (λ e. omega arith)

-- Books with one rule for loads: with a spare slot the fifth number stays, and behind a tight load it moves four.
pub always_tight : Hollow (one_rule Tight)
unfolding computed loads_as figure_at made_figure said_figure
always_tight =
    differs (one_rule Tight) (change (load Spare 0 (1 ∷ 2 ∷ 3 ∷ 4 ∷ [])) ∷ change (append 0 5) ∷ []) 1 4 0 refl refl (λ e. omega arith)

pub always_spare : Hollow (one_rule Spare)
unfolding computed loads_as figure_at made_figure said_figure
always_spare =
    differs (one_rule Spare) (change (load Tight 0 (1 ∷ 2 ∷ 3 ∷ 4 ∷ [])) ∷ change (append 0 5) ∷ []) 1 0 4 refl refl (λ e. omega arith)

-- A load of 300 numbers, which takes a page.
abbrev one_page : Call
one_page = change (load Spare 0 (in_aRow 1 300))

-- A book whose loads take no freed page: the only page is taken again once it was given back.
pub freed_unused_lem : Hollow freed_unused
unfolding computed loads_behind figure_at made_figure in_aRow
freed_unused_lem = differs freed_unused (one_page ∷ change (drop 0) ∷ one_page ∷ []) 2 36 1 refl refl (λ e. omega arith)

-- ---- desks

-- Ceilings of the first desk and of the others, with a reserve of the second.
abbrev limits_of : ℕ → ℕ → ℕ → Limits
limits_of own others kept = record { reserve = 0 ∷ kept ∷ replicate 14 0; ceiling = own ∷ replicate 15 others }

-- It is enough that one figure differs with these limits.
differs_at : (k : List ℕ → Serves Book) (d own kept size : ℕ)
    → makes (d ∷ []) (length (body_of size)) 1 (limits_of own 9 kept)
    ≡ accepted (plain_fresh (d ∷ []) (length (body_of size)) 1 (limits_of own 9 kept))
    → (cs : List Call) (i m n : ℕ) → figure_at i (answers_by (k (d ∷ [])) (limits_of own 9 kept) size cs) ≡ m
    → figure_at i (answers_by (serves (d ∷ [])) (limits_of own 9 kept) size cs) ≡ n → (m ≡ n → ⊥) → Hollow k
differs_at k d own kept size made = differs_by k d (limits_of own 9 kept) size made (record { reserve = refl; ceiling = refl })

-- A book that ignores ceilings: a desk whose ceiling is 0 gets no page.
pub ceilings_ignored : Hollow (ignores no_ceilings)
unfolding computed figure_at made_figure in_aRow makes making out_of_shape above sum_to list_bad beyond_desks reserve_high refuse_if
ceilings_ignored = differs_at (ignores no_ceilings) 0 0 0 8192 refl (one_page ∷ []) 0 1 40 refl refl (λ e. omega arith)

-- A book that ignores reserves: the only page is kept for the second desk.
pub reserves_ignored : Hollow (ignores no_reserves)
unfolding computed figure_at made_figure in_aRow makes making out_of_shape above sum_to list_bad beyond_desks reserve_high refuse_if
reserves_ignored = differs_at (ignores no_reserves) 0 9 1 8192 refl (one_page ∷ []) 0 1 41 refl refl (λ e. omega arith)

-- A book that takes every key for one of the first desk, whose ceiling is 0: the second desk gets the page that is kept for it.
pub desks_ignored : Hollow one_desk
unfolding computed figure_at made_figure in_aRow makes making out_of_shape above sum_to list_bad beyond_desks reserve_high refuse_if
desks_ignored = differs_at one_desk 1 0 1 8192 refl (one_page ∷ []) 0 40 1 refl refl (λ e. omega arith)

-- A book whose drop keeps the desk's count: a desk whose ceiling is 1 gets a page again once it has given one back.
pub drops_uncounted_lem : Hollow drops_uncounted
unfolding computed keeps_count figure_at made_figure in_aRow makes making out_of_shape above sum_to list_bad beyond_desks reserve_high refuse_if
drops_uncounted_lem =
    differs_at drops_uncounted 0 1 0 12288 refl (one_page ∷ change (drop 0) ∷ one_page ∷ []) 2 40 1 refl refl (λ e. omega arith)
