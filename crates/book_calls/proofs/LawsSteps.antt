-- The steps of reading the words of calls. Assumes nothing.
use Prim.Native.Nat.{ℕ, ◌+◌, ◌-◌, ◌≤◌, ◌<◌}
use Rattle.std.specs.Prelude.{Some, None}
use mathlib.Core.Bool.{Bool, true, false, cond, false≢true}
use mathlib.Core.List.{List, [], ◌∷◌}
use mathlib.Core.Logic.{⊎_elim}
use mathlib.Core.Option.{Option, none, some}
use mathlib.Core.Path.{◌≡◌, refl, sym, ap, ◌∙◌}
use native.Mathlib.Omega.{arith}
use borrow.Author.Tests.{le-leb, lt-leb, eq-eqb, ne_eqb, eqb-true}
use lib.Dec.{leb, eqb}
use lib.ListN.{length, get_or, take as first_of, drop as behind, length-drop, drop_of_length-le}
use lib.Seq.{drop-drop}
use Rattle.buffer.proofs.LawsOrder.{lt_or_ge}
use Rattle.book_words.specs.Spelled.{SpelledCall, load, append, read, drop}
use Rattle.book_words.specs.Words.{Begins, begins, before, at_end, read_all}
use Rattle.book_words.specs.SpellCalls.{is_load, fit_of, load_of, call_of, call_at, calls_of, answer_room, answers_room}
use Rattle.book_words.proofs.LawsWords.{some_inj, none≢some}
use Rattle.book_words.proofs.LawsCalls.{calls_none, calls_some, call_at_lem}
use Rattle.book_calls.specs.Steps.{is_some, NextIs, need_of, RoomIs}

-- ---- the index behind a call

-- no call begins at an index
pub nowhere : (calls : List ℕ) (at : ℕ) → call_at (behind at calls) ≡ none → NextIs calls at (call_at (behind at calls)) None
unfolding NextIs
nowhere calls at e = rw e tt

-- a call begins there, and these are the words behind it
pub somewhere : (calls : List ℕ) (at next : ℕ) (b : Begins SpelledCall) → call_at (behind at calls) ≡ some b → b.rest ≡ behind next calls
    → at + 3 ≤ next → next ≤ length calls
    → NextIs calls at (call_at (behind at calls)) (Some next)
unfolding NextIs
somewhere calls at next b e r l m = rw e (r, l, m)

-- what the two answers tell
pub was_nowhere : (calls : List ℕ) (at : ℕ) (o : Option (Begins SpelledCall)) → NextIs calls at o None → o ≡ none
unfolding NextIs
was_nowhere calls at none n = refl
was_nowhere calls at (some b) n = absurd n

pub was_somewhere : (calls : List ℕ) (at next : ℕ) (o : Option (Begins SpelledCall)) → NextIs calls at o (Some next)
    → (b : Begins SpelledCall) × (o ≡ some b) × (b.rest ≡ behind next calls) × (at + 3 ≤ next) × (next ≤ length calls)
unfolding NextIs
was_somewhere calls at next none n = absurd n
was_somewhere calls at next (some b) n = (b, refl, n.0, n.1, n.2)

-- a kind that isn't a load's isn't the first
pub not_first : (kind : ℕ) → is_load kind ≡ false → kind ≡ 0 → ⊥
unfolding is_load
not_first kind l e = false≢true (sym l ∙ rw e refl)

-- The call of three words, by its kind.
module _ (kind key third : ℕ) (rest : List ℕ) where
  pub of_load : is_load kind ≡ true → call_of kind key third rest ≡ load_of (fit_of kind) key third rest
  unfolding call_of
  of_load e = rw e

  pub of_append : kind ≡ 1 → call_of kind key third rest ≡ begins (append key third) rest
  unfolding call_of is_load
  of_append e = rw e

  pub of_read : kind ≡ 2 → call_of kind key third rest ≡ begins (read key third) rest
  unfolding call_of is_load
  of_read e = rw e

  pub of_drop : kind ≡ 3 → call_of kind key third rest ≡ cond (eqb third 0) (begins (drop key) rest) none
  unfolding call_of is_load
  of_drop e = rw e

  pub of_other : is_load kind ≡ false → 3 < kind → call_of kind key third rest ≡ none
  unfolding call_of
  of_other l h =
      rw (
        l,
        ne_eqb kind 1 (λ (e : kind ≡ 1). omega arith),
        ne_eqb kind 2 (λ (e : kind ≡ 2). omega arith),
        ne_eqb kind 3 (λ (e : kind ≡ 3). omega arith),
      )

-- The index behind the call at an index, by its words.
module _ (calls : List ℕ) (at : ℕ) (three : at + 3 ≤ length calls) where
  abbrev kind : ℕ
  kind = get_or calls at 0

  abbrev key : ℕ
  key = get_or calls (at + 1) 0

  abbrev third : ℕ
  third = get_or calls (at + 2) 0

  abbrev rest : List ℕ
  rest = behind (at + 3) calls

  -- the words behind are as many as are left
  words_left : length rest ≡ length calls - (at + 3)
  words_left = length-drop (at + 3) calls

  pub next_unspelled : call_of kind key third rest ≡ none → NextIs calls at (call_at (behind at calls)) None
  next_unspelled e = nowhere calls at (call_at_lem calls at three ∙ e)

  pub next_load_short : is_load kind ≡ true → length calls - (at + 3) < third → NextIs calls at (call_at (behind at calls)) None
  next_load_short e l = next_unspelled (of_load kind key third rest e ∙ rw (lt-leb third (length rest) (omega (arith, words_left))))

  pub next_load : is_load kind ≡ true → third ≤ length calls - (at + 3) → NextIs calls at (call_at (behind at calls)) (Some (at + 3 + third))
  next_load e l =
      somewhere calls at (at + 3 + third) (record { first = load (fit_of kind) key (first_of third rest); rest = behind third rest })
      (call_at_lem calls at three ∙ of_load kind key third rest e ∙ rw (le-leb third (length rest) (omega (arith, words_left))))
      (drop-drop third (at + 3) calls) (omega arith) (omega arith)

  pub next_other : is_load kind ≡ false → 3 < kind → NextIs calls at (call_at (behind at calls)) None
  next_other l h = next_unspelled (of_other kind key third rest l h)

  pub next_drop_bad : kind ≡ 3 → (third ≡ 0 → ⊥) → NextIs calls at (call_at (behind at calls)) None
  next_drop_bad e n = next_unspelled (of_drop kind key third rest e ∙ rw (ne_eqb third 0 n))

  pub next_drop : kind ≡ 3 → third ≡ 0 → NextIs calls at (call_at (behind at calls)) (Some (at + 3))
  next_drop e z =
      somewhere calls at (at + 3) (record { first = drop key; rest = rest })
      (call_at_lem calls at three ∙ of_drop kind key third rest e ∙ rw (eq-eqb third 0 z)) refl (omega arith) (omega arith)

  pub next_plain : is_load kind ≡ false → kind ≤ 3 → (kind ≡ 3 → ⊥) → NextIs calls at (call_at (behind at calls)) (Some (at + 3))
  next_plain n l m = ⊎_elim appends reads (lt_or_ge kind 2)
    where
      low : kind < 2 → kind ≡ 1
      low h = ⊎_elim (λ (p : kind < 1). absurd (not_first kind n (omega arith))) (λ (q : 1 ≤ kind). omega arith) (lt_or_ge kind 1)

      high : 2 ≤ kind → kind ≡ 2
      high h = ⊎_elim (λ (p : kind < 3). omega arith) (λ (q : 3 ≤ kind). absurd (m (omega arith))) (lt_or_ge kind 3)

      appends : kind < 2 → NextIs calls at (call_at (behind at calls)) (Some (at + 3))
      appends h =
          let is = call_at_lem calls at three ∙ of_append kind key third rest (low h) in
          somewhere calls at (at + 3) _ is refl (omega arith) (omega arith)

      reads : 2 ≤ kind → NextIs calls at (call_at (behind at calls)) (Some (at + 3))
      reads h =
          let is = call_at_lem calls at three ∙ of_read kind key third rest (high h) in
          somewhere calls at (at + 3) _ is refl (omega arith) (omega arith)

-- ---- the room for an answer

-- what was chosen where there is no other choice
pub only : (t : Bool) (x b : Begins SpelledCall) → cond t (some x) none ≡ some b → x ≡ b
only true x b e = some_inj e
only false x b e = absurd (none≢some e)

-- the answer to a load may have three words
load_needs : (k third : ℕ) → is_load k ≡ true → need_of k third ≡ 3
unfolding need_of is_load
load_needs k third e = go (eqb k 0) refl e
  where
    go : (t : Bool) → eqb k 0 ≡ t → cond t true (eqb k 4) ≡ true → need_of k third ≡ 3
    go true z e = rw (eqb-true k 0 z)
    go false z e = rw (eqb-true k 4 e)

-- the words that the answer to the call at an index may have
pub room_of : (k key third : ℕ) (rest : List ℕ) (b : Begins SpelledCall) → call_of k key third rest ≡ some b
    → answer_room b.first ≡ need_of k third
unfolding need_of answer_room
room_of k key third rest b e = go (is_load k) refl
  where
    beyond : is_load k ≡ false → 4 ≤ k → ⊥
    beyond l h = none≢some (sym (of_other k key third rest l (omega arith)) ∙ e)

    three : is_load k ≡ false → 3 ≤ k → k ≡ 3
    three l h = ⊎_elim (λ (p : k < 4). omega arith) (λ (q : 4 ≤ k). absurd (beyond l q)) (lt_or_ge k 4)

    loads : is_load k ≡ true → answer_room b.first ≡ need_of k third
    loads z =
        ap (λ (x : Begins SpelledCall). answer_room x.first)
        (sym (only (leb third (length rest)) _ b (sym (of_load k key third rest z) ∙ e)))
        ∙ sym (load_needs k third z)

    appends : k ≡ 1 → answer_room b.first ≡ need_of k third
    appends z = ap (λ (x : Begins SpelledCall). answer_room x.first) (sym (some_inj (sym (of_append k key third rest z) ∙ e))) ∙ rw z

    reads : k ≡ 2 → answer_room b.first ≡ need_of k third
    reads z = ap (λ (x : Begins SpelledCall). answer_room x.first) (sym (some_inj (sym (of_read k key third rest z) ∙ e))) ∙ rw z

    drops : k ≡ 3 → answer_room b.first ≡ need_of k third
    drops z = ap (λ (x : Begins SpelledCall). answer_room x.first) (sym (only (eqb third 0) _ b (sym (of_drop k key third rest z) ∙ e)))
        ∙ rw z

    go : (t : Bool) → is_load k ≡ t → answer_room b.first ≡ need_of k third
    go true l = loads l
    go false l =
        ⊎_elim (λ (h : k < 2). ⊎_elim (λ (p : k < 1). absurd (not_first k l (omega arith))) (λ (q : 1 ≤ k). appends (omega arith))
        (lt_or_ge k 1))
        (λ (h : 2 ≤ k). ⊎_elim (λ (p : k < 3). reads (omega arith)) (λ (q : 3 ≤ k). drops (three l q)) (lt_or_ge k 3))
        (lt_or_ge k 2)

-- the room that is left, by the kind of the call
module _ (k third left : ℕ) where
  pub read_short : k ≡ 2 → left < 5 + third → RoomIs (need_of k third) left None
  unfolding RoomIs need_of
  read_short e l = rw e l

  pub read_fits : k ≡ 2 → 5 + third ≤ left → RoomIs (need_of k third) left (Some (left - 5 - third))
  unfolding RoomIs need_of
  read_fits e l = rw e (omega arith)

  pub append_short : k ≡ 1 → left < 7 → RoomIs (need_of k third) left None
  unfolding RoomIs need_of
  append_short e l = rw e l

  pub append_fits : k ≡ 1 → 7 ≤ left → RoomIs (need_of k third) left (Some (left - 7))
  unfolding RoomIs need_of
  append_fits e l = rw e (omega arith)

  pub other_short : (k ≡ 2 → ⊥) → (k ≡ 1 → ⊥) → left < 3 → RoomIs (need_of k third) left None
  unfolding RoomIs need_of
  other_short n m l = rw (ne_eqb k 2 n, ne_eqb k 1 m) l

  pub other_fits : (k ≡ 2 → ⊥) → (k ≡ 1 → ⊥) → 3 ≤ left → RoomIs (need_of k third) left (Some (left - 3))
  unfolding RoomIs need_of
  other_fits n m l = rw (ne_eqb k 2 n, ne_eqb k 1 m) (omega arith)

-- ---- passes over the words

-- whether words spell calls, at the end, and by the call that they begin with
pub spelled_end : (calls : List ℕ) (at : ℕ) → length calls ≤ at → calls_of (behind at calls) ≡ some []
unfolding read_all at_end
spelled_end calls at h = ap calls_of (drop_of_length-le calls h)

before_some : (c : SpelledCall) (o : Option (List SpelledCall)) → is_some (before c o) ≡ is_some o
unfolding before
before_some c none = refl
before_some c (some cs) = refl

module _ (calls : List ℕ) (at : ℕ) (inside : at < length calls) where
  left_words : 0 < length (behind at calls)
  left_words = simp length-drop (omega arith)

  pub spelled_nowhere : NextIs calls at (call_at (behind at calls)) None → calls_of (behind at calls) ≡ none
  spelled_nowhere n = calls_none (behind at calls) left_words (was_nowhere calls at _ n)

  pub spelled_on : (next : ℕ) → NextIs calls at (call_at (behind at calls)) (Some next)
      → (b : Begins SpelledCall) × (call_at (behind at calls) ≡ some b)
      × (calls_of (behind at calls) ≡ before b.first (calls_of (behind next calls)))
  spelled_on next n =
      let (b, e, r, l, m) = was_somewhere calls at next _ n in
      (b, e, calls_some (behind at calls) b left_words e ∙ ap (λ (ws : List ℕ). before b.first (calls_of ws)) r)

  pub spelled_next : (next : ℕ) → NextIs calls at (call_at (behind at calls)) (Some next)
      → is_some (calls_of (behind at calls)) ≡ is_some (calls_of (behind next calls))
  spelled_next next n = let (b, e, s) = spelled_on next n in ap is_some s ∙ before_some b.first (calls_of (behind next calls))

-- calls before others
pub was_before : (c : SpelledCall) (o : Option (List SpelledCall)) (cs : List SpelledCall) → before c o ≡ some cs
    → (ds : List SpelledCall) × (o ≡ some ds) × (c ∷ ds ≡ cs)
unfolding before
was_before c none cs e = absurd (none≢some e)
was_before c (some ds) cs e = (ds, refl, some_inj e)

-- What is known in the middle of measuring calls: those of the words from an index on may need so much room, and so much is left.
pub record Fitting (calls : List ℕ) (room at left : ℕ) (cs : List SpelledCall) : Type 0 where
  pub rest : List SpelledCall
  pub spelled : calls_of (behind at calls) ≡ some rest
  pub used : answers_room rest + room ≡ answers_room cs + left

-- nothing is measured yet
pub fit_starts : (calls : List ℕ) (room : ℕ) (cs : List SpelledCall) → calls_of calls ≡ some cs → Fitting calls room 0 room cs
fit_starts calls room cs e = record { rest = cs; spelled = e; used = refl }

module _ {calls : List ℕ} {room at left : ℕ} {cs : List SpelledCall} (f : Fitting calls room at left cs) where
  -- the words end
  pub fit_ends : length calls ≤ at → true ≡ leb (answers_room cs) room
  unfolding answers_room
  fit_ends h =
      let none_left : [] ≡ f.rest = some_inj (sym (spelled_end calls at h) ∙ f.spelled) in
      let nothing : answers_room f.rest ≡ 0 = ap answers_room (sym none_left) in
      sym (le-leb (answers_room cs) room (omega (arith, f.used)))

  -- no call begins, which can't be
  pub fit_nowhere : at < length calls → NextIs calls at (call_at (behind at calls)) None → ⊥
  fit_nowhere h n = none≢some (sym (spelled_nowhere calls at h n) ∙ f.spelled)

  module _ (h : at < length calls) (next : ℕ) (n : NextIs calls at (call_at (behind at calls)) (Some next)) where
    abbrev need : ℕ
    need = need_of (get_or calls at 0) (get_or calls (at + 2) 0)

    -- the calls behind
    pub fit_behind : (ds : List SpelledCall) × (calls_of (behind next calls) ≡ some ds) × (answers_room f.rest ≡ need + answers_room ds)
    unfolding answers_room
    fit_behind =
        let (b, e, s) = spelled_on calls at h next n in
        let (b', e', r, l, m) = was_somewhere calls at next _ n in
        let (ds, o, is) = was_before b.first (calls_of (behind next calls)) f.rest (sym s ∙ f.spelled) in
        let read_as = sym (call_at_lem calls at (omega arith)) ∙ e in
        let words : answer_room b.first ≡ need = room_of _ (get_or calls (at + 1) 0) _ (behind (at + 3) calls) b read_as in
        (ds, o, ap answers_room (sym is) ∙ ap (λ (k : ℕ). k + answers_room ds) words)

    -- the answer may be too long
    pub fit_short : left < need → false ≡ leb (answers_room cs) room
    fit_short l = let (ds, o, is) = fit_behind in sym (lt-leb (answers_room cs) room (omega (arith, f.used)))

    -- it has room
    pub fit_goes : (after : ℕ) → after + need ≡ left → Fitting calls room next after cs
    fit_goes after e = let (ds, o, is) = fit_behind in record { rest = ds; spelled = o; used = omega (arith, f.used) }
