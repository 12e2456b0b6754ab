-- The call at an index is done as its words say, and a list of calls one by one. Assumes nothing.
use Prim.Native.Nat.{ℕ, ◌+◌, ◌-◌, ◌≤◌, ◌<◌}
use Rattle.std.specs.Prelude.{Some, None, Result, Ok, Err}
use Rattle.error.specs.declared.Refusal.{Refusal}
use Rattle.book_append.specs.declared.answers.AppendedTo.{AppendedTo}
use mathlib.Core.Bool.{Bool, true, false, cond}
use mathlib.Core.List.{List, [], ◌∷◌, ◌++◌}
use mathlib.Core.Logic.{⊎_elim}
use mathlib.Core.Option.{none, some}
use mathlib.Core.Path.{◌≡◌, refl, sym, ap, subst, ◌∙◌}
use native.Mathlib.Nat.{zero-add, add-zero}
use native.Mathlib.Omega.{arith}
use borrow.Author.Tests.{leb-true}
use borrow.Rule.Slice.PartMut.{mid_of, put_mid}
use lib.Dec.{leb, eqb}
use lib.ListN.{length, get_or, take as first_of, drop as behind, length-take, length-drop, length-append}
use Rattle.error.specs.Refusal.{Answer, accepted, refused, answered}
use Rattle.buffer.specs.Bytes.{overwrite}
use Rattle.buffer.proofs.LawsOrder.{lt_or_ge}
use Rattle.buffer.proofs.LawsBytes.{overwrite_nil, overwrite_part, length_overwrite}
use Rattle.buffer.proofs.LawsOverwrite.{overwrite_adjoin}
use Rattle.book_words.specs.Spelled.{SpelledCall, load, append, read, drop, SpelledTold, loaded, appended, listed, dropped}
use Rattle.book_rules.specs.declared.places.SlabFit.{SlabFit}
use Rattle.book_rules.specs.Outcomes.{Listed as List-told, book_after, answer_of, retold}
use Rattle.book.specs.Book.{Book, Outcome}
use Rattle.book_desks.specs.Desks.{desk_of}
use Rattle.book_append.specs.Appends.{appends}
use Rattle.book_load.specs.Loads.{loads}
use Rattle.book_read.specs.Reads.{reads}
use Rattle.book_drop.specs.Drops.{drops}
use Rattle.book_load.specs.Answers.{load_answer}
use Rattle.book_append.specs.Answers.{append_answer}
use Rattle.book_drop.specs.Answers.{drop_answer}
use Rattle.book_words.specs.Words.{Begins, begins, spell_all}
use Rattle.book_words.specs.SpellCalls.{is_load, fit_of, call_of, call_at, calls_of, answer_room, answers_room}
use Rattle.book_words.specs.SpellAnswers.{spell_told, spell_answer, spell_answers}
use Rattle.book_words.proofs.LawsWords.{some_inj, none≢some}
use Rattle.book_words.proofs.LawsCalls.{call_at_lem}
use Rattle.book_calls.specs.Flat.{does_spelled, after_spelled, answers_spelled, load_told, append_told, drop_told}
use Rattle.book_calls.specs.Steps.{NextIs, Answered, Done, CallHere, Spelled, AllDone}
use Rattle.book_calls.proofs.LawsSteps.{not_first, of_load, of_append, of_read, of_drop, of_other, was_somewhere, spelled_end}
use Rattle.book_calls.proofs.LawsSteps.{spelled_nowhere}
use Rattle.book_calls.proofs.LawsSteps.{spelled_on, was_before, only}
use Rattle.book_calls.proofs.LawsFlat.{retold_book, retold_answer, read_book, read_answer_lem, load_told_lem, append_told_lem, drop_told_lem}
use Rattle.book_calls.proofs.LawsPut.{re_said, place_words}
use Rattle.book_calls.proofs.LawsRead.{ReadsAs, turned, told, reads_as}

-- ---- an answer's words have the room that is kept for them

load_short : (answer : Result ℕ Refusal) → length (spell_answer (load_told answer)) ≤ 3
unfolding spell_answer spell_told
load_short (Ok pages) = omega arith
load_short (Err refusal) = omega arith

append_short : (answer : Result AppendedTo Refusal) → length (spell_answer (append_told answer)) ≤ 7
unfolding spell_answer spell_told
append_short (Ok to) = omega (arith, place_words to.place)
append_short (Err refusal) = omega arith

drop_short : (answer : Result ℕ Refusal) → length (spell_answer (drop_told answer)) ≤ 3
unfolding spell_answer spell_told
drop_short (Ok length) = omega arith
drop_short (Err refusal) = omega arith

pub read_short : (b : Book) (key room : ℕ) → length (spell_answer (answered listed (reads b key room))) ≤ 5 + room
unfolding answered spell_answer spell_told
read_short b key room = by (reads b key room) (reads_as b key room)
  where
    by : (a : Answer List-told) → ReadsAs room a → length (spell_answer (answered listed a)) ≤ 5 + room
    by (refused number) turned = omega arith
    by (accepted l) (told _ fits) = omega arith

-- the words of an answer that is another's
pub short_as : {a other : Answer SpelledTold} {room : ℕ} → a ≡ other → length (spell_answer a) ≤ room → length (spell_answer other) ≤ room
short_as {room = room} e h = subst (λ (x : Answer SpelledTold). length (spell_answer x) ≤ room) e h

-- ---- the call at an index

-- the same call
pub re_done : {ds : List ℕ} {b after : Book} {c other : SpelledCall} {out written : List ℕ} {len : ℕ} → other ≡ c
    → Done ds b c out after written len
    → Done ds b other out after written len
re_done {ds} {b} {after} {out = out} {written = written} {len = len} e h = subst (λ (x : SpelledCall). Done ds b x out after written len)
    (sym e) h

module _ {calls : List ℕ} {at room : ℕ} (h : CallHere calls at room) where
  abbrev kind : ℕ
  kind = get_or calls at 0

  abbrev key : ℕ
  key = get_or calls (at + 1) 0

  abbrev third : ℕ
  third = get_or calls (at + 2) 0

  abbrev rest : List ℕ
  rest = behind (at + 3) calls

  here_of : call_of kind key third rest ≡ some h.here
  here_of = sym (call_at_lem calls at h.three) ∙ h.is

  -- a load
  loaded_by : (t : Bool) → leb third (length rest) ≡ t
      → cond t (begins (load (fit_of kind) key (first_of third rest)) (behind third rest)) none ≡ some h.here
      → (third ≤ length rest) × (h.here.first ≡ load (fit_of kind) key (first_of third rest))
  loaded_by true e f = (leb-true third (length rest) e, ap (λ (b : Begins SpelledCall). b.first) (sym (some_inj f)))
  loaded_by false e f = absurd (none≢some f)

  pub here_load : is_load kind ≡ true → (at + 3 + third ≤ length calls) × (h.here.first ≡ load (fit_of kind) key (first_of third rest))
  here_load e =
      let l = loaded_by (leb third (length rest)) refl (sym (of_load kind key third rest e) ∙ here_of) in
      let words = length-drop (at + 3) calls in
      (omega (arith, l.0, h.three), l.1)

  pub here_append : kind ≡ 1 → h.here.first ≡ append key third
  here_append e = ap (λ (b : Begins SpelledCall). b.first) (sym (some_inj (sym (of_append kind key third rest e) ∙ here_of)))

  pub here_read : kind ≡ 2 → h.here.first ≡ read key third
  here_read e = ap (λ (b : Begins SpelledCall). b.first) (sym (some_inj (sym (of_read kind key third rest e) ∙ here_of)))

  pub here_drop : is_load kind ≡ false → (kind ≡ 1 → ⊥) → (kind ≡ 2 → ⊥) → h.here.first ≡ drop key
  here_drop n0 n1 n2 =
      ap (λ (b : Begins SpelledCall). b.first) (sym (only (eqb third 0) _ h.here (sym (of_drop kind key third rest three) ∙ here_of)))
    where
      low : kind < 3 → ⊥
      low p =
          ⊎_elim (λ (q : kind < 1). not_first kind n0 (omega arith))
          (λ (q : 1 ≤ kind). ⊎_elim (λ (r : kind < 2). n1 (omega arith)) (λ (r : 2 ≤ kind). n2 (omega arith)) (lt_or_ge kind 2))
          (lt_or_ge kind 1)

      beyond : 4 ≤ kind → ⊥
      beyond p = none≢some (sym (of_other kind key third rest n0 (omega arith)) ∙ here_of)

      three : kind ≡ 3
      three =
          ⊎_elim (λ (p : kind < 3). absurd (low p))
          (λ (q : 3 ≤ kind). ⊎_elim (λ (r : kind < 4). omega arith) (λ (r : 4 ≤ kind). absurd (beyond r)) (lt_or_ge kind 4))
          (lt_or_ge kind 3)

  -- what holds of the call here holds of the call that the words begin with
  pub here_is : (b : Begins SpelledCall) → call_at (behind at calls) ≡ some b → b.first ≡ h.here.first
  here_is b e = ap (λ (x : Begins SpelledCall). x.first) (some_inj (sym e ∙ h.is))

  -- the room of its answer
  pub here_room : (c : SpelledCall) → h.here.first ≡ c → answer_room c ≤ room
  here_room c e = subst (λ (x : SpelledCall). answer_room x ≤ room) e h.fits

  pub here_load_room : is_load kind ≡ true → 3 ≤ room
  unfolding answer_room
  here_load_room e = here_room _ (here_load e).1

  pub here_append_room : kind ≡ 1 → 7 ≤ room
  unfolding answer_room
  here_append_room e = here_room _ (here_append e)

  pub here_read_room : kind ≡ 2 → 5 + third ≤ room
  unfolding answer_room
  here_read_room e = here_room _ (here_read e)

  pub here_drop_room : is_load kind ≡ false → (kind ≡ 1 → ⊥) → (kind ≡ 2 → ⊥) → 3 ≤ room
  unfolding answer_room
  here_drop_room n0 n1 n2 = here_room _ (here_drop n0 n1 n2)

  -- the part of the words that a load's numbers stand in
  pub here_part : (fit : SlabFit) → fit ≡ fit_of kind → is_load kind ≡ true
      → h.here.first ≡ load fit key (first_of (at + 3 + third - (at + 3)) rest)
  here_part fit f e =
      let many : third ≡ at + 3 + third - (at + 3) = omega arith in
      (here_load e).1 ∙ ap (λ (n : ℕ). load (fit_of kind) key (first_of n rest)) many
      ∙ ap (λ (x : SlabFit). load x key (first_of (at + 3 + third - (at + 3)) rest)) (sym f)

-- a change was done, and its answer put as it is spelled
change_done : {T : Type 0} (spell : T → SpelledTold) (a : Answer (Outcome T)) {ds : List ℕ} {b left : Book} {c : SpelledCall}
    {put : Answer SpelledTold}
    {out written : List ℕ} {len : ℕ} → does_spelled ds b c ≡ retold spell a → left ≡ book_after b a → put ≡ answered spell (answer_of a)
    → length (spell_answer put) ≤ answer_room c
    → Answered put out written len → Done ds b c out left written len
change_done spell a {ds} {b} e l p short s =
    let said = ap answer_of e ∙ retold_answer spell a ∙ sym p in
    record {
      left = l ∙ sym (ap (book_after b) e ∙ retold_book spell b a);
      said = re_said said s;
      short = short_as (sym said) short;
    }

-- a load, an append and a drop were done, by the key's desk
pub load_done : {ds : List ℕ} {b left : Book} {fit : SlabFit} {key : ℕ} {ns out written : List ℕ} {len desk : ℕ} (answer : Result ℕ Refusal)
    → desk ≡ desk_of ds key → load_answer answer ≡ answer_of (loads fit desk b key ns) → left ≡ book_after b (loads fit desk b key ns)
    → Answered (load_told answer) out written len → Done ds b (load fit key ns) out left written len
unfolding does_spelled answer_room
load_done {b = b} {fit = fit} {key = key} {ns = ns} {desk = desk} answer is said left put =
    change_done loaded (loads fit desk b key ns) (ap (λ (d : ℕ). retold loaded (loads fit d b key ns)) (sym is)) left
    (load_told_lem answer ∙ ap (answered loaded) said) (load_short answer) put

pub append_done : {ds : List ℕ} {b left : Book} {key n : ℕ} {out written : List ℕ} {len desk : ℕ} (answer : Result AppendedTo Refusal)
    → desk ≡ desk_of ds key → append_answer answer ≡ answer_of (appends desk b key n) → left ≡ book_after b (appends desk b key n)
    → Answered (append_told answer) out written len → Done ds b (append key n) out left written len
unfolding does_spelled answer_room
append_done {b = b} {key = key} {n = n} {desk = desk} answer is said left put =
    change_done appended (appends desk b key n) (ap (λ (d : ℕ). retold appended (appends d b key n)) (sym is)) left
    (append_told_lem answer ∙ ap (answered appended) said) (append_short answer) put

pub drop_done : {ds : List ℕ} {b left : Book} {key : ℕ} {out written : List ℕ} {len desk : ℕ} (answer : Result ℕ Refusal)
    → desk ≡ desk_of ds key → drop_answer answer ≡ answer_of (drops desk b key) → left ≡ book_after b (drops desk b key)
    → Answered (drop_told answer) out written len → Done ds b (drop key) out left written len
unfolding does_spelled answer_room
drop_done {b = b} {key = key} {desk = desk} answer is said left put =
    change_done dropped (drops desk b key) (ap (λ (d : ℕ). retold dropped (drops d b key)) (sym is)) left
    (drop_told_lem answer ∙ ap (answered dropped) said) (drop_short answer) put

-- a read leaves the book, and tells its list
pub read_done : (ds : List ℕ) (b : Book) (key room : ℕ) {out written : List ℕ} {len : ℕ}
    → Answered (answered listed (reads b key room)) out written len
    → Done ds b (read key room) out b written len
unfolding does_spelled answer_room
read_done ds b key room s =
    let said = read_answer_lem b (reads b key room) in
    record {
      left = sym (read_book b (reads b key room));
      said = re_said said s;
      short = short_as (sym said) (read_short b key room);
    }

-- ---- a list of calls

-- What is known in the middle of running calls: those of the words from an index on are left, and the words of their answers, written from
-- another index on, make up the words of all.
pub record Running (ds : List ℕ) (first : Book) (cs : List SpelledCall) (calls out₀ : List ℕ) (b : Book) (out : List ℕ) (at to : ℕ) :
    Type 0 where
  pub left : List SpelledCall
  pub spelled : calls_of (behind at calls) ≡ some left
  pub room : to + answers_room left ≤ length out
  pub same : length out ≡ length out₀
  pub words : overwrite out to (spell_answers (answers_spelled ds b left)) ≡ overwrite out₀ 0 (spell_answers (answers_spelled ds first cs))
  pub count : to + length (spell_answers (answers_spelled ds b left)) ≡ length (spell_answers (answers_spelled ds first cs))
  pub book : after_spelled ds b left ≡ after_spelled ds first cs

-- the calls of the words are those that have room
pub spelled_room : {calls : List ℕ} {room : ℕ} → Spelled calls room → (cs : List SpelledCall) → calls_of calls ≡ some cs
    → answers_room cs ≤ room
spelled_room {room = room} s cs e = subst (λ (l : List SpelledCall). answers_room l ≤ room) (some_inj (sym s.is ∙ e)) s.fits

-- the part of a list from an index on has the room that is left
pub here_in : {calls : List ℕ} {at : ℕ} (out : List ℕ) (to : ℕ) → CallHere calls at (length out - to)
    → CallHere calls at (length (mid_of to (length out - to) out))
here_in {calls} {at} out to h =
    let same : length (mid_of to (length out - to) out) ≡ length out - to = simp (length-take, length-drop) (omega arith) in
    subst (CallHere calls at) (sym same) h

-- nothing is run yet
pub runs_start : (ds : List ℕ) (b : Book) (cs : List SpelledCall) (calls out : List ℕ) → calls_of calls ≡ some cs
    → answers_room cs ≤ length out
    → Running ds b cs calls out b out 0 0
runs_start ds b cs calls out e h =
    record { left = cs; spelled = e; room = omega arith; same = refl; words = refl; count = zero-add _; book = refl }

module _ {ds : List ℕ} {first : Book} {cs : List SpelledCall} {calls out₀ : List ℕ} {b : Book} {out : List ℕ} {at to : ℕ}
    (r : Running ds first cs calls out₀ b out at to) where
  -- all are run
  pub runs_end : length calls ≤ at → AllDone ds first cs out₀ b out to
  unfolding spell_all answers_spelled after_spelled
  runs_end h =
      let none_left : r.left ≡ [] = some_inj (sym r.spelled ∙ spelled_end calls at h) in
      record {
        left_is = sym (ap (after_spelled ds b) none_left) ∙ r.book;
        words =
            sym (overwrite_nil out to) ∙ ap (λ (l : List SpelledCall). overwrite out to (spell_answers (answers_spelled ds b l)))
            (sym none_left)
            ∙ r.words;
        count = sym (add-zero to) ∙ ap (λ (l : List SpelledCall). to + length (spell_answers (answers_spelled ds b l))) (sym none_left)
            ∙ r.count;
      }

  -- no call begins, which can't be
  pub runs_nowhere : at < length calls → NextIs calls at (call_at (behind at calls)) None → ⊥
  runs_nowhere h n = none≢some (sym (spelled_nowhere calls at h n) ∙ r.spelled)

  module _ (h : at < length calls) (next : ℕ) (n : NextIs calls at (call_at (behind at calls)) (Some next)) where
    -- the call here, and those behind it
    pub runs_split : (x : Begins SpelledCall) × (call_at (behind at calls) ≡ some x)
        × ((es : List SpelledCall) × (calls_of (behind next calls) ≡ some es) × (x.first ∷ es ≡ r.left))
    runs_split =
        let (x, e, s) = spelled_on calls at h next n in
        let (es, o, is) = was_before x.first (calls_of (behind next calls)) r.left (sym s ∙ r.spelled) in
        (x, e, (es, o, is))

    -- the room that it may need
    room_split : answer_room runs_split.0.first + answers_room runs_split.2.0 ≡ answers_room r.left
    unfolding answers_room
    room_split = ap answers_room runs_split.2.2

    -- it begins here, and its answer has room behind what is written
    pub runs_here : CallHere calls at (length out - to)
    runs_here =
        let (x, e, rest, l, m) = was_somewhere calls at next _ n in
        record {
          here = runs_split.0;
          is = runs_split.1;
          three = omega (arith, l, m);
          fits = omega (arith, room_split, r.room);
        }

    -- it is run: its answer's words are written behind the others
    module _ (b' : Book) (part : List ℕ) (len : ℕ) (d : Done ds b runs_split.0.first (mid_of to (length out - to) out) b' part len) where
      abbrev said : List ℕ
      said = spell_answer (answer_of (does_spelled ds b runs_split.0.first))

      abbrev behind_it : List ℕ
      behind_it = spell_answers (answers_spelled ds b' runs_split.2.0)

      -- the list afterwards
      placed : put_mid to (length out - to) out part ≡ overwrite out to said
      placed =
          ap (put_mid to (length out - to) out) d.said.words
          ∙ overwrite_part out to (length out - to) 0 said (omega (arith, r.room)) (omega (arith, r.room, room_split, d.short))
          ∙ ap (λ (o : ℕ). overwrite out o said) (add-zero to)

      -- it is as long as before
      kept : length (put_mid to (length out - to) out part) ≡ length out
      kept = ap length placed ∙ length_overwrite out to said (omega (arith, r.room, room_split, d.short))

      -- the answers of what was left are this one, and those behind
      answers_split : said ++ behind_it ≡ spell_answers (answers_spelled ds b r.left)
      unfolding spell_all answers_spelled
      answers_split =
          ap (λ (x : Book). said ++ spell_answers (answers_spelled ds x runs_split.2.0)) d.left
          ∙ ap (λ (l : List SpelledCall). spell_answers (answers_spelled ds b l)) runs_split.2.2

      books_split : after_spelled ds b' runs_split.2.0 ≡ after_spelled ds b r.left
      unfolding after_spelled
      books_split = ap (λ (x : Book). after_spelled ds x runs_split.2.0) d.left ∙ ap (after_spelled ds b) runs_split.2.2

      pub runs_step : Running ds first cs calls out₀ b' (put_mid to (length out - to) out part) next (to + len)
      runs_step =
          let many : to + len ≡ to + length said = ap (λ (k : ℕ). to + k) d.said.count in
          record {
            left = runs_split.2.0;
            spelled = runs_split.2.1;
            room = omega (arith, r.room, room_split, d.short, d.said.count, kept);
            same = kept ∙ r.same;
            words =
                ap (λ (l : List ℕ). overwrite l (to + len) behind_it) placed
                ∙ ap (λ (k : ℕ). overwrite (overwrite out to said) k behind_it) many
                ∙ overwrite_adjoin out to said behind_it (omega (arith, r.room)) ∙ ap (overwrite out to) answers_split ∙ r.words;
            count = omega (arith, many, length-append said behind_it, ap length answers_split, r.count);
            book = books_split ∙ r.book;
          }
