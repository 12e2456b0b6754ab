-- What `run_calls` answers, in each of its four ways out: by the theorem over every list of calls it is the plain book's. Assumes nothing.
use Prim.Native.Nat.{ℕ, ◌-◌, ◌/◌, ◌^◌, ◌≤◌, ◌<◌}
use Rattle.std.specs.Prelude.{Result, Ok, Err}
use Rattle.error.specs.Answers.{number_of}
use Rattle.error.specs.declared.Refusal.{Refusal}
use Rattle.error.specs.declared.Refusal.TheVariants.{ListTooShort}
use mathlib.Core.Bool.{Bool, true, false, ◌||◌, true≢false}
use mathlib.Core.List.{List, []}
use mathlib.Core.Option.{Option, none, some}
use mathlib.Core.Path.{◌≡◌, refl, sym, ap, subst, ◌∙◌}
use borrow.Author.Tests.{le-leb}
use lib.Dec.{leb, ltb}
use lib.ListN.{length, length-replicate}
use Rattle.error.specs.Refusal.{accepted, refused, refuse_if, answered, shape_bad, desks_bad, list_too_short}
use Rattle.error.proofs.LawsAnswer.{refused≢accepted, was_refused}
use Rattle.buffer.specs.Bytes.{overwrite}
use Rattle.scripthash_layout.specs.Sizes.{page_size}
use Rattle.book_words.specs.Spelled.{SpelledCall, calls_in, flat}
use Rattle.book_rules.specs.Outcomes.{listing}
use Rattle.book_statements.specs.Calls.{Call, after_calls, answers_to}
use Rattle.book_limits.specs.Limits.{out_of_shape}
use Rattle.book_desks.specs.Desks.{desks, desk_count, total, above, reserve_high, list_bad, making}
use Rattle.book_statements.specs.Recorded.{recorded}
use Rattle.plain_book.specs.Key.{pages_of}
use Rattle.plain_book.specs.Book.{Book as PlainBook, unlimited, makes, answers as plain_answers, after as plain_after, key_of}
use Rattle.plain_book.proofs.LawsPadded.{unpadded_fresh}
use Rattle.plain_book.proofs.LawsRecorded.{recorded_fresh}
use Rattle.plain_book.proofs.LawsGood.{is_made, shapes_kept}
use Rattle.book.specs.Book.{Book, fresh}
use Rattle.book_start.specs.Making.{makes_fresh, made_after}
use Rattle.book_start.specs.Answers.{fresh_answer}
use Rattle.book_read.specs.Reads.{reads}
use Rattle.book_history.specs.Calls.{after}
use Rattle.book_history.specs.Core.{core_serves}
use Rattle.book_history.specs.PlainOf.{Sixteen}
use Rattle.book_history.specs.Standing.{Standing}
use Rattle.book_history.proofs.Core.{core_fresh}
use Rattle.book_history.proofs.Demand3.{demand_3, makings_alike}
use Rattle.book_words.specs.SpellCalls.{calls_of, answers_room}
use Rattle.book_words.specs.SpellAnswers.{spell_answers}
use Rattle.book_words.proofs.LawsWords.{some_inj, none≢some}
use Rattle.book_calls.specs.Flat.{answers_spelled}
use Rattle.book_calls.specs.Steps.{is_some, AllDone}
use Rattle.book_calls.proofs.LawsFlat.{after_flat, answers_flat}
use Rattle.book_calls.specs.Runs.{plain_words, ran_on, runs, ran as ran_told, words_on, words_after, left_on, left_by, plain_on, plain_made, Runs}
use Rattle.book_calls.specs.declared.runs.NotRun.TheVariants.{Unspelled, Refused}

-- ---- the book that the calls are run on

-- limits for each desk and no more
sixteen : Sixteen unlimited
sixteen = record { reserve = length-replicate {A = ℕ} desks 0; ceiling = length-replicate {A = ℕ} desks (2 ^ 64 - 1) }

-- two makings by the same tests, one of which is accepted
two_made : {A B : Type 0} (a : A) (b : B) (s t : Bool)
    → answered {B = Unit {0}} (λ (made : A). tt) (refuse_if s shape_bad (refuse_if t desks_bad (accepted a))) ≡ accepted tt
    → (refuse_if s shape_bad (refuse_if t desks_bad (accepted a)) ≡ accepted a)
    × (refuse_if s shape_bad (refuse_if t desks_bad (accepted b)) ≡ accepted b)
unfolding refuse_if answered
two_made a b true t e = absurd (refused≢accepted e)
two_made a b false true e = absurd (refused≢accepted e)
two_made a b false false e = (refl, refl)

module _ (ds : List ℕ) (b : Book) where
  abbrev body : List ℕ
  body = b.space.body

  abbrev keys : ℕ
  keys = length b.heads

  abbrev plain : PlainBook
  plain = plain_on ds b

  abbrev begun : Book
  begun = fresh body keys unlimited

  -- it is made, and so is the plain book
  pub both_made : answered {B = Unit {0}} (λ (made : Book). tt) (makes_fresh ds unlimited b) ≡ accepted tt
      → (makes_fresh ds unlimited b ≡ accepted begun) × (plain_made ds b ≡ accepted plain)
  unfolding makes_fresh makes making
  both_made e =
      two_made begun plain
      (out_of_shape (length body) keys || above (length body / page_size) desks (λ d. desk_count d unlimited.reserve))
      (list_bad ds keys || (ltb (length body / page_size - 1) (total unlimited.reserve) || reserve_high desks unlimited)) e

  -- it isn't, and neither is the plain book
  pub none_made : (number : ℕ) → answered {B = Unit {0}} (λ (made : Book). tt) (makes_fresh ds unlimited b) ≡ refused number
      → (makes_fresh ds unlimited b ≡ refused number) × (plain_made ds b ≡ refused number)
  none_made number e =
      (was_refused _ _ e, was_refused _ _ (sym (makings_alike ds body keys unlimited b refl refl) ∙ e))

  module _ (made : plain_made ds b ≡ accepted plain) where
    -- The core's answers on it are the plain book's.
    pub made_answers : (cs : List Call) → answers_to (core_serves ds) begun cs ≡ plain_answers plain cs
    made_answers cs = (core_fresh ds body keys unlimited cs made sixteen).0 ∙ (demand_3 ds body keys unlimited cs made sixteen).0

    -- The core leaves what the calls that are lent the list do.
    pub made_after_lem : (cs : List Call) → after_calls (core_serves ds) begun cs ≡ after ds begun cs
    made_after_lem cs = (core_fresh ds body keys unlimited cs made sixteen).1

    -- Afterwards it stands as the plain book does.
    pub made_stands : (cs : List Call) (left : Book) → left ≡ after ds begun cs → Standing (plain_after plain cs) left
    made_stands cs left l = subst (Standing (plain_after plain cs)) (sym l) (demand_3 ds body keys unlimited cs made sixteen).1

    -- Afterwards each key reads as what is recorded for it.
    pub made_records : (cs : List Call) (left : Book) → left ≡ after ds begun cs
        → (key room : ℕ) → key < keys → length (recorded key (plain_answers plain cs) []) ≤ room
        → (pages : ℕ) × (reads left key room ≡ accepted (listing (recorded key (plain_answers plain cs) []) pages 0))
    made_records cs left l key room within fits =
        let then = plain_after plain cs in
        let stands = made_stands cs left l in
        let list = recorded_fresh ds (length body) keys unlimited key cs in
        let (size, same, lent, limits) = shapes_kept plain cs in
        let count : length then.keys ≡ keys = same ∙ length-replicate keys _ in
        let shape = (is_made ds (length body) keys unlimited made).shape in
        let told = stands.reads key room (rw (size, count) shape) (rw count within) (rw list fits) in
        (pages_of (key_of key then).place, told ∙ rw (list, unpadded_fresh ds (length body) keys unlimited key cs))

-- ---- the four ways out

-- what is read of words, or not
pub was_some : (o : Option (List SpelledCall)) → is_some o ≡ true → (cs : List SpelledCall) × (o ≡ some cs)
was_some none e = absurd (true≢false (sym e))
was_some (some cs) e = (cs, refl)

pub was_none : (o : Option (List SpelledCall)) → is_some o ≡ false → o ≡ none
was_none none e = refl
was_none (some cs) e = absurd (true≢false e)

module _ (ds : List ℕ) (b : Book) (calls out : List ℕ) where
  pub unspelled : calls_of calls ≡ none → Runs ds b calls out (Err Unspelled) b out
  unfolding runs words_after left_by
  unspelled e =
      record {
        answer = rw e;
        words = rw e;
        left = rw e;
        stands = λ cs f. absurd (none≢some (sym e ∙ f));
        records = λ cs f. absurd (none≢some (sym e ∙ f));
      }

  pub too_short : (cs : List SpelledCall) → calls_of calls ≡ some cs → leb (answers_room cs) (length out) ≡ false
      → Runs ds b calls out (Err (Refused ListTooShort)) b out
  unfolding runs words_after left_by
  too_short cs e l =
      record {
        answer = rw (e, l);
        words = rw (e, l);
        left = rw (e, l);
        stands =
            λ es f fits. absurd
            (true≢false (sym (le-leb (answers_room es) (length out) fits)
            ∙ ap (λ (x : List SpelledCall). leb (answers_room x) (length out)) (some_inj (sym f ∙ e)) ∙ l));
        records =
            λ es f fits. absurd
            (true≢false (sym (le-leb (answers_room es) (length out) fits)
            ∙ ap (λ (x : List SpelledCall). leb (answers_room x) (length out)) (some_inj (sym f ∙ e)) ∙ l));
      }

  pub not_made : (left : Book) (cs : List SpelledCall) (answer : Result (Unit {0}) Refusal) (refusal : Refusal) → calls_of calls ≡ some cs
      → leb (answers_room cs) (length out) ≡ true
      → fresh_answer answer ≡ answered (λ (made : Book). tt) (makes_fresh ds unlimited b) → answer ≡ Err refusal
      → left ≡ made_after b (makes_fresh ds unlimited b) → Runs ds b calls out (Err (Refused refusal)) left out
  unfolding runs ran_on words_after words_on left_by left_on made_after
  not_made left cs answer refusal e l told turned is =
      let (bytes, plain) = none_made ds b (number_of refusal) (sym told ∙ ap fresh_answer turned) in
      record {
        answer = rw (e, l, plain);
        words = rw (e, l, plain);
        left = is ∙ rw (e, l, bytes);
        stands = λ es f fits made. absurd (refused≢accepted (sym plain ∙ made));
        records = λ es f fits made. absurd (refused≢accepted (sym plain ∙ made));
      }

  pub all_ran : (left made : Book) (cs : List SpelledCall) (out' : List ℕ) (len : ℕ) (answer : Result (Unit {0}) Refusal) → calls_of calls ≡ some cs
      → leb (answers_room cs) (length out) ≡ true
      → fresh_answer answer ≡ answered (λ (made : Book). tt) (makes_fresh ds unlimited b) → answer ≡ Ok tt
      → made ≡ made_after b (makes_fresh ds unlimited b) → AllDone ds made cs out left out' len → Runs ds b calls out (Ok len) left out'
  unfolding runs ran_on words_after words_on left_by left_on made_after
  all_ran left made cs out' len answer e l told done is d =
      let (bytes, plain) = both_made ds b (sym told ∙ ap fresh_answer done) in
      let start : made ≡ begun ds b = is ∙ ap (made_after b) bytes in
      let same : answers_spelled ds made cs ≡ flat cs (plain_answers (plain_on ds b) (calls_in cs)) =
      answers_flat ds made cs ∙ ap (λ (x : Book). flat cs (answers_to (core_serves ds) x (calls_in cs))) start
      ∙ ap (flat cs) (made_answers ds b plain (calls_in cs)) in
      let words : spell_answers (answers_spelled ds made cs) ≡ plain_words (plain_on ds b) cs = ap spell_answers same in
      let ends : left ≡ after ds (begun ds b) (calls_in cs) =
      d.left_is ∙ after_flat ds made cs ∙ ap (λ (x : Book). after_calls (core_serves ds) x (calls_in cs)) start
      ∙ made_after_lem ds b plain (calls_in cs) in
      let ends_by : (es : List SpelledCall) → calls_of calls ≡ some es → left ≡ after ds (begun ds b) (calls_in es) =
      λ es f. ends ∙ ap (λ (x : List SpelledCall). after ds (begun ds b) (calls_in x)) (some_inj (sym e ∙ f)) in
      record {
        answer = rw (e, l, plain) (ap ran_told (d.count ∙ ap length words));
        words = rw (e, l, plain) (d.words ∙ ap (overwrite out 0) words);
        left = rw (e, l, bytes) ends;
        stands = λ es f fits made. made_stands ds b made (calls_in es) left (ends_by es f);
        records = λ es f fits made. made_records ds b made (calls_in es) left (ends_by es f);
      }
