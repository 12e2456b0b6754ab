-- A read's answer: its list was lent behind five words, which are written last. Assumes nothing.
use Prim.Native.Nat.{ℕ, ◌+◌, ◌-◌, ◌≤◌}
use Rattle.std.specs.Prelude.{Result, Ok, Err}
use Rattle.error.specs.Answers.{number_of}
use Rattle.error.specs.declared.Refusal.{Refusal}
use mathlib.Core.Bool.{Bool, true, false}
use mathlib.Core.List.{List, [], ◌∷◌, ◌++◌}
use mathlib.Core.Path.{◌≡◌, refl, ap, ◌∙◌}
use native.Mathlib.Omega.{arith}
use borrow.Author.Tests.{ltb-false}
use borrow.Rule.Slice.PartMut.{mid_of, put_mid, put_same}
use lib.Dec.{leb, ltb}
use lib.ListN.{length, take, drop, length-take, length-drop}
use lib.Seq.{drop_at, length-take-le}
use Rattle.error.specs.Refusal.{Answer, accepted, refused, refuse_if, and_then, answered, shape_bad, key_beyond, list_too_short}
use Rattle.error.proofs.LawsAnswer.{accepted_inj}
use Rattle.buffer.specs.Bytes.{overwrite}
use Rattle.buffer.proofs.LawsBytes.{overwrite_part, length_overwrite}
use Rattle.book_rules.specs.Outcomes.{Listed as List-told, listing}
use Rattle.book_words.specs.Spelled.{listed}
use Rattle.book_space.specs.Space.{shape_broken}
use Rattle.book_keys.specs.Keys.{Content, content}
use Rattle.book.specs.Book.{Book, word_of, on_key, seen}
use Rattle.book_read.specs.Reads.{reads, list_after}
use Rattle.book_read.specs.Answers.{Counted, read_answer, counted_of}
use Rattle.book_read.specs.declared.answers.BookRead.{BookRead}
use Rattle.book_words.specs.SpellAnswers.{spell_told, spell_answer}
use Rattle.book_calls.specs.Steps.{Answered, read_words, read_len}

-- What a read answers: a refusal, or a list that the room holds.
pub data ReadsAs (room : ℕ) : Answer List-told → Type 0 where
  turned : {number : ℕ} → ReadsAs room (refused number)
  told : (l : List-told) → length l.numbers ≤ room → ReadsAs room (accepted l)

-- what a read tells of a key's content, or the refusal of a list that is too short
abbrev listed_in : ℕ → Content → Answer List-told
listed_in room c = refuse_if (ltb room (length c.numbers)) list_too_short (accepted (listing c.numbers c.pages c.padded))

pub reads_as : (b : Book) (key room : ℕ) → ReadsAs room (reads b key room)
unfolding reads on_key refuse_if and_then
reads_as b key room = shape (shape_broken b.space (length b.heads))
  where
    fits : (c : Content) (t : Bool) → ltb room (length c.numbers) ≡ t
        → ReadsAs room (refuse_if t list_too_short (accepted (listing c.numbers c.pages c.padded)))
    fits c true e = turned
    fits c false e = told (listing c.numbers c.pages c.padded) (ltb-false room (length c.numbers) e)

    held : (a : Answer Content) → ReadsAs room (and_then a (λ c. listed_in room c))
    held (accepted c) = fits c (ltb room (length c.numbers)) refl
    held (refused number) = turned

    within : (t : Bool) → ReadsAs room (refuse_if t key_beyond (and_then (content (seen b.space) (word_of key b)) (λ c. listed_in room c)))
    within true = turned
    within false = held (content (seen b.space) (word_of key b))

    shape : (t : Bool)
        → ReadsAs room (refuse_if t shape_bad (refuse_if (leb (length b.heads) key) key_beyond
        (and_then (content (seen b.space) (word_of key b)) (λ c. listed_in room c))))
    shape true = turned
    shape false = within (leb (length b.heads) key)

-- words written before others that stand behind them
before_words : (b ns : List ℕ) (x y z w v : ℕ) → 5 + length ns ≤ length b
    → overwrite (overwrite b 5 ns) 0 (x ∷ y ∷ z ∷ w ∷ v ∷ []) ≡ overwrite b 0 (x ∷ y ∷ z ∷ w ∷ v ∷ ns)
unfolding overwrite
before_words b ns x y z w v h =
    let all : 5 + length ns ≡ 0 + length (x ∷ y ∷ z ∷ w ∷ v ∷ ns) = omega arith in
    ap (λ (l : List ℕ). x ∷ y ∷ z ∷ w ∷ v ∷ l) (drop_at (take 5 b) (ns ++ drop (5 + length ns) b) 5 (length-take-le 5 b (omega arith)))
    ∙ ap (λ (k : ℕ). x ∷ y ∷ z ∷ w ∷ v ∷ (ns ++ drop k b)) all

-- A read into the part of a list behind its first five words.
module _ (b : Book) (key room : ℕ) (out : List ℕ) (h : 5 + room ≤ length out) where
  abbrev mid : List ℕ
  mid = mid_of 5 (5 + room - 5) out

  pub mid_room : length mid ≡ room
  mid_room = simp (length-take, length-drop) (omega arith)

  -- what is known of the list and of the answer, by what the read answers
  pub record Put (a : Answer List-told) (answer : Result BookRead Refusal) (part : List ℕ) : Type 0 where
    pub same : length (put_mid 5 (5 + room - 5) out part) ≡ length out
    pub long : read_len answer ≤ 5 + room
    pub said : (len : ℕ) → len ≡ read_len answer
        → Answered (answered listed a) out (overwrite (put_mid 5 (5 + room - 5) out part) 0 (read_words answer)) len

  put_turned : (number : ℕ) (answer : Result BookRead Refusal) (part : List ℕ) → read_answer answer ≡ refused number → part ≡ mid
      → Put (refused number) answer part
  unfolding answered spell_answer
  put_turned number (Ok read) part e p = let z : ◌≡◌ {A = ℕ} 0 1 = cc in absurd (omega arith)
  put_turned number (Err refusal) part e p =
      let same : number_of refusal ≡ number = cc in
      let whole : put_mid 5 (5 + room - 5) out part ≡ out = ap (put_mid 5 (5 + room - 5) out) p ∙ put_same 5 (5 + room - 5) out in
      record { same = ap length whole; long = omega arith; said = λ len l. record { words = rw (whole, same); count = l } }

  put_told : (l : List-told) (answer : Result BookRead Refusal) (part : List ℕ) → length l.numbers ≤ room
      → read_answer answer ≡ accepted (record { length = length l.numbers; pages = l.pages; padded = l.padded })
      → part ≡ overwrite mid 0 l.numbers → Put (accepted l) answer part
  unfolding answered spell_answer spell_told
  put_told l (Ok read) part fits e p =
      let counts : read.length ≡ length l.numbers = ap (λ (x : Counted). x.length) (accepted_inj e) in
      let walked : read.pages ≡ l.pages = ap (λ (x : Counted). x.pages) (accepted_inj e) in
      let more : read.padded ≡ l.padded = ap (λ (x : Counted). x.padded) (accepted_inj e) in
      let all : 5 + read.length ≡ length (0 ∷ 2 ∷ l.pages ∷ l.padded ∷ length l.numbers ∷ l.numbers) = omega (arith, counts) in
      let placed : put_mid 5 (5 + room - 5) out part ≡ overwrite out 5 l.numbers =
      ap (put_mid 5 (5 + room - 5) out) p ∙ overwrite_part out 5 (5 + room - 5) 0 l.numbers (omega arith) (omega arith) in
      let spelled = before_words out l.numbers 0 2 l.pages l.padded (length l.numbers) (omega arith) in
      record {
        same = ap length placed ∙ length_overwrite out 5 l.numbers (omega arith);
        long = omega (arith, counts);
        said = λ len s. record { words = rw (placed, counts, walked, more) spelled; count = s ∙ all };
      }
  put_told l (Err refusal) part fits e p = let z : ◌≡◌ {A = ℕ} 0 1 = cc in absurd (omega arith)

  put_as : (a : Answer List-told) → ReadsAs room a → (answer : Result BookRead Refusal) (part : List ℕ)
      → read_answer answer ≡ answered counted_of a → part ≡ list_after mid a → Put a answer part
  unfolding answered list_after
  put_as (refused number) turned answer part e p = put_turned number answer part e p
  put_as (accepted l) (told _ fits) answer part e p = put_told l answer part fits e p

  -- The answer and the list of a read make up the answer's words.
  pub put_reads : (answer : Result BookRead Refusal) (part : List ℕ) → read_answer answer ≡ answered counted_of (reads b key (length mid))
      → part ≡ list_after mid (reads b key (length mid))
      → Put (reads b key room) answer part
  put_reads answer part e p =
      put_as (reads b key room) (reads_as b key room) answer part
      (e ∙ ap (λ (n : ℕ). answered counted_of (reads b key n)) mid_room)
      (p ∙ ap (λ (n : ℕ). list_after mid (reads b key n)) mid_room)
