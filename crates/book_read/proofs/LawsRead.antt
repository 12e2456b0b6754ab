-- A read: what its definition says of a key, and what a call tells and leaves that does so. Assumes nothing.
use Prim.Native.Nat.{ℕ, ◌≤◌, ◌<◌}
use mathlib.Core.Bool.{Bool, true, false}
use mathlib.Core.List.{List}
use mathlib.Core.Path.{◌≡◌, refl, sym, ◌∙◌}
use lib.Dec.{ltb}
use lib.ListN.{length}
use Rattle.error.specs.Refusal.{Answer, accepted, refused, refuse_if, and_then, answered, shape_bad, key_beyond, list_too_short}
use Rattle.error.proofs.LawsAnswer.{was_accepted, was_refused, answered_yes, answered_no}
use Rattle.buffer.specs.Bytes.{overwrite}
use Rattle.book_rules.specs.Outcomes.{listing, Listed}
use Rattle.book_space.specs.Space.{shape_broken}
use Rattle.book_keys.specs.Keys.{Content, content}
use Rattle.book_keys.specs.Steps.{Counts, counts_of, in_room, after_read, KeyRead}
use Rattle.book.specs.Book.{Book, word_of, seen}
use Rattle.book_read.specs.Reads.{reads, list_after}
use Rattle.book_read.specs.Answers.{Counted, counted_of}
use Rattle.book.proofs.LawsKey.{key_broken, key_beyond_lem, key_there}

-- What a read tells of a key that holds some content.
abbrev pub reading : Content → Listed
reading c = listing c.numbers c.pages c.padded

-- What a read tells of what a key holds.
read_fitting : (room : ℕ) (a : Answer Content)
    → and_then a (λ c. refuse_if (ltb room (length c.numbers)) list_too_short (accepted (reading c)))
    ≡ answered reading (in_room room a)
unfolding in_room answered and_then refuse_if
read_fitting room (refused number) = refl
read_fitting room (accepted c) = by_room (ltb room (length c.numbers))
  where
    by_room : (short : Bool)
        → refuse_if short list_too_short (accepted (reading c)) ≡ answered reading (refuse_if short list_too_short (accepted c))
    by_room true = refl
    by_room false = refl

-- A read of a key of a book, into a list with some room.
module _ (b : Book) (key room : ℕ) where
  -- The shape breaks the limits.
  pub read_broken : shape_broken b.space (length b.heads) ≡ true → reads b key room ≡ refused shape_bad
  unfolding reads
  read_broken e = key_broken b key _ e

  module _ (whole : shape_broken b.space (length b.heads) ≡ false) where
    -- The key is beyond the heads.
    pub read_beyond : length b.heads ≤ key → reads b key room ≡ refused key_beyond
    unfolding reads
    read_beyond h = key_beyond_lem b key _ whole h

    -- It isn't: what the key holds decides, and the room.
    pub read_key : key < length b.heads
        → reads b key room ≡ answered reading (in_room room (content (seen b.space) (word_of key b)))
    unfolding reads
    read_key h = key_there b key _ whole h ∙ read_fitting room (content (seen b.space) (word_of key b))

-- A read tells what an answer of its definition says, and its list is left as that says.
abbrev pub ReadDoes : Answer Listed → List ℕ → List ℕ → Answer Counted → Type 0
ReadDoes a before after tells = (tells ≡ answered counted_of a) × (after ≡ list_after before a)

-- So with any free heads and counts, in the two parts that a read promises.
pub for_any : (a : List ℕ → List ℕ → Answer Listed) (before : List ℕ) {after : List ℕ} {tells : Answer Counted}
    → ((free counts : List ℕ) → ReadDoes (a free counts) before after tells)
    → ((free counts : List ℕ) → tells ≡ answered counted_of (a free counts))
    × ((free counts : List ℕ) → after ≡ list_after before (a free counts))
for_any a before does = (λ free counts. (does free counts).0, λ free counts. (does free counts).1)

-- A read that is refused, and leaves the list.
pub read_no : (a : Answer Listed) (out : List ℕ) {number : ℕ} → a ≡ refused number → ReadDoes a out out (refused number)
unfolding answered list_after
read_no a out e = (rw e, rw e)

-- A read that tells how long the list is, and writes it to the lent one's start.
pub read_yes : (a : Answer Listed) (c : Content) (counts : Counts) (before after : List ℕ) → a ≡ accepted (reading c)
    → counts_of c ≡ counts
    → after ≡ overwrite before 0 c.numbers
    → ReadDoes a before after (accepted (record { length = counts.length; pages = counts.pages; padded = counts.padded }))
unfolding answered list_after
read_yes a c counts before after e n w = (rw (e, ← n), rw e w)

-- A read of a key that is there, by what was told of the key and done to the list.
module _ (a : Answer Listed) (held : Answer Content) (told : Answer Counts) (before after : List ℕ)
    (is : a ≡ answered reading (in_room (length before) held)) (does : KeyRead told before after held) where
  pub read_refused : {number : ℕ} → told ≡ refused number → ReadDoes a before after (refused number)
  unfolding after_read
  read_refused {number} e =
      let stop : in_room (length before) held ≡ refused number = was_refused counts_of (in_room (length before) held) (sym does.0 ∙ e) in
      let left : after ≡ before = rw stop at does.1 in
      rw left (read_no a before (is ∙ answered_no reading _ stop))

  pub read_accepted : (counts : Counts) → told ≡ accepted counts
      → ReadDoes a before after (accepted (record { length = counts.length; pages = counts.pages; padded = counts.padded }))
  unfolding after_read
  read_accepted counts e =
      let got = was_accepted counts_of (in_room (length before) held) (sym does.0 ∙ e) in
      let wrote : after ≡ overwrite before 0 got.0.numbers = rw got.1 at does.1 in
      read_yes a got.0 counts before after (is ∙ answered_yes reading _ got.1) got.2 wrote
