-- How many numbers a key has: what its definition says of a key, and what it tells of a read. Assumes nothing.
use Prim.Native.Nat.{ℕ, ◌≤◌, ◌<◌}
use mathlib.Core.Bool.{Bool, true, false, ◌||◌}
use mathlib.Core.List.{List}
use mathlib.Core.Logic.{◌≢◌, ◌⊎◌, inl, inr}
use mathlib.Core.Path.{◌≡◌, refl, sym, ap, ◌∙◌}
use native.Mathlib.Omega.{arith}
use borrow.Author.Tests.{lt-ltb, le-ltb}
use lib.Dec.{ltb, leb}
use lib.ListN.{length}
use Rattle.error.specs.Refusal.{Answer, accepted, refused, refuse_if, and_then, answered, shape_bad, key_beyond, desks_bad, list_too_short}
use Rattle.error.specs.Refusal.{key_unsound, refusal_of}
use Rattle.error.proofs.LawsAnswer.{was_accepted, was_refused, then_yes, then_no, refuse_yes, refuse_no}
use Rattle.error.proofs.LawsAnswer.{accepted_inj, refused≢accepted, never_if, never_then}
use Rattle.buffer.proofs.LawsOrder.{lt_or_ge}
use Rattle.book_rules.specs.Outcomes.{Listed}
use Rattle.book_desks.specs.Desks.{list_bad}
use Rattle.book_desks.specs.Counts.{counts_high}
use Rattle.book_space.specs.Space.{shape_broken}
use Rattle.book_keys.specs.Keys.{Content, content, Ground}
use Rattle.book_keys.specs.Steps.{length_of}
use Rattle.book_keys.proofs.LawsSound.{unsound_is}
use Rattle.book.specs.Book.{Book, word_of, seen, on_key, with_desks}
use Rattle.book.proofs.LawsKey.{key_broken, key_beyond_lem, key_there}
use Rattle.book_read.specs.Reads.{reads, reads_with}
use Rattle.book_read.specs.Lengths.{lengths, lengths_with}
use Rattle.book_read.proofs.LawsRead.{reading}

-- ---- a key

-- What is told of what a key holds.
told_of : (a : Answer Content) → and_then a (λ c. accepted (length c.numbers)) ≡ answered length_of a
unfolding and_then answered
told_of (accepted c) = refl
told_of (refused number) = refl

module _ (b : Book) (key : ℕ) where
  -- The shape breaks the limits.
  pub length_broken : shape_broken b.space (length b.heads) ≡ true → lengths b key ≡ refused shape_bad
  unfolding lengths
  length_broken e = key_broken b key _ e

  module _ (whole : shape_broken b.space (length b.heads) ≡ false) where
    -- The key is beyond the heads.
    pub length_beyond : length b.heads ≤ key → lengths b key ≡ refused key_beyond
    unfolding lengths
    length_beyond h = key_beyond_lem b key _ whole h

    -- It isn't: what the key holds decides.
    pub length_key : key < length b.heads → lengths b key ≡ answered length_of (content (seen b.space) (word_of key b))
    unfolding lengths
    length_key h = key_there b key _ whole h ∙ told_of (content (seen b.space) (word_of key b))

-- ---- a read

-- A length that is told, and the room of a lent list.
abbrev pub within : ℕ → ℕ → Answer ℕ
within room n = refuse_if (ltb room n) list_too_short (accepted n)

-- How many numbers a read tells.
abbrev pub many : Listed → ℕ
many l = length l.numbers

-- A read tells as many numbers as the key has, where there is room for them, else 34; what turns either back turns back both.
read_many : (room : ℕ) (s k : Bool) (a : Answer Content)
    → answered many (refuse_if s shape_bad (refuse_if k key_beyond
    (and_then a (λ c. refuse_if (ltb room (length c.numbers)) list_too_short (accepted (reading c))))))
    ≡ and_then (refuse_if s shape_bad (refuse_if k key_beyond (and_then a (λ c. accepted (length c.numbers))))) (within room)
unfolding refuse_if and_then answered
read_many room true k a = refl
read_many room false true a = refl
read_many room false false (refused number) = refl
read_many room false false (accepted c) = by_room (ltb room (length c.numbers))
  where
    by_room : (short : Bool) → answered many (refuse_if short list_too_short (accepted (reading c)))
        ≡ refuse_if short list_too_short (accepted (length c.numbers))
    by_room true = refl
    by_room false = refl

pub read_is : (b : Book) (key room : ℕ) → answered many (reads b key room) ≡ and_then (lengths b key) (within room)
unfolding reads lengths on_key
read_is b key room =
    read_many room (shape_broken b.space (length b.heads)) (leb (length b.heads) key) (content (seen b.space) (word_of key b))

-- So too where the list of desks is lent.
with_many : (room : ℕ) (s d : Bool) (r : Answer Listed) (l : Answer ℕ) → answered many r ≡ and_then l (within room)
    → answered many (refuse_if s shape_bad (refuse_if d desks_bad r)) ≡ and_then (refuse_if s shape_bad (refuse_if d desks_bad l)) (within room)
unfolding refuse_if and_then answered
with_many room true d r l e = refl
with_many room false true r l e = refl
with_many room false false r l e = e

pub read_with_is : (ds : List ℕ) (b : Book) (key room : ℕ)
    → answered many (reads_with ds b key room) ≡ and_then (lengths_with ds b key) (within room)
unfolding with_desks
read_with_is ds b key room =
    with_many room (shape_broken b.space (length b.heads) || counts_high (length b.space.body) b.counts)
    (list_bad ds (length b.heads)) (reads b key room) (lengths b key) (read_is b key room)

-- A key that isn't sound is refused with 31, and no key's length with 34.
only_31 : (s : Ground) (word : ℕ) {number : ℕ} → content s word ≡ refused number → number ≡ key_unsound
unfolding content
only_31 s word e = unsound_is _ e

never_34 : (b : Book) (key : ℕ) → lengths b key ≡ refused list_too_short → ⊥
unfolding lengths on_key
never_34 b key =
    never_if _ shape_bad _ (λ (e : shape_bad ≡ list_too_short). omega arith)
    (never_if _ key_beyond _ (λ (e : key_beyond ≡ list_too_short). omega arith)
    (never_then (content (seen b.space) (word_of key b)) _
    (λ e. let z = only_31 (seen b.space) (word_of key b) e in omega arith)
    (λ c e. refused≢accepted (sym e))))

module _ (b : Book) (key room : ℕ) where
  -- A read with room for the length is accepted, and gives that many numbers.
  pub room_enough : (n : ℕ) → lengths b key ≡ accepted n → n ≤ room → (l : Listed) × (reads b key room ≡ accepted l) × (many l ≡ n)
  room_enough n e h =
      was_accepted many (reads b key room)
      (read_is b key room ∙ then_yes (lengths b key) (within room) e ∙ refuse_no (ltb room n) list_too_short _ (le-ltb room n h))

  -- One with less room is refused with 34.
  pub room_short : (n : ℕ) → lengths b key ≡ accepted n → room < n → reads b key room ≡ refused list_too_short
  room_short n e h =
      was_refused many (reads b key room)
      (read_is b key room ∙ then_yes (lengths b key) (within room) e ∙ refuse_yes (ltb room n) list_too_short _ (lt-ltb room n h))

  -- A length that is refused: so is the read, by the same number.
  pub both_refused : {number : ℕ} → lengths b key ≡ refused number → reads b key room ≡ refused number
  both_refused e = was_refused many (reads b key room) (read_is b key room ∙ then_no (lengths b key) (within room) e)

  -- A read that is accepted gives as many numbers as the length.
  pub read_length : (l : Listed) → reads b key room ≡ accepted l → (lengths b key ≡ accepted (many l)) × (many l ≤ room)
  read_length l e = told (lengths b key) refl
    where
      told : (a : Answer ℕ) → lengths b key ≡ a → (a ≡ accepted (many l)) × (many l ≤ room)
      told (refused number) f = absurd (refused≢accepted (sym (both_refused f) ∙ e))
      told (accepted n) f = fits (lt_or_ge room n)
        where
          fits : (room < n) ⊎ (n ≤ room) → (accepted n ≡ accepted (many l)) × (many l ≤ room)
          fits (inl h) = absurd (refused≢accepted (sym (room_short n f h) ∙ e))
          fits (inr h) =
              let got = room_enough n f h in
              let same : n ≡ many l = sym got.2 ∙ ap many (accepted_inj (sym got.1 ∙ e)) in
              (ap accepted same, rw same at h)

  -- A read that is refused with 34: the length is told, and above the room. With another number, the length is refused by that too.
  pub short_length : reads b key room ≡ refused list_too_short → (n : ℕ) × (lengths b key ≡ accepted n) × (room < n)
  short_length e = told (lengths b key) refl
    where
      told : (a : Answer ℕ) → lengths b key ≡ a → (n : ℕ) × (a ≡ accepted n) × (room < n)
      told (refused number) f = absurd (never_34 b key (f ∙ ap refused (ap refusal_of (sym (both_refused f) ∙ e))))
      told (accepted n) f = fits (lt_or_ge room n)
        where
          fits : (room < n) ⊎ (n ≤ room) → (m : ℕ) × (accepted n ≡ accepted m) × (room < m)
          fits (inl h) = (n, refl, h)
          fits (inr h) = absurd (refused≢accepted (sym e ∙ (room_enough n f h).1))

  pub refused_length : (number : ℕ) → number ≢ list_too_short → reads b key room ≡ refused number → lengths b key ≡ refused number
  refused_length number other e = told (lengths b key) refl
    where
      told : (a : Answer ℕ) → lengths b key ≡ a → a ≡ refused number
      told (refused m) f = ap refused (ap refusal_of (sym (both_refused f) ∙ e))
      told (accepted n) f = fits (lt_or_ge room n)
        where
          fits : (room < n) ⊎ (n ≤ room) → accepted n ≡ refused number
          fits (inl h) = absurd (other (ap refusal_of (sym e ∙ room_short n f h)))
          fits (inr h) = absurd (refused≢accepted (sym e ∙ (room_enough n f h).1))
