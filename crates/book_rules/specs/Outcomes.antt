-- What the calls of an account book tell, and the book after a change. A book may be any.
use Rattle.std.specs.Prelude.{ℕ, List}
use Rattle.error.specs.Refusal.{Answer, accepted, refused, answered}
use Rattle.scripthash_layout.specs.declared.head.ShHeadValue.{ShHeadValue}

-- What a load tells: the pages of its run, else 0.
pub record Loaded : Type 0 where
  pub pages : ℕ

-- What an append tells: the key's new place, and the records rewritten by a move, else 0.
pub record Appended : Type 0 where
  pub place : ShHeadValue
  pub rewritten : ℕ

-- What a read tells: the list, the pages walked, and how many of the numbers are stored in padded forms.
pub record Listed : Type 0 where
  pub numbers : List ℕ
  pub pages : ℕ
  pub padded : ℕ

-- What a drop tells: how many numbers the key had.
pub record Dropped : Type 0 where
  pub length : ℕ

-- Each of these from its parts.
abbrev pub loaded_in : ℕ → Loaded
loaded_in pages = record { pages = pages }

abbrev pub appended_to : ShHeadValue → ℕ → Appended
appended_to place rewritten = record { place = place; rewritten = rewritten }

abbrev pub listing : List ℕ → ℕ → ℕ → Listed
listing numbers pages padded = record { numbers = numbers; pages = pages; padded = padded }

abbrev pub dropped_of : ℕ → Dropped
dropped_of length = record { length = length }

-- What an accepted change tells, and the book afterwards.
pub record OutcomeOf (B T : Type 0) : Type 0 where
  pub told : T
  pub book : B

-- The book after a change: as it was where the change is turned back.
unfoldable pub book_after : {B T : Type 0} → B → Answer (OutcomeOf B T) → B
book_after b (accepted o) = o.book
book_after b (refused number) = b

-- What a change tells, or its refusal.
abbrev pub answer_of : {B T : Type 0} → Answer (OutcomeOf B T) → Answer T
answer_of a = answered (λ o. o.told) a

-- The same change, told otherwise.
abbrev pub retold : {B T U : Type 0} → (T → U) → Answer (OutcomeOf B T) → Answer (OutcomeOf B U)
retold f a = answered (λ o. record { told = f o.told; book = o.book }) a
