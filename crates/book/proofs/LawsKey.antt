-- A call on a key: the tests of the shape and of the key, and a call that does what its definition says. Assumes nothing.
use Prim.Native.Nat.{ℕ, ◌≤◌, ◌<◌}
use mathlib.Core.Bool.{Bool, true, false, ◌||◌}
use mathlib.Core.List.{List}
use mathlib.Core.Logic.{◌≢◌}
use mathlib.Core.Path.{◌≡◌, refl, sym, subst, ◌∙◌}
use native.Mathlib.Omega.{arith}
use borrow.Author.Tests.{le-leb, lt-leb}
use lib.Dec.{leb}
use lib.ListN.{length}
use Rattle.error.specs.Refusal.{Answer, accepted, refused, refuse_if, refusal_of, shape_bad, key_beyond, desks_bad}
use Rattle.error.proofs.LawsAnswer.{refuse_yes, refuse_no, answered_yes, answered_no}
use Rattle.book_rules.specs.Outcomes.{book_after}
use Rattle.book_desks.specs.Desks.{desks, list_bad, desk_of}
use Rattle.book_desks.specs.Counts.{counts_high}
use Rattle.book_space.specs.Space.{Space, shape_broken}
use Rattle.book.specs.Book.{Book, Outcome, on_key, by_desk, with_desks}
use Rattle.book.specs.Steps.{Does, call_number}

-- ---- the tests

-- The tests of a call on a key.
module _ {A : Type 0} (b : Book) (key : ℕ) (after : Answer A) where
  -- The shape breaks the limits.
  pub key_broken : shape_broken b.space (length b.heads) ≡ true → on_key b key after ≡ refused shape_bad
  unfolding on_key
  key_broken e = refuse_yes (shape_broken b.space (length b.heads)) shape_bad _ e

  -- The key is beyond the heads.
  pub key_beyond_lem : shape_broken b.space (length b.heads) ≡ false → length b.heads ≤ key → on_key b key after ≡ refused key_beyond
  unfolding on_key
  key_beyond_lem e h =
      refuse_no (shape_broken b.space (length b.heads)) shape_bad _ e
      ∙ refuse_yes (leb (length b.heads) key) key_beyond after (le-leb (length b.heads) key h)

  -- Both tests are passed.
  pub key_there : shape_broken b.space (length b.heads) ≡ false → key < length b.heads → on_key b key after ≡ after
  unfolding on_key
  key_there e h =
      refuse_no (shape_broken b.space (length b.heads)) shape_bad _ e
      ∙ refuse_no (leb (length b.heads) key) key_beyond after (lt-leb (length b.heads) key h)

-- The tests of a change by a desk on a key.
module _ {A : Type 0} (desk : ℕ) (b : Book) (key : ℕ) (after : Answer A) where
  abbrev broken : Bool
  broken = shape_broken b.space (length b.heads)

  -- The shape breaks the limits.
  pub desk_broken : broken ≡ true → by_desk desk b key after ≡ refused shape_bad
  unfolding by_desk
  desk_broken e = refuse_yes broken shape_bad _ e

  -- There is no such desk.
  pub desk_none : broken ≡ false → desks ≤ desk → by_desk desk b key after ≡ refused desks_bad
  unfolding by_desk
  desk_none e d = refuse_no broken shape_bad _ e ∙ refuse_yes (leb desks desk) desks_bad _ (le-leb desks desk d)

  -- The key is beyond the heads.
  pub desk_beyond : broken ≡ false → desk < desks → length b.heads ≤ key → by_desk desk b key after ≡ refused key_beyond
  unfolding by_desk
  desk_beyond e d h =
      refuse_no broken shape_bad _ e ∙ refuse_no (leb desks desk) desks_bad _ (lt-leb desks desk d)
      ∙ refuse_yes (leb (length b.heads) key) key_beyond after (le-leb (length b.heads) key h)

  -- All tests are passed.
  pub desk_there : broken ≡ false → desk < desks → key < length b.heads → by_desk desk b key after ≡ after
  unfolding by_desk
  desk_there e d h =
      refuse_no broken shape_bad _ e ∙ refuse_no (leb desks desk) desks_bad _ (lt-leb desks desk d)
      ∙ refuse_no (leb (length b.heads) key) key_beyond after (lt-leb (length b.heads) key h)

-- The tests of a call with a list of desks.
module _ (ds : List ℕ) (b : Book) where
  abbrev broken_or_high : Bool
  broken_or_high = shape_broken b.space (length b.heads) || counts_high (length b.space.body) b.counts

  -- The number that it is turned back with, test by test.
  pub number_shape : shape_broken b.space (length b.heads) ≡ true → shape_bad ≡ call_number ds b
  unfolding call_number with_desks refuse_if
  number_shape e = rw e

  pub number_counts : shape_broken b.space (length b.heads) ≡ false → counts_high (length b.space.body) b.counts ≡ true
      → shape_bad ≡ call_number ds b
  unfolding call_number with_desks refuse_if
  number_counts e h = rw (e, h)

  module _ (e : shape_broken b.space (length b.heads) ≡ false) (h : counts_high (length b.space.body) b.counts ≡ false) where
    pub number_list : list_bad ds (length b.heads) ≡ true → desks_bad ≡ call_number ds b
    unfolding call_number with_desks refuse_if
    number_list l = rw (e, h, l)

    pub number_none : list_bad ds (length b.heads) ≡ false → 0 ≡ call_number ds b
    unfolding call_number with_desks refuse_if
    number_none l = rw (e, h, l)

  module _ {A : Type 0} (key : ℕ) (call : ℕ → Answer A) where
    -- Where the number is 0, the key's desk makes the call.
    pub call_on : call_number ds b ≡ 0 → with_desks ds b key call ≡ call (desk_of ds key)
    unfolding call_number with_desks refuse_if
    call_on z = go broken_or_high (list_bad ds (length b.heads)) z
      where
        go : (t u : Bool) → refusal_of (refuse_if {A = Unit {0}} t shape_bad (refuse_if u desks_bad (accepted tt))) ≡ 0
            → refuse_if t shape_bad (refuse_if u desks_bad (call (desk_of ds key))) ≡ call (desk_of ds key)
        go true u e = absurd (omega arith)
        go false true e = absurd (omega arith)
        go false false e = refl

    -- And else the call is turned back with it.
    pub call_off : call_number ds b ≢ 0 → with_desks ds b key call ≡ refused (call_number ds b)
    unfolding call_number with_desks refuse_if
    call_off n = go broken_or_high (list_bad ds (length b.heads)) n
      where
        go : (t u : Bool) → refusal_of (refuse_if {A = Unit {0}} t shape_bad (refuse_if u desks_bad (accepted tt))) ≢ 0
            → refuse_if t shape_bad (refuse_if u desks_bad (call (desk_of ds key)))
            ≡ refused (refusal_of (refuse_if {A = Unit {0}} t shape_bad (refuse_if u desks_bad (accepted tt))))
        go true u e = refl
        go false true e = refl
        go false false e = absurd (e refl)

-- ---- what a call does

module _ {T : Type 0} (before after : Book) (tells : Answer T) (a : Answer (Outcome T)) where
  -- A call that tells an accepted outcome and leaves its book does what the answer says.
  pub does_yes : {o : Outcome T} → a ≡ accepted o → tells ≡ accepted o.told → after ≡ o.book → Does a before after tells
  unfolding book_after
  does_yes {o} e t l = record { told = t ∙ sym (answered_yes (λ (x : Outcome T). x.told) a e); left = rw e l }

  -- A call that tells a refusal and leaves the book as it was does what the answer says.
  pub does_no : {number : ℕ} → a ≡ refused number → tells ≡ refused number → after ≡ before → Does a before after tells
  unfolding book_after
  does_no e t l = record { told = t ∙ sym (answered_no (λ (x : Outcome T). x.told) a e); left = rw e l }

-- A refused call that leaves a space and counts which are as they were does what the answer says.
pub does_still : {T : Type 0} (b : Book) {a : Answer (Outcome T)} {number : ℕ} {s : Space} {counts : List ℕ} → a ≡ refused number
    → s ≡ b.space → counts ≡ b.counts → Does a b (record { heads = b.heads; space = s; counts = counts }) (refused number)
does_still b {a} {number} {s} {counts} e same kept =
    does_no b (record { heads = b.heads; space = s; counts = counts }) (refused number) a e refl (rw (same, kept))

-- A call that does what an answer says does what the same answer says in other words.
pub does_same : {T : Type 0} {a c : Answer (Outcome T)} {before after : Book} {tells : Answer T} → a ≡ c → Does a before after tells
    → Does c before after tells
does_same e d = rw e at d

-- What it does from one book, it does from another that is the same.
pub does_from : {T : Type 0} {a : Answer (Outcome T)} {b same after : Book} {tells : Answer T} → b ≡ same → Does a b after tells
    → Does a same after tells
does_from {T} {a} {b} {same} {after} {tells} e d = subst (λ (x : Book). Does a x after tells) e d
