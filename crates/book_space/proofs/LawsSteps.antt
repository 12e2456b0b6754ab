-- How a take goes on, test by test: what each part of it answers. By cases on the tests.
use Prim.Native.Nat.{ℕ, ◌+◌, ◌≤◌, ◌<◌}
use mathlib.Core.List.{List, [], ◌∷◌}
use mathlib.Core.Option.{none, some}
use mathlib.Core.Bool.{true}
use mathlib.Core.Path.{◌≡◌, refl, sym, ap, subst, ◌∙◌}
use borrow.Author.Tests.{lt-ltb, le-ltb, ne_eqb}
use lib.ListN.{length}
use native.Mathlib.Omega.{arith}
use Rattle.error.specs.Answers.{number_of}
use Rattle.error.specs.declared.Refusal.{Refusal}
use Rattle.error.specs.declared.Refusal.TheVariants.{ShapeBad, KeyBeyond, KeyInUse, PageLength, LinkUnaligned, LinkTooLarge, NotLast, ExtentCountZero, ExtentBaseBad, TooManyOffered, SlabTooShort, OfferedFirstZero, OfferedBit63, OfferedTooLarge, CountAboveCapacity, VersionBad, UlebCutShort, UlebOverflow, StoredFirstZero, StoredDifferenceZero, StoredSumOverflow, StoredBit63, InlineUsedNotOne, InlineTooLarge, SlabFieldTooLarge, ExtentOutOfRange, SlabUsedTooSmall, ModeTwo, ExtentPayloadZero, KeyUnsound, OfferedNotRising, DoesNotFit, ListTooShort, FreeHeadBad, NoRoom, DesksBad, PastCeiling, IntoReserves, FreeListBad}
use Rattle.error.specs.Refusal.{Answer, accepted, refused, answered, refusal_of, no_room}
use Rattle.error.proofs.LawsAnswer.{refuse_yes, refuse_no, then_yes, then_no, answered_yes, answered_no, was_accepted, was_refused}
use Rattle.scripthash_layout.specs.Sizes.{slab_bytes, page_class}
use Rattle.scripthash_free.specs.FreeList.{Lists, Pop, is_block, push_free, pop_free, push_all, lists_after, heads_after}
use Rattle.scripthash_free.proofs.LawsFree.{after_accepted, heads_accepted, push_yes}
use Rattle.book_limits.specs.Limits.{slabs_end, pop_end}
use Rattle.book_space.specs.Space.{Space, space, lists_of, with_lists, Taken, take_mark, take_slab, run_at_mark, take_fresh, take_popped}
use Rattle.book_space.specs.Space.{take_block, space_after, release}
use Rattle.book_space.specs.Steps.{Takes}

-- A refusal's number isn't 0.
pub number_some : (r : Refusal) → number_of r ≡ 0 → ⊥
number_some ShapeBad e = absurd (omega arith)
number_some KeyBeyond e = absurd (omega arith)
number_some KeyInUse e = absurd (omega arith)
number_some PageLength e = absurd (omega arith)
number_some LinkUnaligned e = absurd (omega arith)
number_some LinkTooLarge e = absurd (omega arith)
number_some NotLast e = absurd (omega arith)
number_some ExtentCountZero e = absurd (omega arith)
number_some ExtentBaseBad e = absurd (omega arith)
number_some TooManyOffered e = absurd (omega arith)
number_some SlabTooShort e = absurd (omega arith)
number_some OfferedFirstZero e = absurd (omega arith)
number_some OfferedBit63 e = absurd (omega arith)
number_some OfferedTooLarge e = absurd (omega arith)
number_some CountAboveCapacity e = absurd (omega arith)
number_some VersionBad e = absurd (omega arith)
number_some UlebCutShort e = absurd (omega arith)
number_some UlebOverflow e = absurd (omega arith)
number_some StoredFirstZero e = absurd (omega arith)
number_some StoredDifferenceZero e = absurd (omega arith)
number_some StoredSumOverflow e = absurd (omega arith)
number_some StoredBit63 e = absurd (omega arith)
number_some InlineUsedNotOne e = absurd (omega arith)
number_some InlineTooLarge e = absurd (omega arith)
number_some SlabFieldTooLarge e = absurd (omega arith)
number_some ExtentOutOfRange e = absurd (omega arith)
number_some SlabUsedTooSmall e = absurd (omega arith)
number_some ModeTwo e = absurd (omega arith)
number_some ExtentPayloadZero e = absurd (omega arith)
number_some KeyUnsound e = absurd (omega arith)
number_some OfferedNotRising e = absurd (omega arith)
number_some DoesNotFit e = absurd (omega arith)
number_some ListTooShort e = absurd (omega arith)
number_some FreeHeadBad e = absurd (omega arith)
number_some NoRoom e = absurd (omega arith)
number_some DesksBad e = absurd (omega arith)
number_some PastCeiling e = absurd (omega arith)
number_some IntoReserves e = absurd (omega arith)
number_some FreeListBad e = absurd (omega arith)

-- An answer that is a refusal refuses by the number that is asked of it.
pub refused_as : {A : Type 0} (a : Answer A) (n : ℕ) {number : ℕ} → a ≡ refused number → n ≡ refusal_of a → a ≡ refused n
refused_as a n is e = is ∙ ap refused (sym (e ∙ ap refusal_of is))

-- The space of an accepted take stands afterwards.
pub after_taken : (s : Space) (a : Answer Taken) {t : Taken} → a ≡ accepted t → space_after s a ≡ t.space
unfolding space_after
after_taken s a e = rw e

-- A refused take leaves the space.
pub after_refused : (s : Space) (a : Answer Taken) {number : ℕ} → a ≡ refused number → space_after s a ≡ s
unfolding space_after
after_refused s a e = rw e

-- What a take does by one answer, it does by another that is the same.
pub takes_same : {a c : Answer Taken} {before after : Space} {tells : Answer ℕ} → a ≡ c → Takes a before after tells
    → Takes c before after tells
takes_same e t = rw (sym e) t

-- What a take does with some free heads, it does with others that are the same.
pub takes_with : (take : Space → Answer Taken) (body : List ℕ) (mark : ℕ) {f g : List ℕ} {after : Space} {tells : Answer ℕ} → f ≡ g
    → Takes (take (space body mark f)) (space body mark f) after tells → Takes (take (space body mark g)) (space body mark g) after tells
takes_with take body mark {f} {g} {after} {tells} e t =
    subst (λ (h : List ℕ). Takes (take (space body mark h)) (space body mark h) after tells) e t

-- A take that is accepted tells its offset, and leaves its space.
pub takes_yes : (s : Space) (a : Answer Taken) {t : Taken} → a ≡ accepted t → Takes a s t.space (accepted t.off)
takes_yes s a e = record { told = sym (answered_yes (λ (t : Taken). t.off) a e); left = sym (after_taken s a e) }

-- One that is refused tells its number, and leaves the space as it was.
pub takes_no : (s : Space) (a : Answer Taken) {number : ℕ} → a ≡ refused number → Takes a s s (refused number)
takes_no s a e = record { told = sym (answered_no (λ (t : Taken). t.off) a e); left = sym (after_refused s a e) }

-- Bytes that fit are taken at the mark, and others are refused.
pub mark_yes : (bytes : ℕ) (s : Space) → s.mark + bytes ≤ length s.body
    → take_mark bytes s ≡ accepted (record { off = s.mark; space = space s.body (s.mark + bytes) s.free })
unfolding take_mark
mark_yes bytes s h = refuse_no _ _ _ (le-ltb (length s.body) (s.mark + bytes) h)

pub mark_no : (bytes : ℕ) (s : Space) → length s.body < s.mark + bytes → take_mark bytes s ≡ refused no_room
unfolding take_mark
mark_no bytes s h = refuse_yes _ _ _ (lt-ltb (length s.body) (s.mark + bytes) h)

-- A fresh page is a run of one.
pub fresh_page : (s : Space) → take_fresh page_class s ≡ run_at_mark 1 s
unfolding take_fresh
fresh_page s = refl

-- A slab that fits below the end of slabs is taken at the mark, and another is refused.
pub slab_low : (bytes : ℕ) (s : Space) → s.mark + bytes ≤ slabs_end → take_slab bytes s ≡ take_mark bytes s
unfolding take_slab
slab_low bytes s h = refuse_no _ _ _ (le-ltb slabs_end (s.mark + bytes) h)

pub slab_high : (bytes : ℕ) (s : Space) → slabs_end < s.mark + bytes → take_slab bytes s ≡ refused no_room
unfolding take_slab
slab_high bytes s h = refuse_yes _ _ _ (lt-ltb slabs_end (s.mark + bytes) h)

-- A fresh slab is taken at the mark.
pub fresh_slab : (class : ℕ) (s : Space) → (class ≡ page_class → ⊥) → take_fresh class s ≡ take_slab (slab_bytes class) s
unfolding take_fresh
fresh_slab class s other = rw (ne_eqb class page_class other)

-- A class and a space, by what popping the class tells.
module _ (class : ℕ) (s : Space) where
  -- What the pop answers.
  abbrev popping : Answer Pop
  popping = pop_free class (pop_end class s.mark) (lists_of s)

  -- What comes after the pop.
  abbrev going : Pop → Answer Taken
  going p = take_popped class s p.block p.heads

  -- A block that is popped is the one taken.
  pub told_block : {off : ℕ} (heads : List ℕ) → answered (λ (p : Pop). p.block) popping ≡ accepted (some off)
      → heads ≡ heads_after popping s.free
      → take_block class s ≡ accepted (record { off = off; space = space s.body s.mark heads })
  unfolding take_block take_popped
  told_block {off} heads e h =
      let (p, is, b) = was_accepted (λ (p : Pop). p.block) popping e in
      let same : heads ≡ p.heads = h ∙ heads_accepted popping s.free is in
      then_yes popping going is ∙ rw (b, same)

  -- Where none is, a fresh one is taken.
  pub told_none : answered (λ (p : Pop). p.block) popping ≡ accepted none → take_block class s ≡ take_fresh class s
  unfolding take_block take_popped
  told_none e = let (p, is, b) = was_accepted (λ (p : Pop). p.block) popping e in then_yes popping going is ∙ rw b

  -- A refused pop refuses the take.
  pub told_refused : {number : ℕ} → answered (λ (p : Pop). p.block) popping ≡ refused number → take_block class s ≡ refused number
  unfolding take_block
  told_refused e = then_no popping going (was_refused (λ (p : Pop). p.block) popping e)

-- The free lists after pushing a block that stands within the body are those after it is given back.
pub release_pushed : (class off : ℕ) (s : Space) (l : Lists) → is_block class off (length s.body) ≡ true
    → l ≡ lists_after (push_free class off (lists_of s)) (lists_of s)
    → with_lists l s ≡ release (record { class = class; off = off } ∷ []) s
unfolding release push_all
release_pushed class off s l good e =
    ap (λ (x : Lists). with_lists x s) (e ∙ after_accepted _ (lists_of s) (push_yes class off (lists_of s) good))
