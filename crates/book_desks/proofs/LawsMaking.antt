-- What a making that isn't turned back has passed. Assumes nothing.
use Prim.Native.Nat.{ℕ, ◌-◌, ◌/◌, ◌≤◌, ◌<◌}
use mathlib.Core.Bool.{false}
use mathlib.Core.List.{List}
use mathlib.Core.Path.{◌≡◌}
use borrow.Author.Tests.{ltb-false}
use lib.Dec.{ltb}
use Rattle.error.specs.Refusal.{Answer, accepted}
use Rattle.error.proofs.LawsAnswer.{neither, passed}
use Rattle.scripthash_layout.specs.Sizes.{page_size}
use Rattle.book_limits.specs.Limits.{out_of_shape}
use Rattle.book_desks.specs.Desks.{desks, Limits, desk_count, total, list_bad, reserve_high, making}
use Rattle.book_desks.proofs.LawsSums.{above_no}
use Rattle.book_desks.proofs.LawsDesks.{reserves_low}

-- A book of so many bytes and heads may be made with a list and limits.
pub record Makable (ds : List ℕ) (size heads : ℕ) (l : Limits) : Type 0 where
  -- Its lengths keep the limits, and no reserve is above the body's pages.
  pub shape : out_of_shape size heads ≡ false
  pub low : (d : ℕ) → d < desks → desk_count d l.reserve ≤ size / page_size
  -- The list names a desk for each key.
  pub named : list_bad ds heads ≡ false
  -- The pages but the first cover the reserves, and none is above its own ceiling.
  pub covered : total l.reserve ≤ size / page_size - 1
  pub reserves : (d : ℕ) → d < desks → desk_count d l.reserve ≤ desk_count d l.ceiling

-- What goes on behind a making was makable.
pub making_passed : {A : Type 0} (ds : List ℕ) (size heads : ℕ) (l : Limits) {after : Answer A} {a : A}
    → making ds size heads l after ≡ accepted a → Makable ds size heads l × (after ≡ accepted a)
unfolding making
making_passed ds size heads l e =
    let (lengths, e1) = passed _ _ _ e in
    let (lists, is) = passed _ _ _ e1 in
    let (shape, few) = neither (out_of_shape size heads) _ lengths in
    let (named, kept) = neither (list_bad ds heads) _ lists in
    let (sum, each) = neither (ltb (size / page_size - 1) (total l.reserve)) (reserve_high desks l) kept in (
      record {
        shape = shape;
        low = above_no (size / page_size) desks (λ d. desk_count d l.reserve) few;
        named = named;
        covered = ltb-false _ _ sum;
        reserves = reserves_low desks l each;
      },
      is,
    )
