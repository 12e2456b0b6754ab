-- A fresh plain book that may be made is good, and every call keeps a book good, and its shape. Assumes nothing.
use Prim.Native.Nat.{ℕ, ◌≤◌}
use mathlib.Core.Bool.{true, false}
use mathlib.Core.List.{List}
use mathlib.Core.Path.{◌≡◌, refl, sym, ap, ◌∙◌}
use native.Mathlib.Omega.{arith}
use lib.ListN.{length, length-set}
use Rattle.error.specs.Refusal.{Answer, accepted, refused, shape_bad}
use Rattle.error.proofs.LawsAnswer.{accepted_inj, refuse_yes}
use Rattle.book_rules.specs.Outcomes.{book_after}
use Rattle.book_statements.specs.Calls.{Change, load, append, drop, Made, Call}
use Rattle.book_limits.specs.Limits.{out_of_shape}
use Rattle.book_statements.specs.Moves.{no_moves}
use Rattle.book_limits.proofs.LawsLimits.{in_shape}
use Rattle.book_statements.proofs.LawsCalls.{calls_keep}
use Rattle.book_desks.specs.Desks.{Limits, list_bad}
use Rattle.book_desks.proofs.LawsMaking.{making_passed}
use Rattle.plain_book.specs.Space.{Space}
use Rattle.plain_book.specs.Key.{Key}
use Rattle.plain_book.specs.Book.{Book, fresh, makes, Outcome, on_key, with_key, loads, appends, drops, does, after, serves}
use Rattle.plain_book.specs.Good.{GoodPlain}
use Rattle.plain_book.proofs.LawsHistory.{load_did, append_did, drop_did, fresh_key, kept_call}
use Rattle.plain_book.proofs.LawsSound.{empty_sound, sound_kept}
use Rattle.plain_book.proofs.LawsBlocks.{call_space, fresh_space}
use Rattle.plain_book.proofs.LawsMark.{call_inside}
use Rattle.plain_book.proofs.LawsCounts.{made_desks, call_desks}

-- ---- the shape

-- Two books have bodies of one length, as many keys, the same desks for them, and the same limits.
abbrev pub SameShape : Book → Book → Type 0
SameShape b b' = (b'.size ≡ b.size) × (length b'.keys ≡ length b.keys) × (b'.desks ≡ b.desks) × (b'.limits ≡ b.limits)

-- So has a book with a key changed.
with_shape : (b : Book) (key : ℕ) (new : Key) (space : Space) {b' : Book} → b' ≡ with_key key new space b → SameShape b b'
with_shape b key new space is = rw is (refl, length-set b.keys key _, refl, refl)

-- A call's outcome leaves them.
shape_after : (b : Book) (c : Change) (a : Answer (Outcome (Made c))) → does b c ≡ a → SameShape b (book_after b a)
unfolding does book_after
shape_after b c (refused number) e = (refl, refl, refl, refl)
shape_after b (load fit key ns) (accepted o) e =
    let (p, within, free, rises, got, is) = load_did fit b key ns e in
    with_shape b key _ _ (ap (λ (x : Outcome _). x.book) is)
shape_after b (append key n) (accepted o) e =
    let (p, within, rises, low, got, is) = append_did b key n e in
    with_shape b key _ _ (ap (λ (x : Outcome _). x.book) is)
shape_after b (drop key) (accepted o) e =
    let (within, is) = drop_did b key e in
    with_shape b key _ _ (ap (λ (x : Outcome _). x.book) is)

-- A change leaves the body's length, how many keys there are, their desks, and the limits.
pub shape_kept : (b : Book) (c : Change) → SameShape b (book_after b (does b c))
shape_kept b c = shape_after b c (does b c) refl

-- So does a list of calls.
pub shapes_kept : (b : Book) (cs : List Call) → SameShape b (after b cs)
shapes_kept b cs =
    calls_keep serves (SameShape b)
    (λ b' c (size, keys, ds, l). let (s, k, d, m) = shape_kept b' c in (s ∙ size, k ∙ keys, d ∙ ds, m ∙ l))
    b cs (refl, refl, refl, refl)

-- A book out of shape turns every change back.
pub unshaped : (b : Book) (c : Change) → out_of_shape b.size (length b.keys) ≡ true → does b c ≡ refused shape_bad
unfolding does loads appends drops on_key
unshaped b (load fit key ns) e = refuse_yes _ _ _ e
unshaped b (append key n) e = refuse_yes _ _ _ e
unshaped b (drop key) e = refuse_yes _ _ _ e

-- ---- making

-- A book that is made is the fresh one, of a body and heads in shape, and its list names a desk for each key.
pub record IsMade (ds : List ℕ) (size heads : ℕ) (l : Limits) (b : Book) : Type 0 where
  pub is : b ≡ fresh ds size heads l
  pub shape : out_of_shape size heads ≡ false
  pub named : list_bad ds heads ≡ false

pub is_made : (ds : List ℕ) (size heads : ℕ) (l : Limits) {b : Book} → makes ds size heads l ≡ accepted b → IsMade ds size heads l b
unfolding makes
is_made ds size heads l e =
    let (may, is) = making_passed ds size heads l e in record { is = sym (accepted_inj is); shape = may.shape; named = may.named }

-- ---- good books

-- A fresh book that may be made is good.
pub fresh_good : (ds : List ℕ) (size heads : ℕ) (l : Limits) → makes ds size heads l ≡ accepted (fresh ds size heads l)
    → GoodPlain (fresh ds size heads l)
fresh_good ds size heads l made =
    record {
      space = fresh_space ds size heads l;
      keys = λ key. rw (fresh_key ds size heads l key) empty_sound;
      within = λ shape. let s = in_shape _ _ shape in omega (arith, s.least);
      desks = made_desks ds size heads l made;
    }

-- A change keeps a book good.
pub call_good : {b : Book} (c : Change) → GoodPlain b → GoodPlain (book_after b (does b c))
call_good {b} c g =
    record {
      space = call_space b c (does b c) refl g.space;
      keys = λ key. kept_call _ sound_kept key b c no_moves (does b c) refl (g.keys key);
      within = inside;
      desks = call_desks b c g;
    }
  where
    inside : out_of_shape (book_after b (does b c)).size (length (book_after b (does b c)).keys) ≡ false
        → (book_after b (does b c)).space.mark ≤ (book_after b (does b c)).size
    inside shape =
        let (s, k, ds, l) = shape_kept b c in
        let m = g.within (rw (s, k) at shape) in
        let (size, mark) = call_inside b.size b c (does b c) refl (refl, m) in
        omega arith

-- So does a list of calls.
pub calls_good : {b : Book} (cs : List Call) → GoodPlain b → GoodPlain (after b cs)
calls_good {b} cs g = calls_keep serves GoodPlain (λ b c h. call_good c h) b cs g
