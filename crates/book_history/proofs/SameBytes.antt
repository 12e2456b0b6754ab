-- Two books with the same heads, body and state hold the same lists: whatever was called on them, the same is recorded for each key. The
-- bytes of a key read in at most one way, and in each book as its list. Assumes nothing.
use Prim.Native.Nat.{ℕ}
use mathlib.Core.Bool.{Bool, false}
use mathlib.Core.List.{List, []}
use mathlib.Core.Path.{◌≡◌, sym, ap, ap₂, subst, ◌∙◌}
use lib.ListN.{length, length-replicate}
use Rattle.error.specs.Refusal.{accepted}
use Rattle.error.proofs.LawsAnswer.{accepted_inj}
use Rattle.book_statements.specs.Calls.{Call, Answers}
use Rattle.book_limits.specs.Limits.{out_of_shape}
use Rattle.book_statements.specs.Recorded.{recorded}
use Rattle.book_desks.specs.Desks.{Limits}
use Rattle.plain_book.specs.Key.{Key, empty_key}
use Rattle.plain_book.specs.Book.{Book as PlainBook, fresh as plain_fresh, makes, after as plain_after, key_of}
use Rattle.plain_book.specs.Good.{GoodPlain}
use Rattle.plain_book.proofs.LawsGood.{is_made, fresh_good, calls_good, shapes_kept}
use Rattle.plain_book.proofs.LawsHistory.{fresh_key}
use Rattle.plain_book.proofs.LawsRecorded.{recorded_from}
use Rattle.book_keys.specs.Keys.{Content}
use Rattle.book.specs.Book.{Book, fresh}
use Rattle.book_history.specs.Calls.{after, answers}
use Rattle.book_start.specs.Start.{GoodStart}
use Rattle.book_history.specs.Agrees.{Agrees}
use Rattle.book_history.specs.PlainOf.{plain_of, start_list, Sixteen}
use Rattle.book_history.proofs.LawsCalls.{answers_alike, books_agree}
use Rattle.book_history.proofs.LawsEach.{each_alike, each_same}
use Rattle.book_history.proofs.LawsContent.{content_agrees}
use Rattle.book_history.proofs.LawsStart.{start_list_lem, start_shape, start_good, start_agrees}
use Rattle.book_history.proofs.LawsStartFresh.{fresh_agrees}

-- ---- any plain books

-- A plain book is out of shape.
abbrev out : PlainBook → Bool
out p = out_of_shape p.size (length p.keys)

-- Plain books that stand for one book over bytes have its shape.
shape_fixed : (p q : PlainBook) (b : Book) → Agrees p b → Agrees q b → out q ≡ out p
shape_fixed p q b a d = ap₂ out_of_shape (sym d.size ∙ a.size) (sym d.count ∙ a.count)

-- Where that is in order, they hold the same lists.
pub lists_fixed : (p q : PlainBook) (b : Book) → GoodPlain p → GoodPlain q → Agrees p b → Agrees q b
    → out_of_shape p.size (length p.keys) ≡ false → (key : ℕ) → (key_of key p).list ≡ (key_of key q).list
lists_fixed p q b g h a d shape key =
    let other = shape_fixed p q b a d ∙ shape in
    ap (λ (c : Content). c.numbers)
    (accepted_inj (sym (content_agrees p b g shape (a.inside shape) key) ∙ content_agrees q b h other (d.inside other) key))

-- ---- after any calls

-- Two books over bytes that stand for good plain books, and some calls on each, after which they are one.
module _ (p q : PlainBook) (b d : Book) (g : GoodPlain p) (h : GoodPlain q) (agrees : Agrees p b) (other : Agrees q d)
    (cs es : List Call) (same : after p.desks b cs ≡ after q.desks d es) where
  -- Both plain books stand for it then.
  stands : Agrees (plain_after p cs) (after p.desks b cs)
  stands = books_agree each_alike p b cs g agrees

  other_stands : Agrees (plain_after q es) (after p.desks b cs)
  other_stands = subst (Agrees (plain_after q es)) (sym same) (books_agree each_alike q d es h other)

  -- A key's list is what was there at first and what was recorded.
  told : (r : PlainBook) (c : Book) (fs : List Call) (key : ℕ) → GoodPlain r → Agrees r c
      → recorded key (answers r.desks c fs) (key_of key r).list ≡ (key_of key (plain_after r fs)).list
  told r c fs key good a =
      ap (λ (told : Answers fs). recorded key told (key_of key r).list) (answers_alike each_alike each_same r c fs good a)
      ∙ sym (recorded_from r key fs (good.keys key))

  -- In shape, the same is recorded for each key, with what was there at first.
  pub records_good : out_of_shape p.size (length p.keys) ≡ false → (key : ℕ)
      → recorded key (answers p.desks b cs) (key_of key p).list ≡ recorded key (answers q.desks d es) (key_of key q).list
  records_good shape key =
      let (size, keys, list, limits) = shapes_kept p cs in
      told p b cs key g agrees
      ∙ lists_fixed (plain_after p cs) (plain_after q es) (after p.desks b cs) (calls_good cs g)
      (calls_good es h) stands other_stands (rw (size, keys) shape) key
      ∙ sym (told q d es key h other)

-- ---- after any calls on good starts

-- Histories from good starts that end alike have the same recorded for each key, with what it was read as at the start, whatever the lists
-- of desks.
pub records_fixed_from : (ds list : List ℕ) (b d : Book) (cs es : List Call) → GoodStart ds b → GoodStart list d
    → after ds b cs ≡ after list d es → (key : ℕ)
    → recorded key (answers ds b cs) (start_list b key) ≡ recorded key (answers list d es) (start_list d key)
unfolding plain_of
records_fixed_from ds list b d cs es g h same key =
    ap (recorded key (answers ds b cs)) (sym (start_list_lem ds b key))
    ∙ records_good (plain_of ds b) (plain_of list d) b d (start_good ds b g) (start_good list d h) (start_agrees ds b g)
    (start_agrees list d h) cs es same (start_shape ds b g.blocks) key
    ∙ ap (recorded key (answers list d es)) (start_list_lem list d key)

-- ---- after any calls on fresh books

-- Nothing is there at first.
nothing : (ds : List ℕ) (size keys : ℕ) (l : Limits) (key : ℕ) → (key_of key (plain_fresh ds size keys l)).list ≡ []
nothing ds size keys l key = ap (λ (k : Key). k.list) (fresh_key ds size keys l key)

-- The same is recorded for each key of books made fresh, by the calls and answers that led to one book.
pub records_fixed : (ds list body other : List ℕ) (heads count : ℕ) (l m : Limits) (cs es : List Call)
    → makes ds (length body) heads l ≡ accepted (plain_fresh ds (length body) heads l) → Sixteen l
    → makes list (length other) count m ≡ accepted (plain_fresh list (length other) count m) → Sixteen m
    → after ds (fresh body heads l) cs ≡ after list (fresh other count m) es → (key : ℕ)
    → recorded key (answers ds (fresh body heads l) cs) [] ≡ recorded key (answers list (fresh other count m) es) []
records_fixed ds list body other heads count l m cs es made sixteen made' sixteen' same key =
    let shape : out_of_shape (length body) (length (plain_fresh ds (length body) heads l).keys) ≡ false
    = rw (length-replicate heads empty_key) (is_made ds (length body) heads l made).shape in
    ap (recorded key (answers ds (fresh body heads l) cs)) (sym (nothing ds (length body) heads l key))
    ∙ records_good (plain_fresh ds (length body) heads l) (plain_fresh list (length other) count m) (fresh body heads l)
    (fresh other count m) (fresh_good ds (length body) heads l made) (fresh_good list (length other) count m made')
    (fresh_agrees ds body heads l made sixteen) (fresh_agrees list other count m made' sixteen') cs es same shape key
    ∙ ap (recorded key (answers list (fresh other count m) es)) (nothing list (length other) count m key)
