-- Two books go through the tests of a call side by side: a test that both have, one that only the bytes have, and the tests that every call
-- begins with. Assumes nothing.
use Prim.Native.Nat.{ℕ, ◌%◌, ◌^◌, ◌<◌}
use mathlib.Core.Bool.{Bool, true, false, cond, not, true≢false}
use mathlib.Core.List.{List}
use mathlib.Core.Logic.{◌≢◌}
use mathlib.Core.Option.{none}
use mathlib.Core.Path.{◌≡◌, refl, sym, ap, subst, ◌∙◌}
use native.Mathlib.Omega.{arith}
use lib.Dec.{leb, ltb, eqb}
use lib.ListN.{length, get_or, set, length-set}
use lib.Seq.{get_or-set_same, get_or-set_other}
use borrow.Author.Tests.{eqb-true, eqb-false, eq-eqb, leb-false, le-ltb, lt-leb}
use Rattle.error.specs.Refusal.{Answer, accepted, refused, refuse_if, shape_bad, key_beyond, offered_not_rising, desks_bad}
use Rattle.error.proofs.LawsAnswer.{refuse_no, refuse_yes}
use Rattle.scripthash_layout.specs.Head.{unpack_head}
use Rattle.book_rules.specs.Offered.{offered_number}
use Rattle.book_limits.specs.Limits.{out_of_shape}
use Rattle.book_desks.specs.Desks.{desks, list_bad}
use Rattle.book_desks.specs.Counts.{counts_high}
use Rattle.plain_book.specs.Space.{Space as PlainSpace}
use Rattle.plain_book.specs.Key.{Place, Key, total_of, head_of, key_in}
use Rattle.plain_book.specs.Book.{Book as PlainBook, Outcome as PlainOutcome, key_of, with_key, desk_in, on_key as plain_on_key}
use Rattle.plain_book.specs.Owners.{places}
use Rattle.plain_book.specs.Good.{GoodPlain}
use Rattle.plain_book.proofs.LawsOwners.{at_key}
use Rattle.plain_book.proofs.LawsHistory.{key_with}
use Rattle.plain_book.proofs.LawsBlocks.{key_place}
use Rattle.book_space.specs.Space.{Space, mark_bad, shape_broken}
use Rattle.book.specs.Book.{Book, Outcome, head_word, on_key, by_desk, with_desks}
use Rattle.book_history.specs.Agrees.{Contents, SlabIn, PageIn, contents_of, AgreesSpace, AgreesCounts, AgreesInside, Agrees}
use Rattle.book_history.proofs.LawsDesks.{key_desk, counts_fine}

-- ---- answers alike

-- What the two books answer is alike: the same is told and the books still agree, or both are refused by one number.
pub data Alike {T : Type 0} : Answer (PlainOutcome T) → Answer (Outcome T) → Type 0 where
  told_alike : {o : PlainOutcome T} {u : Outcome T} → o.told ≡ u.told → Agrees o.book u.book → Alike (accepted o) (accepted u)
  refused_alike : {number : ℕ} → Alike (refused number) (refused number)

-- A test that both books have.
pub alike_both : {T : Type 0} (t t' : Bool) (number : ℕ) (a : Answer (PlainOutcome T)) (b : Answer (Outcome T)) → t ≡ t'
    → (t ≡ false → Alike a b)
    → Alike (refuse_if t number a) (refuse_if t' number b)
unfolding refuse_if
alike_both true true number a b e h = refused_alike
alike_both true false number a b e h = absurd (true≢false e)
alike_both false true number a b e h = absurd (true≢false (sym e))
alike_both false false number a b e h = h refl

-- A test that only the bytes have, and that they pass.
pub alike_passed : {T : Type 0} (t : Bool) (number : ℕ) (a : Answer (PlainOutcome T)) (b : Answer (Outcome T)) → t ≡ false → Alike a b
    → Alike a (refuse_if t number b)
alike_passed t number a b e h = subst (Alike a) (sym (refuse_no t number b e)) h

-- Both books branch by one test.
pub alike_cond : {T : Type 0} (t t' : Bool) (a a' : Answer (PlainOutcome T)) (b b' : Answer (Outcome T)) → t ≡ t' → (t ≡ true → Alike a b)
    → (t ≡ false → Alike a' b')
    → Alike (cond t a a') (cond t' b b')
alike_cond true true a a' b b' e yes' no' = yes' refl
alike_cond true false a a' b b' e yes' no' = absurd (true≢false e)
alike_cond false true a a' b b' e yes' no' = absurd (true≢false (sym e))
alike_cond false false a a' b b' e yes' no' = no' refl

-- ---- the tests that a call begins with

-- A mark of a good book in shape.
pub mark_good : (plain : PlainBook) (b : Book) → GoodPlain plain → out_of_shape plain.size (length plain.keys) ≡ false
    → length b.space.body ≡ plain.size
    → AgreesInside plain b → mark_bad (length b.space.body) b.space.mark ≡ false
unfolding mark_bad
mark_good plain b g shape size h =
    let m = h.space.mark in
    let low = g.space.from in
    let al = g.space.aligned in
    let high = g.within shape in
    let a : not (eqb (b.space.mark % 16) 0) ≡ false = ap not (eq-eqb (b.space.mark % 16) 0 (ap (λ (k : ℕ). k % 16) m ∙ al)) in
    let l : ltb b.space.mark 4096 ≡ false = le-ltb b.space.mark 4096 (omega arith) in
    let u : ltb (length b.space.body) b.space.mark ≡ false = le-ltb (length b.space.body) b.space.mark (omega arith) in
    rw (a, l, u)

-- A plain book out of shape turns a call on a key back.
unshaped_key : {A : Type 0} (plain : PlainBook) (key : ℕ) (after : Answer A) → out_of_shape plain.size (length plain.keys) ≡ true
    → plain_on_key plain key after ≡ refused shape_bad
unfolding plain_on_key
unshaped_key plain key after e = refuse_yes _ _ _ e

-- A call that is lent the plain book's desks, on bytes that agree: it goes on to the key's desk where the shape is kept.
pub desks_pass : {A : Type 0} (plain : PlainBook) (b : Book) (key : ℕ) (call : ℕ → Answer A) → GoodPlain plain → Agrees plain b
    → out_of_shape plain.size (length plain.keys) ≡ false → with_desks plain.desks b key call ≡ call (desk_in plain key)
unfolding with_desks shape_broken
desks_pass plain b key call g a shape =
    let inside = a.inside shape in
    let out : out_of_shape (length b.space.body) (length b.heads) ≡ false = rw (a.size, a.count) shape in
    let bad = mark_good plain b g shape a.size inside in
    let fine : counts_high (length b.space.body) b.counts
    ≡ false = rw a.size (counts_fine plain b.counts g.desks inside.counts) in
    let named : list_bad plain.desks (length b.heads) ≡ false = rw a.count g.desks.named in
    refuse_no _ _ _ (rw (out, bad, fine) refl) ∙ refuse_no _ _ _ named

-- Out of shape, it is turned back as in the plain book.
desks_stop : {A : Type 0} (plain : PlainBook) (b : Book) (key : ℕ) (call : ℕ → Answer A) → Agrees plain b
    → out_of_shape plain.size (length plain.keys) ≡ true → with_desks plain.desks b key call ≡ refused shape_bad
unfolding with_desks shape_broken
desks_stop plain b key call a shape =
    let out : out_of_shape (length b.space.body) (length b.heads) ≡ true = rw (a.size, a.count) shape in
    refuse_yes _ _ _ (rw out refl)

-- The plain book's tests, in shape: its list names a desk for each key, so that only the key is left.
plain_passes : {A : Type 0} (plain : PlainBook) (key : ℕ) (after : Answer A) → GoodPlain plain
    → out_of_shape plain.size (length plain.keys) ≡ false
    → plain_on_key plain key after ≡ refuse_if (leb (length plain.keys) key) key_beyond after
unfolding plain_on_key
plain_passes plain key after g shape = refuse_no _ _ _ shape ∙ refuse_no _ _ _ g.desks.named

-- A change on a key: both books judge the shape, the desks and the key alike.
pub alike_on_key : {T : Type 0} (plain : PlainBook) (b : Book) (key : ℕ) (x : Answer (PlainOutcome T)) (y : ℕ → Answer (Outcome T))
    → GoodPlain plain → Agrees plain b
    → (out_of_shape plain.size (length plain.keys) ≡ false → AgreesInside plain b → key < length plain.keys
    → Alike x (y (desk_in plain key)))
    → Alike (plain_on_key plain key x) (with_desks plain.desks b key (λ desk. by_desk desk b key (y desk)))
unfolding by_desk shape_broken
alike_on_key {T} plain b key x y g a go = shape (out_of_shape plain.size (length plain.keys)) refl
  where
    call : ℕ → Answer (Outcome T)
    call desk = by_desk desk b key (y desk)

    shape : (t : Bool) → out_of_shape plain.size (length plain.keys) ≡ t
        → Alike (plain_on_key plain key x) (with_desks plain.desks b key call)
    shape true e = subst (λ (z : Answer (PlainOutcome T)). Alike z (with_desks plain.desks b key call)) (sym (unshaped_key plain key x e))
        (subst (λ (z : Answer (Outcome T)). Alike (refused shape_bad) z) (sym (desks_stop plain b key call a e)) refused_alike)
    shape false e =
        let out : out_of_shape (length b.space.body) (length b.heads) ≡ false = rw (a.size, a.count) e in
        let bad = mark_good plain b g e a.size (a.inside e) in
        let known : leb desks (desk_in plain key) ≡ false = lt-leb desks (desk_in plain key) (key_desk plain key g.desks) in
        let same : leb (length plain.keys) key ≡ leb (length b.heads) key = rw a.count refl in
        rw (plain_passes plain key x g e, desks_pass plain b key call g a e)
        (alike_passed (shape_broken b.space (length b.heads)) shape_bad _ _ (rw (out, bad) refl)
        (alike_passed (leb desks (desk_in plain key)) desks_bad _ _ known
        (alike_both _ _ key_beyond x (y (desk_in plain key)) same (λ f. go e (a.inside e) (leb-false (length plain.keys) key f)))))

-- A book over bytes that agrees, in shape, goes on with a call on one of its keys.
pub on_key_passes : {A : Type 0} (plain : PlainBook) (b : Book) (key : ℕ) (after : Answer A) → GoodPlain plain → Agrees plain b
    → out_of_shape plain.size (length plain.keys) ≡ false → key < length plain.keys → on_key b key after ≡ after
unfolding on_key shape_broken
on_key_passes plain b key after g a shape l =
    let out : out_of_shape (length b.space.body) (length b.heads) ≡ false = rw (a.size, a.count) shape in
    let bad = mark_good plain b g shape a.size (a.inside shape) in
    let within : key < length b.heads = rw a.count l in
    refuse_no _ _ _ (rw (out, bad)) ∙ refuse_no _ _ _ (lt-leb (length b.heads) key within)

-- An enquiry on a key: both books judge the shape, the desks and the key alike, and where what comes after is the same, so are the answers.
pub same_on_key : {A : Type 0} (plain : PlainBook) (b : Book) (key : ℕ) (x y : Answer A) → GoodPlain plain → Agrees plain b
    → (out_of_shape plain.size (length plain.keys) ≡ false → AgreesInside plain b → key < length plain.keys → y ≡ x)
    → with_desks plain.desks b key (λ desk. on_key b key y) ≡ plain_on_key plain key x
unfolding on_key shape_broken refuse_if
same_on_key plain b key x y g a go = shape (out_of_shape plain.size (length plain.keys)) refl
  where
    there : out_of_shape plain.size (length plain.keys) ≡ false → (t : Bool) → leb (length plain.keys) key ≡ t
        → cond t (refused key_beyond) y ≡ cond t (refused key_beyond) x
    there out true e = refl
    there out false e = go out (a.inside out) (leb-false (length plain.keys) key e)

    shape : (t : Bool) → out_of_shape plain.size (length plain.keys) ≡ t
        → with_desks plain.desks b key (λ desk. on_key b key y) ≡ plain_on_key plain key x
    shape true e = desks_stop plain b key (λ desk. on_key b key y) a e ∙ sym (unshaped_key plain key x e)
    shape false e =
        let out : out_of_shape (length b.space.body) (length b.heads) ≡ false = rw (a.size, a.count) e in
        let bad = mark_good plain b g e a.size (a.inside e) in
        let last : cond (leb (length b.heads) key) (refused key_beyond) y ≡ cond (leb (length plain.keys) key) (refused key_beyond) x
        = rw a.count (there e (leb (length plain.keys) key) refl) in
        desks_pass plain b key (λ desk. on_key b key y) g a e
        ∙ refuse_no (shape_broken b.space (length b.heads)) shape_bad _ (rw (out, bad) refl) ∙ last ∙ sym (plain_passes plain key x g e)

-- A number that is offered: the plain book knows the number before it, the bytes find it later.
pub alike_offered : {T : Type 0} (last n : ℕ) (x : Answer (PlainOutcome T)) (y : Answer (Outcome T))
    → (0 < n → n < 2 ^ 62 → Alike (refuse_if (leb n last) offered_not_rising x) y)
    → Alike (offered_number true last n x) (offered_number true 0 n y)
unfolding offered_number
alike_offered last n x y go =
    alike_both _ _ _ _ _ refl
    (λ zero. alike_both _ _ _ _ _ refl
    (λ bit. alike_both _ _ _ _ _ refl
    (λ large.
    let some : n ≢ 0 = eqb-false n 0 zero in
    let low : n < 2 ^ 62 = leb-false (2 ^ 62) n large in
    alike_passed (leb n 0) offered_not_rising _ _ (lt-leb n 0 (positive n some)) (go (positive n some) low))))
  where
    positive : (k : ℕ) → k ≢ 0 → 0 < k
    positive k ne = omega (arith, ne)

-- ---- a key gets another place

-- What blocks read as once a key has another total and place.
abbrev pub placed_contents : PlainBook → ℕ → ℕ → Place → Contents
placed_contents plain key total place =
    record {
      in_hand = λ block. Unit {0};
      slabs = λ j block. SlabIn (at_key key place (places plain) j) block;
      pages = λ j i block. PageIn (cond (eqb j key) total (total_of (key_of j plain))) i (at_key key place (places plain) j) block;
    }

module _ (plain : PlainBook) (key : ℕ) (list : List ℕ) (place : Place) (counted : Bool) (space : PlainSpace)
    (l : key < length plain.keys) where
  -- the key as it becomes, and the book with it
  abbrev new : Key
  new = key_in list place counted

  abbrev changed : PlainBook
  changed = with_key key new space plain

  -- The contents of a book with a key changed, as those with the key placed.
  contents_placed : contents_of changed ≡ placed_contents plain key (total_of new) place
  contents_placed =
      λ i. record {
        in_hand = λ block. Unit {0};
        slabs = λ j block. SlabIn (key_place plain key new space l j i) block;
        pages = λ j n block. PageIn (totals j i) n (key_place plain key new space l j i) block;
      }
    where
      totals : (j : ℕ) → total_of (key_of j changed) ≡ cond (eqb j key) (total_of new) (total_of (key_of j plain))
      totals j = ap (λ (k : Key). total_of k) (key_with plain key new l j) ∙ inside (eqb j key)
        where
          inside : (t : Bool) → total_of (cond t new (key_of j plain)) ≡ cond t (total_of new) (total_of (key_of j plain))
          inside true = refl
          inside false = refl

  -- A key gets another list and place in both books: they agree where the spaces do.
  pub agrees_placed : (b : Book) (s : Space) (counts : List ℕ) → Agrees plain b → out_of_shape plain.size (length plain.keys) ≡ false
      → length s.body ≡ length b.space.body
      → AgreesSpace space s (at_key key place (places plain)) none (placed_contents plain key (total_of new) place)
      → AgreesCounts changed counts
      → Agrees changed (record { heads = set b.heads key (head_word (head_of list place)); space = s; counts = counts })
  agrees_placed b s counts a shape long h told =
      record {
        size = long ∙ a.size;
        count = length-set b.heads key _ ∙ a.count ∙ sym (length-set plain.keys key _);
        inside = λ z. record { heads = heads; space = spaces; counts = told };
      }
    where
      heads : (j : ℕ) → unpack_head (get_or (set b.heads key (head_word (head_of list place))) j 0)
          ≡ unpack_head (head_word (head_of (key_of j changed).list (key_of j changed).place))
      heads j = rw (key_with plain key new l j) (go (eqb j key) refl)
        where
          go : (t : Bool) → eqb j key ≡ t → unpack_head (get_or (set b.heads key (head_word (head_of list place))) j 0)
              ≡ unpack_head (head_word (head_of (cond t new (key_of j plain)).list (cond t new (key_of j plain)).place))
          go true e =
              ap (λ (k : ℕ). unpack_head (get_or (set b.heads key (head_word (head_of list place))) k 0)) (eqb-true j key e)
              ∙ ap unpack_head (get_or-set_same b.heads key _ 0 (subst (λ (n : ℕ). key < n) (sym a.count) l))
          go false e = ap unpack_head (get_or-set_other b.heads key j _ 0 (eqb-false j key e)) ∙ (a.inside shape).heads j

      spaces : AgreesSpace space s (places changed) none (contents_of changed)
      spaces =
          rw contents_placed
          (subst (λ (at : ℕ → Place). AgreesSpace space s at none (placed_contents plain key (total_of new) place))
          (sym (λ i j. key_place plain key new space l j i)) h)
