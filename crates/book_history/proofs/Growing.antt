-- Growing: a good start with bytes behind its body, or with empty words behind its heads and their desks behind its list, within the
-- limits, is a good start with the same lists, and answers every list of calls as the plain book does that has so much more. A change that
-- was refused with 36 or 41 is accepted then, if the body goes on far enough and its desk may take it. Assumes nothing.
use Prim.Native.Nat.{ℕ, zero, suc, ◌+◌, ◌%◌, ◌≤◌, ◌<◌}
use mathlib.Core.Bool.{false, cond}
use mathlib.Core.List.{List, [], ◌∷◌, ◌++◌}
use mathlib.Core.Option.{none}
use mathlib.Core.Path.{◌≡◌, refl, sym, ap, ap₂, subst, fun_ext, ◌∙◌}
use native.Mathlib.Omega.{arith}
use borrow.Author.Tests.{eq-eqb}
use lib.Dec.{leb, eqb}
use lib.ListN.{length, replicate, length-append, length-replicate, get_or-append, get_or-eq_default}
use Rattle.error.specs.Refusal.{Answer, accepted, refused, answered, value_or}
use Rattle.error.proofs.LawsAnswer.{neither, was_refused}
use Rattle.buffer.proofs.LawsOverwrite.{part_left}
use Rattle.scripthash_layout.specs.Sizes.{slab_bytes, page_size}
use Rattle.scripthash_free.proofs.LawsBlock.{block_stands}
use Rattle.book_rules.specs.Outcomes.{answer_of}
use Rattle.book_statements.specs.Calls.{Change, Call, change, Made, Answers, done, changed, answers_to}
use Rattle.book_limits.specs.Limits.{out_of_shape, page_after, slabs_end}
use Rattle.book_limits.proofs.LawsLimits.{in_shape}
use Rattle.book_desks.specs.Desks.{desks, beyond_desks, list_bad, sum_to}
use Rattle.book_desks.proofs.LawsSums.{sum_same}
use Rattle.book_desks.proofs.LawsDesks.{list_good}
use Rattle.plain_book.specs.Key.{Key, empty_key, total_of, pages_of}
use Rattle.plain_book.specs.Book.{Book as PlainBook, Outcome, key_of, desk_in, does, after as plain_after, answers as plain_answers}
use Rattle.plain_book.specs.Sound.{SoundKey}
use Rattle.plain_book.specs.Good.{Good, pages_for, pages_of_desk, GoodDesks, GoodPlain}
use Rattle.plain_book.specs.Grown.{grown as grown_plain, Affords, ForRoom}
use Rattle.plain_book.proofs.LawsRoom.{empty_behind, room_accepts, good_roomy}
use Rattle.book_keys.specs.Keys.{Content}
use Rattle.book.specs.Book.{Book}
use Rattle.book_history.specs.Calls.{after, answers}
use Rattle.book_start.specs.Start.{GoodStart}
use Rattle.book_history.specs.Agrees.{SlabIn, PageIn, Contents, AgreesSpace, Agrees}
use Rattle.book_history.specs.Standing.{Standing}
use Rattle.book_history.specs.PlainOf.{list_from, plain_of, start_list}
use Rattle.book_history.specs.Grown.{grown}
use Rattle.book_history.proofs.LawsCalls.{answers_alike}
use Rattle.book_history.proofs.LawsEach.{each_alike, each_same}
use Rattle.book_history.proofs.Demand3.{demand_3_good}
use Rattle.book_history.proofs.LawsContent.{content_agrees}
use Rattle.book_history.proofs.LawsStart.{start_list_lem, start_shape, start_good, start_agrees}
use Rattle.book_history.proofs.LawsStartKept.{agrees_start}
use Rattle.book_history.proofs.LawsStartDesks.{none_for}

-- What the blocks of keys read as.
abbrev contents : (ℕ → Key) → Contents
contents key =
    record {
      in_hand = λ block. Unit {0};
      slabs = λ k block. SlabIn (key k).place block;
      pages = λ k i block. PageIn (total_of (key k)) i (key k).place block;
    }

-- ---- desks behind a list

-- No byte of two lists one behind the other is beyond the desks, where none of either is.
none_beyond : (ds more : List ℕ) → beyond_desks ds ≡ false → beyond_desks more ≡ false → beyond_desks (ds ++ more) ≡ false
unfolding beyond_desks
none_beyond [] more e f = f
none_beyond (d ∷ ds) more e f =
    let (one, rest) = neither (leb desks d) (beyond_desks ds) e in rw one (none_beyond ds more rest f)

-- So the longer list is good for as many heads more.
grown_named : (ds more : List ℕ) (heads : ℕ) → list_bad ds heads ≡ false → beyond_desks more ≡ false
    → list_bad (ds ++ more) (heads + length more) ≡ false
unfolding list_bad
grown_named ds more heads e f =
    let (long, fine) = list_good ds heads e in
    let both = length-append ds more in
    rw (eq-eqb (length (ds ++ more)) (heads + length more) (omega arith)) (none_beyond ds more fine f)

-- Terms that are 0 add nothing to a sum.
sum_longer : (n m : ℕ) (f : ℕ → ℕ) → ((i : ℕ) → n ≤ i → f i ≡ 0) → sum_to (n + m) f ≡ sum_to n f
unfolding sum_to
sum_longer n zero f none' = let same : n + 0 ≡ n = omega arith in rw same refl
sum_longer n (suc m) f none' =
    let next : n + suc m ≡ suc (n + m) = omega arith in
    let last = none' (n + m) (omega arith) in
    let rest = sum_longer n m f none' in
    rw next (let z : sum_to (n + m) f + f (n + m) ≡ sum_to n f = omega arith in z)

-- ---- a plain book and a book over bytes that stands for it

module _ (plain : PlainBook) (b : Book) (bytes more : List ℕ) (g : GoodPlain plain) (a : Agrees plain b)
    (was : out_of_shape plain.size (length plain.keys) ≡ false)
    (shape : out_of_shape (plain.size + length bytes) (length plain.keys + length more) ≡ false)
    (known : beyond_desks more ≡ false) where
  -- The plain book, grown.
  abbrev larger : PlainBook
  larger = grown_plain (length bytes) more plain

  -- Its keys are the same, and empty ones.
  same_keys : ◌≡◌ {A = ℕ → Key} (λ key. key_of key plain) (λ key. key_of key larger)
  same_keys = fun_ext (λ key. sym (empty_behind empty_key plain.keys (length more) key))

  many : length larger.keys ≡ length plain.keys + length more
  many =
      length-append plain.keys (replicate (length more) empty_key)
      ∙ ap (λ (k : ℕ). length plain.keys + k) (length-replicate (length more) empty_key)

  -- A desk has the pages of the same keys.
  for_same : (d key : ℕ) → key < length plain.keys → pages_for larger d key ≡ pages_for plain d key
  for_same d key h =
      let long = (list_good plain.desks (length plain.keys) g.desks.named).0 in
      ap₂ (λ (desk : ℕ) (k : Key). cond (eqb desk d) (pages_of k.place) 0) (get_or-append plain.desks more 0 key (omega arith))
      (empty_behind empty_key plain.keys (length more) key)

  for_none : (d key : ℕ) → length plain.keys ≤ key → pages_for larger d key ≡ 0
  for_none d key h =
      none_for (eqb (desk_in larger key) d) _
      (ap (λ (k : Key). pages_of k.place)
      (empty_behind empty_key plain.keys (length more) key ∙ get_or-eq_default plain.keys empty_key h))

  desk_same : (d : ℕ) → pages_of_desk larger d ≡ pages_of_desk plain d
  desk_same d =
      ap (λ (n : ℕ). sum_to n (pages_for larger d)) many
      ∙ sum_longer (length plain.keys) (length more) (pages_for larger d) (for_none d)
      ∙ sum_same (length plain.keys) (pages_for larger d) (pages_for plain d) (for_same d)

  -- Its desks are good.
  grown_desks : GoodDesks larger
  grown_desks =
      let d = g.desks in
      let now = in_shape _ _ shape in
      let paged : (plain.size + length bytes) % 4096 ≡ 0 = now.paged in
      let before : plain.size % 4096 ≡ 0 = d.paged in
      let mark : plain.space.mark ≤ plain.size = g.within was in
      record {
        paged = paged;
        named = rw many (grown_named plain.desks more (length plain.keys) d.named known);
        sixteen = d.sixteen;
        exact = λ i h. d.exact i h ∙ sym (desk_same i);
        ceilings = d.ceilings;
        reserves = d.reserves;
        low = λ i h. let l = d.low i h in omega arith;
        covered = (let c = d.covered in omega arith);
        balanced = (let c = d.balanced in omega arith);
      }

  -- It is good.
  pub grown_good : GoodPlain larger
  grown_good =
      record {
        space = subst (λ (key : ℕ → Key). Good plain.space (λ k. (key k).place) none) same_keys g.space;
        keys = λ key. subst SoundKey (sym (empty_behind empty_key plain.keys (length more) key)) (g.keys key);
        within = λ e. let m = g.within was in omega arith;
        desks = grown_desks;
      }

  -- The space stands for the plain one: no block reaches beyond the mark.
  grown_space : AgreesSpace plain.space (grown bytes (length more) b).space (λ key. (key_of key plain).place) none
      (contents (λ key. key_of key plain))
  grown_space =
      let s = (a.inside was).space in
      let long = length-append b.space.body bytes in
      let size = a.size in
      let in' = in_shape _ _ shape in
      record {
        mark = s.mark;
        nine = s.nine;
        tops = s.tops;
        within = (let w = s.within in omega arith);
        small = (let m = in'.most in omega arith);
        stored = λ w x e.
            let ends = (block_stands x.class x.off plain.space.mark (g.space.apart.stands w x e)).ends in
            let inside = s.within in
            rw (part_left b.space.body bytes x.off (slab_bytes x.class) (omega arith)) (s.stored w x e);
      }

  -- The grown book stands for the grown plain book.
  pub grown_agrees : Agrees larger (grown bytes (length more) b)
  grown_agrees =
      record {
        size = length-append b.space.body bytes ∙ ap (λ (k : ℕ). k + length bytes) a.size;
        count = length-append b.heads (replicate (length more) 0)
            ∙ ap (λ (k : ℕ). length b.heads + k) (length-replicate (length more) 0)
            ∙ ap (λ (k : ℕ). k + length more) a.count ∙ sym many;
        inside = λ e. record {
          heads = λ key.
              rw (empty_behind 0 b.heads (length more) key, empty_behind empty_key plain.keys (length more) key)
              ((a.inside was).heads key);
          space = subst
              (λ (key : ℕ → Key). AgreesSpace plain.space (grown bytes (length more) b).space (λ k. (key k).place) none (contents key))
              same_keys grown_space;
          counts = record {
            words = (a.inside was).counts.words;
            freed = (a.inside was).counts.freed;
            held = (a.inside was).counts.held;
            limits = (a.inside was).counts.limits;
          };
        };
      }

  -- It is in shape.
  pub grown_shape : out_of_shape larger.size (length larger.keys) ≡ false
  grown_shape = rw many shape

-- ---- a good start

-- A good start, with bytes behind its body and empty words behind its heads, of these desks, within the limits.
module _ (ds : List ℕ) (b : Book) (bytes more : List ℕ) (g : GoodStart ds b)
    (shape : out_of_shape (length b.space.body + length bytes) (length b.heads + length more) ≡ false)
    (known : beyond_desks more ≡ false) where
  abbrev after_growth : PlainBook
  after_growth = grown_plain (length bytes) more (plain_of ds b)

  plain_shape : out_of_shape ((plain_of ds b).size + length bytes) (length (plain_of ds b).keys + length more) ≡ false
  plain_shape = rw (sym (start_agrees ds b g).size, sym (start_agrees ds b g).count) shape

  was_shape : out_of_shape (plain_of ds b).size (length (plain_of ds b).keys) ≡ false
  was_shape = start_shape ds b g.blocks

  larger_good : GoodPlain after_growth
  larger_good = grown_good (plain_of ds b) b bytes more (start_good ds b g) (start_agrees ds b g) was_shape plain_shape known

  larger_agrees : Agrees after_growth (grown bytes (length more) b)
  larger_agrees = grown_agrees (plain_of ds b) b bytes more (start_good ds b g) (start_agrees ds b g) was_shape plain_shape known

  larger_shape : out_of_shape after_growth.size (length after_growth.keys) ≡ false
  larger_shape = grown_shape (plain_of ds b) b bytes more (start_good ds b g) (start_agrees ds b g) was_shape plain_shape known

  -- It stays a good start.
  pub grown_start : GoodStart (ds ++ more) (grown bytes (length more) b)
  unfolding plain_of
  grown_start = agrees_start after_growth (grown bytes (length more) b) larger_good larger_agrees larger_shape

  -- Each key reads as before, and the new ones as empty.
  pub grown_lists : (key : ℕ) → start_list (grown bytes (length more) b) key ≡ start_list b key
  unfolding list_from
  grown_lists key =
      ap (λ (x : Answer Content). value_or (λ c. c.numbers) x [])
      (content_agrees after_growth (grown bytes (length more) b) larger_good larger_shape (larger_agrees.inside larger_shape) key)
      ∙ ap (λ (k : Key). k.list) (empty_behind empty_key (plain_of ds b).keys (length more) key) ∙ start_list_lem ds b key

  -- It answers every list of calls as the plain book does that has so much more.
  pub grown_answers : (cs : List Call)
      → let plain = grown_plain (length bytes) more (plain_of ds b) in
      (answers (ds ++ more) (grown bytes (length more) b) cs ≡ plain_answers plain cs)
      × Standing (plain_after plain cs) (after (ds ++ more) (grown bytes (length more) b) cs)
  unfolding plain_of
  grown_answers cs = demand_3_good after_growth (grown bytes (length more) b) cs larger_good larger_agrees larger_shape

  -- A change that is refused for want of room is accepted by the grown book, if its body goes on far enough behind the mark, its desk may
  -- take what it takes, and slabs may be taken there.
  pub grown_accepts : (c : Change) (number : ℕ) → ForRoom number → page_after b.space.mark + page_size ≤ slabs_end
      → page_after b.space.mark + page_size ≤ length b.space.body + length bytes
      → Affords (plain_of ds b) (length b.space.body + length bytes) c
      → answers ds b (change c ∷ []) ≡ changed (refused number) done
      → (told : Made c) × (answers (ds ++ more) (grown bytes (length more) b) (change c ∷ []) ≡ changed (accepted told) done)
  unfolding answers_to plain_of answered
  grown_accepts c number for low page enough e =
      let was : answer_of (does (plain_of ds b) c) ≡ refused number
      = ap (first c) (sym (answers_alike each_alike each_same (plain_of ds b) b (change c ∷ []) (start_good ds b g) (start_agrees ds b g))
      ∙ e) in
      let roomy = good_roomy (length b.space.body + length bytes) (plain_of ds b) (start_good ds b g) page low in
      let (o, did) = room_accepts (plain_of ds b) (length bytes) more larger_shape larger_good.desks.named c roomy enough for
      (was_refused _ _ was) in
      (o.told, (grown_answers (change c ∷ [])).0 ∙ ap (λ (a : Answer (Outcome (Made c))). changed (answer_of a) done) did)
    where
      first : (c : Change) → Answers (change c ∷ []) → Answer (Made c)
      first c (changed a rest) = a
