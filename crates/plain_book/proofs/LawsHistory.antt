-- What holds of a key, and of the tally of its moves, through every list of calls: it is enough that loads, appends and drops keep it.
-- Assumes nothing.
use Prim.Native.Nat.{ℕ, zero, suc, ◌^◌, ◌<◌}
use mathlib.Core.Bool.{Bool, true, false, cond}
use mathlib.Core.List.{List, [], ◌∷◌}
use mathlib.Core.Logic.{◌≢◌}
use mathlib.Core.Path.{◌≡◌, refl, sym, ap, ◌∙◌}
use lib.Dec.{eqb, leb}
use lib.ListN.{length, get_or, set, replicate}
use lib.Seq.{get_or-set_same, get_or-set_other}
use borrow.Author.Tests.{leb-false, eqb-true, eqb-false}
use Rattle.error.specs.Refusal.{Answer, accepted, refused, answered, shape_bad, key_beyond, desks_bad}
use Rattle.error.proofs.LawsAnswer.{accepted_inj, passed, went_on}
use Rattle.scripthash_stream.specs.Stream.{Rising, last_from}
use Rattle.plain_book.specs.Space.{Space}
use Rattle.plain_book.specs.Key.{Key, empty_key, head_of, pages_of, padded_of, freed_place, counted_after, Placed, key_in}
use Rattle.plain_book.specs.Key.{append_place, load_place}
use Rattle.book_rules.specs.declared.places.SlabFit.{SlabFit}
use Rattle.book_rules.specs.Outcomes.{Loaded, Appended, Listed, Dropped, loaded_in, appended_to, listing, dropped_of, book_after, answer_of}
use Rattle.book_statements.specs.Calls.{Change, load, append, drop, key_of_change, Made, Call, ask, change, after_calls, answers_to}
use Rattle.book_limits.specs.Limits.{out_of_shape}
use Rattle.book_desks.specs.Desks.{Limits, list_bad}
use Rattle.book_rules.proofs.LawsOffered.{offered_on, offered_all}
use Rattle.plain_book.specs.Book.{Book, fresh, Outcome, on_key, key_of, with_key, in_use, extended, loads, appends, reads, drops, does}
use Rattle.plain_book.specs.Book.{after, answers, desk_in, leave_of}
use Rattle.plain_book.specs.Did.{LoadDid, AppendDid}
use Rattle.book_statements.specs.Moves.{Tally, no_moves, with_move, tallied_by, tallied, tally_of}
use Rattle.plain_book.proofs.LawsDid.{OnlyRefuses, allowed_refuses, load_cases, append_cases}

-- A call that is accepted is on a key of the book.
pub on_key_lem : {A : Type 0} (b : Book) (key : ℕ) (after : Answer A) {x : A} → on_key b key after ≡ accepted x
    → (key < length b.keys) × (after ≡ accepted x)
unfolding on_key
on_key_lem b key after e =
    let (shape, e') = passed (out_of_shape b.size (length b.keys)) shape_bad _ e in
    let (named, e'') = passed (list_bad b.desks (length b.keys)) desks_bad _ e' in
    let (beyond, is) = passed (leb (length b.keys) key) key_beyond after e'' in
    (leb-false (length b.keys) key beyond, is)

-- What a key's takes have to pass only turns back.
pub leave_refuses : (b : Book) (key : ℕ) → OnlyRefuses (leave_of b key)
leave_refuses b key = allowed_refuses b.limits b.size (desk_in b key) b.held

-- ---- what an accepted call did

pub load_did : (fit : SlabFit) (b : Book) (key : ℕ) (ns : List ℕ) {o : Outcome Loaded} → loads fit b key ns ≡ accepted o
    → (p : Placed) × (key < length b.keys) × (in_use (key_of key b).place ≡ false) × Rising (2 ^ 62) 0 ns
    × LoadDid fit b.size b.space ns p
    × (o ≡ record { told = loaded_in (pages_of p.place); book = with_key key (key_in ns p.place true) p.space b })
unfolding loads
load_did fit b key ns e =
    let (within, e1) = on_key_lem b key _ e in
    let (free, e2) = passed _ _ _ e1 in
    let (few, e3) = passed _ _ _ e2 in
    let (rises, e4) = offered_all true 0 ns _ e3 in
    let (p, got, is) = went_on (load_place fit b.size (leave_of b key) ns b.space) _ e4 in
    (p, within, free, rises, load_cases fit b.size (leave_of b key) ns b.space (leave_refuses b key) got, sym (accepted_inj is))

pub append_did : (b : Book) (key n : ℕ) {o : Outcome Appended} → appends b key n ≡ accepted o
    → (p : Placed) × (key < length b.keys) × (last_from 0 (key_of key b).list < n) × (n < 2 ^ 62)
    × AppendDid b.size (length (key_of key b).list) (extended (key_of key b).list n) n b.space (key_of key b).place p
    × (o ≡ record {
      told = appended_to (head_of (extended (key_of key b).list n) p.place) p.rewritten;
      book = with_key key (key_in (extended (key_of key b).list n) p.place (counted_after (key_of key b).place (key_of key b).counted))
          p.space b;
    })
unfolding appends
append_did b key n e =
    let (within, e1) = on_key_lem b key _ e in
    let (rises, low, e2) = offered_on true _ n _ e1 in
    let (p, got, is) = went_on (append_place b.size (leave_of b key) (length (key_of key b).list) (extended (key_of key b).list n) n
    (key_of key b).place b.space) _ e2 in
    let did = append_cases b.size (leave_of b key) _ _ n b.space (leave_refuses b key) (key_of key b).place got in
    (p, within, rises, low, did, sym (accepted_inj is))

pub read_did : (b : Book) (key room : ℕ) {l : Listed} → reads b key room ≡ accepted l
    → (key < length b.keys) × (l ≡ listing (key_of key b).list (pages_of (key_of key b).place) (padded_of (key_of key b).place))
unfolding reads
read_did b key room e =
    let (within, e1) = on_key_lem b key _ e in
    let (long, is) = passed _ _ _ e1 in
    (within, sym (accepted_inj is))

pub drop_did : (b : Book) (key : ℕ) {o : Outcome Dropped} → drops b key ≡ accepted o
    → (key < length b.keys)
    × (o ≡ record {
      told = dropped_of (length (key_of key b).list);
      book = with_key key empty_key (freed_place (key_of key b).place b.space) b;
    })
unfolding drops
drop_did b key e = let (within, is) = on_key_lem b key _ e in (within, sym (accepted_inj is))

-- Copies of an element, and that element behind them.
pub all_same : {A : Type 0} (a : A) (n i : ℕ) → get_or (replicate n a) i a ≡ a
all_same a zero i = refl
all_same a (suc n) zero = refl
all_same a (suc n) (suc i) = all_same a n i

-- A key of a fresh book holds nothing.
pub fresh_key : (ds : List ℕ) (size heads : ℕ) (l : Limits) (key : ℕ) → key_of key (fresh ds size heads l) ≡ empty_key
fresh_key ds size heads l key = all_same empty_key heads key

-- A key of a book with a key changed: the new one where it is that key.
pub key_with : (b : Book) (own : ℕ) (k : Key) → own < length b.keys → (j : ℕ)
    → get_or (set b.keys own k) j empty_key ≡ cond (eqb j own) k (key_of j b)
key_with b own k l j = go (eqb j own) refl
  where
    go : (t : Bool) → eqb j own ≡ t → get_or (set b.keys own k) j empty_key ≡ cond t k (key_of j b)
    go true e = ap (λ (i : ℕ). get_or (set b.keys own k) i empty_key) (eqb-true j own e) ∙ get_or-set_same b.keys own k empty_key l
    go false e = get_or-set_other b.keys own j k empty_key (eqb-false j own e)

-- ---- what calls keep

-- Something about a key and its tally that loads, appends and drops keep.
pub record KeptByCalls (P : Key → Tally → Type 0) : Type 0 where
  pub loads : (fit : SlabFit) (end : ℕ) (k : Key) (ns : List ℕ) (s : Space) (p : Placed) (t : Tally) → P k t → in_use k.place ≡ false
      → Rising (2 ^ 62) 0 ns
      → LoadDid fit end s ns p → P (key_in ns p.place true) t
  pub appends : (end : ℕ) (k : Key) (n : ℕ) (s : Space) (p : Placed) (t : Tally) → P k t → last_from 0 k.list < n → n < 2 ^ 62
      → AppendDid end (length k.list) (extended k.list n) n s k.place p
      → P (key_in (extended k.list n) p.place (counted_after k.place k.counted))
      (with_move p.rewritten t)
  pub drops : P empty_key no_moves

module _ (P : Key → Tally → Type 0) (kept : KeptByCalls P) where
  -- What an accepted change changes: its key, and the space; and it keeps what holds of its key.
  record Changed (b : Book) (c : Change) (o : Outcome (Made c)) : Type 0 where
    within : key_of_change c < length b.keys
    new : Key
    space : Space
    book : o.book ≡ with_key (key_of_change c) new space b
    keeps : (t : Tally) → P (key_of (key_of_change c) b) t → P new (tallied_by c o.told t)

  call_changed : (b : Book) (c : Change) {o : Outcome (Made c)} → does b c ≡ accepted o → Changed b c o
  unfolding does tallied_by
  call_changed b (load fit key ns) e =
      let (p, within, free, rises, got, is) = load_did fit b key ns e in
      record {
        within = within;
        new = key_in ns p.place true;
        space = p.space;
        book = ap (λ (x : Outcome Loaded). x.book) is;
        keeps = λ t h. kept.loads fit b.size (key_of key b) ns b.space p t h free rises got;
      }
  call_changed b (append key n) e =
      let (p, within, rises, low, got, is) = append_did b key n e in
      record {
        within = within;
        new = key_in (extended (key_of key b).list n) p.place (counted_after (key_of key b).place (key_of key b).counted);
        space = p.space;
        book = ap (λ (x : Outcome Appended). x.book) is;
        keeps = λ t h. rw (ap (λ (x : Outcome Appended). with_move x.told.rewritten t) is)
            (kept.appends b.size (key_of key b) n b.space p t h rises low got);
      }
  call_changed b (drop key) e =
      let (within, is) = drop_did b key e in
      record {
        within = within;
        new = empty_key;
        space = freed_place (key_of key b).place b.space;
        book = ap (λ (x : Outcome Dropped). x.book) is;
        keeps = λ t h. kept.drops;
      }

  -- One change keeps what holds of any key: one that is turned back, or of another key, changes neither the key nor its tally.
  pub kept_call : (key : ℕ) (b : Book) (c : Change) (t : Tally) (a : Answer (Outcome (Made c))) → does b c ≡ a → P (key_of key b) t
      → P (key_of key (book_after b a)) (tallied key c (answer_of a) t)
  unfolding book_after answered tallied
  kept_call key b c t (refused number) e h = h
  kept_call key b c t (accepted o) e h = go (call_changed b c e) (eqb (key_of_change c) key) refl
    where
      go : (ch : Changed b c o) (x : Bool) → eqb (key_of_change c) key ≡ x
          → P (key_of key o.book) (cond x (tallied_by c o.told t) t)
      go ch true q =
          let is : key_of_change c ≡ key = eqb-true (key_of_change c) key q in
          let h' : P (key_of (key_of_change c) b) t = rw is h in
          let new : key_of (key_of_change c) o.book ≡ ch.new =
          ap (λ (x : Book). key_of (key_of_change c) x) ch.book ∙ get_or-set_same b.keys (key_of_change c) _ empty_key ch.within in
          let kept-it : P (key_of (key_of_change c) o.book) (tallied_by c o.told t) = rw new (ch.keeps t h') in
          rw (← is) kept-it
      go ch false q =
          let other : key ≢ key_of_change c = λ (e : key ≡ key_of_change c). eqb-false (key_of_change c) key q (sym e) in
          let old : key_of key o.book ≡ key_of key b = ap (λ (x : Book). key_of key x) ch.book
          ∙ get_or-set_other b.keys (key_of_change c) key _ empty_key other in
          rw old h

  -- So does every list of calls.
  pub kept_calls : (key : ℕ) (b : Book) (cs : List Call) (t : Tally) → P (key_of key b) t
      → P (key_of key (after b cs)) (tally_of key (answers b cs) t)
  unfolding after_calls answers_to tally_of
  kept_calls key b [] t h = h
  kept_calls key b (ask q ∷ cs) t h = kept_calls key b cs t h
  kept_calls key b (change c ∷ cs) t h = kept_calls key (book_after b (does b c)) cs _ (kept_call key b c t (does b c) refl h)

  -- It holds of every key after any list of calls on a fresh book.
  pub kept_fresh : (ds : List ℕ) (size heads : ℕ) (l : Limits) (key : ℕ) (cs : List Call)
      → P (key_of key (after (fresh ds size heads l) cs)) (tally_of key (answers (fresh ds size heads l) cs) no_moves)
  kept_fresh ds size heads l key cs =
      kept_calls key (fresh ds size heads l) cs no_moves (rw (fresh_key ds size heads l key) kept.drops)
