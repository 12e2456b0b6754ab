-- Padded numbers: an append leaves their count or, where it moves the list, makes it 0; so a key that was empty once, and was filled by
-- calls, reports none. Assumes nothing.
use Prim.Native.Nat.{ℕ, ◌+◌, ◌<◌}
use mathlib.Core.List.{List, [], ◌∷◌, ◌++◌}
use mathlib.Core.Logic.{◌⊎◌, inl, inr, ⊎_elim}
use mathlib.Core.Path.{◌≡◌, refl, ap, ◌∙◌, subst}
use native.Mathlib.Omega.{arith}
use lib.ListN.{length}
use lib.Seq.{get_or-set_same}
use Rattle.error.specs.Refusal.{Answer, accepted, refused, answered}
use Rattle.scripthash_layout.specs.Sizes.{page_size}
use Rattle.scripthash_cutting.specs.Cutting.{cutting, replace_last}
use Rattle.book_rules.specs.declared.places.SlabFit.{SlabFit}
use Rattle.book_rules.specs.Outcomes.{Loaded, Appended, Listed, Dropped, book_after, answer_of}
use Rattle.book_statements.specs.Calls.{Enquiry, read, Change, load, append, drop, Made, Call, ask, change, changed, answers_to}
use Rattle.book_statements.specs.Padded.{NonePadded, ReportsNone, Renews, NoneOnceRenewed}
use Rattle.book_statements.specs.Moves.{no_moves}
use Rattle.book_desks.specs.Desks.{Limits}
use Rattle.plain_book.specs.Space.{Space}
use Rattle.plain_book.specs.Key.{Key, empty_key, Kept, written, longer, Page, Place, empty, padded_pages, padded_of, one_page, longer_page}
use Rattle.plain_book.specs.Key.{Placed, run_pages}
use Rattle.plain_book.specs.Book.{Book, fresh, key_of, extended, after, answers, asks, does, reads, loads, appends, drops, Outcome}
use Rattle.plain_book.specs.Book.{with_key}
use Rattle.plain_book.specs.Sound.{Unpadded}
use Rattle.plain_book.specs.Did.{LoadDid, loaded_none, loaded_one, loaded_slab, loaded_run, AppendDid, began, stayed, moved_slab}
use Rattle.plain_book.specs.Did.{moved_page, joined_page, begun_page}
use Rattle.plain_book.proofs.LawsHistory.{KeptByCalls, kept_call, kept_fresh, fresh_key, load_did, append_did, drop_did, read_did}

-- ---- pages

-- A list written anew has none, and one number more adds none.
pub written_padded : (ns : List ℕ) → (written ns).padded ≡ 0
unfolding written
written_padded ns = refl

pub longer_padded : (n : ℕ) (k : Kept) → (longer n k).padded ≡ k.padded
unfolding longer
longer_padded n k = refl

-- The pages of a run.
pub run_padded : (off : ℕ) (parts : List (List ℕ)) → padded_pages (run_pages off parts) ≡ 0
unfolding run_pages padded_pages
run_padded off [] = refl
run_padded off (p ∷ []) = rw (written_padded p)
run_padded off (p ∷ q ∷ ps) = rw (written_padded p, run_padded (off + page_size) (q ∷ ps))

-- A number that joins the last page.
pub join_padded : (n : ℕ) (ps : List Page) → padded_pages (replace_last (λ p. longer_page n p ∷ []) ps) ≡ padded_pages ps
unfolding replace_last padded_pages
join_padded n [] = refl
join_padded n (p ∷ []) = ap (λ (m : ℕ). m + 0) (longer_padded n p.part)
join_padded n (p ∷ q ∷ ps) = ap (λ (m : ℕ). p.part.padded + m) (join_padded n (q ∷ ps))

-- A number that begins a page.
pub begin_padded : (n off : ℕ) (ps : List Page) → padded_pages (ps ++ one_page off (n ∷ [])) ≡ padded_pages ps
unfolding padded_pages
begin_padded n off [] = rw (written_padded (n ∷ []))
begin_padded n off (p ∷ ps) = ap (λ (m : ℕ). p.part.padded + m) (begin_padded n off ps)

-- One page that is written anew.
one_padded : (off : ℕ) (list : List ℕ) → padded_pages (one_page off list) ≡ 0
unfolding padded_pages
one_padded off list = rw (written_padded list)

-- ---- an append, and a load

-- An append keeps the count, or moves the list, which has none then.
pub append_padded : (end held : ℕ) (list : List ℕ) (n : ℕ) (s : Space) {old : Place} {p : Placed} → AppendDid end held list n s old p
    → ((padded_of p.place ≡ padded_of old) × (p.rewritten ≡ 0)) ⊎ (padded_of p.place ≡ 0)
append_padded end held list n s began = inr refl
append_padded end held list n s (stayed class off kept q) = inl (longer_padded n kept, refl)
append_padded end held list n s (moved_slab old c t out q got) = inr (written_padded list)
append_padded end held list n s (moved_page old t out q got) = inr (one_padded t.off list)
append_padded end held list n s (joined_page ps q) = inl (join_padded n ps, refl)
append_padded end held list n s (begun_page ps t q got) = inl (begin_padded n t.off ps, refl)

-- A loaded list has none.
pub load_padded : {fit : SlabFit} (end : ℕ) (s : Space) {ns : List ℕ} {p : Placed} → LoadDid fit end s ns p → padded_of p.place ≡ 0
load_padded end s loaded_none = refl
load_padded end s loaded_one = refl
load_padded end s {ns} (loaded_slab c t two q got) = written_padded ns
load_padded end s {ns} (loaded_run t two q got) = run_padded t.off (cutting ns)

-- ---- every list of calls

-- Calls keep a key without padded numbers so.
pub unpadded_kept : KeptByCalls (λ k t. Unpadded k.place)
unfolding Unpadded
unpadded_kept =
    record {
      loads = λ fit end k ns s p t h f rises e. load_padded end s e;
      appends = λ end k n s p t h rises low e.
          ⊎_elim (λ (same, r). same ∙ h) (λ none. none) (append_padded end (length k.list) (extended k.list n) n s e);
      drops = refl;
    }

-- After any list of calls on a fresh book no key has one.
pub unpadded_fresh : (ds : List ℕ) (size heads : ℕ) (l : Limits) (key : ℕ) (cs : List Call)
    → padded_of (key_of key (after (fresh ds size heads l) cs)).place ≡ 0
unfolding Unpadded
unpadded_fresh ds size heads l key cs = kept_fresh _ unpadded_kept ds size heads l key cs

-- A read of a key without padded numbers reports none.
ask_none : (b : Book) (key : ℕ) (q : Enquiry) → Unpadded (key_of key b).place → NonePadded key q (asks b q)
unfolding asks NonePadded Unpadded
ask_none b key (read k room) h = go (reads b k room) refl
  where
    go : (a : Answer Listed) → reads b k room ≡ a → NonePadded key (read k room) a
    go (accepted l) e = λ (same : k ≡ key).
        ap (λ (x : Listed). x.padded) (read_did b k room e).1 ∙ ap (λ (i : ℕ). padded_of (key_of i b).place) same ∙ h
    go (refused number) e = tt

-- Take any book and any list of calls: a key without padded numbers reports none.
pub reports_none : (b : Book) (key : ℕ) (cs : List Call) → Unpadded (key_of key b).place → ReportsNone key (answers b cs)
unfolding answers_to ReportsNone
reports_none b key [] h = tt
reports_none b key (ask q ∷ cs) h = (ask_none b key q h, reports_none b key cs h)
reports_none b key (change c ∷ cs) h =
    reports_none (book_after b (does b c)) key cs (kept_call _ unpadded_kept key b c no_moves (does b c) refl h)

-- Take any book and a key that is empty in it: whatever calls fill it with, it reports no padded number.
pub own_unpadded : (b : Book) (key : ℕ) (cs : List Call) → (key_of key b).place ≡ empty → ReportsNone key (answers b cs)
unfolding Unpadded
own_unpadded b key cs e = reports_none b key cs (ap padded_of e)

-- After any list of calls on a fresh book no key reports one.
pub fresh_unpadded : (ds : List ℕ) (size heads : ℕ) (l : Limits) (key : ℕ) (cs : List Call)
    → ReportsNone key (answers (fresh ds size heads l) cs)
fresh_unpadded ds size heads l key cs =
    own_unpadded (fresh ds size heads l) key cs (ap (λ (k : Key). k.place) (fresh_key ds size heads l key))

-- A key that was changed, and stands at a place without them then.
changed_none : (b : Book) (key : ℕ) (new : Key) (space : Space) (after : Book) (cs : List Call) → key < length b.keys
    → after ≡ with_key key new space b → Unpadded new.place → ReportsNone key (answers after cs)
changed_none b key new space after cs within is none =
    let held : key_of key after ≡ new = ap (λ (x : Book). key_of key x) is ∙ get_or-set_same b.keys key _ empty_key within in
    reports_none after key cs (rw held none)

-- From a drop on, from a load on, and from an append on that moved the list, the key reports none.
pub after_drop : (b : Book) (key : ℕ) (cs : List Call) {o : Outcome Dropped} → drops b key ≡ accepted o
    → ReportsNone key (answers o.book cs)
unfolding Unpadded
after_drop b key cs {o} e =
    let (within, is) = drop_did b key e in
    changed_none b key empty_key _ o.book cs within (ap (λ (x : Outcome Dropped). x.book) is) refl

pub after_load : (fit : SlabFit) (b : Book) (key : ℕ) (ns : List ℕ) (cs : List Call) {o : Outcome Loaded} → loads fit b key ns ≡ accepted o
    → ReportsNone key (answers o.book cs)
unfolding Unpadded
after_load fit b key ns cs {o} e =
    let (p, within, free, rises, got, is) = load_did fit b key ns e in
    changed_none b key _ _ o.book cs within (ap (λ (x : Outcome Loaded). x.book) is) (load_padded b.size b.space got)

pub after_move : (b : Book) (key n : ℕ) (cs : List Call) {o : Outcome Appended} → appends b key n ≡ accepted o → 0 < o.told.rewritten
    → ReportsNone key (answers o.book cs)
unfolding Unpadded
after_move b key n cs {o} e some =
    let (p, within, rises, low, got, is) = append_did b key n e in
    let same : o.told.rewritten ≡ p.rewritten = ap (λ (x : Outcome Appended). x.told.rewritten) is in
    changed_none b key _ _ o.book cs within (ap (λ (x : Outcome Appended). x.book) is)
    (⊎_elim (λ (kept, none). absurd (omega (arith, same, none, some))) (λ none. none) (append_padded b.size _ _ n b.space got))

-- From any change on that writes the list anew.
renewed_none : (b : Book) (key : ℕ) (c : Change) (cs : List Call) {o : Outcome (Made c)} → does b c ≡ accepted o → Renews key c o.told
    → ReportsNone key (answers o.book cs)
unfolding does Renews
renewed_none b key (load fit k ns) cs {o} e is =
    subst (λ (i : ℕ). ReportsNone i (answers o.book cs)) is (after_load fit b k ns cs e)
renewed_none b key (append k n) cs {o} e (is, some) =
    subst (λ (i : ℕ). ReportsNone i (answers o.book cs)) is (after_move b k n cs e some)
renewed_none b key (drop k) cs {o} e is = subst (λ (i : ℕ). ReportsNone i (answers o.book cs)) is (after_drop b k cs e)

-- Take any book and any list of calls: once a key's list is written anew, the key reports none.
pub renewed_unpadded : (b : Book) (key : ℕ) (cs : List Call) → NoneOnceRenewed key (answers b cs)
unfolding answers_to NoneOnceRenewed book_after answered
renewed_unpadded b key [] = tt
renewed_unpadded b key (ask q ∷ cs) = renewed_unpadded b key cs
renewed_unpadded b key (change c ∷ cs) = step (does b c) refl (renewed_unpadded (book_after b (does b c)) key cs)
  where
    step : (a : Answer (Outcome (Made c))) → does b c ≡ a → NoneOnceRenewed key (answers (book_after b a) cs)
        → NoneOnceRenewed key (changed {c = c} (answer_of a) (answers (book_after b a) cs))
    step (accepted o) e rest = (λ r. renewed_none b key c cs e r, rest)
    step (refused number) e rest = rest
