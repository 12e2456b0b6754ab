-- The licence's sentence on the plain book: a key's list is what calls and their answers recorded for it, and a read tells that list.
-- Assumes nothing.
use Prim.Native.Nat.{ℕ, ◌≤◌, ◌<◌}
use mathlib.Core.Bool.{Bool, true, false, cond, false≢true}
use mathlib.Core.List.{List, [], ◌∷◌, ◌++◌}
use mathlib.Core.Logic.{◌⊎◌, inl, inr, ⊎_elim}
use mathlib.Core.Path.{◌≡◌, refl, sym, ap, subst, subst₂, ◌∙◌}
use native.Mathlib.Omega.{arith}
use lib.Dec.{eqb}
use lib.ListN.{length, length-replicate}
use lib.Seq.{get_or-set_same, get_or-set_other}
use borrow.Author.Tests.{eqb-true, eqb-false, leb-true, ltb-true}
use Rattle.error.specs.Refusal.{Answer, accepted, refused, refuse_if, answered, shape_bad, desks_bad, key_beyond, list_too_short}
use Rattle.error.proofs.LawsAnswer.{refused≢accepted}
use Rattle.book_rules.specs.Outcomes.{Listed, listing, book_after, answer_of}
use Rattle.book_statements.specs.Calls.{Enquiry, read, Change, load, append, drop, Said, Made, Call, ask, change, after_calls, answers_to}
use Rattle.book_limits.specs.Limits.{out_of_shape}
use Rattle.book_statements.specs.Moves.{no_moves}
use Rattle.book_statements.specs.Recorded.{recorded_by, recorded_after, recorded}
use Rattle.book_statements.specs.Licence.{AnsweredBy, Licensed}
use Rattle.book_desks.specs.Desks.{Limits, list_bad}
use Rattle.plain_book.specs.Space.{Space}
use Rattle.plain_book.specs.Key.{Key, empty_key, Place, empty, inline, slab, pages, pages_of, padded_of, key_in}
use Rattle.plain_book.specs.Book.{Book, fresh, Outcome, on_key, key_of, with_key, in_use, reads, does, after, answers, asks}
use Rattle.plain_book.specs.Sound.{Fits, SoundKey}
use Rattle.plain_book.proofs.LawsHistory.{load_did, append_did, read_did, drop_did, fresh_key, kept_call}
use Rattle.plain_book.proofs.LawsSound.{empty_sound, sound_kept}
use Rattle.plain_book.proofs.LawsGood.{shape_kept}

-- ---- one call

-- A list of no numbers is empty.
no_numbers : (ns : List ℕ) → length ns ≡ 0 → ns ≡ []
no_numbers [] e = refl
no_numbers (n ∷ ns) e = absurd (omega arith)

-- A key that is not in use holds nothing.
unused_holds : (list : List ℕ) (place : Place) → in_use place ≡ false → Fits list place → list ≡ []
unfolding Fits
unused_holds list empty f fits = no_numbers list fits
unused_holds list inline f fits = absurd (false≢true (sym f))
unused_holds list (slab class off kept) f fits = absurd (false≢true (sym f))
unused_holds list (pages ps) f fits = absurd (false≢true (sym f))

-- A key's list after the place and list of a key changed: the new one where it is that key.
list_with : (b : Book) (own key : ℕ) (k : Key) (new : List ℕ) (space : Space) {b' : Book} → own < length b.keys
    → b' ≡ with_key own k space b
    → (own ≡ key → k.list ≡ new) → (key_of key b').list ≡ cond (eqb own key) new (key_of key b).list
list_with b own key k new space {b'} within is same = ap (λ (x : Book). (key_of key x).list) is ∙ go (eqb own key) refl
  where
    go : (x : Bool) → eqb own key ≡ x → (key_of key (with_key own k space b)).list ≡ cond x new (key_of key b).list
    go true q =
        let e = eqb-true own key q in
        ap (λ (i : ℕ). (key_of i (with_key own k space b)).list) (sym e)
        ∙ ap (λ (k : Key). k.list) (get_or-set_same b.keys own _ empty_key within) ∙ same e
    go false q = ap (λ (k : Key). k.list) (get_or-set_other b.keys own key _ empty_key (λ (e : key ≡ own). eqb-false own key q (sym e)))

-- After a call a key's list is what the call recorded for it.
call_recorded : (key : ℕ) (b : Book) (c : Change) (a : Answer (Outcome (Made c))) → does b c ≡ a → SoundKey (key_of key b)
    → (key_of key (book_after b a)).list ≡ recorded_after key c (answer_of a) (key_of key b).list
unfolding does book_after answered recorded_after recorded_by
call_recorded key b c (refused number) e s = refl
call_recorded key b (load fit own ns) (accepted o) e s =
    let (p, within, free, rises, got, is) = load_did fit b own ns e in
    list_with b own key (key_in ns p.place true) _ p.space within (ap (λ (x : Outcome _). x.book) is)
    (λ (z : own ≡ key). rw (unused_holds (key_of key b).list (key_of key b).place (rw z at free) s.fits))
call_recorded key b (append own n) (accepted o) e s =
    let (p, within, rises, low, got, is) = append_did b own n e in
    list_with b own key (key_in _ p.place _) _ p.space within (ap (λ (x : Outcome _). x.book) is)
    (λ (z : own ≡ key). ap (λ (k : ℕ). (key_of k b).list ++ (n ∷ [])) z)
call_recorded key b (drop own) (accepted o) e s =
    let (within, is) = drop_did b own e in
    list_with b own key empty_key _ _ within (ap (λ (x : Outcome _). x.book) is) (λ z. refl)

-- ---- every list of calls

-- Take any book with a sound key and any list of calls: the key's list afterwards is what was there and what the calls recorded for the
-- key.
pub recorded_from : (b : Book) (key : ℕ) (cs : List Call) → SoundKey (key_of key b)
    → (key_of key (after b cs)).list ≡ recorded key (answers b cs) (key_of key b).list
unfolding after_calls answers_to recorded
recorded_from b key [] s = refl
recorded_from b key (ask q ∷ cs) s = recorded_from b key cs s
recorded_from b key (change c ∷ cs) s =
    recorded_from (book_after b (does b c)) key cs (kept_call _ sound_kept key b c no_moves (does b c) refl s)
    ∙ ap (recorded key (answers (book_after b (does b c)) cs)) (call_recorded key b c (does b c) refl s)

-- After any list of calls on a fresh book a key's list is what the calls recorded for it.
pub recorded_fresh : (ds : List ℕ) (size heads : ℕ) (l : Limits) (key : ℕ) (cs : List Call)
    → (key_of key (after (fresh ds size heads l) cs)).list ≡ recorded key (answers (fresh ds size heads l) cs) []
recorded_fresh ds size heads l key cs =
    recorded_from (fresh ds size heads l) key cs (rw (fresh_key ds size heads l key) empty_sound)
    ∙ ap (λ (k : Key). recorded key (answers (fresh ds size heads l) cs) k.list) (fresh_key ds size heads l key)

-- ---- reads

-- An accepted read tells the key's list, and its pages.
pub read_told : (b : Book) (key room : ℕ) {l : Listed} → reads b key room ≡ accepted l
    → l ≡ listing (key_of key b).list (pages_of (key_of key b).place) (padded_of (key_of key b).place)
read_told b key room e = (read_did b key room e).1

-- What a refusal came from: the test, or what comes after it.
refused_by : {A : Type 0} (test : Bool) (number : ℕ) (after : Answer A) {m : ℕ} → refuse_if test number after ≡ refused m
    → ((m ≡ number) × (test ≡ true)) ⊎ (after ≡ refused m)
unfolding refuse_if
refused_by true number after e = inl (cc, refl)
refused_by false number after e = inr e

-- A read is refused only for the shape (1), the list of desks (39), the key (2), or a lent list that is too short (34), each for its
-- cause.
pub read_refused : (b : Book) (key room : ℕ) {number : ℕ} → reads b key room ≡ refused number
    → ((number ≡ shape_bad) × (out_of_shape b.size (length b.keys) ≡ true))
    ⊎ (((number ≡ desks_bad) × (list_bad b.desks (length b.keys) ≡ true))
    ⊎ (((number ≡ key_beyond) × (length b.keys ≤ key)) ⊎ ((number ≡ list_too_short) × (room < length (key_of key b).list))))
unfolding reads on_key
read_refused b key room e =
    ⊎_elim (λ q. inl q)
    (λ e0. inr (⊎_elim (λ q. inl q)
    (λ e1. inr (⊎_elim (λ q. inl (q.0, leb-true (length b.keys) key q.1))
    (λ e2. inr (⊎_elim (λ q. (q.0, ltb-true room (length (key_of key b).list) q.1))
    (λ e3. absurd (refused≢accepted (sym e3))) (refused_by _ _ _ e2)))
    (refused_by _ _ _ e1)))
    (refused_by _ _ _ e0)))
    (refused_by _ _ _ e)

-- ---- the licence's sentence

-- An answer to an enquiry is by what is recorded.
ask_answered : (b : Book) (q : Enquiry) (a : Answer (Said q)) (before : ℕ → List ℕ) → list_bad b.desks (length b.keys) ≡ false
    → asks b q ≡ a → ((key : ℕ) → (key_of key b).list ≡ before key) → AnsweredBy b.size (length b.keys) q a before
unfolding AnsweredBy asks
ask_answered b (read key room) (accepted l) before named e is = ap (λ (x : Listed). x.numbers) (read_told b key room e) ∙ is key
ask_answered b (read key room) (refused number) before named e is =
    rw (← is key)
    (⊎_elim (λ q. inl q) (λ r. ⊎_elim (λ (bad, list). absurd (false≢true (sym named ∙ list))) (λ q. inr q) r) (read_refused b key room e))

-- Take any book of sound keys with a desk for each, whose lists are what was recorded, and any list of calls: the licence's sentence holds.
pub licensed_from : (b : Book) (before : ℕ → List ℕ) (cs : List Call) → list_bad b.desks (length b.keys) ≡ false
    → ((key : ℕ) → SoundKey (key_of key b))
    → ((key : ℕ) → (key_of key b).list ≡ before key)
    → Licensed b.size (length b.keys) before (answers b cs)
unfolding Licensed answers_to
licensed_from b before [] named s is = tt
licensed_from b before (ask q ∷ cs) named s is =
    (ask_answered b q (asks b q) before named refl is, licensed_from b before cs named s is)
licensed_from b before (change c ∷ cs) named s is =
    let (size, keys, ds, l) = shape_kept b c in
    subst₂ (λ (m n : ℕ). Licensed m n (λ key. recorded_after key c (answer_of (does b c)) (before key)) (answers (book_after b (does b c)) cs))
    size keys
    (licensed_from (book_after b (does b c)) _ cs (rw (keys, ds) named)
    (λ key. kept_call _ sound_kept key b c no_moves (does b c) refl (s key))
    (λ key. call_recorded key b c (does b c) refl (s key) ∙ ap (recorded_after key c (answer_of (does b c))) (is key)))

-- On a fresh book with a desk for each key, and nothing recorded, the licence's sentence holds of every list of calls.
pub licensed : (ds : List ℕ) (size heads : ℕ) (l : Limits) (cs : List Call) → list_bad ds heads ≡ false
    → Licensed size heads (λ key. []) (answers (fresh ds size heads l) cs)
licensed ds size heads l cs named =
    subst (λ (n : ℕ). Licensed size n (λ key. []) (answers (fresh ds size heads l) cs)) (length-replicate heads empty_key)
    (licensed_from (fresh ds size heads l) (λ key. []) cs (rw (length-replicate heads empty_key) named)
    (λ key. rw (fresh_key ds size heads l key) empty_sound)
    (λ key. ap (λ (k : Key). k.list) (fresh_key ds size heads l key)))

-- What the licence's sentence says of a read with room enough, on a key of a book in shape: it is accepted, and tells what is recorded.
pub read_accepted : (size heads key room : ℕ) (a : Answer Listed) (recorded : ℕ → List ℕ) → AnsweredBy size heads (read key room) a recorded
    → out_of_shape size heads ≡ false → key < heads → length (recorded key) ≤ room
    → (l : Listed) × (a ≡ accepted l) × (l.numbers ≡ recorded key)
unfolding AnsweredBy
read_accepted size heads key room (accepted l) recorded is shape low fits = (l, refl, is)
read_accepted size heads key room (refused number) recorded by shape low fits =
    absurd (⊎_elim (λ (is, out). false≢true (sym shape ∙ out)) (λ r. ⊎_elim (λ (is, beyond). omega arith) (λ (is, short). omega arith) r)
    by)
