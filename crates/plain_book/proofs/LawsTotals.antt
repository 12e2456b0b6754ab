-- Totals: a key that is counted stays so through every list of calls, and one that was never counted until it is dropped. Assumes nothing.
use Prim.Native.Nat.{ℕ, ◌≤◌, ◌<◌}
use mathlib.Core.Bool.{Bool, true, false, cond, false≢true}
use mathlib.Core.List.{List, [], ◌∷◌}
use mathlib.Core.Logic.{◌≢◌}
use mathlib.Core.Path.{◌≡◌, refl, sym, ap, ◌∙◌}
use native.Mathlib.Nat.{le_refl}
use native.Mathlib.Omega.{arith}
use lib.Dec.{leb, eqb}
use lib.ListN.{length}
use borrow.Author.Tests.{le-leb, leb-true, eqb-true}
use Rattle.error.specs.Refusal.{Answer, accepted, refused}
use Rattle.book_rules.specs.Outcomes.{book_after}
use Rattle.book_statements.specs.Calls.{Change, load, append, drop, Made, Call, ask, change, after_calls}
use Rattle.book_statements.specs.Moves.{no_moves}
use Rattle.plain_book.specs.Space.{Space}
use Rattle.book_limits.specs.Limits.{most_counted, total_told}
use Rattle.book_desks.specs.Desks.{Limits}
use Rattle.plain_book.specs.Key.{Place, empty, inline, slab, pages, Key, total_of, counted_after, key_in, empty_key}
use Rattle.plain_book.specs.Book.{Book, fresh, Outcome, key_of, with_key, in_use, does, after, NeverDropped}
use Rattle.plain_book.specs.Sound.{Known, SoundKey}
use Rattle.plain_book.proofs.LawsHistory.{load_did, append_did, drop_did, key_with, KeptByCalls, kept_call, kept_calls}
use Rattle.plain_book.proofs.LawsHistory.{kept_fresh}
use Rattle.plain_book.proofs.LawsSound.{sound_kept}

-- ---- counted keys

-- An append leaves a key counted.
counted_append : (place : Place) (counted : Bool) → counted ≡ true → counted_after place counted ≡ true
counted_append empty counted h = refl
counted_append inline counted h = refl
counted_append (slab class off kept) counted h = refl
counted_append (pages ps) counted h = h

-- Calls keep a key counted.
counted_kept : KeptByCalls (λ k t. k.counted ≡ true)
counted_kept =
    record {
      loads = λ fit end k ns s p t h f rises e. refl;
      appends = λ end k n s p t h rises low e. counted_append k.place k.counted h;
      drops = refl;
    }

-- Take any book and any list of calls: a key that is counted stays so.
pub counted_from_lem : (b : Book) (key : ℕ) (cs : List Call) → (key_of key b).counted ≡ true → (key_of key (after b cs)).counted ≡ true
counted_from_lem b key cs h = kept_calls _ counted_kept key b cs no_moves h

-- A counted key tells its total as creates can tell it.
pub total_counted : (k : Key) → k.counted ≡ true → total_of k ≡ total_told (length k.list)
total_counted k h = rw h refl

-- So it tells its exact total, as long as creates can.
pub total_exact : (k : Key) → k.counted ≡ true → length k.list ≤ most_counted → total_of k ≡ length k.list
total_exact k h few = rw (h, le-leb (length k.list) most_counted few) refl

-- What is told fits creates.
pub total_fits : (k : Key) → total_of k ≤ most_counted
total_fits k = go k.counted (leb (length k.list) most_counted) refl
  where
    go : (t low : Bool) → leb (length k.list) most_counted ≡ low → cond t (cond low (length k.list) 0) 0 ≤ most_counted
    go true true e = leb-true (length k.list) most_counted e
    go true false e = omega arith
    go false low e = omega arith

-- A key's total is at most the length of its list.
pub total_most : (k : Key) → total_of k ≤ length k.list
total_most k = go k.counted (leb (length k.list) most_counted)
  where
    go : (t low : Bool) → cond t (cond low (length k.list) 0) 0 ≤ length k.list
    go true true = le_refl (length k.list)
    go true false = omega arith
    go false low = omega arith

-- After any list of calls on a fresh book every key tells its exact total, or 0 past what creates can tell.
pub total_fresh : (ds : List ℕ) (size heads : ℕ) (l : Limits) (key : ℕ) (cs : List Call)
    → let k = key_of key (after (fresh ds size heads l) cs) in total_of k ≡ total_told (length k.list)
total_fresh ds size heads l key cs = rw (kept_fresh _ counted_kept ds size heads l key cs) refl

-- ---- keys that were never counted

-- Such a key of a sound book has pages, so it is in use.
uncounted_used : (place : Place) (counted : Bool) → counted ≡ false → Known place counted → in_use place ≡ true
uncounted_used empty counted f h = absurd (false≢true (sym f ∙ h))
uncounted_used inline counted f h = refl
uncounted_used (slab class off kept) counted f h = refl
uncounted_used (pages ps) counted f h = refl

-- An append leaves it so.
uncounted_append : (place : Place) (counted : Bool) → counted ≡ false → Known place counted → counted_after place counted ≡ false
uncounted_append empty counted f h = absurd (false≢true (sym f ∙ h))
uncounted_append inline counted f h = absurd (false≢true (sym f ∙ h))
uncounted_append (slab class off kept) counted f h = absurd (false≢true (sym f ∙ h))
uncounted_append (pages ps) counted f h = f

-- A key stays uncounted in a book with a key changed, where the new key is, if it is that one.
uncounted_with : (b : Book) (own key : ℕ) (k : Key) (space : Space) {b' : Book} → own < length b.keys → b' ≡ with_key own k space b
    → (key_of key b).counted ≡ false → (own ≡ key → k.counted ≡ false)
    → (key_of key b').counted ≡ false
uncounted_with b own key k space within is f new =
    ap (λ (x : Book). (key_of key x).counted) is ∙ ap (λ (k : Key). k.counted) (key_with b own _ within key) ∙ go (eqb key own) refl
  where
    go : (t : Bool) → eqb key own ≡ t → (cond t k (key_of key b)).counted ≡ false
    go true e = new (sym (eqb-true key own e))
    go false e = f

-- A change that isn't a drop of the key leaves it so.
uncounted_call : (key : ℕ) (b : Book) (c : Change) (a : Answer (Outcome (Made c))) → does b c ≡ a → SoundKey (key_of key b)
    → (key_of key b).counted ≡ false
    → c ≢ drop key
    → (key_of key (book_after b a)).counted ≡ false
unfolding does book_after
uncounted_call key b c (refused number) e s f ne = f
uncounted_call key b (load fit own ns) (accepted o) e s f ne =
    let (p, within, free, rises, got, is) = load_did fit b own ns e in
    uncounted_with b own key (key_in ns p.place true) p.space within (ap (λ (x : Outcome _). x.book) is) f
    (λ (z : own ≡ key).
    absurd (false≢true (sym (rw z at free) ∙ uncounted_used (key_of key b).place (key_of key b).counted f s.known)))
uncounted_call key b (append own n) (accepted o) e s f ne =
    let (p, within, rises, low, got, is) = append_did b own n e in
    uncounted_with b own key (key_in _ p.place _) p.space within (ap (λ (x : Outcome _). x.book) is) f
    (λ (z : own ≡ key). rw z (uncounted_append (key_of key b).place (key_of key b).counted f s.known))
uncounted_call key b (drop own) (accepted o) e s f ne =
    let (within, is) = drop_did b own e in
    uncounted_with b own key empty_key _ within (ap (λ (x : Outcome _). x.book) is) f (λ (z : own ≡ key). absurd (ne (ap drop z)))

-- Take any book with a sound key that was never counted, and any list of calls without a drop of it: it tells no total afterwards.
pub uncounted_from : (b : Book) (key : ℕ) (cs : List Call) → SoundKey (key_of key b) → (key_of key b).counted ≡ false → NeverDropped key cs
    → total_of (key_of key (after b cs)) ≡ 0
unfolding after_calls NeverDropped
uncounted_from b key [] s f never = rw f refl
uncounted_from b key (ask q ∷ cs) s f (ne, never) = uncounted_from b key cs s f never
uncounted_from b key (change c ∷ cs) s f (ne, never) =
    uncounted_from (book_after b (does b c)) key cs (kept_call _ sound_kept key b c no_moves (does b c) refl s)
    (uncounted_call key b c (does b c) refl s f (λ (z : c ≡ drop key). ne (ap change z))) never
