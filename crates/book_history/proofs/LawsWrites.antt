-- Demand 1 of the account book: a refused change leaves the book as it was, and an accepted one writes what it may only. Any book, any
-- change.
use Prim.Native.Nat.{ℕ, ◌+◌, ◌≤◌, ◌<◌}
use mathlib.Core.Bool.{true}
use mathlib.Core.List.{List, [], ◌∷◌}
use mathlib.Core.Logic.{◌⊎◌, inl, inr, ⊎_elim, ◌≢◌}
use mathlib.Core.Path.{◌≡◌, refl, sym, ap, subst, ◌∙◌}
use native.Mathlib.Nat.{eq-or-lt_of_le}
use native.Mathlib.Omega.{arith}
use borrow.Author.Tests.{ltb-false}
use lib.ListN.{length, length-replicate}
use Rattle.error.specs.Refusal.{Answer, accepted, refused}
use Rattle.error.proofs.LawsAnswer.{accepted_inj, passed, went_on}
use Rattle.buffer.specs.LittleEndian.{AreBytes}
use Rattle.buffer.proofs.LawsOrder.{lt_or_ge}
use Rattle.scripthash_layout.specs.Sizes.{page_class}
use Rattle.scripthash_layout.specs.declared.head.ShHeadValue.{ShHeadValue}
use Rattle.scripthash_layout.specs.declared.head.ShHeadValue.TheVariants.{Empty, Inline, Slab, Extent}
use Rattle.scripthash_free.specs.FreeList.{is_block, Each, Within}
use Rattle.scripthash_free.proofs.LawsBlock.{block_stands}
use Rattle.scripthash_free.proofs.LawsGap.{each_map}
use Rattle.book_rules.specs.Outcomes.{Listed, Dropped, book_after}
use Rattle.book_statements.specs.Calls.{read, Change, load, append, drop, key_of_change, Made}
use Rattle.book_desks.specs.Desks.{Limits, desk_of, making}
use Rattle.book_space.specs.Space.{Space}
use Rattle.book_space.proofs.LawsDesks.{given_back_lem}
use Rattle.book_keys.specs.Keys.{Content, content, content_at, page_blocks}
use Rattle.book_keys.proofs.LawsSlab.{slab_sound}
use Rattle.book_keys.proofs.LawsContent.{was_content, was_slab, was_pages}
use Rattle.book_keys.proofs.LawsKeys.{Every, chain_known}
use Rattle.book.specs.Book.{Book, Outcome, word_of, seen}
use Rattle.book_start.specs.Making.{makes_fresh, made_after}
use Rattle.book_read.specs.Reads.{reads, list_after}
use Rattle.book_drop.specs.Drops.{dropped, drops}
use Rattle.book_history.specs.Calls.{asks, does}
use Rattle.book_history.specs.Writes.{region, Outside, Only, word_and, freeing_all, drop_counts, writes, Differs, Changes}
use Rattle.book_history.proofs.LawsOnly.{only_bytes}
use Rattle.book_history.proofs.LawsWritesDesks.{back_counts, by_desk_lem, with_desks_lem}
use Rattle.book_history.proofs.LawsWritesSpace.{wrote_released}
use Rattle.book_history.proofs.LawsWritesLoad.{on_key_lem, differs_not, differs_placed, load_only}
use Rattle.book_history.proofs.LawsWritesAppend.{append_only}

-- ---- a drop

-- Pages that stand below a mark, as blocks.
pages_within : (mark : ℕ) (offs : List ℕ) → Every (λ o. is_block page_class o mark ≡ true) offs → Each (Within 0 mark) (page_blocks offs)
unfolding Every Each page_blocks
pages_within mark [] e = tt
pages_within mark (o ∷ os) e = ((omega arith, (block_stands page_class o mark e.0).ends), pages_within mark os e.1)

-- The blocks of a place that holds something lie below the mark.
place_within : (s : Space) (place : ShHeadValue) (k : Content) → content_at (seen s) place ≡ accepted k
    → Each (Within 0 s.mark) k.blocks
unfolding content_at Each
place_within s Empty k e = subst (λ (k : Content). Each (Within 0 s.mark) k.blocks) (accepted_inj e) tt
place_within s (Inline entry used) k e = subst (λ (k : Content). Each (Within 0 s.mark) k.blocks) (accepted_inj e) tt
place_within s (Slab class used off) k e =
    let (c, is, same) = was_slab (seen s) class used off k e in
    let known = slab_sound (seen s) class used off c is in
    subst (λ (k : Content). Each (Within 0 s.mark) k.blocks) same
    ((omega arith, (block_stands class off s.mark known.stands).ends), tt)
place_within s (Extent last) k e =
    let (c, is, same) = was_pages (seen s) last k e in
    subst (λ (k : Content). Each (Within 0 s.mark) k.blocks) same
    (pages_within s.mark c.offs (chain_known (seen s) last c is).stands)

-- A drop by a key's desk.
drop_only : (ds : List ℕ) (b : Book) (key : ℕ) {o : Outcome Dropped} → drops (desk_of ds key) b key ≡ accepted o
    → Changes ds b o.book (drop key)
unfolding drops dropped writes
drop_only ds b key e =
    let desk = desk_of ds key in
    let k = by_desk_lem desk b key _ e in
    let (c, is, out) = went_on (content (seen b.space) (word_of key b)) _ k.2 in
    let (place, at, holds) = was_content (seen b.space) (word_of key b) c is in
    let within = k.0.within in
    let blocks = each_map (Within 0 b.space.mark) (Within 0 (length b.space.body)) (λ x h. (h.0, omega (arith, h.1))) c.blocks
    (place_within b.space place c holds) in
    rw is
    (subst (λ (o : Outcome Dropped). Differs (word_and key (freeing_all c.blocks) (drop_counts desk c.pages)) b o.book)
    (accepted_inj (given_back_lem _ desk c.pages b.counts _ out))
    (differs_placed key _ _ _ b (wrote_released c.blocks b.space blocks) (back_counts desk b.counts c.pages)))

-- ---- a read

-- What a read of a key into a lent list answers.
abbrev pub read_into : List ℕ → Book → ℕ → List ℕ → Answer Listed
read_into ds b key out = asks ds b (read key (length out))

-- A read writes its numbers at the beginning of its lent list, and nothing else there.
pub list_only : (ds : List ℕ) (b : Book) (key : ℕ) (out : List ℕ) {l : Listed} → read_into ds b key out ≡ accepted l
    → Only (region 0 (length l.numbers) ∷ []) out (list_after out (read_into ds b key out))
unfolding asks reads list_after
list_only ds b key out {l} e =
    let k = on_key_lem b key _ (with_desks_lem ds b key _ e) in
    let (c, held, answer) = went_on (content (seen b.space) (word_of key b)) _ k.2 in
    let p = passed _ _ _ answer in
    let numbers : c.numbers ≡ l.numbers = ap (λ (x : Listed). x.numbers) (accepted_inj p.1) in
    let fits : length l.numbers ≤ length out = rw numbers at (ltb-false (length out) (length c.numbers) p.0) in
    rw e (only_bytes out 0 (length l.numbers) l.numbers refl (omega arith))

-- A refused read leaves its lent list.
pub list_refused : (ds : List ℕ) (b : Book) (key : ℕ) (out : List ℕ) {number : ℕ} → read_into ds b key out ≡ refused number
    → list_after out (read_into ds b key out) ≡ out
unfolding list_after
list_refused ds b key out e = rw e

-- ---- a fresh book

-- A book that is made fresh keeps its body's bytes, and as many head words.
pub fresh_only : (ds : List ℕ) (l : Limits) (b : Book) {made : Book} → makes_fresh ds l b ≡ accepted made
    → (made.space.body ≡ b.space.body) × (length made.heads ≡ length b.heads)
unfolding makes_fresh making
fresh_only ds l b e =
    let is = accepted_inj (passed _ _ _ (passed _ _ _ e).1).1 in
    (ap (λ (a : Book). a.space.body) (sym is), ap (λ (a : Book). length a.heads) (sym is) ∙ length-replicate (length b.heads) 0)

-- A book that isn't is as it was.
pub fresh_refused : (ds : List ℕ) (l : Limits) (b : Book) {number : ℕ} → makes_fresh ds l b ≡ refused number
    → made_after b (makes_fresh ds l b) ≡ b
unfolding made_after
fresh_refused ds l b e = rw e

-- ---- any change

-- A refused change leaves the book as it was.
pub refused_nothing : (ds : List ℕ) (b : Book) (c : Change) {number : ℕ} → does ds b c ≡ refused number → book_after b (does ds b c) ≡ b
unfolding book_after
refused_nothing ds b c e = rw e

-- An accepted change of a body of bytes writes what it may only.
pub accepted_only : (ds : List ℕ) (b : Book) (c : Change) {o : Outcome (Made c)} → AreBytes b.space.body → does ds b c ≡ accepted o
    → Changes ds b o.book c
unfolding does writes
accepted_only ds b (load fit key ns) bytes e = load_only fit ds b key ns bytes (with_desks_lem ds b key _ e)
accepted_only ds b (append key n) bytes e = append_only ds b key n (with_desks_lem ds b key _ e)
accepted_only ds b (drop key) bytes e = drop_only ds b key (with_desks_lem ds b key _ e)

-- What an answer leaves.
after_answer : (ds : List ℕ) (b : Book) (c : Change) (a : Answer (Outcome (Made c)))
    → ((o : Outcome (Made c)) → a ≡ accepted o → Changes ds b o.book c) → Changes ds b (book_after b a) c
unfolding book_after
after_answer ds b c (accepted o) f = f o refl
after_answer ds b c (refused number) f = differs_not (writes ds b c) b

-- So after any change the book differs from the one before only in what the change may write.
pub call_only : (ds : List ℕ) (b : Book) (c : Change) → AreBytes b.space.body → Changes ds b (book_after b (does ds b c)) c
call_only ds b c bytes = after_answer ds b c (does ds b c) (λ o e. accepted_only ds b c bytes e)

-- A key other than another is outside of its head word.
outside_key : (k key : ℕ) → k ≢ key → (k < key) ⊎ (key + 1 ≤ k)
outside_key k key other =
    ⊎_elim inl (λ (h : key ≤ k). inr (⊎_elim (λ (e : key ≡ k). absurd (other (sym e))) (λ (l : key < k). omega arith) (eq-or-lt_of_le h)))
    (lt_or_ge k key)

-- A change may write no head word but its key's.
words_named : (ds : List ℕ) (b : Book) (c : Change) (k : ℕ) → k ≢ key_of_change c → Outside (writes ds b c).heads k
unfolding writes Outside
words_named ds b (load fit key []) k other = tt
words_named ds b (load fit key (n ∷ [])) k other = (outside_key k key other, tt)
words_named ds b (load fit key (n ∷ m ∷ ns)) k other = (outside_key k key other, tt)
words_named ds b (append key n) k other = (outside_key k key other, tt)
words_named ds b (drop key) k other = (outside_key k key other, tt)

-- So after any change each head word but its key's is as before.
pub other_words : (ds : List ℕ) (b : Book) (c : Change) (k : ℕ) → AreBytes b.space.body → k ≢ key_of_change c
    → word_of k (book_after b (does ds b c)) ≡ word_of k b
other_words ds b c k bytes other = (call_only ds b c bytes).heads.same k (words_named ds b c k other)
