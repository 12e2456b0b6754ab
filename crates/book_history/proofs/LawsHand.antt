-- What a call has in hand: it is filled, then it becomes a key's slab or last page. Assumes nothing.
use Prim.Native.Nat.{ℕ, zero, suc, ◌+◌, ◌^◌, ◌≤◌, ◌<◌}
use mathlib.Core.Bool.{Bool, true, false, cond}
use mathlib.Core.List.{List, [], ◌∷◌, ◌++◌}
use mathlib.Core.Logic.{◌⊎◌, inl, inr, ⊎_elim, ◌≢◌}
use mathlib.Core.Option.{Option, none, some}
use mathlib.Core.Path.{◌≡◌, refl, sym, ap, subst, ◌∙◌}
use native.Mathlib.Omega.{arith}
use lib.Dec.{eqb}
use lib.ListN.{length, length-append}
use borrow.Author.Tests.{eqb-false, eq-eqb, ne_eqb}
use Rattle.buffer.specs.Bytes.{part, overwrite}
use Rattle.buffer.proofs.LawsBytes.{length_overwrite}
use Rattle.buffer.proofs.LawsOverwrite.{length_part, part_whole, part_written}
use Rattle.buffer.specs.LittleEndian.{bytes_of}
use Rattle.buffer.proofs.LawsLittleEndian.{length_bytes_of}
use Rattle.scripthash_layout.specs.Sizes.{slab_bytes, page_class}
use Rattle.scripthash_stream.specs.Stream.{max_offered, Rising, stream, stream_len}
use Rattle.scripthash_stream.proofs.LawsStream.{length_stream, rising_below}
use Rattle.scripthash_slabs.specs.Slab.{slab_payload}
use Rattle.scripthash_free.specs.FreeList.{Block}
use Rattle.plain_book.specs.Space.{Space as PlainSpace}
use Rattle.plain_book.specs.Key.{Kept, written, Page, Place, slab, pages, total_of}
use Rattle.plain_book.specs.Book.{Book as PlainBook, key_of}
use Rattle.plain_book.specs.Owners.{Owner, hand, stack, slab_of, page_of, page_no, slab_at, page_in, has, places}
use Rattle.plain_book.specs.Good.{Good}
use Rattle.plain_book.proofs.LawsOwners.{some_inj, none_some, kind_of, at_key, key_slab, key_page, page_behind}
use Rattle.book_space.specs.Space.{Space, space}
use Rattle.book_blocks.proofs.LawsReadsSlab.{slab_written, slab_written_padded}
use Rattle.book_history.specs.Agrees.{SlabReads, PageReads, LastReads, ChainReads, SlabIn, PageIn, Contents, BlockReads, AgreesSpace}
use Rattle.book_history.specs.Agrees.{contents_of}
use Rattle.book_history.proofs.LawsFrame.{block_of, block_ends, stored_same, stored_written}
use Rattle.book_history.proofs.LawsStep.{placed_contents}
use Rattle.book_history.proofs.LawsPush.{block_long, block_whole}

-- ---- spaces that agree, after their owners change, and after a block is written

module _ (plain : PlainSpace) (s : Space) (at at' : ℕ → Place) (held held' : Option Block) (c c' : Contents) where
  -- Blocks go to other owners, who read them so too; nothing is written.
  pub agrees_same : ((v : Owner) (x : Block) → has plain at' held' v ≡ some x
      → (u : Owner) × (has plain at held u ≡ some x) × ((block : List ℕ) → BlockReads plain c u block → BlockReads plain c' v block))
      → AgreesSpace plain s at held c → AgreesSpace plain s at' held' c'
  agrees_same to a =
      record {
        mark = a.mark;
        nine = a.nine;
        tops = a.tops;
        within = a.within;
        small = a.small;
        stored = stored_same (has plain at held) (has plain at' held') (BlockReads plain c) (BlockReads plain c') s.body to a.stored;
      }

  -- The block of one owner is written as a whole; each block is that one, and reads so, or was another owner's, who read it so too.
  pub agrees_written : (w : Owner) (y : Block) (ys : List ℕ) → Good plain at held → has plain at held w ≡ some y
      → length ys ≡ slab_bytes y.class
      → ((v : Owner) (x : Block) → has plain at' held' v ≡ some x
      → ((x ≡ y) × BlockReads plain c' v ys)
      ⊎ ((u : Owner) × (u ≢ w) × (has plain at held u ≡ some x) × ((block : List ℕ) → BlockReads plain c u block
      → BlockReads plain c' v block)))
      → AgreesSpace plain s at held c → AgreesSpace plain (space (overwrite s.body y.off ys) s.mark s.free) at' held' c'
  agrees_written w y ys g mine long to a =
      let ends = block_ends y plain.mark (g.apart.stands w y mine) in
      let in_Body = a.within in
      let size : length (overwrite s.body y.off ys) ≡ length s.body = length_overwrite s.body y.off ys (omega arith) in
      record {
        mark = a.mark;
        nine = a.nine;
        tops = a.tops;
        within = rw size in_Body;
        small = rw size a.small;
        stored = stored_written (has plain at held) (has plain at' held') (BlockReads plain c) (BlockReads plain c') s.body plain.mark
            g.apart in_Body w y ys mine long to a.stored;
      }

-- ---- filling

-- Contents with another reading of what is in hand.
abbrev pub with_hand : (List ℕ → Type 0) → Contents → Contents
with_hand R c = record { in_hand = R; slabs = c.slabs; pages = c.pages }

-- A block of a class begins with some bytes.
pub record Filled (class : ℕ) (ys block : List ℕ) : Type 0 where
  pub long : length block ≡ slab_bytes class
  pub begins : part block 0 (length ys) ≡ ys

-- A block that begins with as many bytes as it has is these.
pub filled_whole : (class : ℕ) (ys block : List ℕ) → length ys ≡ slab_bytes class → Filled class ys block → block ≡ ys
filled_whole class ys block full f = sym (part_whole block) ∙ ap (part block 0) (f.long ∙ sym full) ∙ f.begins

module _ (plain : PlainSpace) (s : Space) (at : ℕ → Place) (class off : ℕ) (c : Contents) (ys : List ℕ) (fits : length ys ≤ slab_bytes class)
    (g : Good plain at (some (record { class = class; off = off })))
    (a : AgreesSpace plain s at (some (record { class = class; off = off })) c) where
  -- the block in hand, and what it holds then
  abbrev y : Block
  y = record { class = class; off = off }

  abbrev filled : List ℕ
  filled = overwrite (block_of s.body y) 0 ys

  -- What is in hand lies in the body.
  hand_ends : off + slab_bytes class ≤ length s.body
  unfolding has
  hand_ends =
      omega (
        arith,
        block_ends (record { class = class; off = off }) plain.mark
            (g.apart.stands hand (record { class = class; off = off }) refl),
        a.within,
      )

  -- A body is as long after what is in hand is filled.
  pub fill_long : length (overwrite s.body off ys) ≡ length s.body
  fill_long = let h = hand_ends in length_overwrite s.body off ys (omega arith)

  -- What is in hand is filled with some bytes from its beginning on.
  pub fill_agrees : AgreesSpace plain (space (overwrite s.body off ys) s.mark s.free)
      at (some (record { class = class; off = off }))
      (with_hand (Filled class ys) c)
  unfolding has
  fill_agrees =
      subst (λ (body : List ℕ). AgreesSpace plain (space body s.mark s.free) at (some y) (with_hand (Filled class ys) c))
      (sym (block_whole s.body y ys hand_ends fits))
      (agrees_written plain s at at (some y) (some y) c (with_hand (Filled class ys) c) hand y filled g refl
      (block_long s.body y ys hand_ends fits) to a)
    where
      reads : Filled class ys filled
      reads =
          record {
            long = block_long s.body y ys hand_ends fits;
            begins = part_written (block_of s.body y) 0 ys (omega (arith, length_part s.body off (slab_bytes class) hand_ends));
          }

      to : (v : Owner) (x : Block) → has plain at (some y) v ≡ some x
          → ((x ≡ y) × BlockReads plain (with_hand (Filled class ys) c) v filled)
          ⊎ ((u : Owner) × (u ≢ hand) × (has plain at (some y) u ≡ some x) × ((block : List ℕ) → BlockReads plain c u block
          → BlockReads plain (with_hand (Filled class ys) c) v block))
      to hand x e = inl (sym (some_inj e), reads)
      to (stack k d) x e = inr (stack k d, λ q. (let z = ap kind_of q in omega arith), e, λ block r. r)
      to (slab_of k) x e = inr (slab_of k, λ q. (let z = ap kind_of q in omega arith), e, λ block r. r)
      to (page_of k i) x e = inr (page_of k i, λ q. (let z = ap kind_of q in omega arith), e, λ block r. r)

-- ---- what a filled block reads as

-- The payload of a list: two bytes and its stream.
pub payload_long : (ns : List ℕ) → length (slab_payload ns) ≡ 2 + stream_len ns
unfolding slab_payload
payload_long ns = length-append (bytes_of 2 (length ns)) (stream ns) ∙ rw (length_bytes_of 2 (length ns), length_stream 0 ns)

-- A block filled with a list's payload reads as the list.
pub filled_slab : (class : ℕ) (ns block : List ℕ) → Rising (2 ^ 62) 0 ns → length ns ≤ max_offered → Filled class (slab_payload ns) block
    → SlabReads (written ns) block
unfolding written
filled_slab class ns block rises few f =
    let starts = rw (payload_long ns) at f.begins in
    let below = rising_below (2 ^ 62) (2 ^ 63) 0 ns (omega arith) rises in
    let r = slab_written block ns starts below few in
    record { used = r.counts; reads = r.reads; padded = slab_written_padded block ns starts below few }

-- ---- placing

-- Other keys than one read their blocks in the second contents as in the first.
pub record OthersKept (key : ℕ) (c c' : Contents) : Type 0 where
  pub slabs : (j : ℕ) (block : List ℕ) → j ≢ key → c.slabs j block → c'.slabs j block
  pub pages : (j i : ℕ) (block : List ℕ) → j ≢ key → c.pages j i block → c'.pages j i block

-- A key's place becomes one without blocks.
pub bare_placed : (plain : PlainSpace) (s : Space) (at : ℕ → Place) (held : Option Block) (key : ℕ) (place : Place) (c c' : Contents)
    → slab_at place ≡ none
    → ((i : ℕ) → page_in i place ≡ none) → OthersKept key c c' → ((block : List ℕ) → c.in_hand block → c'.in_hand block)
    → AgreesSpace plain s at held c
    → AgreesSpace plain s (at_key key place at) held c'
unfolding has
bare_placed plain s at held key place c c' no-slab no_page_lem others in_hand a = agrees_same plain s at (at_key key place at) held held c c' to a
  where
    to : (v : Owner) (x : Block) → has plain (at_key key place at) held v ≡ some x
        → (u : Owner) × (has plain at held u ≡ some x) × ((block : List ℕ) → BlockReads plain c u block → BlockReads plain c' v block)
    to hand x e = (hand, e, λ block r. in_hand block r)
    to (stack k d) x e = (stack k d, e, λ block r. r)
    to (slab_of j) x e =
        ⊎_elim (λ (is, f). absurd (none_some (sym no-slab ∙ f))) (λ (n, f). (slab_of j, f, λ block r. others.slabs j block n r))
        (key_slab key place at j x e)
    to (page_of j i) x e =
        ⊎_elim (λ (is, f). absurd (none_some (sym (no_page_lem i) ∙ f))) (λ (n, f). (page_of j i, f, λ block r. others.pages j i block n r))
        (key_page key place at j i x e)

-- What is in hand becomes a key's slab.
pub hand_slab : (plain : PlainSpace) (s : Space) (at : ℕ → Place) (key class off : ℕ) (kept : Kept) (c c' : Contents) → OthersKept key c c'
    → ((block : List ℕ) → c.in_hand block → c'.slabs key block) → AgreesSpace plain s at (some (record { class = class; off = off })) c
    → AgreesSpace plain s (at_key key (slab class off kept) at) none c'
unfolding has
hand_slab plain s at key class off kept c c' others mine a =
    agrees_same plain s at (at_key key (slab class off kept) at) (some (record { class = class; off = off })) none c c' to a
  where
    to : (v : Owner) (x : Block) → has plain (at_key key (slab class off kept) at) none v ≡ some x
        → (u : Owner) × (has plain at (some (record { class = class; off = off })) u ≡ some x)
        × ((block : List ℕ) → BlockReads plain c u block → BlockReads plain c' v block)
    to hand x e = absurd (none_some e)
    to (stack k d) x e = (stack k d, e, λ block r. r)
    to (slab_of j) x e =
        ⊎_elim (λ (is, f). (hand, f, λ block r. subst (λ (k : ℕ). c'.slabs k block) (sym is) (mine block r)))
        (λ (n, f). (slab_of j, f, λ block r. others.slabs j block n r)) (key_slab key (slab class off kept) at j x e)
    to (page_of j i) x e =
        ⊎_elim (λ (is, f). absurd (none_some f)) (λ (n, f). (page_of j i, f, λ block r. others.pages j i block n r))
        (key_page key (slab class off kept) at j i x e)

-- A page that some pages have at an index: the index is below their count.
page_in_lem : (i : ℕ) (ps : List Page) (x : Block) → page_no i ps ≡ some x → i < length ps
unfolding page_no
page_in_lem i [] x e = absurd (none_some e)
page_in_lem zero (p ∷ ps) x e = omega arith
page_in_lem (suc i) (p ∷ ps) x e = let l = page_in_lem i ps x e in omega arith

-- What is in hand becomes a key's page behind others, which it had and which read as before.
pub hand_page : (plain : PlainSpace) (s : Space) (at : ℕ → Place) (key : ℕ) (ps : List Page) (p : Page) (c c' : Contents)
    → OthersKept key c c'
    → ((i : ℕ) (x : Block) → page_no i ps ≡ some x → page_in i (at key) ≡ some x)
    → ((i : ℕ) (block : List ℕ) → i < length ps → c.pages key i block → c'.pages key i block)
    → ((block : List ℕ) → c.in_hand block → c'.pages key (length ps) block)
    → AgreesSpace plain s at (some (record { class = page_class; off = p.off })) c
    → AgreesSpace plain s (at_key key (pages (ps ++ (p ∷ []))) at) none c'
unfolding has
hand_page plain s at key ps p c c' others old before mine a =
    agrees_same plain s at (at_key key (pages (ps ++ (p ∷ []))) at) (some (record { class = page_class; off = p.off })) none c c' to a
  where
    to : (v : Owner) (x : Block) → has plain (at_key key (pages (ps ++ (p ∷ []))) at) none v ≡ some x
        → (u : Owner) × (has plain at (some (record { class = page_class; off = p.off })) u ≡ some x)
        × ((block : List ℕ) → BlockReads plain c u block → BlockReads plain c' v block)
    to hand x e = absurd (none_some e)
    to (stack k d) x e = (stack k d, e, λ block r. r)
    to (slab_of j) x e =
        ⊎_elim (λ (is, f). absurd (none_some f)) (λ (n, f). (slab_of j, f, λ block r. others.slabs j block n r))
        (key_slab key (pages (ps ++ (p ∷ []))) at j x e)
    to (page_of j i) x e =
        ⊎_elim
        (λ (is, f).
        ⊎_elim
        (λ (last, block). (
          hand,
          ap some (sym block),
          λ b r. subst (λ (k : ℕ). c'.pages k i b) (sym is)
              (subst (λ (k : ℕ). c'.pages key k b) (sym last) (mine b r)),
        ))
        (λ h. (page_of key i, old i x h, λ b r. subst (λ (k : ℕ). c'.pages k i b) (sym is) (before i b (page_in_lem i ps x h) r)))
        (page_behind i ps p x f))
        (λ (n, f). (page_of j i, f, λ block r. others.pages j i block n r))
        (key_page key (pages (ps ++ (p ∷ []))) at j i x e)

-- ---- placing, in a book

-- While a call on a key runs, the other keys have their places of a book, and their blocks read as in it.
pub record Meanwhile (plain : PlainBook) (key : ℕ) (at : ℕ → Place) (c : Contents) : Type 0 where
  pub stand : (j : ℕ) → j ≢ key → at j ≡ places plain j
  pub slabs : (j : ℕ) (block : List ℕ) → j ≢ key → c.slabs j block → SlabIn (places plain j) block
  pub pages : (j i : ℕ) (block : List ℕ) → j ≢ key → c.pages j i block → PageIn (total_of (key_of j plain)) i (places plain j) block

-- So it is at first, whatever is in hand.
pub meanwhile_first : (plain : PlainBook) (key : ℕ) (R : List ℕ → Type 0)
    → Meanwhile plain key (places plain) (with_hand R (contents_of plain))
meanwhile_first plain key R = record { stand = λ j n. refl; slabs = λ j block n r. r; pages = λ j i block n r. r }

-- So it is once the key has another total and place, whatever is in hand.
pub meanwhile_placed : (plain : PlainBook) (key : ℕ) (total : ℕ) (place : Place) (R : List ℕ → Type 0)
    → Meanwhile plain key (at_key key place (places plain)) (with_hand R (placed_contents plain key total place))
meanwhile_placed plain key total place R =
    record {
      stand = λ j n. rw (ne_eqb j key n);
      slabs = λ j block n r. rw (ne_eqb j key n) at r;
      pages = λ j i block n r. rw (ne_eqb j key n) at r;
    }

module _ (plain : PlainBook) (key : ℕ) (at : ℕ → Place) (c : Contents) (m : Meanwhile plain key at c) (total : ℕ) (place : Place) where
  -- The other keys' blocks read as before once the key is placed.
  pub others_kept : OthersKept key c (placed_contents plain key total place)
  others_kept =
      record {
        slabs = λ j block n r. rw (ne_eqb j key n) (m.slabs j block n r);
        pages = λ j i block n r. rw (ne_eqb j key n) (m.pages j i block n r);
      }

  -- The places once the key is placed.
  pub at_placed : at_key key place at ≡ at_key key place (places plain)
  at_placed = λ i j. go j (eqb j key) refl i
    where
      go : (j : ℕ) (t : Bool) → eqb j key ≡ t → cond t place (at j) ≡ cond t place (places plain j)
      go j true e = refl
      go j false e = m.stand j (eqb-false j key e)

-- A key's place becomes one without blocks, in a book.
pub placed_bare : (plain : PlainBook) (key : ℕ) (total : ℕ) (inside : PlainSpace) (s : Space) (at : ℕ → Place) (place : Place)
    (c : Contents) → slab_at place ≡ none
    → ((i : ℕ) → page_in i place ≡ none) → Meanwhile plain key at c → AgreesSpace inside s at none c
    → AgreesSpace inside s (at_key key place (places plain)) none (placed_contents plain key total place)
placed_bare plain key total inside s at place c no-slab no_page_lem m a =
    subst (λ (f : ℕ → Place). AgreesSpace inside s f none (placed_contents plain key total place)) (at_placed plain key at c m total place)
    (bare_placed inside s at none key place c (placed_contents plain key total place) no-slab no_page_lem
    (others_kept plain key at c m total place) (λ block r. tt) a)

-- What is in hand becomes a key's slab, in a book.
pub placed_slab : (plain : PlainBook) (key : ℕ) (total : ℕ) (inside : PlainSpace) (s : Space) (at : ℕ → Place) (class off : ℕ) (kept : Kept)
    (c : Contents)
    → Meanwhile plain key at c → ((block : List ℕ) → c.in_hand block → SlabReads kept block)
    → AgreesSpace inside s at (some (record { class = class; off = off })) c
    → AgreesSpace inside s (at_key key (slab class off kept) (places plain)) none (placed_contents plain key total (slab class off kept))
placed_slab plain key total inside s at class off kept c m mine a =
    subst (λ (f : ℕ → Place). AgreesSpace inside s f none (placed_contents plain key total (slab class off kept)))
    (at_placed plain key at c m total (slab class off kept))
    (hand_slab inside s at key class off kept c (placed_contents plain key total (slab class off kept))
    (others_kept plain key at c m total (slab class off kept))
    (λ block r. rw (eq-eqb key key refl) (mine block r)) a)

-- What is in hand becomes a key's page behind others, in a book.
pub placed_page : (plain : PlainBook) (key : ℕ) (total : ℕ) (inside : PlainSpace) (s : Space) (at : ℕ → Place) (ps : List Page) (p : Page)
    (c : Contents)
    → Meanwhile plain key at c → ((i : ℕ) (x : Block) → page_no i ps ≡ some x → page_in i (at key) ≡ some x)
    → ((i : ℕ) (block : List ℕ) → i < length ps → c.pages key i block → PageIn total i (pages (ps ++ (p ∷ []))) block)
    → ((block : List ℕ) → c.in_hand block → PageIn total (length ps) (pages (ps ++ (p ∷ []))) block)
    → AgreesSpace inside s at (some (record { class = page_class; off = p.off })) c
    → AgreesSpace inside s (at_key key (pages (ps ++ (p ∷ []))) (places plain)) none
    (placed_contents plain key total (pages (ps ++ (p ∷ []))))
placed_page plain key total inside s at ps p c m old before mine a =
    subst (λ (f : ℕ → Place). AgreesSpace inside s f none (placed_contents plain key total (pages (ps ++ (p ∷ [])))))
    (at_placed plain key at c m total (pages (ps ++ (p ∷ []))))
    (hand_page inside s at key ps p c (placed_contents plain key total (pages (ps ++ (p ∷ []))))
    (others_kept plain key at c m total (pages (ps ++ (p ∷ [])))) old
    (λ i block l r. rw (eq-eqb key key refl) (before i block l r))
    (λ block r. rw (eq-eqb key key refl) (mine block r))
    a)

-- What is in hand becomes a key's only page, in a book.
pub placed_one : (plain : PlainBook) (key : ℕ) (total : ℕ) (inside : PlainSpace) (s : Space) (at : ℕ → Place) (p : Page) (c : Contents)
    → Meanwhile plain key at c
    → ((block : List ℕ) → c.in_hand block → PageReads p block × LastReads p.off total block)
    → AgreesSpace inside s at (some (record { class = page_class; off = p.off })) c
    → AgreesSpace inside s (at_key key (pages (p ∷ [])) (places plain)) none (placed_contents plain key total (pages (p ∷ [])))
unfolding ChainReads page_no
placed_one plain key total inside s at p c m mine a =
    placed_page plain key total inside s at [] p c m (λ i x e. absurd (none_some e)) (λ i block l r. absurd (omega arith))
    (λ block r. mine block r) a
