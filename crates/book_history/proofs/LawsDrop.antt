-- A place is given up in both spaces: its slab, or its pages, the first first, go onto their free lists; and so a drop is answered alike.
-- Assumes nothing.
use Prim.Native.Nat.{ℕ, suc, ◌+◌, ◌-◌, ◌<◌}
use mathlib.Core.Bool.{Bool, true, false, cond}
use mathlib.Core.List.{List, [], ◌∷◌}
use mathlib.Core.Logic.{⊎_elim, ◌≢◌}
use mathlib.Core.Option.{Option, none, some}
use mathlib.Core.Path.{◌≡◌, refl, sym, ap, subst, ◌∙◌}
use native.Mathlib.Omega.{arith}
use lib.Dec.{ltb, eqb}
use lib.ListN.{length}
use borrow.Author.Tests.{eqb-true, eq-eqb, le-ltb}
use Rattle.error.specs.Refusal.{Answer, refuse_if, and_then, shape_bad, key_unsound}
use Rattle.error.proofs.LawsAnswer.{refuse_no, then_yes}
use Rattle.scripthash_layout.specs.Sizes.{page_class}
use Rattle.scripthash_free.specs.FreeList.{Block, push_all}
use Rattle.scripthash_free.proofs.LawsBlock.{block_stands}
use Rattle.book_statements.specs.Calls.{drop}
use Rattle.book_limits.specs.Limits.{out_of_shape}
use Rattle.book_desks.specs.Desks.{desks}
use Rattle.book_desks.specs.Counts.{freed_count, held_count, counts_high, counted}
use Rattle.plain_book.specs.Space.{Space as PlainSpace, freed}
use Rattle.plain_book.specs.Key.{Page, Place, empty, inline, slab, pages, head_of, empty_key, pages_of, freed_pages, freed_place}
use Rattle.plain_book.specs.Book.{Book as PlainBook, key_of, with_key, desk_in, freed_in, drops as plain_drops, does as plain_does}
use Rattle.plain_book.specs.Owners.{Owner, hand, stack, slab_of, page_of, page_no, slab_at, page_in, has, places}
use Rattle.plain_book.specs.Good.{Good, GoodPlain}
use Rattle.plain_book.proofs.LawsOwners.{none_some, kind_of, depth_of, at_key, key_slab, key_page, good_first_freed}
use Rattle.plain_book.proofs.LawsDesks.{place_back}
use Rattle.plain_book.proofs.LawsCounts.{own_held}
use Rattle.book_space.specs.Space.{Space, release}
use Rattle.book_space.specs.Desks.{given_back}
use Rattle.book_space.proofs.LawsDesks.{counts_back}
use Rattle.book_keys.specs.Keys.{page_blocks, content}
use Rattle.book.specs.Book.{Book, word_of, seen}
use Rattle.book_drop.specs.Drops.{drops, dropped}
use Rattle.book_history.specs.Calls.{does}
use Rattle.book_history.specs.Agrees.{Contents, BlockReads, AgreesSpace, AgreesCounts, AgreesInside, Agrees, contents_of}
use Rattle.book_history.proofs.LawsFrame.{block_ends}
use Rattle.book_history.proofs.LawsStep.{Alike, told_alike, alike_on_key, placed_contents, agrees_placed}
use Rattle.book_space.proofs.LawsTake.{release_first}
use Rattle.book_history.proofs.LawsPush.{FromOther, push_agrees, release_long}
use Rattle.book_history.proofs.LawsDesks.{key_desk, counts_fine, held_same, counts_placed, counts_stay}
use Rattle.book_history.proofs.LawsContent.{offs_of, blocks_of, content_agrees}
use Rattle.book_history.proofs.LawsHand.{bare_placed, with_hand, OthersKept, meanwhile_first, others_kept}

-- What stays while a key's place is given up: the other keys' blocks and what is in hand read as before, and of the key's pages nothing is
-- said.
pub record Gone (key : ℕ) (c c' : Contents) : Type 0 where
  pub others : OthersKept key c c'
  pub in_hand : (block : List ℕ) → c.in_hand block → c'.in_hand block
  pub any : (i : ℕ) (block : List ℕ) → c'.pages key i block

-- After blocks are released the spaces agree, and the body is as long as it was.
pub record Given (plain : PlainSpace) (s : Space) (at : ℕ → Place) (held : Option Block) (c : Contents) (long : ℕ) : Type 0 where
  pub agrees : AgreesSpace plain s at held c
  pub size : length s.body ≡ long

-- Changed twice is as changed once.
pub at_twice : (key : ℕ) (first second : Place) (at : ℕ → Place) → at_key key second (at_key key first at) ≡ at_key key second at
at_twice key first second at = λ i j. go j (eqb j key) i
  where
    go : (j : ℕ) (t : Bool) → cond t second (cond t first (at j)) ≡ cond t second (at j)
    go j true = refl
    go j false = refl

-- Releasing nothing changes nothing.
pub release_none : (s : Space) → release [] s ≡ s
unfolding release push_all
release_none s = refl

module _ (key : ℕ) (held : Option Block) where
  -- A place without blocks is given up.
  bare_gone : (plain : PlainSpace) (s : Space) (at : ℕ → Place) (c c' : Contents) → Gone key c c' → AgreesSpace plain s at held c
      → AgreesSpace plain s (at_key key empty at) held c'
  bare_gone plain s at c c' k a = bare_placed plain s at held key empty c c' refl (λ i. refl) k.others k.in_hand a

  -- A slab is given up.
  slab_gone : (plain : PlainSpace) (s : Space) (at : ℕ → Place) (c c' : Contents) (class off : ℕ)
      → slab_at (at key) ≡ some (record { class = class; off = off }) → Gone key c c'
      → Good plain at held → AgreesSpace plain s at held c
      → Given (freed class off plain) (release (record { class = class; off = off } ∷ []) s) (at_key key empty at) held c' (length s.body)
  unfolding has
  slab_gone plain s at c c' class off is k g a =
      let st = g.apart.stands (slab_of key) (record { class = class; off = off }) is in
      record {
        agrees = push_agrees plain s at (at_key key empty at) held held c c' (slab_of key) class off
            (block_stands class off plain.mark st).class_to_8 g a
            (λ i d q. (let z = ap kind_of q in omega arith)) is to;
        size = release_long class off s (omega (arith, block_ends (record { class = class; off = off }) plain.mark st, a.within));
      }
    where
      to : (v : Owner) (x : Block) → ((i d : ℕ) → v ≢ stack i d) → has plain (at_key key empty at) held v ≡ some x
          → FromOther plain at held c (slab_of key) x (BlockReads plain c' v)
      to hand x n e = (hand, λ q. (let z = ap kind_of q in omega arith), e, λ block r. k.in_hand block r)
      to (stack i d) x n e = absurd (n i d refl)
      to (slab_of j) x n e =
          ⊎_elim (λ (is, f). absurd (none_some f)) (λ (o, f). (slab_of j, λ q. o (ap depth_of q), f, λ block r. k.others.slabs j block o r))
          (key_slab key empty at j x e)
      to (page_of j i) x n e =
          ⊎_elim (λ (is, f). absurd (none_some f))
          (λ (o, f). (page_of j i, λ q. (let z = ap kind_of q in omega arith), f, λ block r. k.others.pages j i block o r))
          (key_page key empty at j i x e)

  -- The first of some pages is given up: the others have an index less.
  first_gone : (plain : PlainSpace) (s : Space) (at : ℕ → Place) (c c' : Contents) (p : Page) (ps : List Page) → at key ≡ pages (p ∷ ps)
      → Gone key c c'
      → Good plain at held → AgreesSpace plain s at held c
      → Given (freed page_class p.off plain) (release (record { class = page_class; off = p.off } ∷ []) s) (at_key key (pages ps) at)
      held c' (length s.body)
  unfolding has page_no
  first_gone plain s at c c' p ps is k g a =
      let mine : has plain at held (page_of key 0) ≡ some (record { class = page_class; off = p.off }) = ap (page_in 0) is in
      let st = g.apart.stands (page_of key 0) (record { class = page_class; off = p.off }) mine in
      record {
        agrees = push_agrees plain s at (at_key key (pages ps) at) held held c c' (page_of key 0) page_class p.off (omega arith) g a
            (λ i d q. (let z = ap kind_of q in omega arith)) mine to;
        size = release_long page_class p.off s (omega (
          arith,
          block_ends (record { class = page_class; off = p.off }) plain.mark st,
          a.within,
        ));
      }
    where
      to : (v : Owner) (x : Block) → ((i d : ℕ) → v ≢ stack i d) → has plain (at_key key (pages ps) at) held v ≡ some x
          → FromOther plain at held c (page_of key 0) x (BlockReads plain c' v)
      to hand x n e = (hand, λ q. (let z = ap kind_of q in omega arith), e, λ block r. k.in_hand block r)
      to (stack i d) x n e = absurd (n i d refl)
      to (slab_of j) x n e =
          ⊎_elim (λ (same, f). absurd (none_some f))
          (λ (o, f). (slab_of j, λ q. (let z = ap kind_of q in omega arith), f, λ block r. k.others.slabs j block o r))
          (key_slab key (pages ps) at j x e)
      to (page_of j i) x n e =
          ⊎_elim
          (λ (same, f). (
            page_of key (suc i),
            λ q. (let z = ap depth_of q in omega arith),
            ap (page_in (suc i)) is ∙ f,
            λ block r.
                subst (λ (h : ℕ). c'.pages h i block) (sym same) (k.any i block),
          ))
          (λ (o, f). (page_of j i, λ q. o cc, f, λ block r. k.others.pages j i block o r))
          (key_page key (pages ps) at j i x e)

  -- Pages are given up, the first first.
  pages_gone : (ps : List Page) (plain : PlainSpace) (s : Space) (at : ℕ → Place) (c c' : Contents) → at key ≡ pages ps → Gone key c c'
      → Good plain at held
      → AgreesSpace plain s at held c → Given (freed_pages ps plain) (release (page_blocks (offs_of ps)) s) (at_key key empty at) held c'
      (length s.body)
  unfolding freed_pages offs_of page_blocks
  pages_gone [] plain s at c c' is k g a = rw (release_none s) (record { agrees = bare_gone plain s at c c' k a; size = refl })
  pages_gone (p ∷ ps) plain s at c c' is k g a =
      let one = first_gone plain s at c c' p ps is k g a in
      let all = pages_gone ps (freed page_class p.off plain) (release (record { class = page_class; off = p.off } ∷ []) s)
      (at_key key (pages ps) at) c' c' (rw (eq-eqb key key refl))
      (record { others = record { slabs = λ j block n r. r; pages = λ j i block n r. r }; in_hand = λ block r. r; any = k.any })
      (good_first_freed plain at held key p ps is g) one.agrees in
      rw (release_first (record { class = page_class; off = p.off }) (page_blocks (offs_of ps)) s)
      (record {
        agrees = subst (λ (f : ℕ → Place). AgreesSpace (freed_pages ps (freed page_class p.off plain))
            (release (page_blocks (offs_of ps)) (release (record { class = page_class; off = p.off } ∷ []) s)) f held c')
            (at_twice key (pages ps) empty at) all.agrees;
        size = all.size ∙ one.size;
      })

  -- A key's place is given up.
  pub place_gone : (place : Place) (plain : PlainSpace) (s : Space) (at : ℕ → Place) (c c' : Contents) → at key ≡ place → Gone key c c'
      → Good plain at held
      → AgreesSpace plain s at held c → Given (freed_place place plain) (release (blocks_of place) s) (at_key key empty at) held c'
      (length s.body)
  unfolding freed_place
  place_gone empty plain s at c c' is k g a = rw (release_none s) (record { agrees = bare_gone plain s at c c' k a; size = refl })
  place_gone inline plain s at c c' is k g a = rw (release_none s) (record { agrees = bare_gone plain s at c c' k a; size = refl })
  place_gone (slab class off kept) plain s at c c' is k g a = slab_gone plain s at c c' class off (ap slab_at is) k g a
  place_gone (pages ps) plain s at c c' is k g a = pages_gone ps plain s at c c' is k g a

-- ---- a drop

-- What a drop of a key leaves unsaid: its blocks.
pub gone_placed : (plain : PlainBook) (key : ℕ) (R : List ℕ → Type 0)
    → Gone key (with_hand R (contents_of plain)) (with_hand R (placed_contents plain key 0 empty))
gone_placed plain key R =
    let kept = others_kept plain key (places plain) (with_hand R (contents_of plain)) (meanwhile_first plain key R) 0 empty in
    record {
      others = record { slabs = kept.slabs; pages = kept.pages };
      in_hand = λ block r. r;
      any = λ i block. rw (eq-eqb key key refl) tt;
    }

module _ (plain : PlainBook) (b : Book) (key : ℕ) (g : GoodPlain plain) (a : Agrees plain b) (low : key < length plain.keys)
    (shape : out_of_shape plain.size (length plain.keys) ≡ false) (h : AgreesInside plain b) where
  -- the key's desk, and its pages
  abbrev own : ℕ
  own = desk_in plain key

  abbrev given : ℕ
  given = pages_of (key_of key plain).place

  known : own < desks
  known = key_desk plain key g.desks

  -- The pages that are given back are its desk's, so that the drop goes on.
  back_passes : {A : Type 0} (after : List ℕ → Answer A)
      → given_back (length b.space.body) own given b.counts after ≡ after (counts_back own given b.counts)
  unfolding given_back
  back_passes {A} after = go (eqb given 0)
    where
      fine : counts_high (length b.space.body) b.counts ≡ false
      fine = rw a.size (counts_fine plain b.counts g.desks h.counts)

      enough : ltb (held_count own b.counts) given ≡ false
      enough =
          le-ltb (held_count own b.counts) given (let e = held_same plain b.counts key known h.counts in let o = own_held plain key
          g.desks low in omega arith)

      go : (t : Bool) → cond t (after b.counts) (refuse_if (counts_high (length b.space.body) b.counts) shape_bad
          (refuse_if (ltb (held_count own b.counts) given) key_unsound
          (after (counted (freed_count b.counts + given) own (held_count own b.counts - given) b.counts))))
          ≡ after (cond t b.counts (counted (freed_count b.counts + given) own (held_count own b.counts - given) b.counts))
      go true = refl
      go false = refuse_no _ shape_bad _ fine ∙ refuse_no _ key_unsound _ enough

  -- The counts tell of what is given back.
  back_counts : AgreesCounts (with_key key empty_key (freed_place (key_of key plain).place plain.space) plain)
      (counts_back own given b.counts)
  back_counts = go (eqb given 0) refl
    where
      more : freed_in (freed_place (key_of key plain).place plain.space) ≡ freed_in plain.space + given
      more = (place_back (key_of key plain).list (key_of key plain).place plain.space (g.keys key).fits g.space.nine).more

      go : (t : Bool) → eqb given 0 ≡ t → AgreesCounts (with_key key empty_key (freed_place (key_of key plain).place plain.space) plain)
          (cond t b.counts (counted (freed_count b.counts + given) own (held_count own b.counts - given) b.counts))
      go true e =
          let none' = eqb-true given 0 e in
          counts_stay plain b.counts key known h.counts empty_key (freed_place (key_of key plain).place plain.space)
          (let m = more in omega arith) (sym none')
      go false e =
          let held = held_same plain b.counts key known h.counts in
          let freed = h.counts.freed in
          let f : freed_count b.counts + given ≡ freed_in (freed_place (key_of key plain).place plain.space) = omega (arith, more) in
          counts_placed plain b.counts key known h.counts empty_key (freed_place (key_of key plain).place plain.space) _ _ f
          (omega arith)

-- The two books answer a drop alike.
pub drop_step : (plain : PlainBook) (b : Book) (key : ℕ) → GoodPlain plain → Agrees plain b
    → Alike (plain_does plain (drop key)) (does plain.desks b (drop key))
unfolding plain_does does plain_drops drops head_of dropped
drop_step plain b key g a =
    alike_on_key plain b key _ (λ desk. and_then (content (seen b.space) (word_of key b)) (dropped desk b key)) g a
    (λ shape h low.
    let k = place_gone key none (places plain key) plain.space b.space (places plain) (contents_of plain)
    (placed_contents plain key 0 empty) refl
    (gone_placed plain key (λ block. Unit {0})) g.space h.space in
    rw (then_yes _ (dropped (desk_in plain key) b key) (content_agrees plain b g shape h key), back_passes plain b key g a low shape h _)
    (told_alike refl
    (agrees_placed plain key [] empty true (freed_place (places plain key) plain.space) low b
    (release (blocks_of (places plain key)) b.space) (counts_back (desk_in plain key) (pages_of (places plain key)) b.counts) a shape
    k.size
    k.agrees (back_counts plain b key g a low shape h))))
