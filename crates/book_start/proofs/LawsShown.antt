-- Claiming blocks in a work list: a turn of each loop over blocks, and its ends. Assumes nothing.
use Prim.Native.Nat.{ℕ, zero, suc, ◌+◌, ◌-◌, ◌*◌, ◌≤◌, ◌<◌}
use mathlib.Core.Bool.{Bool, true, false, cond, not}
use mathlib.Core.List.{List, [], ◌∷◌}
use mathlib.Core.Logic.{⊎_elim}
use mathlib.Core.Path.{◌≡◌, refl, sym, ap, subst, ◌∙◌}
use native.Mathlib.Nat.{le_refl}
use native.Mathlib.Omega.{arith}
use borrow.Author.Tests.{not-true, not-false}
use lib.ListN.{length}
use Rattle.error.proofs.LawsAnswer.{refused≢accepted}
use Rattle.error.specs.Refusal.{Answer, accepted, refused}
use Rattle.scripthash_layout.specs.Sizes.{slab_bytes, page_class}
use Rattle.scripthash_stream.specs.Stream.{Scan, last_from}
use Rattle.scripthash_fields.specs.Page.{link_of, link_offset}
use Rattle.scripthash_free.specs.FreeList.{Block, Each, is_block, next_of}
use Rattle.scripthash_free.proofs.LawsBlock.{block_stands, bytes_from_16}
use Rattle.book_space.specs.Space.{Space}
use Rattle.book_keys.specs.Keys.{soundly, page_at, link_scan, Chain, page_then, walk, Content, page_blocks, Ground}
use Rattle.book_keys.proofs.LawsPages.{link_sound}
use Rattle.book_keys.proofs.LawsWalk.{Ends, GoesOn, walk_step}
use Rattle.book_keys.specs.Steps.{PagesLeft}
use Rattle.book_start.specs.Start.{AllApart, Stands, block, bytes_taken, shares_one, Claim, claimed, unfit, claim_all, claim_content}
use Rattle.book_start.specs.Start.{claim_freed}
use Rattle.book_start.specs.Units.{units_free, marked, claim_units, mark_all, cleared, Marked, Shows, ClaimsAs}
use Rattle.std.specs.Prelude.{Ok, Err}
use Rattle.book_start.specs.declared.claiming.ClaimFault.TheVariants.{Unfit, Shared}
use Rattle.book_start.proofs.LawsClaims.{alone_each, claim_none, claim_step, claim_shared}
use Rattle.book_start.proofs.LawsCovered.{room_for, stand_within}
use Rattle.book_start.proofs.LawsFreed.{freed_end, freed_unfit, freed_shared, freed_step, freed_none_left}
use Rattle.book_start.proofs.LawsUnits.{placed, placed_all, length_mark_all, length_cleared, free_exactly}

-- ---- one block

module _ (units mark : ℕ) (lent : List ℕ) (claims : List Block) (work : List ℕ) (m : Marked units mark lent claims work) where
  -- A work list that shows claims is as long as the lent one.
  pub shown_length : length work ≡ length lent
  shown_length =
      let n = length_cleared units lent m.long in
      ap length m.is ∙ length_mark_all units claims (cleared units lent) (placed_all units mark claims m.fits m.stand) (omega
      (arith, m.long)) ∙ n

  -- The claims take no more bytes than lie between 4,096 and the mark.
  pub shown_room : 4096 + bytes_taken claims ≤ mark
  shown_room = room_for (length claims) 4096 mark claims (le_refl _) m.from m.apart (stand_within mark claims m.stand)

  module _ (x : Block) (stands : Stands mark x) where
    -- Units that are free tell that no byte is shared.
    free_told : units_free x work ≡ not (shares_one x claims)
    free_told =
        ap (units_free x) m.is
        ∙ free_exactly units x claims lent (placed units mark x m.fits stands) (placed_all units mark claims m.fits m.stand)
        m.long

    -- A block whose units are free shares no byte, and the work list then shows it too.
    pub claim_yes : (after : List ℕ) → units_free x work ≡ true → after ≡ claim_units x work
        → (shares_one x claims ≡ false) × Marked units mark lent (x ∷ claims) after
    unfolding claim_units mark_all Each AllApart
    claim_yes after free e =
        let alone = not-true (shares_one x claims) (sym free_told ∙ free) in (
          alone,
          record {
            from = m.from;
            fits = m.fits;
            long = m.long;
            stand = (stands, m.stand);
            apart = (alone_each x claims alone, m.apart);
            is = e ∙ ap (λ (t : Bool). cond t (marked x work) work) free ∙ ap (marked x) m.is;
          },
        )

    -- A block with a unit that is taken shares a byte, and the work list stays.
    pub claim_no : (after : List ℕ) → units_free x work ≡ false → after ≡ claim_units x work
        → (shares_one x claims ≡ true) × Marked units mark lent claims after
    unfolding claim_units
    claim_no after free e = (
      not-false (shares_one x claims) (sym free_told ∙ free),
      record {
        from = m.from;
        fits = m.fits;
        long = m.long;
        stand = m.stand;
        apart = m.apart;
        is = e ∙ ap (λ (t : Bool). cond t (marked x work) work) free ∙ m.is;
      },
    )

-- The units below the mark lie in a work list that shows claims.
pub shown_long : (mark : ℕ) (work : List ℕ) → Shows mark work → mark ≤ 16 * length work
shown_long mark work w =
    let m = w.shows in
    let f = m.fits in
    let l = m.long in
    let n = shown_length w.units mark w.lent w.claims work m in
    omega arith

-- ---- a key

-- What claiming a key gives that isn't sound, and that is.
pub content_unfit : (claims : List Block) (a : Answer Content) {number : ℕ} → a ≡ refused number → claim_content claims (soundly a) ≡ unfit
unfolding claim_content soundly
content_unfit claims a e = rw e

pub content_fit : (claims : List Block) (a : Answer Content) {c : Content} → a ≡ accepted c
    → claim_content claims (soundly a) ≡ claim_all claims c.blocks
unfolding claim_content soundly
content_fit claims a e = rw e

-- What claiming a key gives whose word tells no place.
pub word_unfit : (claims : List Block) (a : Answer Content) {number : ℕ} → a ≡ refused number → claim_content claims a ≡ unfit
unfolding claim_content
word_unfit claims a e = rw e

-- A key without blocks is claimed as it is.
pub claims_nothing : (units mark : ℕ) (lent : List ℕ) (want : Claim) (claims : List Block) (work : List ℕ)
    → Marked units mark lent claims work
    → want ≡ claim_all claims []
    → ClaimsAs units mark lent claims want (Ok 0) work
claims_nothing units mark lent want claims work m e =
    record { claims = claims; shows = m; told = e ∙ claim_none claims; took = omega arith }

-- A key that isn't sound is unfit.
pub claims_unfit : (units mark : ℕ) (lent : List ℕ) (want : Claim) (claims : List Block) (work : List ℕ)
    → Marked units mark lent claims work
    → want ≡ unfit
    → ClaimsAs units mark lent claims want (Err Unfit) work
claims_unfit units mark lent want claims work m e = record { claims = claims; shows = m; told = e; took = tt }

-- A key with one block.
module _ (units mark : ℕ) (lent : List ℕ) (want : Claim) (claims : List Block) (work : List ℕ) (m : Marked units mark lent claims work)
    (x : Block) (stands : Stands mark x) (is : want ≡ claim_all claims (x ∷ [])) (after : List ℕ) (e : after ≡ claim_units x work) where
  pub one_claimed : (taken : ℕ) → slab_bytes x.class ≡ 16 * taken → units_free x work ≡ true
      → ClaimsAs units mark lent claims want (Ok taken) after
  unfolding bytes_taken
  one_claimed taken size free =
      let y = claim_yes units mark lent claims work m x stands after free e in
      record {
        claims = x ∷ claims;
        shows = y.1;
        told = is ∙ claim_step claims x [] y.0 ∙ claim_none (x ∷ claims);
        took = omega arith;
      }

  pub one_shared : units_free x work ≡ false → ClaimsAs units mark lent claims want (Err Shared) after
  one_shared free =
      let y = claim_no units mark lent claims work m x stands after free e in
      record { claims = claims; shows = y.1; told = is ∙ claim_shared claims x [] y.0; took = tt }

-- The units of a block below the mark lie in the work list.
pub block_fits : (mark class off n : ℕ) → mark ≤ 16 * n → is_block class off mark ≡ true → off + slab_bytes class ≤ 16 * n
block_fits mark class off n long stands = let e = (block_stands class off mark stands).ends in omega arith

-- ---- pages

-- A turn of going over the pages that are left: the first stands below the mark, and the others are left behind it.
pub record PageTurn (s : Ground) (off left : ℕ) (offs : List ℕ) : Type 0 where
  pub stands : is_block page_class off s.mark ≡ true
  pub behind : List ℕ
  pub whole : offs ≡ off ∷ behind
  pub rest : PagesLeft s (link_offset (link_of (page_at s off))) (left - 1) behind

walk_turn : (k : ℕ) (s : Ground) (last prev off left : ℕ) (offs : List ℕ) (c : Chain) → walk k s last prev off ≡ accepted c → c.offs ≡ offs
    → s.mark ≤ length s.body → length offs ≡ left → PageTurn s off left offs
unfolding walk page_then
walk_turn zero s last prev off left offs c e met within count = absurd (refused≢accepted e)
walk_turn (suc k) s last prev off left offs c e met within count =
    let w = walk_step k s last prev off c e in ⊎_elim (by_end w.page w.is) (by_rest w.page w.is) w.goes
  where
    by_end : (p : Scan) → link_scan s prev off ≡ accepted p → Ends s last off p c → PageTurn s off left offs
    by_end p is d =
        let all : offs ≡ off ∷ [] = sym met ∙ ap (λ (x : Chain). x.offs) d.whole in
        let one = ap length all in
        record {
          stands = (link_sound s prev off p is).stands;
          behind = [];
          whole = all;
          rest = record { within = within; count = omega arith; rest = λ h. absurd (omega arith) };
        }

    by_rest : (p : Scan) → link_scan s prev off ≡ accepted p → GoesOn k s last prev off p c → PageTurn s off left offs
    by_rest p is g =
        let all : offs ≡ off ∷ g.rest.offs = sym met ∙ ap (λ (x : Chain). x.offs) g.whole in
        let more = ap length all in
        record {
          stands = (link_sound s prev off p is).stands;
          behind = g.rest.offs;
          whole = all;
          rest = record {
            within = within;
            count = omega arith;
            rest = λ h. record {
              most = k;
              last = last;
              prev = last_from prev p.numbers;
              chain = g.rest;
              walks = g.walks;
              met = refl;
            };
          };
        }

pub page_turn : (s : Ground) (off left : ℕ) (offs : List ℕ) → 0 < left → PagesLeft s off left offs → PageTurn s off left offs
page_turn s off left offs h p =
    let w = p.rest h in walk_turn w.most s w.last w.prev off left offs w.chain w.walks w.met p.within p.count

-- Of so many pages some are left, and claiming them behind what the work list shows gives what is wanted; the others were claimed behind
-- what was before.
pub record PagesGo (units mark : ℕ) (lent : List ℕ) (before : List Block) (want : Claim) (s : Ground) (all off left : ℕ)
    (work : List ℕ) : Type 0 where
  pub offs : List ℕ
  pub pages : PagesLeft s off left offs
  pub claims : List Block
  pub shows : Marked units mark lent claims work
  pub gives : claim_all claims (page_blocks offs) ≡ want
  pub took : bytes_taken claims + 4096 * left ≡ bytes_taken before + 4096 * all

module _ (units : ℕ) (lent : List ℕ) (before : List Block) (want : Claim) (s : Ground) (all off left : ℕ) (work : List ℕ)
    (g : PagesGo units s.mark lent before want s all off left work) where
  module _ (more : 0 < left) (after : List ℕ) where
    -- The first of them is claimed.
    pub pages_turn : (next : ℕ) → next ≡ link_offset (link_of (page_at s off)) → units_free (block page_class off) work ≡ true
        → after ≡ claim_units (block page_class off) work
        → PagesGo units s.mark lent before want s all next (left - 1) after
    unfolding page_blocks bytes_taken
    pages_turn next there free e =
        let t = page_turn s off left g.offs more g.pages in
        let y = claim_yes units s.mark lent g.claims work g.shows (block page_class off) t.stands after free e in
        record {
          offs = t.behind;
          pages = subst (λ (n : ℕ). PagesLeft s n (left - 1) t.behind) (sym there) t.rest;
          claims = block page_class off ∷ g.claims;
          shows = y.1;
          gives = sym (claim_step g.claims (block page_class off) (page_blocks t.behind) y.0)
              ∙ ap (λ (os : List ℕ). claim_all g.claims (page_blocks os)) (sym t.whole)
              ∙ g.gives;
          took = let e = g.took in omega arith;
        }

    -- The first of them shares a byte.
    pub pages_shared : units_free (block page_class off) work ≡ false → after ≡ claim_units (block page_class off) work
        → ClaimsAs units s.mark lent before want (Err Shared) after
    unfolding page_blocks
    pages_shared free e =
        let t = page_turn s off left g.offs more g.pages in
        let y = claim_no units s.mark lent g.claims work g.shows (block page_class off) t.stands after free e in
        record {
          claims = g.claims;
          shows = y.1;
          told = sym g.gives ∙ ap (λ (os : List ℕ). claim_all g.claims (page_blocks os)) t.whole
              ∙ claim_shared g.claims (block page_class off) (page_blocks t.behind) y.0;
          took = tt;
        }

  -- None is left: they took no more than lies below the mark,
  pub pages_few : left ≡ 0 → 4096 * all ≤ s.mark
  pages_few z = let r = shown_room units s.mark lent g.claims work g.shows in let e = g.took in omega arith

  -- and all are claimed.
  pub pages_end_lem : left ≡ 0 → ClaimsAs units s.mark lent before want (Ok (all * 256)) work
  unfolding page_blocks
  pages_end_lem z =
      record {
        claims = g.claims;
        shows = g.shows;
        told = sym g.gives ∙ none g.offs (g.pages.count ∙ z);
        took = let e = g.took in omega arith;
      }
    where
      none : (os : List ℕ) → length os ≡ 0 → claim_all g.claims (page_blocks os) ≡ claimed g.claims
      none [] e = claim_none g.claims
      none (o ∷ os) e = absurd (omega arith)

-- ---- free lists

-- A free list is followed, and claiming what is left of it behind what the work list shows gives what is wanted; so many units were taken
-- behind what was before.
pub record FreedGo (units : ℕ) (lent : List ℕ) (before : List Block) (want : Claim) (s : Space) (class off left : ℕ) (work : List ℕ)
    (taken : ℕ) : Type 0 where
  pub claims : List Block
  pub shows : Marked units s.mark lent claims work
  pub gives : claim_freed left s class claims off ≡ want
  pub took : bytes_taken claims ≡ bytes_taken before + 16 * taken

module _ (units : ℕ) (lent : List ℕ) (before : List Block) (want : Claim) (s : Space) (class off left : ℕ) (work : List ℕ) (taken : ℕ)
    (g : FreedGo units lent before want s class off left work taken) where
  -- What was taken lies below the mark.
  pub list_few : 16 * taken ≤ s.mark
  list_few = let r = shown_room units s.mark lent g.claims work g.shows in let e = g.took in omega arith

  -- It ends.
  pub list_end : off ≡ 0 → ClaimsAs units s.mark lent before want (Ok taken) work
  list_end z =
      record {
        claims = g.claims;
        shows = g.shows;
        told = sym g.gives ∙ freed_end left s class g.claims off z;
        took = g.took;
      }

  module _ (more : off ≡ 0 → ⊥) where
    -- It has more blocks than there is room for.
    pub list_long : left ≡ 0 → ClaimsAs units s.mark lent before want (Err Shared) work
    list_long z =
        record {
          claims = g.claims;
          shows = g.shows;
          told = sym g.gives ∙ ap (λ (k : ℕ). claim_freed k s class g.claims off) z ∙ freed_none_left s class g.claims off more;
          took = tt;
        }

    module _ (some : 0 < left) where
      fuel : left ≡ suc (left - 1)
      fuel = omega arith

      -- The next block is one that 35 would turn back.
      pub list_strays : is_block class off s.mark ≡ false → ClaimsAs units s.mark lent before want (Err Unfit) work
      list_strays e =
          record {
            claims = g.claims;
            shows = g.shows;
            told = sym g.gives ∙ ap (λ (k : ℕ). claim_freed k s class g.claims off) fuel
                ∙ freed_unfit (left - 1) s class g.claims off more e;
            took = tt;
          }

      module _ (stands : is_block class off s.mark ≡ true) (after : List ℕ) (e : after ≡ claim_units (block class off) work) where
        -- It shares a byte.
        pub list_shared : units_free (block class off) work ≡ false → ClaimsAs units s.mark lent before want (Err Shared) after
        list_shared free =
            let y = claim_no units s.mark lent g.claims work g.shows (block class off) stands after free e in
            record {
              claims = g.claims;
              shows = y.1;
              told = sym g.gives ∙ ap (λ (k : ℕ). claim_freed k s class g.claims off) fuel
                  ∙ freed_shared (left - 1) s class g.claims off more stands y.0;
              took = tt;
            }

        -- It is claimed.
        pub list_turn : (next : ℕ) → next ≡ next_of s.body off → units_free (block class off) work ≡ true
            → (size : ℕ) → slab_bytes class ≡ 16 * size
            → FreedGo units lent before want s class next (left - 1) after (taken + size)
        unfolding bytes_taken
        list_turn next there free size is =
            let y = claim_yes units s.mark lent g.claims work g.shows (block class off) stands after free e in
            record {
              claims = block class off ∷ g.claims;
              shows = y.1;
              gives = ap (claim_freed (left - 1) s class (block class off ∷ g.claims)) there
                  ∙ sym (freed_step (left - 1) s class g.claims off more stands y.0)
                  ∙ ap (λ (k : ℕ). claim_freed k s class g.claims off) (sym fuel)
                  ∙ g.gives;
              took = let e = g.took in omega arith;
            }

-- A block below the mark has the bytes of a link in the body.
pub link_inside : (body : List ℕ) (mark class off : ℕ) → mark ≤ length body → is_block class off mark ≡ true → off + 8 ≤ length body
link_inside body mark class off within stands =
    let e = (block_stands class off mark stands).ends in let n = bytes_from_16 class in omega arith
