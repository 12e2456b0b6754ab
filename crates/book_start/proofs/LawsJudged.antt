-- The judgement of a book: it is good exactly where the book is a good start, and tells the units that belong to nobody. Assumes nothing.
use Prim.Native.Nat.{ℕ, zero, suc, ◌+◌, ◌-◌, ◌*◌, ◌/◌, ◌≤◌, ◌<◌}
use mathlib.Core.Bool.{false, ◌||◌}
use mathlib.Core.List.{List, [], ◌∷◌}
use mathlib.Core.Path.{◌≡◌, refl, sym, ap, ◌∙◌}
use native.Mathlib.Nat.{zero-add}
use native.Mathlib.Omega.{arith}
use lib.Dec.{ltb}
use lib.ListN.{length, get_or}
use borrow.Author.Tests.{le-ltb}
use Rattle.error.specs.Refusal.{Answer, accepted, refused, shape_bad, desks_bad, list_too_short}
use Rattle.error.proofs.LawsAnswer.{accepted_inj, refuse_no, passed, neither}
use Rattle.scripthash_free.specs.FreeList.{Block, Each}
use Rattle.book_desks.specs.Desks.{list_bad}
use Rattle.book_desks.specs.Counts.{count_words, counts_high}
use Rattle.book_space.specs.Space.{Space, shape_broken}
use Rattle.book_space.proofs.LawsShape.{shape_holds}
use Rattle.book_keys.specs.Keys.{Content, content}
use Rattle.book.specs.Book.{Book, seen}
use Rattle.book_start.specs.Start.{blocks_at, bytes_taken, blocks_in, held_by, followed_from, freed_by, blocks_of, GoodBlocks, GoodStart}
use Rattle.book_start.specs.Start.{Verdict, good, key_unsound, key_shares, free_strays, free_shares, Claim, claimed, unfit, shared}
use Rattle.book_start.specs.Start.{claim_all, claim_content, claim_freed, onward, judge_lists, judge_keys, blocks_verdict, counts_behind}
use Rattle.book_start.specs.Start.{verdict_of, judges}
use Rattle.book_start.specs.Covered.{lost_in}
use Rattle.book_start.proofs.LawsClaims.{Claims, Cross, claim_none, claim_both, claims_left, claims_apart, apart_claims}
use Rattle.book_start.proofs.LawsCovered.{whole_units, claimed_bytes}
use Rattle.book_start.proofs.LawsCounts.{counts_good, good_counts, behind_good}
use Rattle.book_start.proofs.LawsFreed.{Ending, freed_claimed, claimed_freed, followed_few}

-- ---- going on

-- A verdict behind a claim is good only where the claim stands, and what comes behind it is good.
pub went_onward : (c : Claim) (if_unfit if_shared : Verdict) (after : List Block → Verdict) {n : ℕ}
    → onward c if_unfit if_shared after ≡ good n
    → (if_unfit ≡ good n → ⊥) → (if_shared ≡ good n → ⊥) → (bs : List Block) × (c ≡ claimed bs) × (after bs ≡ good n)
unfolding onward
went_onward (claimed bs) if_unfit if_shared after e not_unfit not_shared = (bs, refl, e)
went_onward unfit if_unfit if_shared after e not_unfit not_shared = absurd (not_unfit e)
went_onward shared if_unfit if_shared after e not_unfit not_shared = absurd (not_shared e)

-- The verdict behind a claim that stands.
pub onward_yes : (c : Claim) (if_unfit if_shared : Verdict) (after : List Block → Verdict) {bs : List Block} → c ≡ claimed bs
    → onward c if_unfit if_shared after ≡ after bs
unfolding onward
onward_yes c if_unfit if_shared after e = rw e

-- A fault isn't good.
no_fault : (k n : ℕ)
    → ((key_unsound k ≡ good n → ⊥) × (key_shares k ≡ good n → ⊥) × (free_strays k ≡ good n → ⊥) × (free_shares k ≡ good n → ⊥))
no_fault k n = (
  λ e. let z : ◌≡◌ {A = ℕ} 0 1 = cc in omega arith,
  λ e. let z : ◌≡◌ {A = ℕ} 0 1 = cc in omega arith,
  λ e. let z : ◌≡◌ {A = ℕ} 0 1 = cc in omega arith,
  λ e. let z : ◌≡◌ {A = ℕ} 0 1 = cc in omega arith,
)

-- The units below the mark that some claims leave.
abbrev left_by : Space → List Block → ℕ
left_by s claims = (s.mark - (4096 + bytes_taken claims)) / 16

-- ---- free lists

-- Some free lists, by their heads, the first of the given class, end, and hold only blocks that stand.
abbrev pub ListsEnd : Space → ℕ → List ℕ → Type 0
ListsEnd s class hs = (i : ℕ) → i < length hs → Ending s (class + i) (get_or hs i 0) (followed_from s (get_or hs i 0))

-- The first of some free lists, and the others.
lists_more : (s : Space) (class h : ℕ) (hs : List ℕ) → Ending s class h (followed_from s h) → ListsEnd s (class + 1) hs
    → ListsEnd s class (h ∷ hs)
lists_more s class h hs one more zero l = let same : class + 0 ≡ class = omega arith in rw same one
lists_more s class h hs one more (suc i) l = let same : class + suc i ≡ class + 1 + i = omega arith in rw same (more i (omega arith))

lists_rest : (s : Space) (class h : ℕ) (hs : List ℕ) → ListsEnd s class (h ∷ hs) → ListsEnd s (class + 1) hs
lists_rest s class h hs all i l = let same : class + 1 + i ≡ class + suc i = omega arith in rw same (all (suc i) (omega arith))

lists_first : (s : Space) (class h : ℕ) (hs : List ℕ) → ListsEnd s class (h ∷ hs) → Ending s class h (followed_from s h)
lists_first s class h hs all = let same : class + 0 ≡ class = omega arith in rw same at (all 0 (omega arith))

-- Free lists that are judged good end, and their blocks are claimed; the figure is what all claims leave.
pub lists_good : (s : Space) (class : ℕ) (hs : List ℕ) (before : List Block) (n : ℕ) → s.mark ≤ length s.body
    → judge_lists s class hs before ≡ good n
    → ListsEnd s class hs × ((c : Claims before (freed_by s class hs)) × (n ≡ left_by s c.after))
unfolding judge_lists freed_by
lists_good s class [] before n within e =
    (λ i l. absurd (omega arith), (record { after = before; is = claim_none before }, (let same : n ≡ left_by s before = cc in same)))
lists_good s class (h ∷ hs) before n within e =
    let f = no_fault class n in
    let w = went_onward (claim_freed (s.mark / 16) s class before h) _ _ _ e f.2 f.3 in
    let one = freed_claimed (s.mark / 16) s class before h within w.1 in
    let rest = lists_good s (class + 1) hs w.0 n within w.2 in (
      lists_more s class h hs one.ends rest.0,
      (
        record {
          after = rest.1.0.after;
          is = claim_both before (blocks_at class (followed_from s h)) (freed_by s (class + 1) hs) one.is
              ∙ rest.1.0.is;
        },
        rest.1.1,
      ),
    )

-- Free lists that end, with blocks that are claimed, are judged good, with what all claims leave.
pub good_lists : (s : Space) (class : ℕ) (hs : List ℕ) (before : List Block) → ListsEnd s class hs
    → (c : Claims before (freed_by s class hs)) → judge_lists s class hs before ≡ good (left_by s c.after)
unfolding judge_lists freed_by
good_lists s class [] before ends c = let same : before ≡ c.after = let e = c.is in let n = claim_none before in cc in rw same
good_lists s class (h ∷ hs) before ends c =
    let one = claims_left before (blocks_at class (followed_from s h)) (freed_by s (class + 1) hs) c in
    let is = claimed_freed (s.mark / 16) s class before h (followed_from s h) (followed_few (s.mark / 16) s.body h)
    (lists_first s class h hs ends) one.is in
    onward_yes (claim_freed (s.mark / 16) s class before h) _ _ _ is
    ∙ good_lists s (class + 1) hs one.after (lists_rest s class h hs ends)
    (record {
      after = c.after;
      is = sym (claim_both before (blocks_at class (followed_from s h)) (freed_by s (class + 1) hs) one.is)
          ∙ c.is;
    })

-- ---- keys

-- A sound key.
abbrev pub Sound : Space → ℕ → Type 0
Sound s word = (c : Content) × (content (seen s) word ≡ accepted c)

-- The keys with these head words are sound.
abbrev pub KeysSound : Space → List ℕ → Type 0
KeysSound s ws = (i : ℕ) → i < length ws → Sound s (get_or ws i 0)

keys_more : (s : Space) (w : ℕ) (ws : List ℕ) → Sound s w → KeysSound s ws → KeysSound s (w ∷ ws)
keys_more s w ws one more zero l = one
keys_more s w ws one more (suc i) l = more i (omega arith)

-- A key whose blocks are claimed is sound.
content_claimed : (before : List Block) (a : Answer Content) {after : List Block} → claim_content before a ≡ claimed after
    → ((c : Content) × (a ≡ accepted c)) × (claim_all before (blocks_in a) ≡ claimed after)
unfolding claim_content blocks_in
content_claimed before (accepted c) e = ((c, refl), e)
content_claimed before (refused number) e = let z : ◌≡◌ {A = ℕ} 0 1 = cc in absurd (omega arith)

-- The blocks of a sound key are claimed as they are.
pub claimed_content : (before : List Block) (a : Answer Content) {c : Content} → a ≡ accepted c
    → claim_content before a ≡ claim_all before (blocks_in a)
unfolding claim_content blocks_in
claimed_content before a e = rw e

-- Keys that are judged good are sound, and their blocks are claimed, and then the free lists are judged good.
pub record KeysGood (s : Space) (ws : List ℕ) (before : List Block) (n : ℕ) : Type 0 where
  pub sound : KeysSound s ws
  pub held : Claims before (held_by s ws)
  pub lists : judge_lists s 0 s.free held.after ≡ good n

pub keys_good : (s : Space) (key : ℕ) (ws : List ℕ) (before : List Block) (n : ℕ) → judge_keys s key ws before ≡ good n
    → KeysGood s ws before n
unfolding judge_keys held_by
keys_good s key [] before n e =
    record { sound = λ i l. absurd (omega arith); held = record { after = before; is = claim_none before }; lists = e }
keys_good s key (w ∷ ws) before n e =
    let f = no_fault key n in
    let g = went_onward (claim_content before (content (seen s) w)) _ _ _ e f.0 f.1 in
    let one = content_claimed before (content (seen s) w) g.1 in
    let rest = keys_good s (key + 1) ws g.0 n g.2 in
    record {
      sound = keys_more s w ws one.0 rest.sound;
      held = record {
        after = rest.held.after;
        is = claim_both before (blocks_in (content (seen s) w)) (held_by s ws) one.1
            ∙ rest.held.is;
      };
      lists = rest.lists;
    }

-- Sound keys with blocks that are claimed are judged by the free lists behind them.
pub good_keys : (s : Space) (key : ℕ) (ws : List ℕ) (before : List Block) → KeysSound s ws → (c : Claims before (held_by s ws))
    → judge_keys s key ws before ≡ judge_lists s 0 s.free c.after
unfolding judge_keys held_by
good_keys s key [] before sound c = let same : before ≡ c.after = let e = c.is in let n = claim_none before in cc in rw same
good_keys s key (w ∷ ws) before sound c =
    let one = claims_left before (blocks_in (content (seen s) w)) (held_by s ws) c in
    onward_yes (claim_content before (content (seen s) w)) _ _ _ (claimed_content before (content (seen s) w) (sound 0 (omega arith)).1
    ∙ one.is)
    ∙ good_keys s (key + 1) ws one.after (λ i l. sound (suc i) (omega arith))
    (record { after = c.after; is = sym (claim_both before (blocks_in (content (seen s) w)) (held_by s ws) one.is) ∙ c.is })

-- ---- a book

-- Nothing is crossed before the first claim.
cross_none : (xs : List Block) → Cross xs []
unfolding Each
cross_none [] = tt
cross_none (x ∷ xs) = (tt, cross_none xs)

-- What the claims of all blocks of a book in shape leave is what belongs to nobody, in whole units.
left_lost : (b : Book) → shape_broken b.space (length b.heads) ≡ false → (c : Claims [] (blocks_of b))
    → left_by b.space c.after * 16 ≡ lost_in b
unfolding lost_in bytes_taken
left_lost b shape c =
    let whole = (shape_holds b.space (length b.heads) shape).0.aligned in
    let units = whole_units (blocks_of b) in
    let all = claimed_bytes [] (blocks_of b) c.after c.is in
    omega arith

module _ (b : Book) (nine : length b.space.free ≡ 9) where
  -- A book in shape that is judged good is a good start, and the figure is what belongs to nobody.
  pub judged_start : (n : ℕ) → shape_broken b.space (length b.heads) ≡ false → blocks_verdict b ≡ good n
      → GoodBlocks b × (n * 16 ≡ lost_in b)
  unfolding blocks_verdict
  judged_start n shape e =
      let within = (shape_holds b.space (length b.heads) shape).0.within in
      let k = keys_good b.space 0 b.heads [] n e in
      let l = lists_good b.space 0 b.space.free k.held.after n within k.lists in
      let all : Claims [] (blocks_of b)
      = record {
        after = l.1.0.after;
        is = claim_both [] (held_by b.space b.heads) (freed_by b.space 0 b.space.free) k.held.is ∙ l.1.0.is;
      } in (
        record {
          shape = shape;
          nine = nine;
          sound = k.sound;
          ends = λ class h. (l.0 class (omega arith)).names;
          stand = λ class h. rw (zero-add class) at (l.0 class (omega arith)).stand;
          apart = (claims_apart [] (blocks_of b) all).1;
        },
        ap (λ (k : ℕ). k * 16) l.1.1 ∙ left_lost b shape all,
      )

-- A good start is judged good, with what belongs to nobody.
pub start_judged : (b : Book) → GoodBlocks b → blocks_verdict b ≡ good (lost_in b / 16)
unfolding blocks_verdict
start_judged b g =
    let held = held_by b.space b.heads in
    let freed = freed_by b.space 0 b.space.free in
    let all = apart_claims [] (blocks_of b) (cross_none (blocks_of b)) g.apart in
    let keys = claims_left [] held freed all in
    good_keys b.space 0 b.heads [] g.sound keys
    ∙ good_lists b.space 0 b.space.free keys.after
    (λ class h. record {
      names = g.ends class (omega (arith, g.nine));
      stand = rw (zero-add class) (g.stand class (omega
          (arith, g.nine)));
    })
    (record { after = all.after; is = sym (claim_both [] held freed keys.is) ∙ all.is })
    ∙ ap good (let e = left_lost b g.shape all in let n : left_by b.space all.after ≡ lost_in b / 16 = omega arith in n)

-- With a work list that is long enough, the call accepts a book as good exactly where it is a good start, and tells exactly the units that
-- belong to nobody.
module _ (ds : List ℕ) (b : Book) (room : ℕ) where
  pub judges_start : (n : ℕ) → length b.space.free ≡ 9 → length b.counts ≡ count_words → judges ds b room ≡ accepted (good n)
      → GoodStart ds b × (n * 16 ≡ lost_in b)
  unfolding judges verdict_of
  judges_start n nine words e =
      let p = passed (shape_broken b.space (length b.heads) || counts_high (length b.space.body) b.counts) shape_bad _ e in
      let (shape, low) = neither (shape_broken b.space (length b.heads)) (counts_high (length b.space.body) b.counts) p.0 in
      let q = passed (list_bad ds (length b.heads)) desks_bad _ p.1 in
      let r = passed (ltb room (length b.space.body / 128)) list_too_short _ q.1 in
      let (lost, blocks, counts) = behind_good ds b (blocks_verdict b) n (accepted_inj r.1) in
      let (g, units) = judged_start b nine lost shape blocks in
      let (c, same) = counts_good ds b lost n words low q.0 counts in
      (record { blocks = g; counts = c }, rw (← same) units)

  pub start_judges : length b.space.body / 128 ≤ room → GoodStart ds b → judges ds b room ≡ accepted (good (lost_in b / 16))
  unfolding judges verdict_of counts_behind
  start_judges long g =
      refuse_no _ shape_bad _ (rw g.blocks.shape g.counts.low)
      ∙ refuse_no (list_bad ds (length b.heads)) desks_bad _ g.counts.named
      ∙ refuse_no (ltb room (length b.space.body / 128)) list_too_short _ (le-ltb room (length b.space.body / 128) long)
      ∙ ap accepted (rw (start_judged b g.blocks) (good_counts ds b (lost_in b / 16) g.counts))
