-- Judging by a work list: a turn of the loop over free lists and of that over keys, and their ends. Assumes nothing.
use Prim.Native.Nat.{ℕ, ◌+◌, ◌-◌, ◌*◌, ◌/◌, ◌%◌, ◌≤◌, ◌<◌}
use mathlib.Core.Bool.{false, ◌||◌}
use mathlib.Core.List.{List, []}
use mathlib.Core.Logic.{◌≢◌}
use mathlib.Core.Path.{◌≡◌, refl, sym, ap, subst, ◌∙◌}
use native.Mathlib.Numerals.{add-one}
use native.Mathlib.Omega.{arith}
use borrow.Author.Tests.{lt-ltb, le-ltb}
use lib.Dec.{ltb}
use lib.ListN.{length, get_or, drop, replicate, drop_of_length-le}
use lib.Seq.{drop-cons}
use Rattle.error.specs.Refusal.{Answer, accepted, refused, refuse_if, shape_bad, desks_bad, list_too_short}
use Rattle.error.proofs.LawsAnswer.{refuse_yes, refuse_no, passed, neither}
use Rattle.buffer.specs.Bytes.{overwrite}
use Rattle.scripthash_free.specs.FreeList.{Block, Each}
use Rattle.book_desks.specs.Desks.{list_bad}
use Rattle.book_desks.specs.Counts.{counts_high}
use Rattle.book_space.specs.Space.{Space, shape_broken}
use Rattle.book_keys.specs.Keys.{content, body_ground}
use Rattle.book.specs.Book.{Book, with_desks}
use Rattle.book.specs.Steps.{call_number}
use Rattle.book.proofs.LawsKey.{call_on, call_off}
use Rattle.book_start.specs.Start.{AllApart, bytes_taken, Verdict, good, key_unsound, key_shares, free_strays, free_shares, Claim}
use Rattle.book_start.specs.Start.{claimed, unfit, shared}
use Rattle.book_start.specs.Start.{claim_content, claim_freed, onward, judge_lists, judge_keys, blocks_verdict, counts_verdict}
use Rattle.book_start.specs.Start.{counts_behind, verdict_of, judges}
use Rattle.book_start.specs.Answers.{ground_of, lost_of}
use Rattle.book_start.specs.Units.{units_of, cleared, mark_all, work_after, Marked, Leaves, claim_of, Took, ClaimsAs, JudgesAs}
use Rattle.std.specs.Prelude.{Result, Ok, Err}
use Rattle.book_start.specs.declared.claiming.ClaimFault.{ClaimFault}
use Rattle.book_start.specs.declared.claiming.ClaimFault.TheVariants.{Unfit, Shared}
use Rattle.book_start.specs.declared.judging.Verdict.TheVariants.{Good, KeyUnsound, KeyShares, FreeStrays, FreeShares}
use Rattle.book_start.proofs.LawsBits.{units_overwrite, units_zero, units_same}
use Rattle.book_start.proofs.LawsShown.{shown_room}
use Rattle.book_start.proofs.LawsTally.{ground_stays, groundless}
use Rattle.book_start.proofs.LawsUnits.{placed_all, cleared_again}

-- What comes behind a claim.
pub onward_is : (c d : Claim) (if_unfit if_shared : Verdict) (after : List Block → Verdict) → c ≡ d
    → onward c if_unfit if_shared after ≡ onward d if_unfit if_shared after
onward_is c d if_unfit if_shared after e = rw e

pub onward_claimed : (bs : List Block) (if_unfit if_shared : Verdict) (after : List Block → Verdict)
    → onward (claimed bs) if_unfit if_shared after ≡ after bs
unfolding onward
onward_claimed bs if_unfit if_shared after = refl

pub onward_unfit : (if_unfit if_shared : Verdict) (after : List Block → Verdict) → onward unfit if_unfit if_shared after ≡ if_unfit
unfolding onward
onward_unfit if_unfit if_shared after = refl

pub onward_shared : (if_unfit if_shared : Verdict) (after : List Block → Verdict) → onward shared if_unfit if_shared after ≡ if_shared
unfolding onward
onward_shared if_unfit if_shared after = refl

-- Claiming that is done took units that were left, and leaves the others.
pub claimed_left : (units mark : ℕ) (lent : List ℕ) (before : List Block) (want : Claim) (tells : Result ℕ ClaimFault) (work : List ℕ) (lost taken : ℕ)
    → (c : ClaimsAs units mark lent before want tells work) → tells ≡ Ok taken → Leaves mark before lost
    → (taken ≤ lost) × Leaves mark c.claims (lost - taken)
claimed_left units mark lent before want tells work lost taken c e left =
    let took : Took before c.claims (Ok taken) = subst (λ (t : Result ℕ ClaimFault). Took before c.claims t) e c.took in
    let room = shown_room units mark lent c.claims work c.shows in
    (omega arith, omega arith)

-- ---- free lists

-- Judging the free lists from a class on, after the claims that the work list shows, gives what is wanted; so many units are left.
pub record ListsGo (units : ℕ) (lent : List ℕ) (want : Verdict) (s : Space) (class : ℕ) (work : List ℕ) (lost : ℕ) : Type 0 where
  pub claims : List Block
  pub shows : Marked units s.mark lent claims work
  pub left : Leaves s.mark claims lost
  pub gives : judge_lists s class (drop class s.free) claims ≡ want

module _ (units : ℕ) (lent : List ℕ) (want : Verdict) (s : Space) (class : ℕ) (work : List ℕ) (lost : ℕ)
    (g : ListsGo units lent want s class work lost) where
  module _ (more : class < length s.free) where
    first : want ≡ onward (claim_freed (s.mark / 16) s class g.claims (get_or s.free class 0)) (free_strays class) (free_shares class)
        (λ bs. judge_lists s (class + 1) (drop (class + 1) s.free) bs)
    unfolding judge_lists
    first = sym g.gives ∙ ap (λ (hs : List ℕ). judge_lists s class hs g.claims) (drop-cons s.free class 0 more) ∙ rw (add-one class)

    module _ (after : List ℕ) (tells : Result ℕ ClaimFault)
        (c : ClaimsAs units s.mark lent g.claims (claim_freed (s.mark / 16) s class g.claims
        (get_or s.free class 0)) tells after) where
      told : want ≡ onward (claim_of tells c.claims) (free_strays class) (free_shares class) (λ bs. judge_lists s (class + 1) (drop
          (class + 1) s.free) bs)
      told = first ∙ onward_is _ _ (free_strays class) (free_shares class) _ c.told

      -- The list is claimed: what it takes was left,
      pub lists_took : (taken : ℕ) → tells ≡ Ok taken → taken ≤ lost
      lists_took taken e = (claimed_left units s.mark lent g.claims _ tells after lost taken c e g.left).0

      -- and the lists behind it are judged.
      pub lists_turn : (taken : ℕ) → tells ≡ Ok taken → ListsGo units lent want s (class + 1) after (lost - taken)
      lists_turn taken e =
          record {
            claims = c.claims;
            shows = c.shows;
            left = (claimed_left units s.mark lent g.claims _ tells after lost taken c e g.left).1;
            gives = sym (told ∙ onward_is _ _ (free_strays class) (free_shares class) _ (ap (λ (t : Result ℕ ClaimFault). claim_of t c.claims) e)
                ∙ onward_claimed c.claims (free_strays class) (free_shares class) _);
          }

      -- It has a block that 35 would turn back.
      pub lists_strays : tells ≡ Err Unfit → JudgesAs units s.mark lent want (FreeStrays class) after
      lists_strays e =
          record {
            claims = c.claims;
            shows = c.shows;
            told =
                (sym (told ∙ onward_is _ _ (free_strays class) (free_shares class) _ (ap (λ (t : Result ℕ ClaimFault). claim_of t c.claims) e)
                ∙ onward_unfit (free_strays class) (free_shares class) _));
          }

      -- It has a block that shares a byte.
      pub lists_shared : tells ≡ Err Shared → JudgesAs units s.mark lent want (FreeShares class) after
      lists_shared e =
          record {
            claims = c.claims;
            shows = c.shows;
            told =
                (sym (told ∙ onward_is _ _ (free_strays class) (free_shares class) _ (ap (λ (t : Result ℕ ClaimFault). claim_of t c.claims) e)
                ∙ onward_shared (free_strays class) (free_shares class) _));
          }

  -- No list is left.
  pub lists_end : length s.free ≤ class → JudgesAs units s.mark lent want (Good lost) work
  unfolding judge_lists
  lists_end h =
      let l = g.left in
      let rest : lost ≡ (s.mark - (4096 + bytes_taken g.claims)) / 16 = omega arith in
      record {
        claims = g.claims;
        shows = g.shows;
        told =
            (ap good rest ∙ ap (λ (hs : List ℕ). judge_lists s class hs g.claims) (sym (drop_of_length-le s.free {i = class} h))
            ∙ g.gives);
      }

-- ---- keys

-- Judging the keys from a key on, after the claims that the work list shows, gives what is wanted; so many units are left.
pub record KeysGo (units : ℕ) (lent : List ℕ) (want : Verdict) (s : Space) (heads : List ℕ) (key : ℕ) (work : List ℕ)
    (lost : ℕ) : Type 0 where
  pub claims : List Block
  pub shows : Marked units s.mark lent claims work
  pub left : Leaves s.mark claims lost
  pub gives : judge_keys s key (drop key heads) claims ≡ want

module _ (units : ℕ) (lent : List ℕ) (want : Verdict) (s : Space) (heads : List ℕ) (key : ℕ) (work : List ℕ) (lost : ℕ)
    (g : KeysGo units lent want s heads key work lost) where
  module _ (more : key < length heads) where
    first_key : want ≡ onward (claim_content g.claims (content (body_ground s.body s.mark) (get_or heads key 0))) (key_unsound key)
        (key_shares key)
        (λ bs. judge_keys s (key + 1) (drop (key + 1) heads) bs)
    unfolding judge_keys
    first_key =
        sym g.gives ∙ ap (λ (ws : List ℕ). judge_keys s key ws g.claims) (drop-cons heads key 0 more)
        ∙ rw (add-one key)

    module _ (after : List ℕ) (tells : Result ℕ ClaimFault)
        (c : ClaimsAs units s.mark lent g.claims (claim_content g.claims (content (body_ground s.body s.mark)
        (get_or heads key 0))) tells after) where
      told_key : want ≡ onward (claim_of tells c.claims) (key_unsound key) (key_shares key) (λ bs. judge_keys s (key + 1) (drop
          (key + 1) heads) bs)
      told_key = first_key ∙ onward_is _ _ (key_unsound key) (key_shares key) _ c.told

      -- The key is claimed: what it takes was left,
      pub keys_took : (taken : ℕ) → tells ≡ Ok taken → taken ≤ lost
      keys_took taken e = (claimed_left units s.mark lent g.claims _ tells after lost taken c e g.left).0

      -- and the keys behind it are judged.
      pub keys_turn : (taken : ℕ) → tells ≡ Ok taken → KeysGo units lent want s heads (key + 1) after (lost - taken)
      keys_turn taken e =
          record {
            claims = c.claims;
            shows = c.shows;
            left = (claimed_left units s.mark lent g.claims _ tells after lost taken c e g.left).1;
            gives = sym (told_key ∙ onward_is _ _ (key_unsound key) (key_shares key) _ (ap (λ (t : Result ℕ ClaimFault). claim_of t c.claims) e)
                ∙ onward_claimed c.claims (key_unsound key) (key_shares key) _);
          }

      -- It isn't sound.
      pub keys_unsound : tells ≡ Err Unfit → JudgesAs units s.mark lent want (KeyUnsound key) after
      keys_unsound e =
          record {
            claims = c.claims;
            shows = c.shows;
            told =
                (sym (told_key ∙ onward_is _ _ (key_unsound key) (key_shares key) _ (ap (λ (t : Result ℕ ClaimFault). claim_of t c.claims) e)
                ∙ onward_unfit (key_unsound key) (key_shares key) _));
          }

      -- It has a block that shares a byte.
      pub keys_shared : tells ≡ Err Shared → JudgesAs units s.mark lent want (KeyShares key) after
      keys_shared e =
          record {
            claims = c.claims;
            shows = c.shows;
            told =
                (sym (told_key ∙ onward_is _ _ (key_unsound key) (key_shares key) _ (ap (λ (t : Result ℕ ClaimFault). claim_of t c.claims) e)
                ∙ onward_shared (key_unsound key) (key_shares key) _));
          }

  -- No key is left: the free lists are judged behind them.
  pub keys_end : length heads ≤ key → ListsGo units lent want s 0 work lost
  unfolding judge_keys
  keys_end h =
      record {
        claims = g.claims;
        shows = g.shows;
        left = g.left;
        gives = ap (λ (ws : List ℕ). judge_keys s key ws g.claims) (sym (drop_of_length-le heads {i = key} h)) ∙ g.gives;
      }

-- ---- the call

module _ (ds : List ℕ) (b : Book) (work : List ℕ) where
  -- Lengths, mark, counts or the list turn it back.
  pub judges_off : call_number ds b ≢ 0 → judges ds b (length work) ≡ refused (call_number ds b)
  unfolding judges with_desks
  judges_off n =
      call_off ds b 0 (λ desk. refuse_if (ltb (length work) (length b.space.body / 128)) list_too_short (accepted (verdict_of ds b))) n

  module _ (z : call_number ds b ≡ 0) where
    judges_on : judges ds b (length work)
        ≡ refuse_if (ltb (length work) (length b.space.body / 128)) list_too_short (accepted (verdict_of ds b))
    unfolding judges with_desks
    judges_on =
        call_on ds b 0 (λ desk. refuse_if (ltb (length work) (length b.space.body / 128)) list_too_short (accepted (verdict_of ds b))) z

    -- The work list is too short.
    pub judges_short : length work < length b.space.body / 128 → judges ds b (length work) ≡ refused list_too_short
    judges_short h = judges_on ∙ refuse_yes _ list_too_short _ (lt-ltb (length work) (length b.space.body / 128) h)

    -- It is judged.
    pub judges_all : length b.space.body / 128 ≤ length work → judges ds b (length work) ≡ accepted (verdict_of ds b)
    judges_all h = judges_on ∙ refuse_no _ list_too_short _ (le-ltb (length work) (length b.space.body / 128) h)

    -- Shape, counts and list passed their tests.
    pub judges_passed : (shape_broken b.space (length b.heads) ≡ false) × (counts_high (length b.space.body) b.counts ≡ false)
        × (list_bad ds (length b.heads) ≡ false)
    unfolding with_desks
    judges_passed =
        let w : with_desks {A = Unit {0}} ds b 0 (λ desk. accepted tt) ≡ accepted tt = call_on ds b 0 (λ desk. accepted tt) z in
        let p = passed (shape_broken b.space (length b.heads) || counts_high (length b.space.body) b.counts) shape_bad _ w in
        let q = neither (shape_broken b.space (length b.heads)) (counts_high (length b.space.body) b.counts) p.0 in
        (q.0, q.1, (passed (list_bad ds (length b.heads)) desks_bad _ p.1).0)

  -- A judgement begins with the blocks; where these are good it goes on with the counts, and else it ends.
  pub judged_ends : ground_of (judge_keys b.space 0 b.heads []) ≢ 0 → verdict_of ds b ≡ judge_keys b.space 0 b.heads []
  unfolding verdict_of blocks_verdict
  judged_ends n = ground_stays ds b (judge_keys b.space 0 b.heads []) n

  pub judged_blocks : ground_of (judge_keys b.space 0 b.heads []) ≡ 0
      → blocks_verdict b ≡ good (lost_of (judge_keys b.space 0 b.heads []))
  unfolding blocks_verdict
  judged_blocks e = groundless (judge_keys b.space 0 b.heads []) e

  pub judged_on : ground_of (judge_keys b.space 0 b.heads []) ≡ 0
      → verdict_of ds b ≡ counts_verdict ds b (lost_of (judge_keys b.space 0 b.heads []))
  unfolding verdict_of counts_behind
  judged_on e = ap (counts_behind ds b) (judged_blocks e)

-- The work list after the call.
pub after_refused : (units : ℕ) (work : List ℕ) (a : Answer Verdict) {number : ℕ} → a ≡ refused number → work ≡ work_after units work a
unfolding work_after
after_refused units work a e = rw e

pub after_judged : (units : ℕ) (work : List ℕ) (a : Answer Verdict) {v : Verdict} → a ≡ accepted v
    → cleared units work ≡ work_after units work a
unfolding work_after
after_judged units work a e = rw e

-- Clearing, as the code does it.
pub cleared_is : (units : ℕ) (work : List ℕ) → overwrite work 0 (replicate units 0) ≡ cleared units work
unfolding cleared
cleared_is units work = refl

-- Bytes that are cleared are units that are.
pub cleared_bytes : (bytes units : ℕ) (work : List ℕ) → 8 * bytes ≡ units → units_of (cleared bytes work) ≡ cleared units (units_of work)
unfolding cleared
cleared_bytes bytes units work e =
    units_overwrite work 0 (replicate bytes 0) ∙ ap (overwrite (units_of work) 0) (units_zero bytes ∙ ap (λ (n : ℕ). replicate n 0) e)

-- A cleared work list shows no claims.
pub shows_none : (units mark : ℕ) (work after : List ℕ) → 4096 ≤ mark → mark ≤ 16 * units → units ≤ length work
    → after ≡ cleared units work → Marked units mark work [] after
unfolding mark_all Each AllApart
shows_none units mark work after from fits long e = record { from = from; fits = fits; long = long; stand = tt; apart = tt; is = e }

-- So a work list that shows some claims is, with its bytes cleared, the lent one with its bytes cleared.
pub shown_bytes : (bytes units mark : ℕ) (lent : List ℕ) (claims : List Block) (work : List ℕ) → 8 * bytes ≡ units
    → cleared units (units_of work) ≡ cleared units (units_of lent) → cleared bytes work ≡ cleared bytes lent
shown_bytes bytes units mark lent claims work e same =
    units_same (cleared bytes work) (cleared bytes lent)
    (cleared_bytes bytes units work e ∙ same ∙ sym (cleared_bytes bytes units lent e))

-- No claims leave all units between 4,096 and the mark.
pub none_leave : (mark : ℕ) → 4096 ≤ mark → mark % 16 ≡ 0 → Leaves mark [] (mark / 16 - 256)
unfolding bytes_taken
none_leave mark from whole = omega arith

-- A work list that shows claims, cleared, is the lent one cleared.
pub shown_cleared : (units mark : ℕ) (lent : List ℕ) (claims : List Block) (work : List ℕ) → Marked units mark lent claims work
    → cleared units work ≡ cleared units lent
shown_cleared units mark lent claims work m =
    ap (cleared units) m.is ∙ cleared_again units claims lent (placed_all units mark claims m.fits m.stand) m.long
