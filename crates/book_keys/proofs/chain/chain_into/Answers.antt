-- `chain_into` meets its contract: each way on from a page is one law of `LawsFill`.
use Rattle.std.proofs.Common.{ℕ, suc, ◌≡◌, ◌+◌, ◌-◌, ◌/◌, ◌≤◌, List, length, refl, sym, ap, ◌∙◌, subst, arith, rules}
use Prim.Native.Nat.{zero-le}
use Rattle.scripthash_layout.specs.Sizes.{page_size}
use Rattle.scripthash_stream.proofs.LawsLent.{lent, put_back}
use Rattle.book_keys.specs.Keys.{page_at, Chain, Ground, body_ground}
use Rattle.book_keys.specs.Steps.{FillTold}
use Rattle.book_keys.proofs.LawsSound.{was_sound}
use Rattle.book_keys.proofs.LawsChain.{chain_walks}
use Rattle.book_keys.proofs.LawsFill.{length_put, Filling, fill_start, fill_some, filled_room, turn_read, turn_ends, turn_goes}
use Rattle.book_keys.proofs.chain.chain_into.Goals as goal

-- what is left before a turn, with the turn's page apart
before_turn : (s : Ground) (last most counter : ℕ) (before : List ℕ) (w : Chain) (out : List ℕ) (at off : ℕ) → counter + 1 ≤ most
    → Filling (most - counter) s last before w out at off → Filling (suc (most - (counter + 1))) s last before w out at off
before_turn s last most counter before w out at off h f =
    let left : most - counter ≡ suc (most - (counter + 1)) = omega arith in
    subst (λ (k : ℕ). Filling k s last before w out at off) left f

pub loop-init : goal.loop-init
loop-init c =
    let a = c.args in
    record {
      within = zero-le;
      long = refl;
      filling = λ w e h. fill_start (a.mark / page_size) (body_ground a.body.now a.mark) a.last a.out.now w a.first e h;
    }

pub returns-in_default : goal.returns-in_default
returns-in_default c k e first h =
    let a = c.args in
    let l = c.loop in
    let s = body_ground a.body.now a.mark in
    let walks = chain_walks s a.last a.first k (was_sound _ e) first in
    let f = before_turn s a.last (a.mark / page_size) l.counter a.out.now k l.out l.at l.off (omega arith) (l.invariant.filling k walks h) in
    absurd (turn_read s a.last a.out.now k l.out l.at l.off _ f c.page_into.new.out l.invariant.within c.in_default.ensures)

pub returns-then-off-last : goal.returns-then-off-last
returns-then-off-last c k e first h =
    let a = c.args in
    let l = c.loop in
    let s = body_ground a.body.now a.mark in
    let walks = chain_walks s a.last a.first k (was_sound _ e) first in
    let f = before_turn s a.last (a.mark / page_size) l.counter a.out.now k l.out l.at l.off (omega arith) (l.invariant.filling k walks h) in
    turn_ends s a.last a.out.now k l.out l.at l.off _ f c.page_into.new.out l.invariant.within _ c.in-Ok.ensures c.if-off-last.true

pub overflow_add-at : goal.overflow_add-at
overflow_add-at c =
    let l = c.loop in
    omega (arith, filled_room _ l.out c.page_into.new.out _ l.at _ l.invariant.within c.in-Ok.ensures)

pub loop-preserved : goal.loop-preserved
loop-preserved c =
    let a = c.args in
    let l = c.loop in
    let s = body_ground a.body.now a.mark in
    let part = c.page_into.new.out in
    let size : length part ≡ length (lent l.out l.at) = search rules in
    let same : length (put_back l.out l.at part) ≡ length l.out = length_put l.out l.at part l.invariant.within size in
    record {
      within = omega (arith, same, filled_room _ l.out part _ l.at _ l.invariant.within c.in-Ok.ensures);
      long = same ∙ l.invariant.long;
      filling = λ w e h.
          turn_goes s a.last a.out.now w l.out l.at l.off _
          (before_turn s a.last (a.mark / page_size) l.counter a.out.now w l.out l.at l.off (omega arith) (l.invariant.filling w e h))
          part l.invariant.within _ c.in-Ok.ensures c.if-off-last.false;
    }

pub returns : goal.returns
returns c k e first h =
    let a = c.args in
    let l = c.loop in
    let s = body_ground a.body.now a.mark in
    let walks = chain_walks s a.last a.first k (was_sound _ e) first in
    let none : a.mark / page_size - l.counter ≡ 0 = omega arith in
    absurd (fill_some s a.last a.out.now k l.out l.at l.off
    (subst (λ (n : ℕ). Filling n s a.last a.out.now k l.out l.at l.off) none (l.invariant.filling k walks h)))
