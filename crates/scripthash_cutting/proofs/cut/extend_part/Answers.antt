-- `extend_part` meets its contract: a number that fits goes to the part, and one that doesn't ends it.
use Prim.Native.Nat.{◌+◌, ◌-◌, ◌≤◌}
use mathlib.Core.Path.{◌≡◌, refl, ap, ◌∙◌}
use native.Mathlib.Nat.{le_trans}
use native.Mathlib.Omega.{arith}
use borrow.Author.Rules.{rules}
use lib.ListN.{length, get_or}
use Rattle.compact.specs.Uleb128.{uleb_len}
use Rattle.compact.proofs.LawsLength.{len_at_most}
use Rattle.scripthash_cutting.proofs.LawsReach.{at_end_lem, at_no, at_yes}
use Rattle.scripthash_cutting.proofs.cut.extend_part.Goals as goal

pub loop-i-init : goal.loop-i-init
loop-i-init c = record { held = search rules; same = λ more h. refl }

pub overflow_add-more : goal.overflow_add-more
overflow_add-more c =
    let d = get_or c.args.fks.now c.loop-i.i 0 - get_or c.args.fks.now (c.loop-i.i - 1) 0 in
    let form : c.uleb128_len.result ≡ uleb_len d = c.uleb128_len.ensures ∙ ap uleb_len c.saturating_sub.ensures in
    omega (arith, form, len_at_most d (omega (arith, c.type_inv.fks c.loop-i.i)), c.args.room.of_a_page.1)

pub returns-then-room-more : goal.returns-then-room-more
returns-then-room-more c =
    let form = c.uleb128_len.ensures ∙ ap uleb_len c.saturating_sub.ensures in
    record {
      later = omega arith;
      within = omega arith;
      held = c.loop-i.invariant.held;
      full = at_no c.args.fks.now c.loop-i.i c.loop-i.bytes c.args.room.bytes (omega arith) (omega (arith, form));
      same = c.loop-i.invariant.same;
    }

pub loop-i-preserved : goal.loop-i-preserved
loop-i-preserved c =
    let d = get_or c.args.fks.now c.loop-i.i 0 - get_or c.args.fks.now (c.loop-i.i - 1) 0 in
    let form : c.uleb128_len.result ≡ uleb_len d = c.uleb128_len.ensures ∙ ap uleb_len c.saturating_sub.ensures in
    let fits : c.loop-i.bytes + uleb_len d ≤ c.args.room.bytes = omega (arith, form) in
    rw form (record {
      held = fits;
      same = λ more h. at_yes c.args.fks.now c.loop-i.i c.loop-i.bytes more (omega arith) (le_trans fits h) ∙ c.loop-i.invariant.same more h;
    })

pub returns : goal.returns
returns c =
    let end : c.loop-i.i ≡ length c.args.fks.now = omega arith in
    rw (← end) (record {
      later = omega arith;
      within = omega arith;
      held = c.loop-i.invariant.held;
      full = at_end_lem c.args.fks.now c.loop-i.i _ (omega arith);
      same = c.loop-i.invariant.same;
    })
