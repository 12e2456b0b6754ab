-- `part_end` meets its contract: the part goes on within the small room, and from there within the large one.
use Prim.Native.Nat.{ℕ, ◌+◌, ◌≤◌}
use mathlib.Core.List.{List}
use mathlib.Core.Path.{◌≡◌}
use native.Mathlib.Omega.{arith}
use lib.ListN.{get_or}
use Rattle.compact.specs.Uleb128.{uleb_len}
use Rattle.compact.proofs.LawsLength.{len_at_most}
use Rattle.scripthash_cutting.specs.Cutting.{last_page_room}
use Rattle.scripthash_cutting.specs.Steps.{Reached}
use Rattle.scripthash_cutting.proofs.LawsReach.{next_last, next_other}
use Rattle.scripthash_cutting.proofs.cut.part_end.Goals as goal

pub extend_part-last-requires : goal.extend_part-last-requires
extend_part-last-requires c =
    let start = c.args.start in
    let short : uleb_len (get_or c.args.fks.now start 0) ≤ 10 = len_at_most (get_or c.args.fks.now start 0) (omega (arith, c.type_inv.fks start)) in
    (omega arith, omega arith, omega (arith, c.uleb128_len-first.ensures, c.new-last_room.ensures))

-- a part begun within the room that is left behind its first number, and a last page's room, is one within both
near : (fks : List ℕ) (start first room end used : ℕ) → first ≡ uleb_len (get_or fks start 0) → room ≡ last_page_room
    → Reached fks (start + 1) first room end used → Reached fks (start + 1) (uleb_len (get_or fks start 0)) last_page_room end used
near fks start first room end used e r reached = rw (← e, ← r) reached

pub returns-then-whole-fks : goal.returns-then-whole-fks
returns-then-whole-fks c =
    let part = near c.args.fks.now c.args.start _ _ _ _ c.uleb128_len-first.ensures c.new-last_room.ensures c.extend_part-last.ensures in
    next_last c.args.fks.now c.args.start last_page_room c.args.room.bytes c.requires c.args.room.of_a_page.0 _ _ _ _ part
    c.extend_part-whole.ensures c.if-whole-fks.true

pub returns : goal.returns
returns c =
    let part = near c.args.fks.now c.args.start _ _ _ _ c.uleb128_len-first.ensures c.new-last_room.ensures c.extend_part-last.ensures in
    next_other c.args.fks.now c.args.start last_page_room c.args.room.bytes c.requires c.args.room.of_a_page.0 _ _ _ _ part
    c.extend_part-whole.ensures c.if-whole-fks.false
