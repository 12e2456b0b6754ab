-- `move_list` meets its contract: the class for the list decides.
use Rattle.std.proofs.Common.{ℕ, ◌-◌, ◌≤◌, List, ◌≡◌, sym, ap, subst, ◌∙◌, arith, length, take, drop}
use Rattle.std.proofs.Math.Option.{some}
use Rattle.buffer.proofs.LawsBytes.{part_to_end}
use Rattle.scripthash_stream.specs.Stream.{stream_len}
use Rattle.book_rules.specs.Places.{moves_to}
use Rattle.book_rules.proofs.LawsRules.{moves_to_lem}
use Rattle.book_space.specs.Space.{Space, space}
use Rattle.book.specs.Steps.{ToMove}
use Rattle.book.proofs.LawsPlace.{stream_at_most}
use Rattle.book.proofs.place.move_list.Goals as goal

pub moves_to-requires : goal.moves_to-requires
moves_to-requires c =
    let list : List ℕ = take (length c.args.fks.now - 0) (drop 0 c.args.fks.now) in
    let s : Space = space c.args.body.now c.args.mark.now c.args.free.now in
    let pre : ToMove s c.args.desk list =
    subst (λ (l : List ℕ). ToMove s c.args.desk l) (sym (part_to_end c.args.fks.now 0)) c.requires in
    let bytes : stream_len list ≤ 2570 = omega (arith, stream_at_most 0 list pre.rises, pre.few) in
    (omega (arith, pre.two), omega (arith, c.compact_len-bytes.ensures, bytes))

pub place_in_slab-requires : goal.place_in_slab-requires
place_in_slab-requires c =
    let list : List ℕ = take (length c.args.fks.now - 0) (drop 0 c.args.fks.now) in
    let s : Space = space c.args.body.now c.args.mark.now c.args.free.now in
    let pre : ToMove s c.args.desk list =
    subst (λ (l : List ℕ). ToMove s c.args.desk l) (sym (part_to_end c.args.fks.now 0)) c.requires in
    let to_slab : moves_to (length list) (stream_len list) ≡ some c.in-Some.class =
    sym (c.in-Some.ensures ∙ ap (moves_to (length list)) c.compact_len-bytes.ensures) in
    let p = pre in
    let m = moves_to_lem (length list) (stream_len list) to_slab in
    record { shape = p.shape; known = p.known; low = m.slab; few = m.few; rises = p.rises; fits = m.fits }

pub place_in_page-requires : goal.place_in_page-requires
place_in_page-requires c =
    let list : List ℕ = take (length c.args.fks.now - 0) (drop 0 c.args.fks.now) in
    let s : Space = space c.args.body.now c.args.mark.now c.args.free.now in
    let pre : ToMove s c.args.desk list =
    subst (λ (l : List ℕ). ToMove s c.args.desk l) (sym (part_to_end c.args.fks.now 0)) c.requires in
    let bytes : stream_len list ≤ 2570 = omega (arith, stream_at_most 0 list pre.rises, pre.few) in
    let p = pre in
    record { shape = p.shape; known = p.known; few = p.few; rises = p.rises; fits = omega (arith, bytes) }
