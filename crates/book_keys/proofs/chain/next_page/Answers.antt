-- `next_page` meets its contract: five bytes hold less than 2^40.
use Rattle.std.proofs.Common.{◌+◌, ◌≡◌, ap, ◌∙◌, arith, length}
use Rattle.buffer.specs.Bytes.{part}
use Rattle.buffer.proofs.LawsLittleEndian.{little_endian_below, part_bytes}
use Rattle.buffer.proofs.LawsOverwrite.{length_part}
use Rattle.scripthash_fields.specs.Page.{link_offset}
use Rattle.book_keys.proofs.LawsNext.{link_read_lem}
use Rattle.book_keys.proofs.chain.next_page.Goals as goal

pub overflow_mul-result : goal.overflow_mul-result
overflow_mul-result c =
    let a = c.args in
    let body = a.body.now in
    let five : length (part body (a.off + 3) 5) ≡ 5 = length_part body (a.off + 3) 5 (omega arith) in
    let small = rw five at
    (little_endian_below (part body (a.off + 3) 5)
    (part_bytes body (a.off + 3) 5 (λ i h. omega (arith, c.type_inv.body i)))) in
    omega (arith, c.get_u40-link.ensures)

pub returns : goal.returns
returns c = let a = c.args in ap link_offset (c.get_u40-link.ensures ∙ link_read_lem a.body.now a.off (omega arith))
