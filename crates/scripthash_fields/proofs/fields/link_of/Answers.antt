-- `link_of`: the link is the upper five of the first eight bytes.
use native.Mathlib.Omega.{arith}
use Rattle.buffer.specs.LittleEndian.{AreBytes}
use Rattle.buffer.proofs.LawsFields.{little_endian_upper}
use Rattle.scripthash_fields.specs.Page.{field}
use Rattle.scripthash_fields.proofs.fields.link_of.Goals as goal

pub returns-clause-link : goal.returns-clause-link
unfolding field
returns-clause-link c =
    let page = c.args.page.now in
    let bytes : AreBytes page = λ i p. omega (arith, c.type_inv.page i) in
    let upper = little_endian_upper page 0 3 5 bytes (omega arith) in
    omega (arith, c.get_u64.ensures)
