-- `fill_slab` meets its contract: a slab that reads scans as its first two bytes tell.
use Rattle.std.proofs.Common.{ℕ, List, ◌≡◌, ap, ◌∙◌, arith, drop}
use Rattle.error.specs.Refusal.{accepted}
use Rattle.buffer.proofs.LawsBytes.{part_to_end}
use Rattle.scripthash_stream.specs.Stream.{scan}
use Rattle.scripthash_slabs.specs.Slab.{slab_used}
use Rattle.book_keys.proofs.LawsSlab.{slab_payload_lem}
use Rattle.book_keys.proofs.slab.fill_slab.Goals as goal

pub returns : goal.returns
returns c used read e h =
    let a = c.args in
    let slab = a.slab.now in
    let p = (slab_payload_lem slab used read e).2 in
    let same : c.from-used.result ≡ slab_used slab = c.from-used.ensures ∙ c.get_u16.ensures in
    let reads : scan c.from-used.result (drop 2 slab) ≡ accepted read = ap (λ (n : ℕ). scan n (drop 2 slab)) same ∙ p.scanned in
    c.fill_fk_delta_stream.ensures read (ap (λ (bs : List ℕ). scan c.from-used.result bs) (part_to_end slab 2) ∙ reads)
    (omega (arith, same, p.counted, h))
