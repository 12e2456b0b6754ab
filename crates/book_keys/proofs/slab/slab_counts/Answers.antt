-- `slab_counts` meets its contract: the bytes behind the first two are counted.
use Rattle.std.proofs.Common.{ℕ, ap, ◌∙◌}
use Rattle.error.specs.Refusal.{accepted}
use Rattle.buffer.proofs.LawsBytes.{part_to_end}
use Rattle.book_keys.proofs.LawsListed.{slab_told}
use Rattle.book_keys.proofs.slab.slab_counts.Goals as goal

pub returns : goal.returns
returns c s is t =
    let a = c.args in
    ap (λ (n : ℕ). accepted (record { length = n; pages = 0; padded = c.count_padded.result })) c.from.ensures
    ∙ ap (λ (n : ℕ). accepted (record { length = a.used; pages = 0; padded = n }))
    (slab_told a.slab.now _ a.used a.taken _ (part_to_end a.slab.now 2) (rw c.from-2.ensures at c.count_padded.ensures) s is t)
