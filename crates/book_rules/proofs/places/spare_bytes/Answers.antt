-- `spare_bytes`: slots for one number more, and for 256 just these.
use Prim.Native.Nat.{ℕ, ◌+◌, ◌*◌, ◌≤◌, ◌<◌}
use mathlib.Core.Path.{◌≡◌}
use mathlib.Core.Logic.{◌⊎◌, ⊎_elim}
use native.Mathlib.Omega.{arith}
use Rattle.scripthash_slabs.proofs.LawsClass.{slack_next, slack_from, slack_given}
use Rattle.book_rules.specs.Steps.{SpareBytes}
use Rattle.book_rules.proofs.LawsRules.{spare_bytes}
use Rattle.book_rules.proofs.places.spare_bytes.Goals as goal

-- by whether there is a slot more
by_slots : (count slots : ℕ) → 1 ≤ count → count ≤ 256 → ((count < 256) × (slots ≡ count + 1)) ⊎ ((256 ≤ count) × (slots ≡ count))
    → SpareBytes count (4 * slots)
by_slots count slots some few =
    let (class, is) = slack_given count some few in
    ⊎_elim
    (λ (h : (count < 256) × (slots ≡ count + 1)).
    rw h.1 (spare_bytes count (count + 1) (slack_next count (λ e. omega (arith, h.0))) is (omega arith) (omega (arith, h.0))))
    (λ (h : (256 ≤ count) × (slots ≡ count)). rw h.1 (spare_bytes count count (slack_from count h.0) is (omega arith) (omega arith)))

pub returns : goal.returns
returns c = by_slots c.args.count c.min.result (omega arith) (omega arith) (grind arith)
