-- `smallest_class` answers the class that the rule chooses: outside the range none, within it by the law on lengths in bits.
use Prim.Native.Nat.{ℕ, ◌-◌, ◌*◌, ◌/◌, ◌^◌, ◌<◌}
use mathlib.Core.Path.{refl, sym}
use native.Mathlib.Nat.{div-le_self, lt_of_le_of_lt}
use native.Mathlib.Omega.{arith}
use lib.Count.{leading_le}
use Rattle.scripthash_slabs.specs.Class.{Rule}
use Rattle.scripthash_slabs.proofs.LawsClass.{class_above, class_below, class_bits}
use Rattle.scripthash_slabs.proofs.class.smallest_class.Goals as goal
use Rattle.scripthash_slabs.proofs.class.smallest_class.Goals.{then-n-least-via-then-n-least, then-n-least-via-else-n-least+then-n-most}

-- The rule by which class c holds unit * 2 ^ c.
abbrev in_units : ℕ → ℕ → ℕ → Rule
in_units unit least most = record { size = λ c. unit * 2 ^ c; least = least; most = most }

pub returns-then-n-least : goal.returns-then-n-least
returns-then-n-least c =
    let a = c.args in
    elim c.then-n-least.branch [
      | then-n-least-via-then-n-least w ↦ sym (class_below (in_units a.unit a.least a.most) a.n w.if-n-least.true)
      | then-n-least-via-else-n-least+then-n-most w ↦ sym (class_above (in_units a.unit a.least a.most) a.n w.if-n-most.true)
    ]

pub overflow_sub-result : goal.overflow_sub-result
overflow_sub-result c = leading_le 64 _

pub returns : goal.returns
returns c =
    let a = c.args in
    let fits : (a.n - 1) / a.unit < 2 ^ 64 = lt_of_le_of_lt (div-le_self (a.n - 1) a.unit) (omega arith) in
    sym (class_bits (in_units a.unit a.least a.most) 64 a.unit (omega arith) (λ d. refl) (omega arith) a.n (omega arith)
    (omega arith) (omega arith) fits)
