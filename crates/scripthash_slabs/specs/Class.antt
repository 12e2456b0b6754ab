-- The class of a slab, chosen for a count of numbers or for a length in bytes (FORMAT, Classes).
use Rattle.std.specs.Prelude.{ℕ, zero, suc, ◌+◌, Bool, cond, ◌&&◌, leb}
use Rattle.std.proofs.Math.Option.{Option, none, some}
use Rattle.scripthash_layout.specs.Sizes.{slab_bytes, slab_slots, max_slab_bytes, max_slab_class, max_slab_count}

-- The first of the k classes from c on that passes a test, if one does.
unfoldable pub first_class : (ℕ → Bool) → ℕ → ℕ → Option ℕ
first_class test c zero = none
first_class test c (suc k) = cond (test c) (some c) (first_class test (c + 1) k)

-- The smallest slab class that passes a test, if one does.
abbrev pub smallest_class : (ℕ → Bool) → Option ℕ
smallest_class test = first_class test 0 (max_slab_class + 1)

-- A rule for choosing: how much a class holds, and from where to where it is chosen at all.
pub record Rule : Type 0 where
  pub size : ℕ → ℕ
  pub least : ℕ
  pub most : ℕ

-- By bytes: classes for 1 to 2,048 bytes.
abbrev pub by_bytes : Rule
by_bytes = record { size = slab_bytes; least = 1; most = max_slab_bytes }

-- By count: classes for 2 to 256 numbers, by their slots.
abbrev pub by_count : Rule
by_count = record { size = slab_slots; least = 2; most = max_slab_count }

-- The class that a rule chooses for n: the smallest that holds n, none where n is outside the rule's range.
unfoldable pub class_for : Rule → ℕ → Option ℕ
class_for rule n =
    cond (leb rule.least n && leb n rule.most) (smallest_class (λ c. leb n (rule.size c))) none

-- The class by bytes, for a payload of n bytes.
abbrev pub class_by_bytes : ℕ → Option ℕ
class_by_bytes n = class_for by_bytes n

-- The class by count, for n numbers.
abbrev pub class_by_count : ℕ → Option ℕ
class_by_count n = class_for by_count n

-- The first of two choices, where it is a class, else the second.
abbrev pub or_else : Option ℕ → Option ℕ → Option ℕ
or_else (some c) other = some c
or_else none other = other

-- The class with slack: that for n + 1, else that for n.
unfoldable pub class_with_slack : ℕ → Option ℕ
class_with_slack n = or_else (class_by_count (n + 1)) (class_by_count n)
