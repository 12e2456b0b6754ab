-- What the steps of choosing a place promise each other: no answer of a public function is defined here.
use Rattle.std.specs.Prelude.{ℕ, ◌≤◌, ◌≡◌}
use Rattle.scripthash_slabs.specs.Class.{class_by_bytes, class_with_slack}

-- So many bytes have the slack class of a count, and are within a slab of 1,024 bytes.
pub record SpareBytes (count bytes : ℕ) : Type 0 where
  pub class : class_by_bytes bytes ≡ class_with_slack count
  pub some_bytes : 1 ≤ bytes
  pub few : bytes ≤ 1024
