-- An extent, or none, as it goes out.
use Rattle.std.specs.Prelude.{ℕ}
use Rattle.std.proofs.Math.Option.{Option, none, some}
use Rattle.scripthash_fields.specs.FieldAnswers.{Extent}

-- Its base, 0 where there is none.
abbrev pub base_or0 : Option Extent → ℕ
base_or0 (some e) = e.base
base_or0 none = 0

-- How many pages it has, 0 where there is none.
abbrev pub count_or0 : Option Extent → ℕ
count_or0 (some e) = e.count
count_or0 none = 0
