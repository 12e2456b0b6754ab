-- What the calls of a book hand out.
use Rattle.std.specs.Prelude.{ℕ}
use Rattle.scripthash_layout.specs.declared.head.ShHeadValue.{ShHeadValue}
use Rattle.book_rules.specs.Outcomes.{Loaded, Appended, Dropped}

-- The pages that a load tells.
abbrev pub pages_loaded : Loaded → ℕ
pages_loaded l = l.pages

-- The place that an append tells.
abbrev pub new_place : Appended → ShHeadValue
new_place a = a.place

-- The records rewritten that an append tells.
abbrev pub records_rewritten : Appended → ℕ
records_rewritten a = a.rewritten

-- The length that a drop tells.
abbrev pub length_dropped : Dropped → ℕ
length_dropped d = d.length
