-- What an extend of a key hands out.
use Rattle.std.specs.Prelude.{ℕ}
use Rattle.scripthash_layout.specs.declared.head.ShHeadValue.{ShHeadValue}
use Rattle.book_extend.specs.Extends.{Extended}

-- How many numbers were accepted.
abbrev pub numbers_accepted : Extended → ℕ
numbers_accepted e = e.count

-- The number by which the next one was refused, and 0 for none.
abbrev pub next_refusal : Extended → ℕ
next_refusal e = e.refusal

-- The key's place then.
abbrev pub place_extended : Extended → ShHeadValue
place_extended e = e.place

-- How many of the appends moved the list.
abbrev pub moves_made : Extended → ℕ
moves_made e = e.moves

-- The records rewritten by these, summed.
abbrev pub rewritten_by_moves : Extended → ℕ
rewritten_by_moves e = e.rewritten
