-- A drop over bytes (FORMAT, Drop).
use Rattle.std.specs.Prelude.{ℕ, List, length}
use Rattle.error.specs.Refusal.{Answer, accepted, and_then}
use Rattle.scripthash_layout.specs.declared.head.ShHeadValue.TheVariants.{Empty}
use Rattle.book_rules.specs.Outcomes.{dropped_of, Dropped}
use Rattle.book_space.specs.Space.{release}
use Rattle.book_space.specs.Desks.{given_back}
use Rattle.book_keys.specs.Keys.{Content, content}
use Rattle.book.specs.Book.{Book, Outcome, word_of, by_desk, with_desks, placing, seen}

-- A drop by a desk of a key that holds some content: its pages are given back, its blocks are pushed, and its head word is emptied.
unfoldable pub dropped : ℕ → Book → ℕ → Content → Answer (Outcome Dropped)
dropped desk b key c =
    given_back (length b.space.body) desk c.pages b.counts
    (λ counts. accepted (placing (dropped_of (length c.numbers)) key Empty (release c.blocks b.space) counts b))

-- A drop of a key, by a desk.
unfoldable pub drops : ℕ → Book → ℕ → Answer (Outcome Dropped)
drops desk b key = by_desk desk b key (and_then (content (seen b.space) (word_of key b)) (dropped desk b key))

-- A drop that is lent the list of desks: by the key's desk.
abbrev pub drops_with : List ℕ → Book → ℕ → Answer (Outcome Dropped)
drops_with ds b key = with_desks ds b key (λ desk. drops desk b key)
