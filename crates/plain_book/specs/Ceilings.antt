-- What demand 3 says of a history's figures, by its calls and their answers alone: ceilings on moves, and the fewest pages of loads.
use Rattle.std.specs.Prelude.{ℕ, ◌≤◌, List, length}
use Rattle.error.specs.Refusal.{Answer, accepted, refused}
use Rattle.scripthash_cutting.specs.Cutting.{AllowedCutting}
use Rattle.book_statements.specs.Calls.{Change, load, append, drop, Made, Call, Answers, done, asked, changed}

-- The most moves of a key, from the start or the last drop.
abbrev pub most_moves : ℕ
most_moves = 9

-- The most records of a key that moves rewrite, from the start or the last drop.
abbrev pub most_rewritten : ℕ
most_rewritten = 765

-- An accepted load reports no more pages than any allowed cutting of its list has.
unfoldable pub FewestPages : (c : Change) → Answer (Made c) → Type 0
FewestPages (load fit key ns) (accepted l) = (parts : List (List ℕ)) → AllowedCutting ns parts → l.pages ≤ length parts
FewestPages (load fit key ns) (refused number) = Unit {0}
FewestPages (append key n) a = Unit {0}
FewestPages (drop key) a = Unit {0}

-- Each load of a history does.
unfoldable pub EachFewest : {cs : List Call} → Answers cs → Type 0
EachFewest done = Unit {0}
EachFewest (asked a rest) = EachFewest rest
EachFewest (changed {c = c} a rest) = FewestPages c a × EachFewest rest
