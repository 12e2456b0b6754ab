-- The core's calls, which are told a desk's number and are lent no list: each key's calls are made by its own desk (change request N7).
use Rattle.std.specs.Prelude.{ℕ, List}
use Rattle.error.specs.Refusal.{Answer}
use Rattle.book_statements.specs.Calls.{Enquiry, read, Change, load, append, drop, Said, Made, Serves}
use Rattle.book_desks.specs.Desks.{desk_of}
use Rattle.book.specs.Book.{Book, Outcome}
use Rattle.book_append.specs.Appends.{appends}
use Rattle.book_load.specs.Loads.{loads}
use Rattle.book_read.specs.Reads.{reads}
use Rattle.book_drop.specs.Drops.{drops}

-- What an enquiry of the core answers: it has no desk.
unfoldable pub core_asks : Book → (q : Enquiry) → Answer (Said q)
core_asks b (read key room) = reads b key room

-- What a change of the core does by the desk that a list names for its key.
unfoldable pub core_does : List ℕ → Book → (c : Change) → Answer (Outcome (Made c))
core_does ds b (load fit key ns) = loads fit (desk_of ds key) b key ns
core_does ds b (append key n) = appends (desk_of ds key) b key n
core_does ds b (drop key) = drops (desk_of ds key) b key

-- The book over bytes as calls of the core see it.
abbrev pub core_serves : List ℕ → Serves Book
core_serves ds = record { asks = core_asks; does = core_does ds }
