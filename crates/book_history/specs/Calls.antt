-- What the book over bytes answers to each enquiry and what each change does to it, and lists of calls, all lent one list of desks.
use Rattle.std.specs.Prelude.{ℕ, List}
use Rattle.error.specs.Refusal.{Answer}
use Rattle.book_statements.specs.Calls.{Enquiry, read, Change, load, append, drop, Call, Said, Made, Serves, Answers, after_calls, answers_to}
use Rattle.book.specs.Book.{Book, Outcome}
use Rattle.book_append.specs.Appends.{appends_with}
use Rattle.book_load.specs.Loads.{loads_with}
use Rattle.book_read.specs.Reads.{reads_with}
use Rattle.book_drop.specs.Drops.{drops_with}

-- What an enquiry answers.
unfoldable pub asks : List ℕ → Book → (q : Enquiry) → Answer (Said q)
asks ds b (read key room) = reads_with ds b key room

-- What a change does.
unfoldable pub does : List ℕ → Book → (c : Change) → Answer (Outcome (Made c))
does ds b (load fit key ns) = loads_with fit ds b key ns
does ds b (append key n) = appends_with ds b key n
does ds b (drop key) = drops_with ds b key

-- The book over bytes as calls see it that are lent a list of desks.
abbrev pub serves : List ℕ → Serves Book
serves ds = record { asks = asks ds; does = does ds }

-- The book after a list of calls.
abbrev pub after : List ℕ → Book → List Call → Book
after ds b cs = after_calls (serves ds) b cs

-- The answers to a list of calls, each on the book that those before it left.
abbrev pub answers : List ℕ → Book → (cs : List Call) → Answers cs
answers ds b cs = answers_to (serves ds) b cs
