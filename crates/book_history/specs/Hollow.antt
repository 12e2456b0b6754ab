-- Hollow books (FORMAT, What is promised, (c)): books that keep the form of the calls and none of their meaning. Each is told
-- by what it answers to an enquiry and what a change does to it, as our own does where nothing else is said.
use Rattle.std.specs.Prelude.{ℕ, ◌+◌, cond, List, [], ◌++◌, ◌≢◌, ◌≡◌, eqb, length, take, set, replicate}
use Rattle.error.specs.Refusal.{Answer, accepted, refused, answered}
use Rattle.scripthash_layout.specs.Sizes.{page_class}
use Rattle.book_rules.specs.declared.places.SlabFit.{SlabFit}
use Rattle.book_rules.specs.Outcomes.{loaded_in, appended_to, listing, retold}
use Rattle.book_statements.specs.Calls.{Enquiry, read, Change, load, append, drop, Call, Said, Made, Serves, answers_to}
use Rattle.book_desks.specs.Desks.{desks, Limits, desk_of}
use Rattle.book_desks.specs.Counts.{held_at, held_count, limits_in}
use Rattle.plain_book.specs.Book.{fresh as plain_fresh, unlimited, makes, answers as plain_answers}
use Rattle.book_space.specs.Space.{space}
use Rattle.book.specs.Book.{Book, Outcome, fresh, word_of}
use Rattle.book_history.specs.Calls.{asks, does}
use Rattle.book_history.specs.PlainOf.{Sixteen}

-- A book that breaks demand 3: on some book that was made fresh, and list of calls, its answers aren't the plain book's.
unfoldable pub Hollow : (List ℕ → Serves Book) → Type 0
Hollow k =
    (ds : List ℕ) × (l : Limits) × (body : List ℕ) × (heads : ℕ) × (cs : List Call)
    × (makes ds (length body) heads l ≡ accepted (plain_fresh ds (length body) heads l)) × Sixteen l
    × (answers_to (k ds) (fresh body heads l) cs ≢ plain_answers (plain_fresh ds (length body) heads l) cs)

-- One that always gives a number.
abbrev pub always : ℕ → List ℕ → Serves Book
always number ds = record { asks = λ b q. refused number; does = λ b c. refused number }

-- What a book answers where all keys read empty.
unfoldable pub empty_answer : Book → (q : Enquiry) → Answer (Said q)
empty_answer b (read key room) = accepted (listing [] 0 0)

-- One where all keys read empty.
abbrev pub reads_empty : List ℕ → Serves Book
reads_empty ds = record { asks = empty_answer; does = does ds }

-- The same answer, with the book as it was.
abbrev pub unwritten : {T : Type 0} → Book → Answer (Outcome T) → Answer (Outcome T)
unwritten b a = answered (λ o. record { told = o.told; book = b }) a

-- What changes do whose appends write nothing.
unfoldable pub writes_nothing : List ℕ → Book → (c : Change) → Answer (Outcome (Made c))
writes_nothing ds b (load fit key ns) = does ds b (load fit key ns)
writes_nothing ds b (append key n) = unwritten b (does ds b (append key n))
writes_nothing ds b (drop key) = does ds b (drop key)

-- One whose append writes nothing.
abbrev pub appends_nothing : List ℕ → Serves Book
appends_nothing ds = record { asks = asks ds; does = writes_nothing ds }

-- What changes do that store only a key's first append.
unfoldable pub writes_first : List ℕ → Book → (c : Change) → Answer (Outcome (Made c))
writes_first ds b (load fit key ns) = does ds b (load fit key ns)
writes_first ds b (append key n) = cond (eqb (word_of key b) 0) (does ds b (append key n)) (unwritten b (does ds b (append key n)))
writes_first ds b (drop key) = does ds b (drop key)

-- One that stores only a key's first append.
abbrev pub first_only : List ℕ → Serves Book
first_only ds = record { asks = asks ds; does = writes_first ds }

-- What changes do whose loads tell a page too many.
unfoldable pub page_more : List ℕ → Book → (c : Change) → Answer (Outcome (Made c))
page_more ds b (load fit key ns) = retold (λ l. loaded_in (l.pages + 1)) (does ds b (load fit key ns))
page_more ds b (append key n) = does ds b (append key n)
page_more ds b (drop key) = does ds b (drop key)

-- What changes do whose appends tell a rewritten record too many.
unfoldable pub rewritten_more : List ℕ → Book → (c : Change) → Answer (Outcome (Made c))
rewritten_more ds b (load fit key ns) = does ds b (load fit key ns)
rewritten_more ds b (append key n) = retold (λ a. appended_to a.place (a.rewritten + 1)) (does ds b (append key n))
rewritten_more ds b (drop key) = does ds b (drop key)

-- One that invents figures.
abbrev pub invents : (List ℕ → Book → (c : Change) → Answer (Outcome (Made c))) → List ℕ → Serves Book
invents changes ds = record { asks = asks ds; does = changes ds }

-- What changes do whose loads all follow one rule for the slab.
unfoldable pub loads_as : SlabFit → List ℕ → Book → (c : Change) → Answer (Outcome (Made c))
loads_as fit ds b (load asked key ns) = does ds b (load fit key ns)
loads_as fit ds b (append key n) = does ds b (append key n)
loads_as fit ds b (drop key) = does ds b (drop key)

-- One with a single rule for loads.
abbrev pub one_rule : SlabFit → List ℕ → Serves Book
one_rule fit ds = record { asks = asks ds; does = loads_as fit ds }

-- A book with no page freed.
abbrev pub none_freed : Book → Book
none_freed b =
    let s = b.space in
    record { heads = b.heads; space = space s.body s.mark (set s.free page_class 0); counts = set b.counts 0 0 }

-- What changes do whose loads take no freed page.
unfoldable pub loads_behind : List ℕ → Book → (c : Change) → Answer (Outcome (Made c))
loads_behind ds b (load fit key ns) = does ds (none_freed b) (load fit key ns)
loads_behind ds b (append key n) = does ds b (append key n)
loads_behind ds b (drop key) = does ds b (drop key)

-- One whose loads take no freed page.
abbrev pub freed_unused : List ℕ → Serves Book
freed_unused ds = record { asks = asks ds; does = loads_behind ds }

-- ---- desks

-- A book whose desks have other limits.
abbrev pub relimited : (Limits → Limits) → Book → Book
relimited f b =
    let l = f (limits_in b.counts) in
    record { heads = b.heads; space = b.space; counts = take (1 + desks) b.counts ++ (l.reserve ++ l.ceiling) }

-- Limits without reserves, and limits without ceilings.
abbrev pub no_reserves : Limits → Limits
no_reserves l = record { reserve = unlimited.reserve; ceiling = l.ceiling }

abbrev pub no_ceilings : Limits → Limits
no_ceilings l = record { reserve = l.reserve; ceiling = unlimited.ceiling }

-- One that ignores some limits.
abbrev pub ignores : (Limits → Limits) → List ℕ → Serves Book
ignores f ds = record { asks = asks ds; does = λ b c. does ds (relimited f b) c }

-- One that takes every key for one of desk 0.
abbrev pub one_desk : List ℕ → Serves Book
one_desk ds = record { asks = asks ds; does = does (replicate (length ds) 0) }

-- The same book, where a desk's count is another's.
abbrev pub counted_as : ℕ → Book → Book → Book
counted_as desk before b =
    record { heads = b.heads; space = b.space; counts = set b.counts (held_at desk) (held_count desk before.counts) }

-- What changes do whose drops keep the desk's count.
unfoldable pub keeps_count : List ℕ → Book → (c : Change) → Answer (Outcome (Made c))
keeps_count ds b (load fit key ns) = does ds b (load fit key ns)
keeps_count ds b (append key n) = does ds b (append key n)
keeps_count ds b (drop key) =
    answered (λ o. record { told = o.told; book = counted_as (desk_of ds key) b o.book }) (does ds b (drop key))

-- One whose drop keeps the desk's count.
abbrev pub drops_uncounted : List ℕ → Serves Book
drops_uncounted ds = record { asks = asks ds; does = keeps_count ds }
