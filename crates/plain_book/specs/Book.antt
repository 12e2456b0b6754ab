-- The plain book (this project's own term: FORMAT, The plain book): what an account book answers to a list of calls, told with no bytes.
use Rattle.std.specs.Prelude.{ℕ, ◌+◌, ◌-◌, ◌^◌, Bool, true, false, List, [], ◌∷◌, ◌++◌, ◌≢◌, leb, ltb, length, get_or, set, replicate}
use Rattle.error.specs.Refusal.{Answer, accepted, refuse_if, and_then, list_too_short}
use Rattle.error.specs.Refusal.{shape_bad, key_beyond, key_in_use, too_many_offered, desks_bad}
use Rattle.scripthash_layout.specs.Sizes.{page_class}
use Rattle.scripthash_layout.specs.Head.{payload_start}
use Rattle.scripthash_stream.specs.Stream.{max_offered, last_from}
use Rattle.book_rules.specs.declared.places.SlabFit.{SlabFit}
use Rattle.book_rules.specs.Outcomes.{Loaded, Appended, Listed, Dropped, loaded_in, appended_to, listing, dropped_of, OutcomeOf}
use Rattle.book_statements.specs.Calls.{Enquiry, read, Change, load, append, drop, Call, change, Said, Made, Serves, Answers, after_calls}
use Rattle.book_statements.specs.Calls.{answers_to}
use Rattle.book_rules.specs.Offered.{offered_number, offered_list}
use Rattle.book_limits.specs.Limits.{out_of_shape}
use Rattle.book_desks.specs.Desks.{desks, Limits, desk_count, permitted, making, list_bad, desk_of}
use Rattle.plain_book.specs.Space.{Space, stack_of}
use Rattle.plain_book.specs.Key.{Place, empty, inline, slab, pages, Key, empty_key, head_of, pages_of, padded_of, freed_place}
use Rattle.plain_book.specs.Key.{counted_after, key_in}
use Rattle.plain_book.specs.Key.{Leave, append_place, load_place}

-- A plain book: the length of the body that it stands for, its keys, and its space; the desk of each key, how many pages each desk holds,
-- and what it may hold.
pub record Book : Type 0 where
  pub size : ℕ
  pub keys : List Key
  pub space : Space
  pub desks : List ℕ
  pub held : List ℕ
  pub limits : Limits

-- A fresh book: every key is empty, nothing is freed or held, and the mark is where lists may begin.
abbrev pub fresh : List ℕ → ℕ → ℕ → Limits → Book
fresh ds size heads l =
    record {
      size = size;
      keys = replicate heads empty_key;
      space = record { mark = payload_start; stacks = replicate (page_class + 1) [] };
      desks = ds;
      held = replicate desks 0;
      limits = l;
    }

-- What a book without desks has: no reserves, and ceilings of 2^64 - 1.
abbrev pub unlimited : Limits
unlimited = record { reserve = replicate desks 0; ceiling = replicate desks (2 ^ 64 - 1) }

-- A fresh book of one desk without limits.
abbrev pub fresh_alone : ℕ → ℕ → Book
fresh_alone size heads = fresh (replicate heads 0) size heads unlimited

-- Making a book, with a list of desks and their limits.
unfoldable pub makes : List ℕ → ℕ → ℕ → Limits → Answer Book
makes ds size heads l = making ds size heads l (accepted (fresh ds size heads l))

-- What an accepted change tells, and the book afterwards.
abbrev pub Outcome : Type 0 → Type 0
Outcome T = OutcomeOf Book T

-- ---- what is turned back

-- A call on a key: turned back where the book is out of shape, where its list names no desk for each key, or where the key is beyond the
-- heads.
unfoldable pub on_key : {A : Type 0} → Book → ℕ → Answer A → Answer A
on_key b key after =
    refuse_if (out_of_shape b.size (length b.keys)) shape_bad
    (refuse_if (list_bad b.desks (length b.keys)) desks_bad (refuse_if (leb (length b.keys) key) key_beyond after))

-- How many pages of a space are freed.
abbrev pub freed_in : Space → ℕ
freed_in s = length (stack_of page_class s)

-- What a desk's take has to pass: that of so many pages, and what it gave.
unfoldable pub allowed : Limits → ℕ → ℕ → List ℕ → Leave
allowed l end desk held k a =
    and_then a (λ t. permitted l end desk k held (freed_in t.space) t.space.mark (accepted t))

-- ---- the calls

-- A key of a book.
abbrev pub key_of : ℕ → Book → Key
key_of key b = get_or b.keys key empty_key

-- The desk of a key.
abbrev pub desk_in : Book → ℕ → ℕ
desk_in b key = desk_of b.desks key

-- What the takes of a key's desk have to pass.
abbrev pub leave_of : Book → ℕ → Leave
leave_of b key = allowed b.limits b.size (desk_in b key) b.held

-- A book with a key and its space changed: the key's desk holds the pages of the new place, and no longer those of the old.
abbrev pub with_key : ℕ → Key → Space → Book → Book
with_key key k space b =
    record {
      size = b.size;
      keys = set b.keys key k;
      space = space;
      desks = b.desks;
      held = set b.held (desk_in b key) (desk_count (desk_in b key) b.held + pages_of k.place - pages_of (key_of key b).place);
      limits = b.limits;
    }

-- A place that holds something: the key is in use.
abbrev pub in_use : Place → Bool
in_use empty = false
in_use inline = true
in_use (slab class off kept) = true
in_use (pages ps) = true

-- A load: onto an empty key.
unfoldable pub loads : SlabFit → Book → ℕ → List ℕ → Answer (Outcome Loaded)
loads fit b key ns =
    on_key b key
    (refuse_if (in_use (key_of key b).place) key_in_use
    (refuse_if (ltb max_offered (length ns)) too_many_offered
    (offered_list true 0 ns
    (and_then (load_place fit b.size (leave_of b key) ns b.space)
    (λ p. accepted (record {
      told = loaded_in (pages_of p.place);
      book = with_key key (key_in ns p.place true) p.space b;
    }))))))

-- A list with one number more.
abbrev pub extended : List ℕ → ℕ → List ℕ
extended ns n = ns ++ (n ∷ [])

-- An append of one number to a key.
unfoldable pub appends : Book → ℕ → ℕ → Answer (Outcome Appended)
appends b key n =
    on_key b key
    (let list = extended (key_of key b).list n in
    offered_number true (last_from 0 (key_of key b).list) n
    (and_then (append_place b.size (leave_of b key) (length (key_of key b).list) list n (key_of key b).place b.space)
    (λ p. accepted (record {
      told = appended_to (head_of list p.place) p.rewritten;
      book = with_key key (key_in list p.place (counted_after (key_of key b).place (key_of key b).counted)) p.space b;
    }))))

-- A read of a key into a lent list with room for some numbers.
unfoldable pub reads : Book → ℕ → ℕ → Answer Listed
reads b key room =
    on_key b key
    (refuse_if (ltb room (length (key_of key b).list)) list_too_short
    (accepted (listing (key_of key b).list (pages_of (key_of key b).place) (padded_of (key_of key b).place))))

-- A drop of a key: its place is freed.
unfoldable pub drops : Book → ℕ → Answer (Outcome Dropped)
drops b key =
    on_key b key
    (accepted (record {
      told = dropped_of (length (key_of key b).list);
      book = with_key key empty_key (freed_place (key_of key b).place b.space) b;
    }))

-- What an enquiry answers.
unfoldable pub asks : Book → (q : Enquiry) → Answer (Said q)
asks b (read key room) = reads b key room

-- What a change does.
unfoldable pub does : Book → (c : Change) → Answer (Outcome (Made c))
does b (load fit key ns) = loads fit b key ns
does b (append key n) = appends b key n
does b (drop key) = drops b key

-- The plain book as calls see it.
abbrev pub serves : Serves Book
serves = record { asks = asks; does = does }

-- ---- histories

-- The book after a list of calls.
abbrev pub after : Book → List Call → Book
after b cs = after_calls serves b cs

-- The answers to a list of calls, each on the book that those before it left.
abbrev pub answers : Book → (cs : List Call) → Answers cs
answers b cs = answers_to serves b cs

-- None of some calls is a drop of a key.
unfoldable pub NeverDropped : ℕ → List Call → Type 0
NeverDropped key [] = Unit {0}
NeverDropped key (c ∷ cs) = (c ≢ change (drop key)) × NeverDropped key cs
