-- A key of a plain book: the list that it holds, and where that stands.
use Rattle.std.specs.Prelude.{ℕ, ◌+◌, ◌-◌, Bool, true, cond, List, [], ◌∷◌, ◌++◌, leb, length}
use Rattle.std.proofs.Math.Option.{Option, none, some}
use Rattle.error.specs.Refusal.{Answer, accepted, and_then}
use Rattle.compact.specs.Uleb128.{uleb_len}
use Rattle.scripthash_layout.specs.Sizes.{page_class, page_size}
use Rattle.scripthash_layout.specs.declared.head.ShHeadValue.{ShHeadValue}
use Rattle.scripthash_layout.specs.declared.head.ShHeadValue.TheVariants.{Empty, Inline, Slab, Extent}
use Rattle.scripthash_stream.specs.Stream.{last_from, stream_len}
use Rattle.scripthash_cutting.specs.Cutting.{page_room, last_page_room, cutting, replace_last}
use Rattle.book_rules.specs.declared.places.SlabFit.{SlabFit}
use Rattle.book_limits.specs.Limits.{total_told}
use Rattle.book_rules.specs.Places.{stays, moves_to, loads_to}
use Rattle.plain_book.specs.Space.{Space, Taken, freed, take_block, take_run}

-- A stream as it is kept in a slab or a page: its numbers, how many bytes it takes, and how many of the numbers have a padded form.
pub record Kept : Type 0 where
  pub numbers : List ℕ
  pub bytes : ℕ
  pub padded : ℕ

-- One from its parts.
abbrev pub kept_as : List ℕ → ℕ → ℕ → Kept
kept_as numbers bytes padded = record { numbers = numbers; bytes = bytes; padded = padded }

-- A list written anew: in shortest forms.
unfoldable pub written : List ℕ → Kept
written ns = kept_as ns (stream_len ns) 0

-- A kept stream with one number more behind it, in its shortest form.
unfoldable pub longer : ℕ → Kept → Kept
longer n k = kept_as (k.numbers ++ (n ∷ [])) (k.bytes + uleb_len (n - last_from 0 k.numbers)) k.padded

-- A page: its offset, how many bytes of a stream it has room for, and the part of the list that it holds.
pub record Page : Type 0 where
  pub off : ℕ
  pub room : ℕ
  pub part : Kept

-- Where a list stands: nowhere, in the head word, in a slab of a class at an offset, or in pages, the first first.
pub data Place : Type 0 where
  empty : Place
  inline : Place
  slab : ℕ → ℕ → Kept → Place
  pages : List Page → Place

-- A key: its list, its place, and whether its last page tells how many numbers it has. A total that was never counted stays unknown until
-- the key is dropped.
pub record Key : Type 0 where
  pub list : List ℕ
  pub place : Place
  pub counted : Bool

-- A key from its parts.
abbrev pub key_in : List ℕ → Place → Bool → Key
key_in list place counted = record { list = list; place = place; counted = counted }

-- A key that holds nothing.
abbrev pub empty_key : Key
empty_key = key_in [] empty true

-- The total that a key's last page tells: how many numbers it has, or 0, unknown, which it is too past what creates can tell.
abbrev pub total_of : Key → ℕ
total_of k = cond k.counted (total_told (length k.list)) 0

-- The last of some pages, or a given one where there are none.
unfoldable pub last_page : Page → List Page → Page
last_page page [] = page
last_page page (p ∷ ps) = last_page p ps

-- A page that takes nothing.
abbrev pub no_page : Page
no_page = record { off = 0; room = 0; part = written [] }

-- What a head word says of a list's place: the number, the slab's class, count and offset, or the last page's offset.
unfoldable pub head_of : List ℕ → Place → ShHeadValue
head_of list empty = Empty
head_of list inline = Inline (last_from 0 list) 1
head_of list (slab class off kept) = Slab class (length list) off
head_of list (pages ps) = Extent (last_page no_page ps).off

-- How many pages a place has.
abbrev pub pages_of : Place → ℕ
pages_of empty = 0
pages_of inline = 0
pages_of (slab class off kept) = 0
pages_of (pages ps) = length ps

-- How many numbers of some pages have a padded form.
unfoldable pub padded_pages : List Page → ℕ
padded_pages [] = 0
padded_pages (p ∷ ps) = p.part.padded + padded_pages ps

-- How many numbers of a place have a padded form: none in a head word.
abbrev pub padded_of : Place → ℕ
padded_of empty = 0
padded_of inline = 0
padded_of (slab class off kept) = kept.padded
padded_of (pages ps) = padded_pages ps

-- Pages freed, the first first.
unfoldable pub freed_pages : List Page → Space → Space
freed_pages [] s = s
freed_pages (p ∷ ps) s = freed_pages ps (freed page_class p.off s)

-- A place given up: its slab or its pages are freed.
unfoldable pub freed_place : Place → Space → Space
freed_place empty s = s
freed_place inline s = s
freed_place (slab class off kept) s = freed class off s
freed_place (pages ps) s = freed_pages ps s

-- ---- appending

-- Whether a key is counted after an append: one in pages is if it was before, any other is, since a list that moves has its exact total.
abbrev pub counted_after : Place → Bool → Bool
counted_after empty counted = true
counted_after inline counted = true
counted_after (slab class off kept) counted = true
counted_after (pages ps) counted = counted

-- A list in one page.
abbrev pub one_page : ℕ → List ℕ → List Page
one_page off list = record { off = off; room = last_page_room; part = written list } ∷ []

-- A key after an append: its place, the space, and how many records were rewritten by a move.
pub record Placed : Type 0 where
  pub place : Place
  pub space : Space
  pub rewritten : ℕ

-- The same from its parts.
abbrev pub placed : Place → Space → ℕ → Placed
placed place s rewritten = record { place = place; space = s; rewritten = rewritten }

-- What a take has to pass: by how many pages it takes, 0 for a slab, what it gave is let through or turned back.
abbrev pub Leave : Type 0
Leave = ℕ → Answer Taken → Answer Taken

-- A list, longer by one number, moves out of a place: into a taken slab of a class, or else into a taken page; then the old place is freed.
-- The records held before are rewritten.
unfoldable pub moved : ℕ → Leave → Option ℕ → ℕ → List ℕ → Place → Space → Answer Placed
moved end leave (some class) held list old s =
    and_then (leave 0 (take_block end class s))
    (λ t. accepted (placed (slab class t.off (written list)) (freed_place old t.space) held))
moved end leave none held list old s =
    and_then (leave 1 (take_block end page_class s))
    (λ t. accepted (placed (pages (one_page t.off list)) (freed_place old t.space) held))

-- A page with one number more.
abbrev pub longer_page : ℕ → Page → Page
longer_page n p = record { off = p.off; room = p.room; part = longer n p.part }

-- A number joins the last of some pages: that page's stream still has room.
unfoldable pub joins : ℕ → List Page → Bool
joins n ps = leb (longer n (last_page no_page ps).part).bytes (last_page no_page ps).room

-- Some pages with the number joined to the last, as a place.
abbrev pub joined_to : ℕ → List Page → Place
joined_to n ps = pages (replace_last (λ p. longer_page n p ∷ []) ps)

-- Some pages with one more that holds the number, as a place.
abbrev pub begun_at : ℕ → ℕ → List Page → Place
begun_at off n ps = pages (ps ++ one_page off (n ∷ []))

-- A number begins a taken page.
unfoldable pub begin_page : ℕ → Leave → List Page → ℕ → Space → Answer Placed
begin_page end leave ps n s =
    and_then (leave 1 (take_block end page_class s)) (λ t. accepted (placed (begun_at t.off n ps) t.space 0))

-- A number joins the last of some pages, or else begins a taken page.
unfoldable pub append_pages : ℕ → Leave → List Page → ℕ → Space → Answer Placed
append_pages end leave ps n s =
    cond (joins n ps) (accepted (placed (joined_to n ps) s 0)) (begin_page end leave ps n s)

-- A list that held some records has one number more now: where it stands then. The lists of slabs move where they no longer fit.
unfoldable pub append_place : ℕ → Leave → ℕ → List ℕ → ℕ → Place → Space → Answer Placed
append_place end leave held list n empty s = accepted (placed inline s 0)
append_place end leave held list n inline s = moved end leave (moves_to (length list) (stream_len list)) held list inline s
append_place end leave held list n (slab class off kept) s =
    cond (stays class (length list) (longer n kept).bytes)
    (accepted (placed (slab class off (longer n kept)) s 0))
    (moved end leave (moves_to (length list) (stream_len list)) held list (slab class off kept) s)
append_place end leave held list n (pages ps) s = append_pages end leave ps n s

-- ---- loading

-- The pages of a run, from an offset on: each has room for 4,088 bytes, the last for 4,072.
unfoldable pub run_pages : ℕ → List (List ℕ) → List Page
run_pages off [] = []
run_pages off (p ∷ []) = record { off = off; room = last_page_room; part = written p } ∷ []
run_pages off (p ∷ q ∷ ps) = record { off = off; room = page_room; part = written p } ∷ run_pages (off + page_size) (q ∷ ps)

-- A list loaded into a taken slab of a class, or else into a run of pages, a part of its cutting in each.
unfoldable pub load_into : ℕ → Leave → Option ℕ → List ℕ → Space → Answer Placed
load_into end leave (some class) list s =
    and_then (leave 0 (take_block end class s)) (λ t. accepted (placed (slab class t.off (written list)) t.space 0))
load_into end leave none list s =
    and_then (leave (length (cutting list)) (take_run end (length (cutting list)) s))
    (λ t. accepted (placed (pages (run_pages t.off (cutting list))) t.space 0))

-- Where a loaded list stands: none nowhere, one in the head word, more by the load's rule.
unfoldable pub load_place : SlabFit → ℕ → Leave → List ℕ → Space → Answer Placed
load_place fit end leave [] s = accepted (placed empty s 0)
load_place fit end leave (n ∷ []) s = accepted (placed inline s 0)
load_place fit end leave (n ∷ m ∷ ns) s = load_into end leave (loads_to fit (length (n ∷ m ∷ ns)) (stream_len (n ∷ m ∷ ns))) (n ∷ m ∷ ns) s
