-- The stream of a page (FORMAT, One page by itself): read, with the link's next offset, appended to, and written.
use Rattle.std.specs.Prelude.{ℕ, ◌+◌, ◌-◌, ◌^◌, Bool, true, false, cond, List, leb, ltb, eqb, length, drop}
use Rattle.std.proofs.Math.Option.{Option, none, some}
use Rattle.error.specs.Refusal.{Answer, accepted, refused, refuse_if, and_then, list_too_short}
use Rattle.error.specs.Refusal.{offered_first_zero, too_many_offered, offered_bit63, offered_not_rising}
use Rattle.buffer.specs.Bytes.{overwrite}
use Rattle.compact.specs.Uleb128.{uleb_len, shortest}
use Rattle.scripthash_stream.specs.Stream.{Scan, scan, last_from, padded_in, stream, encode_stream}
use Rattle.scripthash_stream.specs.Stream.{max_offered}
use Rattle.scripthash_pages.specs.EntryAnswers.{EntriesRead, PageRead}
use Rattle.scripthash_fields.specs.Page.{set_field, count_of, next_off, delta_version, extent_version, names_extent, stream_off, stream_cap, on_page}
use Rattle.scripthash_fields.specs.Page.{on_delta}

-- Where the stream of a page starts, and how many numbers it has.
pub record StreamAt : Type 0 where
  pub off : ℕ
  pub count : ℕ

-- The stream's place in a page that passes the tests.
unfoldable pub stream_place : List ℕ → Answer StreamAt
stream_place page = on_page page (on_delta page (accepted (record { off = stream_off page; count = count_of page })))

-- Scanning the stream of a page.
unfoldable pub page_scan : List ℕ → Answer Scan
page_scan page = and_then (stream_place page) (λ p. scan p.count (drop p.off page))

-- The last number of a scanned stream, 0 where it has none.
abbrev pub last_of : Scan → ℕ
last_of s = last_from 0 s.numbers

-- Reading the numbers of a page into a lent list with room for some, or a refusal.
unfoldable pub page_entries : ℕ → List ℕ → Answer Scan
page_entries room page = and_then (page_scan page) (λ s. refuse_if (ltb room (length s.numbers)) list_too_short (accepted s))

-- How many numbers were read.
abbrev pub read_count : Scan → ℕ
read_count s = length s.numbers

-- How many numbers of a page are padded.
unfoldable pub page_padded : List ℕ → ℕ
page_padded page = padded_in (count_of page) (drop (stream_off page) page)

-- What reading the numbers of a page tells, of a page that was scanned.
abbrev pub entries_read_of : List ℕ → Scan → EntriesRead
entries_read_of page s = record { count = read_count s; padded = page_padded page }

-- What reading a page tells besides its numbers, of a page that was scanned.
unfoldable pub page_read_of : List ℕ → Scan → PageRead
page_read_of page s = record { count = length s.numbers; next = next_off page; padded = page_padded page }

-- ---- appended to

-- Where a number's form goes in a page, and the difference that it is the form of.
pub record Spot : Type 0 where
  pub at : ℕ
  pub difference : ℕ

-- The spot of a number behind a scanned stream; none where the used bytes plus the form's length exceed the capacity.
unfoldable pub spot_behind : List ℕ → ℕ → Scan → Option Spot
spot_behind page fk s =
    cond (ltb (stream_cap page) (s.taken + uleb_len (fk - last_of s))) none
    (some (record { at = stream_off page + s.taken; difference = fk - last_of s }))

-- The spot of a number that is offered to a page, none where the page is full; or a refusal.
unfoldable pub append_spot : List ℕ → ℕ → Answer (Option Spot)
append_spot page fk =
    on_page page
    (refuse_if (eqb fk 0) offered_first_zero
    (refuse_if (leb (2 ^ 63) fk) offered_bit63
    (and_then (page_scan page) (λ s. refuse_if (leb fk (last_of s)) offered_not_rising (accepted (spot_behind page fk s))))))

-- The number is appended, or the page is full.
abbrev pub has_spot : Option Spot → Bool
has_spot (some w) = true
has_spot none = false

-- A page whose header counts one number more; version 0 becomes 1.
unfoldable pub one_more : List ℕ → List ℕ
one_more page = set_field (set_field page 0 1 (cond (names_extent page) extent_version delta_version)) 1 2 (count_of page + 1)

-- A page with a number appended: it counts one more, and the form stands at its spot.
unfoldable pub with_appended : List ℕ → Spot → List ℕ
with_appended page w = overwrite (one_more page) w.at (shortest w.difference)

-- What the page holds after an answer: the number appended, or what it held where it is full or the number is refused.
unfoldable pub after_append : List ℕ → Answer (Option Spot) → List ℕ
after_append page (accepted (some w)) = with_appended page w
after_append page (accepted none) = page
after_append page (refused number) = page

-- ---- written

-- Writing the stream of an offered list to a page: its length, or a refusal.
unfoldable pub write_stream : List ℕ → List ℕ → Answer ℕ
write_stream page ns = on_page page (refuse_if (ltb max_offered (length ns)) too_many_offered (encode_stream (stream_cap page) ns))

-- What the page holds after an answer: the stream at its start with its count, the rest as it was; or what it held.
unfoldable pub after_write_stream : List ℕ → List ℕ → Answer ℕ → List ℕ
after_write_stream page ns (accepted len) = set_field (overwrite page (stream_off page) (stream ns)) 1 2 (length ns)
after_write_stream page ns (refused number) = page
