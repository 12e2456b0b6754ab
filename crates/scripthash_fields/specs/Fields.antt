-- What the calls on a page's fields answer, and what the page holds afterwards (FORMAT, One page by itself).
use Rattle.std.specs.Prelude.{ℕ, Bool, true, cond, not, List, [], ltb}
use Rattle.std.proofs.Math.Option.{Option, none, some}
use Rattle.error.specs.Refusal.{Answer, accepted, refused, refuse_if, not_last, count_above_capacity}
use Rattle.scripthash_fields.specs.FieldAnswers.{Link, Extent}
use Rattle.scripthash_fields.specs.Page.{set_field, count_of, link_of, extent_base_of, extent_count_of, creates_field_of, extent_version}
use Rattle.scripthash_fields.specs.Page.{names_extent}
use Rattle.scripthash_fields.specs.Page.{stream_off, stream_cap, is_last_link, link_offset, next_off, link_to, on_page, on_link, on_extent}
use Rattle.scripthash_fields.specs.Page.{on_delta, delta_header, page_of}

-- ---- asking

-- The link of a page.
unfoldable pub read_link : List ℕ → Answer Link
read_link page = on_page page (accepted (record { last = is_last_link (link_of page); off = link_offset (link_of page) }))

-- Whether a page is LAST.
unfoldable pub is_last : List ℕ → Answer Bool
is_last page = on_page page (accepted (is_last_link (link_of page)))

-- The first page's offset, which a page with LAST names.
unfoldable pub first_off : List ℕ → Answer ℕ
first_off page = on_page page (refuse_if (not (is_last_link (link_of page))) not_last (accepted (link_offset (link_of page))))

-- The next page's offset, 0 where the page is LAST.
unfoldable pub next_off_of : List ℕ → Answer ℕ
next_off_of page = on_page page (accepted (next_off page))

-- The extent that a page names, none outside version 2.
unfoldable pub extent_of : List ℕ → Answer (Option Extent)
extent_of page =
    on_page page
    (cond
    (names_extent page)
    (on_extent (extent_base_of page) (extent_count_of page) (accepted (some (record { base = extent_base_of page; count = extent_count_of page }))))
    (accepted none))

-- Creates, 0 outside version 2.
unfoldable pub creates_of : List ℕ → Answer ℕ
creates_of page = on_page page (accepted (cond (names_extent page) (creates_field_of page) 0))

-- How many numbers a page has, where its capacity allows for them.
unfoldable pub n_fks : List ℕ → Answer ℕ
n_fks page = on_page page (refuse_if (ltb (stream_cap page) (count_of page)) count_above_capacity (accepted (count_of page)))

-- Whether a page can be read: its count is within its capacity and its version is known.
unfoldable pub require_delta : List ℕ → Answer (Unit {0})
require_delta page = on_page page (on_delta page (accepted tt))

-- Where a page's stream starts.
unfoldable pub stream_off_of : List ℕ → Answer ℕ
stream_off_of page = on_page page (accepted (stream_off page))

-- A page's capacity.
unfoldable pub stream_cap_of : List ℕ → Answer ℕ
stream_cap_of page = on_page page (accepted (stream_cap page))

-- ---- setting: the page as it is afterwards, or a refusal

-- A page with another link.
unfoldable pub write_link : List ℕ → Bool → ℕ → Answer (List ℕ)
write_link page last off = on_page page (on_link off (accepted (set_field page 3 5 (link_to last off))))

-- A page that names an extent, in version 2.
unfoldable pub set_extent : List ℕ → ℕ → ℕ → Answer (List ℕ)
set_extent page base count =
    on_page page (on_extent base count (accepted (set_field (set_field (set_field page 0 1 extent_version) 8 8 base) 16 4 count)))

-- A page with another number of creates, as it is outside version 2.
unfoldable pub set_creates : List ℕ → ℕ → Answer (List ℕ)
set_creates page n = on_page page (accepted (cond (names_extent page) (set_field page 20 4 n) page))

-- A page with another count.
unfoldable pub set_count : List ℕ → ℕ → Answer (List ℕ)
set_count page n = on_page page (accepted (set_field page 1 2 n))

-- A page with no numbers: version 1, LAST with first offset 0, the rest 0.
unfoldable pub empty_page : List ℕ
empty_page = page_of (delta_header 0 (link_to true 0)) []

-- Any page made empty.
unfoldable pub init_empty : List ℕ → Answer (List ℕ)
init_empty page = on_page page (accepted empty_page)

-- What a call that sets tells: that it was done, or its refusal.
abbrev pub done : Answer (List ℕ) → Answer (Unit {0})
done (accepted page) = accepted tt
done (refused number) = refused number

-- What a page holds after a call that sets: what is set, or what it held.
abbrev pub after_set : List ℕ → Answer (List ℕ) → List ℕ
after_set page (accepted set) = set
after_set page (refused number) = page
