-- Packing a whole page (FORMAT, One page by itself): its header, the stream of an offered list, and 0 behind it; or a refusal.
use Rattle.std.specs.Prelude.{ℕ, ◌-◌, cond, List, ltb, eqb, length}
use Rattle.error.specs.Refusal.{Answer, refuse_if, answered, too_many_offered}
use Rattle.scripthash_layout.specs.Sizes.{page_size}
use Rattle.scripthash_stream.specs.Stream.{stream, encode_stream, max_offered}
use Rattle.scripthash_fields.specs.Page.{link_to, on_page, on_link, on_extent, delta_header, extent_header, page_of}

-- The page of a header and of the stream of an offered list that fits behind it, or a refusal.
unfoldable pub packed : List ℕ → List ℕ → Answer (List ℕ)
packed header ns =
    refuse_if (ltb max_offered (length ns)) too_many_offered
    (answered (λ len. page_of header (stream ns)) (encode_stream (page_size - length header) ns))

-- A packed page that names no extent, with a next page; with none, at 0, it is LAST with first offset 0.
unfoldable pub pack_page : List ℕ → List ℕ → ℕ → Answer (List ℕ)
pack_page page ns next = on_page page (on_link next (packed (delta_header (length ns) (link_to (eqb next 0) next)) ns))

-- The page that the last of an extent names: the next, or the extent's base where there is none.
abbrev pub linked : ℕ → ℕ → ℕ
linked base next = cond (eqb next 0) base next

-- A packed page that names an extent, with a next page; with none it is LAST with the extent's base as first offset. Creates is 0.
unfoldable pub pack_extent : List ℕ → List ℕ → ℕ → ℕ → ℕ → Answer (List ℕ)
pack_extent page ns base count next =
    on_page page
    (on_link (linked base next)
    (on_extent base count (packed (extent_header (length ns) (link_to (eqb next 0) (linked base next)) base count 0) ns)))
