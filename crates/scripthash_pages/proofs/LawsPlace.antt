-- Where the stream of a page stands, by the test of a page that can be read. Assumes nothing.
use Prim.Native.Nat.{ℕ}
use mathlib.Core.List.{List}
use mathlib.Core.Path.{◌≡◌, sym, ◌∙◌}
use borrow.Author.Tests.{eqb-true, not-false}
use lib.ListN.{length}
use Rattle.error.specs.Refusal.{accepted, refused}
use Rattle.error.proofs.LawsAnswer.{refused≢accepted, refused_alike, passed, refuse_no}
use Rattle.scripthash_layout.specs.Sizes.{page_size}
use Rattle.scripthash_fields.specs.Page.{count_of, stream_off}
use Rattle.scripthash_fields.specs.Fields.{require_delta}
use Rattle.scripthash_pages.specs.Entries.{stream_place}

-- a page that is refused has no place for a stream
pub place_refused : (page : List ℕ) {number : ℕ} → require_delta page ≡ refused number → stream_place page ≡ refused number
unfolding require_delta stream_place
place_refused page e = refused_alike _ _ _ _ (refused_alike _ _ _ _ (refused_alike _ _ _ _ (λ a. absurd (refused≢accepted (sym a))))) e

-- a page that can be read has its stream where its version says
pub place_passed : (page : List ℕ) → require_delta page ≡ accepted tt
    → stream_place page ≡ accepted (record { off = stream_off page; count = count_of page })
unfolding require_delta stream_place
place_passed page e =
    let (long, e₁) = passed _ _ _ e in
    let (few, e₂) = passed _ _ _ e₁ in
    let (known, e₃) = passed _ _ _ e₂ in
    refuse_no _ _ _ long ∙ refuse_no _ _ _ few ∙ refuse_no _ _ _ known

-- a page that can be read is one
pub delta_long : (page : List ℕ) → require_delta page ≡ accepted tt → length page ≡ page_size
unfolding require_delta
delta_long page e = eqb-true (length page) page_size (not-false _ (passed _ _ _ e).0)

-- so it has it where a start and a count were read
pub place_at : (page : List ℕ) (off count : ℕ) → off ≡ stream_off page → count ≡ count_of page → require_delta page ≡ accepted tt
    → accepted (record { off = off; count = count }) ≡ stream_place page
place_at page off count a b e = rw (a, b) (sym (place_passed page e))
