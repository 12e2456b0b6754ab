-- What the steps of the book's calls promise each other: no answer of a public function is defined here.
use Rattle.std.specs.Prelude.{ℕ, ◌^◌, ◌≤◌, ◌<◌, List, ◌≡◌, length}
use Rattle.std.specs.Prelude.{Result}
use Rattle.std.proofs.Math.Option.{Option, none, some}
use Rattle.error.specs.Refusal.{Answer, accepted, refused, and_then, answered, refusal_of}
use Rattle.error.specs.Answers.{result_answer}
use Rattle.error.specs.declared.Refusal.{Refusal}
use Rattle.scripthash_layout.specs.Sizes.{max_slab_class, slab_bytes}
use Rattle.scripthash_layout.specs.declared.head.ShHeadValue.{ShHeadValue}
use Rattle.scripthash_layout.specs.declared.head.ShHeadValue.TheVariants.{Slab, Extent}
use Rattle.scripthash_stream.specs.Stream.{Rising, stream_len}
use Rattle.scripthash_slabs.specs.Slab.{slab_payload}
use Rattle.book_rules.specs.Outcomes.{book_after, answer_of}
use Rattle.book_rules.specs.Places.{payload_len}
use Rattle.book_desks.specs.Desks.{desks}
use Rattle.book_space.specs.Space.{Space, InShape}
use Rattle.book_space.specs.Desks.{slab_for, page_for}
use Rattle.book_blocks.specs.Blocks.{last_page_of}
use Rattle.book.specs.Book.{Book, Outcome, filled, with_desks}

-- A list that was written to a taken block: its place, and the space and the counts afterwards.
pub record Placed : Type 0 where
  pub place : ShHeadValue
  pub space : Space
  pub counts : List ℕ

-- A list written anew to a slab of a class, or else to a page, that a desk takes.
unfoldable pub places_into : ℕ → Space → List ℕ → List ℕ → Option ℕ → Answer Placed
places_into desk s counts list (some class) =
    and_then (slab_for desk class s counts)
    (λ t. accepted (record { place = Slab class (length list) t.off; space = filled t (slab_payload list); counts = t.counts }))
places_into desk s counts list none =
    and_then (page_for desk s counts)
    (λ t. accepted (record {
      place = Extent t.off;
      space = filled t (last_page_of t.off t.off 1 (length list) list);
      counts = t.counts;
    }))

-- The space after a list was placed: as it was where that is refused.
unfoldable pub space_with : Space → Answer Placed → Space
space_with s (accepted p) = p.space
space_with s (refused number) = s

-- The counts after it.
unfoldable pub counts_with : List ℕ → Answer Placed → List ℕ
counts_with counts (accepted p) = p.counts
counts_with counts (refused number) = counts

-- What placing a list in a slab of a class asks for: a space in shape, a desk that is one, and a list that rises and fits.
pub record ToPlaceInSlab (s : Space) (desk : ℕ) (list : List ℕ) (class : ℕ) : Type 0 where
  pub shape : InShape s
  pub known : desk < desks
  pub low : class ≤ max_slab_class
  pub few : length list ≤ 256
  pub rises : Rising (2 ^ 62) 0 list
  pub fits : payload_len (stream_len list) ≤ slab_bytes class

-- What placing a list in a page asks for.
pub record ToPlaceInPage (s : Space) (desk : ℕ) (list : List ℕ) : Type 0 where
  pub shape : InShape s
  pub known : desk < desks
  pub few : length list ≤ 257
  pub rises : Rising (2 ^ 62) 0 list
  pub fits : stream_len list ≤ 4072

-- What moving a list asks for: it has two numbers or more.
pub record ToMove (s : Space) (desk : ℕ) (list : List ℕ) : Type 0 where
  pub shape : InShape s
  pub known : desk < desks
  pub two : 2 ≤ length list
  pub few : length list ≤ 257
  pub rises : Rising (2 ^ 62) 0 list

-- A placing does what an answer of its definition says: it tells the place or the refusal, and leaves the space and the counts.
pub record Places (a : Answer Placed) (before : Space) (counts_before : List ℕ) (after : Space) (counts_after : List ℕ)
    (tells : Answer ShHeadValue) : Type 0 where
  pub told : tells ≡ answered (λ (p : Placed). p.place) a
  pub left : after ≡ space_with before a
  pub counts : counts_after ≡ counts_with counts_before a

-- The answer of placing a list.
abbrev pub place_answer : Result ShHeadValue Refusal → Answer ShHeadValue
place_answer = result_answer (λ place. place)

-- A change does what an answer of its definition says: it tells the same, and leaves the book after it.
pub record Does {T : Type 0} (a : Answer (Outcome T)) (before after : Book) (tells : Answer T) : Type 0 where
  pub told : tells ≡ answer_of a
  pub left : after ≡ book_after before a

-- The number that a call with a list of desks is turned back with before anything else, and 0 where it goes on.
unfoldable pub call_number : List ℕ → Book → ℕ
call_number ds b = refusal_of (with_desks {A = Unit {0}} ds b 0 (λ desk. accepted tt))
