-- Demand 1, of the book: on any book over bytes, a damaged one too, lent any list of desks, after an accepted change only what the change
-- may write differs. That a refused call leaves everything as it was stands in the contract of each export
-- (`ouriscado/src/account_book.rt`, `kept`); here it is said of the definitions, where it holds by what a refusal is. Assumes nothing.
use Prim.Native.Nat.{ℕ, ◌+◌, ◌-◌, ◌^◌, ◌<◌}
use mathlib.Core.Bool.{true}
use mathlib.Core.List.{List}
use mathlib.Core.Option.{some}
use mathlib.Core.Path.{◌≡◌}
use lib.ListN.{length}
use Rattle.error.specs.Refusal.{accepted, refused}
use Rattle.buffer.specs.LittleEndian.{AreBytes}
use Rattle.compact.specs.Uleb128.{uleb_len}
use Rattle.scripthash_layout.specs.Head.{slab_word, unpack_head}
use Rattle.scripthash_layout.specs.declared.head.ShHeadValue.TheVariants.{Slab, Extent}
use Rattle.scripthash_stream.specs.Stream.{Scan}
use Rattle.scripthash_pages.specs.Entries.{last_of, Spot, spot_behind}
use Rattle.book_rules.specs.Outcomes.{Appended, book_after}
use Rattle.book_statements.specs.Calls.{read, Change, append, Made}
use Rattle.book_rules.specs.Places.{stays}
use Rattle.book_keys.specs.Keys.{page_at, slab_scan, Tail, tail_at}
use Rattle.book.specs.Book.{Book, Outcome, word_of, seen}
use Rattle.book_read.specs.Reads.{list_after}
use Rattle.book_history.specs.Calls.{asks, does}
use Rattle.book_history.specs.Writes.{Changes}
use Rattle.book_history.proofs.LawsWrites.{list_refused, refused_nothing, accepted_only}
use Rattle.book_history.proofs.LawsWritesWords.{slab_word_lem, page_words_lem}

-- The body, which is bytes as every lent one is, the head words, the state and the counts, for every change; an enquiry leaves them by what
-- it is.
pub demand_1 : (ds : List ℕ) (b : Book) (c : Change)
    → ((number : ℕ) → does ds b c ≡ refused number → book_after b (does ds b c) ≡ b)
    × ((o : Outcome (Made c)) → AreBytes b.space.body → does ds b c ≡ accepted o → Changes ds b o.book c)
demand_1 ds b c = (λ number e. refused_nothing ds b c e, λ o bytes e. accepted_only ds b c bytes e)

-- The lent list of a read that is refused.
pub demand_1_list : (ds : List ℕ) (b : Book) (key : ℕ) (out : List ℕ) (number : ℕ) → asks ds b (read key (length out)) ≡ refused number
    → list_after out (asks ds b (read key (length out))) ≡ out
demand_1_list ds b key out number e = list_refused ds b key out e

-- The head word of an append that stays where it is: in a slab only used differs, and is one more; behind the last page's stream no head
-- word differs at all.
pub demand_1_word : (ds : List ℕ) (b : Book) (key n : ℕ) (o : Outcome Appended) → word_of key b < 2 ^ 64
    → does ds b (append key n) ≡ accepted o
    → ((class used off : ℕ) (c : Scan) → unpack_head (word_of key b) ≡ accepted (Slab class used off)
    → slab_scan (seen b.space) class used off ≡ accepted c
    → stays class (length c.numbers + 1) (c.taken + uleb_len (n - last_of c)) ≡ true
    → (word_of key b ≡ slab_word class used off) × (word_of key o.book ≡ slab_word class (used + 1) off))
    × ((last : ℕ) (t : Tail) (w : Spot) → unpack_head (word_of key b) ≡ accepted (Extent last) → tail_at (seen b.space) last ≡ accepted t
    → spot_behind (page_at (seen b.space) last) n t.scan ≡ some w → o.book.heads ≡ b.heads)
demand_1_word ds b key n o word e = (
  λ class used off c is scanned stay. slab_word_lem ds b key n class used off c word is scanned stay e,
  λ last t w is tail spot. page_words_lem ds b key n last t w word is tail spot e,
)
