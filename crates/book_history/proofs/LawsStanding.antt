-- Books that agree stand alike: heads, mark and free lists. Assumes nothing.
use Prim.Native.Nat.{ℕ, ◌≤◌, ◌<◌}
use mathlib.Core.Bool.{false}
use mathlib.Core.Path.{◌≡◌, ◌∙◌}
use lib.ListN.{length}
use borrow.Author.Tests.{le-ltb}
use Rattle.error.specs.Refusal.{accepted}
use Rattle.error.proofs.LawsAnswer.{refuse_no, then_yes}
use Rattle.book_rules.specs.Outcomes.{listing}
use Rattle.book_limits.specs.Limits.{out_of_shape}
use Rattle.plain_book.specs.Key.{pages_of, padded_of}
use Rattle.plain_book.specs.Book.{Book as PlainBook, key_of}
use Rattle.plain_book.specs.Good.{GoodPlain}
use Rattle.plain_book.specs.Owners.{places}
use Rattle.book.specs.Book.{Book}
use Rattle.book_read.specs.Reads.{reads}
use Rattle.book_history.specs.Agrees.{contents_of, Agrees}
use Rattle.book_history.specs.Standing.{Standing}
use Rattle.book_history.proofs.LawsStep.{on_key_passes}
use Rattle.book_history.proofs.LawsFreeLists.{free_list_is}
use Rattle.book_history.proofs.LawsContent.{head_agrees, content_agrees}

-- A key of a book that agrees reads as its list, where the lent list is long enough.
reads_list : (plain : PlainBook) (b : Book) (key room : ℕ) → GoodPlain plain → Agrees plain b
    → out_of_shape plain.size (length plain.keys) ≡ false
    → key < length plain.keys → length (key_of key plain).list ≤ room
    → reads b key room ≡ accepted (listing (key_of key plain).list (pages_of (key_of key plain).place) (padded_of (key_of key plain).place))
unfolding reads
reads_list plain b key room g a shape l fits =
    on_key_passes plain b key _ g a shape l
    ∙ then_yes _ _ (content_agrees plain b g shape (a.inside shape) key)
    ∙ refuse_no _ _ _ (le-ltb room (length (key_of key plain).list) fits)

-- A book that agrees, in shape, stands as the plain book does.
pub agrees_stands : (plain : PlainBook) (b : Book) → GoodPlain plain → Agrees plain b
    → out_of_shape plain.size (length plain.keys) ≡ false → Standing plain b
agrees_stands plain b g a shape =
    let h = a.inside shape in
    record {
      size = a.size;
      count = a.count;
      heads = λ key. head_agrees plain b g shape h key;
      mark = h.space.mark;
      free = λ class l. free_list_is plain.space b.space (places plain) (contents_of plain) g.space h.space class;
      freed = h.counts.freed;
      held = h.counts.held;
      limits = h.counts.limits;
      reads = λ key room s l fits. reads_list plain b key room g a shape l fits;
    }
