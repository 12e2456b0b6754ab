-- Each call is answered alike by any pair of books that agree. Assumes nothing.
use Rattle.book_statements.specs.Calls.{read, load, append, drop}
use Rattle.plain_book.specs.Book.{asks as plain_asks, does as plain_does}
use Rattle.book_history.specs.Calls.{asks, does}
use Rattle.book_history.proofs.LawsCalls.{EachAlike, EachSame}
use Rattle.book_history.proofs.LawsContent.{read_step}
use Rattle.book_history.proofs.LawsLoad.{load_step}
use Rattle.book_history.proofs.LawsDrop.{drop_step}
use Rattle.book_history.proofs.LawsAppendSlab.{append_step}
use Rattle.book_history.proofs.LawsAppendPage.{append_pages_lem}

-- A load, an append and a drop.
pub each_alike : EachAlike
unfolding plain_does does
each_alike plain b (load fit key ns) g a = load_step fit plain b key ns g a
each_alike plain b (append key n) g a = append_step plain b key n g a (λ ps is. append_pages_lem plain b key n ps g a is)
each_alike plain b (drop key) g a = drop_step plain b key g a

-- A read.
pub each_same : EachSame
unfolding plain_asks asks
each_same plain b (read key room) g a = read_step plain b key room g a
