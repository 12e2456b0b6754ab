-- `accept_drop` meets its contract: the word of an empty key is 0.
use Rattle.std.proofs.Common.{refl}
use Rattle.book.proofs.LawsKey.{does_yes}
use Rattle.book_drop.proofs.LawsDrop.{empty_word}
use Rattle.book_drop.proofs.dropping.accept_drop.Goals as goal

pub returns : goal.returns
returns c b s counts e = does_yes _ _ _ _ refl refl (rw (e, empty_word))
