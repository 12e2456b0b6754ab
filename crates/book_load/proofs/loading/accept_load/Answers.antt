-- `accept_load` meets its contract: the key's word is written, and its pages are told.
use Rattle.std.proofs.Common.{refl}
use Rattle.book.proofs.LawsKey.{does_yes}
use Rattle.book_load.proofs.loading.accept_load.Goals as goal

pub returns : goal.returns
returns c b s counts e = does_yes _ _ _ _ refl refl (rw (e, c.put_head.ensures))
