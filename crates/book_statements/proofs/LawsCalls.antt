-- Lists of calls on any book: what each change keeps, they keep. Assumes nothing.
use mathlib.Core.List.{List, [], ◌∷◌}
use Rattle.book_rules.specs.Outcomes.{book_after}
use Rattle.book_statements.specs.Calls.{Change, Call, ask, change, Serves, after_calls}

-- What every change keeps, every list of calls keeps.
pub calls_keep : {B : Type 0} (k : Serves B) (P : B → Type 0) → ((b : B) (c : Change) → P b → P (book_after b (k.does b c)))
    → (b : B) (cs : List Call) → P b → P (after_calls k b cs)
unfolding after_calls
calls_keep k P keeps b [] h = h
calls_keep k P keeps b (ask q ∷ cs) h = calls_keep k P keeps b cs h
calls_keep k P keeps b (change c ∷ cs) h = calls_keep k P keeps (book_after b (k.does b c)) cs (keeps b c h)
