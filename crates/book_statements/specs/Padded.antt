-- What answers report of padded numbers, told by calls and their answers alone.
use Rattle.std.specs.Prelude.{ℕ, ◌<◌, List, ◌≡◌}
use Rattle.error.specs.Refusal.{Answer, accepted, refused}
use Rattle.book_statements.specs.Calls.{Enquiry, read, Said, Change, load, append, drop, Made, Call, Answers, done, asked, changed}

-- An answer to an enquiry reports no padded number of a key: an accepted read of that key tells 0.
unfoldable pub NonePadded : ℕ → (q : Enquiry) → Answer (Said q) → Type 0
NonePadded key (read k room) (accepted l) = k ≡ key → l.padded ≡ 0
NonePadded key (read k room) (refused number) = Unit {0}

-- None of the answers to a list of calls reports a padded number of a key.
unfoldable pub ReportsNone : ℕ → {cs : List Call} → Answers cs → Type 0
ReportsNone key done = Unit {0}
ReportsNone key (asked {q = q} a rest) = NonePadded key q a × ReportsNone key rest
ReportsNone key (changed a rest) = ReportsNone key rest

-- An accepted change writes a key's whole list anew: a load, an append that moves the list, or a drop, which leaves none.
unfoldable pub Renews : ℕ → (c : Change) → Made c → Type 0
Renews key (load fit k ns) told = k ≡ key
Renews key (append k n) told = (k ≡ key) × (0 < told.rewritten)
Renews key (drop k) told = k ≡ key

-- Once the answers to a list of calls tell of such a change of a key, none of those behind it reports a padded number of the key.
unfoldable pub NoneOnceRenewed : ℕ → {cs : List Call} → Answers cs → Type 0
NoneOnceRenewed key done = Unit {0}
NoneOnceRenewed key (asked a rest) = NoneOnceRenewed key rest
NoneOnceRenewed key (changed (refused number) rest) = NoneOnceRenewed key rest
NoneOnceRenewed key (changed {c = c} (accepted told) rest) = (Renews key c told → ReportsNone key rest) × NoneOnceRenewed key rest
