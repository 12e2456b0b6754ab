-- How often a key is moved, and how many of its records moves rewrite, since it was last empty.
use Rattle.std.specs.Prelude.{ℕ, suc, ◌+◌, cond, List, eqb}
use Rattle.error.specs.Refusal.{Answer, accepted, refused}
use Rattle.book_statements.specs.Calls.{Change, load, append, drop, key_of_change, Made, Call, Answers, done, asked, changed}

-- The moves of a key since it was last empty, and the records that they rewrote.
pub record Tally : Type 0 where
  pub moves : ℕ
  pub rewritten : ℕ

-- Nothing moved yet.
abbrev pub no_moves : Tally
no_moves = record { moves = 0; rewritten = 0 }

-- A tally after an append that rewrote some records: it is a move where there are some.
unfoldable pub with_move : ℕ → Tally → Tally
with_move rewritten t =
    cond (eqb rewritten 0) t (record { moves = suc t.moves; rewritten = t.rewritten + rewritten })

-- The tally of a key after what an accepted change told: an append counts, and a drop ends it.
unfoldable pub tallied_by : (c : Change) → Made c → Tally → Tally
tallied_by (load fit key ns) told t = t
tallied_by (append key n) told t = with_move told.rewritten t
tallied_by (drop key) told t = no_moves

-- The tally of a key after a change: one that is turned back, or of another key, leaves it.
unfoldable pub tallied : ℕ → (c : Change) → Answer (Made c) → Tally → Tally
tallied key c (refused number) t = t
tallied key c (accepted told) t = cond (eqb (key_of_change c) key) (tallied_by c told t) t

-- The tally of a key after a list of calls, by the answers that they got.
unfoldable pub tally_of : ℕ → {cs : List Call} → Answers cs → Tally → Tally
tally_of key done t = t
tally_of key (asked a rest) t = tally_of key rest t
tally_of key (changed {c = c} a rest) t = tally_of key rest (tallied key c a t)
