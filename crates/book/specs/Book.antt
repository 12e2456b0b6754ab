-- A book over bytes (FORMAT, Body, State and Head word): its space, and one head word for each key.
use Rattle.std.specs.Prelude.{ℕ, ◌+◌, ◌||◌, List, leb, length, get_or, set, replicate}
use Rattle.error.specs.Refusal.{Answer, refuse_if, value_or, shape_bad, key_beyond, desks_bad}
use Rattle.buffer.specs.Bytes.{overwrite}
use Rattle.scripthash_layout.specs.Sizes.{page_class}
use Rattle.scripthash_layout.specs.Head.{payload_start, pack_head}
use Rattle.scripthash_layout.specs.declared.head.ShHeadValue.{ShHeadValue}
use Rattle.book_rules.specs.Outcomes.{OutcomeOf}
use Rattle.book_desks.specs.Desks.{desks, Limits, list_bad, desk_of}
use Rattle.book_desks.specs.Counts.{fresh_counts, counts_high}
use Rattle.book_space.specs.Space.{Space, space, shape_broken}
use Rattle.book_space.specs.Desks.{TakenFor}
use Rattle.book_keys.specs.Keys.{Ground, body_ground}

-- A book: the head words, the space with the body, the mark and the free heads, and the counts of its desks.
pub record Book : Type 0 where
  pub heads : List ℕ
  pub space : Space
  pub counts : List ℕ

-- A space as keys are read there: the free heads don't matter.
abbrev pub seen : Space → Ground
seen s = body_ground s.body s.mark

-- A book of a body, its head words, its mark, its free heads and its counts.
abbrev pub book : List ℕ → List ℕ → ℕ → List ℕ → List ℕ → Book
book body heads mark free counts = record { heads = heads; space = space body mark free; counts = counts }

-- A fresh book over a body, whose desks have some limits: heads and free heads are 0, and the mark is where lists may begin.
abbrev pub fresh : List ℕ → ℕ → Limits → Book
fresh body heads l = book body (replicate heads 0) payload_start (replicate (page_class + 1) 0) (fresh_counts l)

-- What an accepted change tells, and the book afterwards.
abbrev pub Outcome : Type 0 → Type 0
Outcome T = OutcomeOf Book T

-- The head word of a key.
abbrev pub word_of : ℕ → Book → ℕ
word_of key b = get_or b.heads key 0

-- The word that stores a place. The 0 is never met: a call makes only places that pack, with a number below 2^62, or a class up to 7 and an
-- offset within the body.
unfoldable pub head_word : ShHeadValue → ℕ
head_word place = value_or (λ w. w) (pack_head place) 0

-- A call on a key: turned back where the shape breaks the limits, or the key is beyond the heads.
unfoldable pub on_key : {A : Type 0} → Book → ℕ → Answer A → Answer A
on_key b key after = refuse_if (shape_broken b.space (length b.heads)) shape_bad (refuse_if (leb (length b.heads) key) key_beyond after)

-- A change by a desk on a key: turned back where the shape breaks the limits, where there is no such desk, or the key is beyond the heads.
unfoldable pub by_desk : {A : Type 0} → ℕ → Book → ℕ → Answer A → Answer A
by_desk desk b key after =
    refuse_if (shape_broken b.space (length b.heads)) shape_bad
    (refuse_if (leb desks desk) desks_bad (refuse_if (leb (length b.heads) key) key_beyond after))

-- A call that is lent the list of desks: lengths, mark and counts are judged, then the list, and then the key's desk makes the call.
unfoldable pub with_desks : {A : Type 0} → List ℕ → Book → ℕ → (ℕ → Answer A) → Answer A
with_desks ds b key call =
    refuse_if (shape_broken b.space (length b.heads) || counts_high (length b.space.body) b.counts) shape_bad
    (refuse_if (list_bad ds (length b.heads)) desks_bad (call (desk_of ds key)))

-- What a change leaves that gives a key another place, in another space and with these counts.
abbrev pub placing : {T : Type 0} → T → ℕ → ShHeadValue → Space → List ℕ → Book → Outcome T
placing told key place s counts b =
    record { told = told; book = record { heads = set b.heads key (head_word place); space = s; counts = counts } }

-- A taken block filled with bytes from its beginning on.
abbrev pub filled : TakenFor → List ℕ → Space
filled t bytes = space (overwrite t.space.body t.off bytes) t.space.mark t.space.free
