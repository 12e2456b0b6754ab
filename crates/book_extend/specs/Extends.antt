-- An extend over bytes (FORMAT, Append): some numbers behind one key's list, one append after another till one is refused.
use Rattle.std.specs.Prelude.{ℕ, ◌+◌, cond, List, [], ◌∷◌, eqb}
use Rattle.error.specs.Refusal.{Answer, accepted, refused, and_then}
use Rattle.scripthash_layout.specs.Head.{unpack_head}
use Rattle.scripthash_layout.specs.declared.head.ShHeadValue.{ShHeadValue}
use Rattle.scripthash_layout.specs.declared.head.ShHeadValue.TheVariants.{Empty, Inline, Slab, Extent}
use Rattle.book_rules.specs.Outcomes.{Appended}
use Rattle.book_keys.specs.Keys.{Ground, soundly, slab_scan, tail_at}
use Rattle.book.specs.Book.{Book, Outcome, word_of, by_desk, with_desks, seen}
use Rattle.book_append.specs.Appends.{appends}

-- What an extend tells: how many numbers were accepted, the refusal of the next one, 0 where there is none, the key's place then, how many
-- of the accepted appends moved the list, and how many records these rewrote.
pub record Extended : Type 0 where
  pub count : ℕ
  pub refusal : ℕ
  pub place : ShHeadValue
  pub moves : ℕ
  pub rewritten : ℕ

-- The same from its parts.
abbrev pub extended : ℕ → ℕ → ShHeadValue → ℕ → ℕ → Extended
extended count refusal place moves rewritten =
    record { count = count; refusal = refusal; place = place; moves = moves; rewritten = rewritten }

-- ---- the appends

-- An append that rewrote records is a move.
unfoldable pub moved : ℕ → ℕ
moved rewritten = cond (eqb rewritten 0) 0 1

-- What is told with one accepted append more.
abbrev pub with_append : Extended → Appended → Extended
with_append x a = extended (x.count + 1) x.refusal a.place (x.moves + moved a.rewritten) (x.rewritten + a.rewritten)

-- What is told where the next append is refused.
abbrev pub stopped_by : ℕ → Extended → Extended
stopped_by number x = extended x.count number x.place x.moves x.rewritten

-- What comes after an append: more from its book, or the end where it is refused, with the book as it was before it.
unfoldable pub after_one : Book → Extended → (Book → Extended → Outcome Extended) → Answer (Outcome Appended) → Outcome Extended
after_one b x more (accepted o) = more o.book (with_append x o.told)
after_one b x more (refused number) = record { told = stopped_by number x; book = b }

-- The appends of some numbers to a key, by a desk, one after another till one is refused, behind what is told so far.
unfoldable pub extend_from : ℕ → ℕ → List ℕ → Book → Extended → Outcome Extended
extend_from desk key [] b x = record { told = x; book = b }
extend_from desk key (n ∷ ns) b x = after_one b x (extend_from desk key ns) (appends desk b key n)

-- ---- the key

-- A place as an append judges it before the number: a slab reads as its head says, and a last page has a tail.
unfoldable pub judged_at : Ground → ShHeadValue → Answer ShHeadValue
judged_at s Empty = accepted Empty
judged_at s (Inline entry used) = accepted (Inline entry used)
judged_at s (Slab class used off) = and_then (slab_scan s class used off) (λ c. accepted (Slab class used off))
judged_at s (Extent last) = and_then (tail_at s last) (λ t. accepted (Extent last))

-- The place of a key as an append judges it, or 31 where the key isn't sound.
unfoldable pub standing : Book → ℕ → Answer ShHeadValue
standing b key = soundly (and_then (unpack_head (word_of key b)) (judged_at (seen b.space)))

-- ---- an extend

-- An extend of a key by some numbers, for a desk: the key is judged, also where there are no numbers, and then they are appended.
unfoldable pub extends : ℕ → Book → ℕ → List ℕ → Answer (Outcome Extended)
extends desk b key ns =
    by_desk desk b key (and_then (standing b key) (λ place. accepted (extend_from desk key ns b (extended 0 0 place 0 0))))

-- An extend that is lent the list of desks: by the key's desk.
abbrev pub extends_with : List ℕ → Book → ℕ → List ℕ → Answer (Outcome Extended)
extends_with ds b key ns = with_desks ds b key (λ desk. extends desk b key ns)
