-- Lists of answers, spelled as words: the refusal's number, or 0, the kind of what is told, and its values.
use Rattle.std.specs.Prelude.{ℕ, cond, List, [], ◌∷◌, leb, eqb, length, take as first_of, drop as behind}
use Rattle.std.proofs.Math.Option.{Option, none}
use Rattle.error.specs.Refusal.{Answer, accepted, refused}
use Rattle.scripthash_layout.specs.declared.head.ShHeadValue.{ShHeadValue}
use Rattle.scripthash_layout.specs.declared.head.ShHeadValue.TheVariants.{Empty, Inline, Slab, Extent}
use Rattle.book_words.specs.Spelled.{SpelledTold, loaded, appended, listed, dropped}
use Rattle.book_words.specs.Words.{Begins, begins, word, spell_all, read_all}
use Rattle.book_rules.specs.Outcomes.{loaded_in, appended_to, listing, dropped_of}

-- The words of a place: its mode, and of each mode what it has of class, used and number or offset.
unfoldable pub spell_place : ShHeadValue → List ℕ
spell_place Empty = 0 ∷ 0 ∷ 0 ∷ 0 ∷ []
spell_place (Inline entry used) = 1 ∷ 0 ∷ used ∷ entry ∷ []
spell_place (Slab class used off) = 2 ∷ class ∷ used ∷ off ∷ []
spell_place (Extent last) = 3 ∷ 0 ∷ 0 ∷ last ∷ []

-- The words of what an accepted call tells: its kind, and its values. A read's list comes last, behind its length.
unfoldable pub spell_told : SpelledTold → List ℕ
spell_told (loaded l) = 0 ∷ l.pages ∷ []
spell_told (appended a) = 1 ∷ a.rewritten ∷ spell_place a.place
spell_told (listed l) = 2 ∷ l.pages ∷ l.padded ∷ length l.numbers ∷ l.numbers
spell_told (dropped d) = 3 ∷ d.length ∷ []

-- The words of an answer: the refusal's number, or 0 and what is told.
unfoldable pub spell_answer : Answer SpelledTold → List ℕ
spell_answer (accepted t) = 0 ∷ spell_told t
spell_answer (refused number) = number ∷ []

-- The words of a list of answers.
abbrev pub spell_answers : List (Answer SpelledTold) → List ℕ
spell_answers told = spell_all spell_answer told

-- The place of a mode, a class, a used and a number or offset.
unfoldable pub place_of : ℕ → ℕ → ℕ → ℕ → ShHeadValue
place_of mode class used at =
    cond (eqb mode 0) Empty (cond (eqb mode 1) (Inline at used) (cond (eqb mode 2) (Slab class used at) (Extent at)))

-- What a call of each kind told, by the words behind the kind: a load, an append, a read, a drop.
unfoldable pub loaded_at : List ℕ → Option (Begins (Answer SpelledTold))
loaded_at ws = word ws (λ pages rest. begins (accepted (loaded (loaded_in pages))) rest)

unfoldable pub appended_at : List ℕ → Option (Begins (Answer SpelledTold))
appended_at ws =
    word ws (λ rewritten ws. word ws (λ mode ws. word ws (λ class ws. word ws (λ used ws. word ws (λ at rest.
    begins (accepted (appended (appended_to (place_of mode class used at) rewritten))) rest)))))

unfoldable pub listed_at : List ℕ → Option (Begins (Answer SpelledTold))
listed_at ws =
    word ws (λ pages ws. word ws (λ padded ws. word ws (λ count rest.
    cond (leb count (length rest)) (begins (accepted (listed (listing (first_of count rest) pages padded))) (behind count rest))
    none)))

unfoldable pub dropped_at : List ℕ → Option (Begins (Answer SpelledTold))
dropped_at ws = word ws (λ length rest. begins (accepted (dropped (dropped_of length))) rest)

-- What an accepted call told, by the words behind the 0.
unfoldable pub told_at : List ℕ → Option (Begins (Answer SpelledTold))
told_at ws =
    word ws (λ kind rest.
    cond (eqb kind 0) (loaded_at rest)
    (cond (eqb kind 1) (appended_at rest) (cond (eqb kind 2) (listed_at rest) (cond (eqb kind 3) (dropped_at rest) none))))

-- The answer that some words begin with.
unfoldable pub answer_at : List ℕ → Option (Begins (Answer SpelledTold))
answer_at ws = word ws (λ number rest. cond (eqb number 0) (told_at rest) (begins (refused number) rest))

-- The answers that some words spell.
abbrev pub answers_of : List ℕ → Option (List (Answer SpelledTold))
answers_of ws = read_all answer_at (length ws) ws
