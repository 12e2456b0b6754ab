-- Lists of answers: spelled and read back they are the answers, where no refusal has the number 0. Assumes nothing.
use Prim.Native.Nat.{ℕ, ◌≤◌, ◌<◌, zero-le, suc-le-suc}
use mathlib.Core.List.{List, ◌∷◌, ◌++◌}
use mathlib.Core.Option.{some}
use mathlib.Core.Path.{◌≡◌, refl}
use native.Mathlib.Nat.{le_refl}
use native.Mathlib.Omega.{arith}
use borrow.Author.Tests.{le-leb, ne_eqb}
use lib.ListN.{length, length-append}
use lib.Seq.{take-append_seam, drop-append_seam}
use Rattle.error.specs.Refusal.{Answer, accepted, refused}
use Rattle.scripthash_layout.specs.declared.head.ShHeadValue.{ShHeadValue}
use Rattle.scripthash_layout.specs.declared.head.ShHeadValue.TheVariants.{Empty, Inline, Slab, Extent}
use Rattle.book_words.specs.Spelled.{SpelledTold, loaded, appended, listed, dropped}
use Rattle.book_words.specs.Words.{begins, word}
use Rattle.book_words.specs.SpellAnswers.{spell_place, spell_told, spell_answer, spell_answers, place_of, loaded_at, appended_at, listed_at}
use Rattle.book_words.specs.SpellAnswers.{dropped_at, told_at, answer_at, answers_of}
use Rattle.book_words.proofs.LawsWords.{AllGood, reads_all}

-- A refusal has a number above 0, as all have (FORMAT, Refusals).
unfoldable pub Numbered : Answer SpelledTold → Type 0
Numbered (accepted t) = Unit {0}
Numbered (refused number) = 0 < number

-- an answer has words
answer_words : (a : Answer SpelledTold) → 0 < length (spell_answer a)
unfolding spell_answer
answer_words (accepted t) = suc-le-suc zero-le
answer_words (refused number) = suc-le-suc zero-le

-- what an append told
append_back : (place : ShHeadValue) (rewritten : ℕ) (rest : List ℕ)
    → appended_at (rewritten ∷ (spell_place place ++ rest)) ≡ begins (accepted (appended (record { place = place; rewritten = rewritten })))
    rest
unfolding spell_place appended_at place_of word
append_back Empty rewritten rest = refl
append_back (Inline entry used) rewritten rest = refl
append_back (Slab class used off) rewritten rest = refl
append_back (Extent last) rewritten rest = refl

-- what an accepted call told
told_back : (t : SpelledTold) (rest : List ℕ) → told_at (spell_told t ++ rest) ≡ begins (accepted t) rest
unfolding spell_told told_at loaded_at listed_at dropped_at word
told_back (loaded l) rest = refl
told_back (appended a) rest = append_back a.place a.rewritten rest
told_back (listed l) rest =
    let room : length l.numbers ≤ length (l.numbers ++ rest) = omega (arith, length-append l.numbers rest) in
    rw (
      le-leb (length l.numbers) (length (l.numbers ++ rest)) room,
      take-append_seam l.numbers rest,
      drop-append_seam l.numbers rest,
    )
told_back (dropped d) rest = refl

-- an answer reads back, whatever follows its words
pub answer_back : (a : Answer SpelledTold) (rest : List ℕ) → Numbered a → answer_at (spell_answer a ++ rest) ≡ begins a rest
unfolding spell_answer answer_at word Numbered
answer_back (accepted t) rest g = told_back t rest
answer_back (refused number) rest g = rw (ne_eqb number 0 (λ (e : number ≡ 0). omega arith))

-- A list of answers, spelled and read back, is the list.
pub answers_back : (told : List (Answer SpelledTold)) → AllGood Numbered told → answers_of (spell_answers told) ≡ some told
answers_back told g = reads_all spell_answer answer_at Numbered answer_words answer_back told (length (spell_answers told)) (le_refl _) g
