-- The words of a line, byte by byte, and numbers that are put into a list. Assumes nothing.
use Prim.Native.Nat.{ℕ, ◌+◌, ◌-◌, ◌≤◌, ◌<◌}
use mathlib.Core.List.{List, [], ◌∷◌}
use mathlib.Core.Option.{some}
use mathlib.Core.Path.{◌≡◌, sym, ap, ◌∙◌}
use native.Mathlib.Numerals.{add-one}
use borrow.Author.Tests.{le-leb, lt-leb, lt-ltb, le-ltb}
use lib.ListN.{length, take, drop, set, drop_of_length-le, get_or}
use lib.Seq.{drop-cons}
use Rattle.std.specs.Prelude.{Result, Ok, Err}
use Rattle.decimal.specs.Decimal.{read_decimal}
use Rattle.decimal.specs.Words.{Word, word_at, words_in, words_from, TakenWords, take_word, take_words, after_word, Skips, Ends}
use Rattle.decimal.specs.declared.DecimalError.{DecimalError}
use Rattle.decimal.specs.declared.DecimalError.TheVariants.{NotANumber as no_number, TooLarge as large_number}
use Rattle.decimal.specs.declared.words.NumbersError.{NumbersError}
use Rattle.decimal.specs.declared.words.NumbersError.TheVariants.{TooMany, NotANumber, TooLarge}

module _ (line : List ℕ) (i : ℕ) where
  -- behind the last byte there is no word, and a word that goes on to there ends
  pub words_end : length line ≤ i → words_from line i ≡ []
  unfolding words_in
  words_end h = rw (drop_of_length-le line h)

  pub word_end : (start : ℕ) → length line ≤ i → words_in (some start) i (drop i line) ≡ word_at start i ∷ words_from line i
  unfolding words_in
  word_end start h = rw (drop_of_length-le line h)

  -- a space before words is nothing
  pub words_space : i < length line → get_or line i 0 ≤ 32 → words_from line i ≡ words_from line (i + 1)
  unfolding words_in
  words_space h s = rw (drop-cons line i 0 h, le-leb (get_or line i 0) 32 s, add-one i)

  -- another byte begins one, and goes on with one
  pub words_begin : i < length line → 32 < get_or line i 0 → words_from line i ≡ words_in (some i) (i + 1) (drop (i + 1) line)
  unfolding words_in
  words_begin h s = rw (drop-cons line i 0 h, lt-leb (get_or line i 0) 32 s, add-one i)

  pub word_on : (start : ℕ) → i < length line → 32 < get_or line i 0
      → words_in (some start) i (drop i line) ≡ words_in (some start) (i + 1) (drop (i + 1) line)
  unfolding words_in
  word_on start h s = rw (drop-cons line i 0 h, lt-leb (get_or line i 0) 32 s, add-one i)

  -- a space ends one
  pub word_stop : (start : ℕ) → i < length line → get_or line i 0 ≤ 32
      → words_in (some start) i (drop i line) ≡ word_at start i ∷ words_from line i
  unfolding words_in
  word_stop start h s = rw (drop-cons line i 0 h, le-leb (get_or line i 0) 32 s)

-- the next word and those behind it, from where spaces were skipped
pub words_next : (line : List ℕ) (at start end : ℕ) → Skips line at start → start < length line → Ends line start end
    → words_from line at ≡ word_at start end ∷ words_from line end
words_next line at start end s h e = s.same ∙ (words_begin line start h (s.begins h) ∙ e.whole)

-- ---- one word

module _ (read : Result ℕ DecimalError) (start end : ℕ) (list : List ℕ) (count : ℕ) (more : List ℕ → TakenWords) where
  pub word_put : (n : ℕ) → read ≡ Ok n → count < length list
      → take_word read start end list count more ≡ after_word (Ok tt) (set list count n) more
  unfolding take_word after_word
  word_put n e h = rw (e, lt-ltb count (length list) h)

  pub word_full : (n : ℕ) → read ≡ Ok n → length list ≤ count
      → take_word read start end list count more ≡ after_word (Err TooMany) list more
  unfolding take_word after_word
  word_full n e h = rw (e, le-ltb count (length list) h)

  pub word_none : read ≡ Err no_number → take_word read start end list count more ≡ after_word (Err (NotANumber start end)) list more
  unfolding take_word after_word
  word_none e = rw e

  pub word_large : read ≡ Err large_number → take_word read start end list count more ≡ after_word (Err (TooLarge start end)) list more
  unfolding take_word after_word
  word_large e = rw e

-- ---- words, one by one

-- no word is left
pub taken_none : (t : TakenWords) (line list : List ℕ) (count : ℕ) (ws : List Word) → ws ≡ [] → take_words line list count ws ≡ t
    → (Ok count ≡ t.answer) × (list ≡ t.list)
unfolding take_words
taken_none t line list count ws e f =
    let g : take_words line list count [] ≡ t = rw e at f in (ap (λ (x : TakenWords). x.answer) g, ap (λ (x : TakenWords). x.list) g)

-- one was put, or stopped the reading
pub taken_word : (t : TakenWords) (line list new : List ℕ) (count start end : ℕ) (all ws : List Word) (r : Result Unit NumbersError)
    → all ≡ word_at start end ∷ ws
    → take_words line list count all ≡ t
    → ((more : List ℕ → TakenWords)
    → take_word (read_decimal (take (end - start) (drop start line))) start end list count more ≡ after_word r new more)
    → after_word r new (λ (l : List ℕ). take_words line l (count + 1) ws) ≡ t
unfolding take_words
taken_word t line list new count start end all ws r e f p =
    let g : take_words line list count (word_at start end ∷ ws) ≡ t = rw e at f in sym (p (λ (l : List ℕ). take_words line l (count + 1) ws))
    ∙ g

pub stopped : (t : TakenWords) (r : Result Unit NumbersError) (answer : NumbersError) (new : List ℕ) (more : List ℕ → TakenWords) → r ≡ Err answer
    → after_word r new more ≡ t → (Err answer ≡ t.answer) × (new ≡ t.list)
unfolding after_word
stopped t r answer new more e f =
    let g : after_word (Err answer) new more ≡ t = rw e at f in
    (ap (λ (x : TakenWords). x.answer) g, ap (λ (x : TakenWords). x.list) g)

pub went_on : (t : TakenWords) (r : Result Unit NumbersError) (new : List ℕ) (more : List ℕ → TakenWords) → r ≡ Ok tt → after_word r new more ≡ t → more new ≡ t
unfolding after_word
went_on t r new more e f = let g : after_word (Ok tt) new more ≡ t = rw e at f in g
