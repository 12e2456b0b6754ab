-- Words written one by one, and answers written in parts. Assumes nothing.
use Prim.Native.Nat.{ℕ, ◌-◌, ◌≤◌, ◌<◌}
use mathlib.Core.List.{List, [], ◌∷◌, ◌++◌}
use mathlib.Core.Path.{◌≡◌, refl, sym, ap, subst, ◌∙◌}
use native.Mathlib.Omega.{arith}
use lib.ListN.{length, set, take, drop, length-set}
use Rattle.error.specs.Refusal.{Answer, accepted, refused}
use Rattle.buffer.specs.Bytes.{overwrite}
use Rattle.buffer.proofs.LawsBytes.{overwrite_step, overwrite_one, length_overwrite, overwrite_part}
use Rattle.buffer.proofs.LawsOverwrite.{overwrite_adjoin}
use Rattle.scripthash_layout.specs.declared.head.ShHeadValue.{ShHeadValue}
use Rattle.scripthash_layout.specs.declared.head.ShHeadValue.TheVariants.{Empty, Inline, Slab, Extent}
use Rattle.book_words.specs.Spelled.{SpelledTold, loaded, appended, dropped}
use Rattle.book_words.specs.SpellAnswers.{spell_place, spell_told, spell_answer}
use Rattle.book_calls.specs.Steps.{Answered}
use Rattle.book_rules.specs.Outcomes.{loaded_in, appended_to, dropped_of}

-- one word after the other
pub three_words : (b : List ℕ) (x y z : ℕ) → 3 ≤ length b → set (set (set b 0 x) 1 y) 2 z ≡ overwrite b 0 (x ∷ y ∷ z ∷ [])
three_words b x y z h =
    let one = length-set b 0 x in
    let two = length-set (set b 0 x) 1 y in
    sym (overwrite_step b 0 x (y ∷ z ∷ []) (omega arith) ∙ overwrite_step (set b 0 x) 1 y (z ∷ []) (omega arith)
    ∙ overwrite_one (set (set b 0 x) 1 y) 2 z (omega arith))

pub four_words : (b : List ℕ) (x y z w : ℕ) → 4 ≤ length b → set (set (set (set b 0 x) 1 y) 2 z) 3 w ≡ overwrite b 0 (x ∷ y ∷ z ∷ w ∷ [])
four_words b x y z w h =
    let one = length-set b 0 x in
    let two = length-set (set b 0 x) 1 y in
    let three = length-set (set (set b 0 x) 1 y) 2 z in
    sym (overwrite_step b 0 x (y ∷ z ∷ w ∷ []) (omega arith) ∙ overwrite_step (set b 0 x) 1 y (z ∷ w ∷ []) (omega arith)
    ∙ overwrite_step (set (set b 0 x) 1 y) 2 z (w ∷ []) (omega arith) ∙ overwrite_one (set (set (set b 0 x) 1 y) 2 z) 3 w (omega arith))

pub five_words : (b : List ℕ) (x y z w v : ℕ) → 5 ≤ length b
    → set (set (set (set (set b 0 x) 1 y) 2 z) 3 w) 4 v ≡ overwrite b 0 (x ∷ y ∷ z ∷ w ∷ v ∷ [])
five_words b x y z w v h =
    let one = length-set b 0 x in
    let two = length-set (set b 0 x) 1 y in
    let three = length-set (set (set b 0 x) 1 y) 2 z in
    let four = length-set (set (set (set b 0 x) 1 y) 2 z) 3 w in
    sym (overwrite_step b 0 x (y ∷ z ∷ w ∷ v ∷ []) (omega arith) ∙ overwrite_step (set b 0 x) 1 y (z ∷ w ∷ v ∷ []) (omega arith)
    ∙ overwrite_step (set (set b 0 x) 1 y) 2 z (w ∷ v ∷ []) (omega arith)
    ∙ overwrite_step (set (set (set b 0 x) 1 y) 2 z) 3 w (v ∷ []) (omega arith)
    ∙ overwrite_one (set (set (set (set b 0 x) 1 y) 2 z) 3 w) 4 v (omega arith))

-- the same answer, and the same words
pub re_said : {a other : Answer SpelledTold} {b out : List ℕ} {len : ℕ} → other ≡ a → Answered a b out len → Answered other b out len
re_said {b = b} {out = out} {len = len} e h = subst (λ (x : Answer SpelledTold). Answered x b out len) (sym e) h

pub re_written : {a : Answer SpelledTold} {b out other : List ℕ} {len : ℕ} → other ≡ out → Answered a b out len → Answered a b other len
re_written {a = a} {b = b} {len = len} e h = subst (λ (x : List ℕ). Answered a b x len) (sym e) h

-- the word of a refusal
pub refusal_put : (b : List ℕ) (number : ℕ) → 0 < length b → Answered (refused number) b (set b 0 number) 1
unfolding spell_answer
refusal_put b number h = record { words = sym (overwrite_one b 0 number h); count = refl }

-- the words of a load and of a drop
pub load_put : (b out : List ℕ) (pages : ℕ) → out ≡ overwrite b 0 (0 ∷ 0 ∷ pages ∷ [])
    → Answered (accepted (loaded (loaded_in pages))) b out 3
unfolding spell_answer spell_told
load_put b out pages e = record { words = e; count = refl }

pub drop_put : (b out : List ℕ) (length : ℕ) → out ≡ overwrite b 0 (0 ∷ 3 ∷ length ∷ [])
    → Answered (accepted (dropped (dropped_of length))) b out 3
unfolding spell_answer spell_told
drop_put b out length e = record { words = e; count = refl }

-- a place has four words
pub place_words : (place : ShHeadValue) → length (spell_place place) ≡ 4
unfolding spell_place
place_words Empty = refl
place_words (Inline entry used) = refl
place_words (Slab class used off) = refl
place_words (Extent last) = refl

-- the words of an append: three, and behind them those of the place
pub append_put : (b mid : List ℕ) (rewritten : ℕ) (place : ShHeadValue) → 7 ≤ length b → mid ≡ overwrite b 0 (0 ∷ 1 ∷ rewritten ∷ [])
    → Answered (accepted (appended (appended_to place rewritten))) b
    (take 3 mid ++ (overwrite (take (length mid - 3) (drop 3 mid)) 0 (spell_place place) ++ drop (length mid - 3) (drop 3 mid))) 7
unfolding spell_answer spell_told
append_put b mid rewritten place h e =
    let four = place_words place in
    let same : length mid ≡ length b = ap length e ∙ length_overwrite b 0 (0 ∷ 1 ∷ rewritten ∷ []) (omega arith) in
    record {
      words =
          overwrite_part mid 3 (length mid - 3) 0 (spell_place place) (omega arith) (omega arith)
          ∙ ap (λ (l : List ℕ). overwrite l 3 (spell_place place)) e
          ∙ overwrite_adjoin b 0 (0 ∷ 1 ∷ rewritten ∷ []) (spell_place place) (omega arith);
      count = omega (arith, four);
    }
