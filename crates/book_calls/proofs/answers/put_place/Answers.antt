-- `put_place` meets its contract: a law for each kind of place is its definition.
use Rattle.std.proofs.Common.{ℕ, List, ◌≡◌, sym, ap, ◌∙◌}
use Rattle.buffer.specs.Bytes.{overwrite}
use Rattle.scripthash_layout.specs.declared.head.ShHeadValue.{ShHeadValue}
use Rattle.book_words.specs.SpellAnswers.{spell_place}
use Rattle.book_calls.proofs.answers.put_place.Goals as goal

-- the words of the place that is told
as_told : (b : List ℕ) {out : List ℕ} {place other : ShHeadValue} → place ≡ other → out ≡ overwrite b 0 (spell_place other)
    → out ≡ overwrite b 0 (spell_place place)
as_told b e words = words ∙ ap (λ (p : ShHeadValue). overwrite b 0 (spell_place p)) (sym e)

pub returns-in-Empty : goal.returns-in-Empty
unfolding spell_place
returns-in-Empty c = as_told _ c.in-Empty.is c.put_four.ensures

pub returns-in-Inline : goal.returns-in-Inline
unfolding spell_place
returns-in-Inline c = as_told _ c.in-Inline.is c.put_four-in-Inline.ensures

pub returns-in-Slab : goal.returns-in-Slab
unfolding spell_place
returns-in-Slab c = as_told _ c.in-Slab.is c.put_four-in-Slab.ensures

pub returns-in-Extent : goal.returns-in-Extent
unfolding spell_place
returns-in-Extent c = as_told _ c.in-Extent.is c.put_four-in-Extent.ensures
