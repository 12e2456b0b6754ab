-- `key_pages` meets its contract: by the place that the word tells.
use Prim.Native.Nat.{ℕ}
use mathlib.Core.Path.{◌≡◌, sym, ap, ◌∙◌}
use Rattle.std.specs.Prelude.{Result, Ok}
use Rattle.error.specs.declared.Refusal.{Refusal}
use Rattle.scripthash_layout.specs.AnswersHead.{unpack_answer}
use Rattle.scripthash_layout.specs.Head.{unpack_head}
use Rattle.scripthash_layout.specs.declared.head.ShHeadValue.{ShHeadValue}
use Rattle.book_keys.specs.Keys.{soundly, content_at, content, Ground, body_ground}
use Rattle.book_keys.proofs.LawsContent.{content_at_lem, content_nowhere}
use Rattle.book_start.specs.Start.{pages_in}
use Rattle.book_start.proofs.LawsTally.{pages_nowhere, pages_empty, pages_inline, pages_slab}
use Rattle.book_start.proofs.counts.key_pages.Goals as goal

-- the pages of a word that tells a place are those of the place
by_place : (s : Ground) (word : ℕ) (r : Result ShHeadValue Refusal) {place v : ShHeadValue} → unpack_answer r ≡ unpack_head word → r ≡ Ok place
    → place ≡ v → pages_in (soundly (content_at s v)) ≡ pages_in (content s word)
by_place s word r {place = place} told is e =
    ap (λ (x : ShHeadValue). pages_in (soundly (content_at s x))) (sym e)
    ∙ ap pages_in (sym (content_at_lem s word place (sym told ∙ ap unpack_answer is)))

pub returns-in_default : goal.returns-in_default
returns-in_default c =
    let s = body_ground c.args.body.now c.args.mark in
    pages_nowhere s c.args.word (content_nowhere s c.args.word (sym c.unpack8.ensures ∙ ap unpack_answer c.in_default.is))

pub returns-in-Empty : goal.returns-in-Empty
returns-in-Empty c =
    let s = body_ground c.args.body.now c.args.mark in
    pages_empty s ∙ by_place s c.args.word c.unpack8.result c.unpack8.ensures c.in-Ok.is c.in-Empty.is

pub returns-in-Inline : goal.returns-in-Inline
returns-in-Inline c =
    let s = body_ground c.args.body.now c.args.mark in
    pages_inline s _ _ ∙ by_place s c.args.word c.unpack8.result c.unpack8.ensures c.in-Ok.is c.in-Inline.is

pub returns-in-Slab : goal.returns-in-Slab
returns-in-Slab c =
    let s = body_ground c.args.body.now c.args.mark in
    pages_slab s _ _ _ ∙ by_place s c.args.word c.unpack8.result c.unpack8.ensures c.in-Ok.is c.in-Slab.is

pub returns-in-Extent : goal.returns-in-Extent
returns-in-Extent c =
    let s = body_ground c.args.body.now c.args.mark in
    c.chain_pages.ensures ∙ by_place s c.args.word c.unpack8.result c.unpack8.ensures c.in-Ok.is c.in-Extent.is
