-- `read_place` meets its contract, case by case of the place.
use Rattle.std.proofs.Common.{List, ◌≡◌, refl, sym, subst, arith, ℕ}
use Rattle.error.specs.Refusal.{Answer}
use Rattle.buffer.proofs.LawsBytes.{overwrite_nil}
use Rattle.scripthash_layout.specs.declared.head.ShHeadValue.{ShHeadValue}
use Rattle.book_keys.specs.Keys.{soundly, content_at, Ground, body_ground}
use Rattle.book_keys.specs.Steps.{Counts, KeyRead}
use Rattle.book_keys.proofs.LawsSound.{soundly_yes}
use Rattle.book_keys.proofs.LawsContent.{content_empty}
use Rattle.book_keys.proofs.LawsListed.{read_listed}
use Rattle.book_keys.proofs.key.read_place.Goals as goal

-- a read of a key by its place's case
by_place : (s : Ground) (told : Answer Counts) (before after : List ℕ) {place is : ShHeadValue} → place ≡ is
    → KeyRead told before after (soundly (content_at s is)) → KeyRead told before after (soundly (content_at s place))
by_place s told before after e h = subst (λ (p : ShHeadValue). KeyRead told before after (soundly (content_at s p))) (sym e) h

pub returns-in-Empty : goal.returns-in-Empty
returns-in-Empty c =
    let a = c.args in
    by_place (body_ground c.args.body.now c.args.mark) _ a.out.now _ c.in-Empty.is
    (read_listed a.out.now _ _ _ (soundly_yes _ (content_empty (body_ground c.args.body.now c.args.mark))) _ refl (omega arith)
    (sym (overwrite_nil a.out.now 0)))

pub returns-in-Inline : goal.returns-in-Inline
returns-in-Inline c =
    let s = body_ground c.args.body.now c.args.mark in
    by_place s _ c.args.out.now _ c.in-Inline.is (c.read_inline.ensures s _)

pub returns-in-Slab : goal.returns-in-Slab
returns-in-Slab c = by_place (body_ground c.args.body.now c.args.mark) _ c.args.out.now _ c.in-Slab.is c.read_stored.ensures

pub returns-in-Extent : goal.returns-in-Extent
returns-in-Extent c = by_place (body_ground c.args.body.now c.args.mark) _ c.args.out.now _ c.in-Extent.is c.read_chain.ensures
