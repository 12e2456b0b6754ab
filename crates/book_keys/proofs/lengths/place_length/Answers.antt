-- `place_length` meets its contract, case by case of the place.
use Rattle.std.proofs.Common.{◌≡◌, sym, ap, ◌∙◌, ℕ}
use Rattle.error.specs.Refusal.{Answer, answered}
use Rattle.error.proofs.LawsAnswer.{answered_yes}
use Rattle.scripthash_layout.specs.declared.head.ShHeadValue.{ShHeadValue}
use Rattle.book_keys.specs.Keys.{soundly, content_at, Ground, body_ground}
use Rattle.book_keys.specs.Steps.{length_of}
use Rattle.book_keys.proofs.LawsSound.{soundly_yes}
use Rattle.book_keys.proofs.LawsContent.{content_empty, content_inline}
use Rattle.book_keys.proofs.lengths.place_length.Goals as goal

-- the length of a key by its place's case
by_place : (s : Ground) {told : Answer ℕ} {place is : ShHeadValue} → place ≡ is
    → told ≡ answered length_of (soundly (content_at s is)) → told ≡ answered length_of (soundly (content_at s place))
by_place s e h = h ∙ ap (λ (p : ShHeadValue). answered length_of (soundly (content_at s p))) (sym e)

pub returns-in-Empty : goal.returns-in-Empty
returns-in-Empty c =
    by_place (body_ground c.args.body.now c.args.mark) c.in-Empty.is (sym (answered_yes length_of _ (soundly_yes _ (content_empty (body_ground c.args.body.now c.args.mark)))))

pub returns-in-Inline : goal.returns-in-Inline
returns-in-Inline c =
    by_place (body_ground c.args.body.now c.args.mark) c.in-Inline.is
    (sym (answered_yes length_of _ (soundly_yes _ (content_inline (body_ground c.args.body.now c.args.mark) c.in-Inline.entry c.in-Inline.used))))

pub returns-in-Slab : goal.returns-in-Slab
returns-in-Slab c = by_place (body_ground c.args.body.now c.args.mark) c.in-Slab.is c.slab_length.ensures

pub returns-in-Extent : goal.returns-in-Extent
returns-in-Extent c = by_place (body_ground c.args.body.now c.args.mark) c.in-Extent.is c.chain_length.ensures
