-- `claim_place` meets its contract: by the place.
use Rattle.std.proofs.Common.{List, ◌≡◌, ap, ◌∙◌}
use Rattle.scripthash_layout.specs.declared.head.ShHeadValue.{ShHeadValue}
use Rattle.scripthash_layout.specs.declared.head.ShHeadValue.TheVariants.{Empty, Inline}
use Rattle.scripthash_free.specs.FreeList.{Block}
use Rattle.book_keys.specs.Keys.{soundly, content_at, Ground, body_ground}
use Rattle.book_keys.proofs.LawsContent.{content_empty, content_inline}
use Rattle.book_start.specs.Start.{claim_content}
use Rattle.book_start.proofs.LawsShown.{content_fit, claims_nothing}
use Rattle.book_start.proofs.claiming.claim_place.Goals as goal

pub returns-in-Empty : goal.returns-in-Empty
returns-in-Empty c units lent claims m =
    let s : Ground = body_ground c.args.body.now c.args.mark in
    let at_place :
    (claims : List Block) (v : ShHeadValue)
    → c.args.place ≡ v
    → claim_content claims (soundly (content_at s c.args.place)) ≡ claim_content claims (soundly (content_at s v)) =
    λ claims v e.
    ap (λ (x : ShHeadValue). claim_content claims (soundly (content_at s x))) e in
    claims_nothing units c.args.mark lent _ claims _ m
    (at_place claims Empty c.in-Empty.is ∙ content_fit claims (content_at s Empty) (content_empty s))

pub returns-in-Inline : goal.returns-in-Inline
returns-in-Inline c units lent claims m =
    let s : Ground = body_ground c.args.body.now c.args.mark in
    let at_place :
    (claims : List Block) (v : ShHeadValue)
    → c.args.place ≡ v
    → claim_content claims (soundly (content_at s c.args.place)) ≡ claim_content claims (soundly (content_at s v)) =
    λ claims v e.
    ap (λ (x : ShHeadValue). claim_content claims (soundly (content_at s x))) e in
    let entry = c.in-Inline.entry in
    let used = c.in-Inline.used in
    claims_nothing units c.args.mark lent _ claims _ m
    (at_place claims (Inline entry used) c.in-Inline.is
    ∙ content_fit claims (content_at s (Inline entry used)) (content_inline s entry used))
