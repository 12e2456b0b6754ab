-- `claim_slab` meets its contract: the slab is scanned, then claimed.
use Prim.Native.Nat.{ℕ}
use mathlib.Core.List.{List, [], ◌∷◌}
use mathlib.Core.Path.{◌≡◌, sym, ap, ◌∙◌}
use native.Mathlib.Omega.{arith}
use Rattle.std.specs.Prelude.{Result, Ok}
use Rattle.error.specs.Refusal.{Answer, accepted, answered}
use Rattle.error.specs.declared.Refusal.{Refusal}
use Rattle.error.proofs.LawsAnswer.{was_accepted, was_refused}
use Rattle.scripthash_layout.specs.declared.head.ShHeadValue.TheVariants.{Slab}
use Rattle.scripthash_stream.specs.declared.stream.Scanned.{Scanned}
use Rattle.scripthash_stream.specs.Stream.{Scan, end_from}
use Rattle.scripthash_stream.specs.Answers.{scan_answer}
use Rattle.book_keys.specs.Keys.{soundly, slab_scan, content_at, body_ground, Ground}
use Rattle.book_keys.proofs.LawsSound.{was_sound, was_unsound}
use Rattle.book_keys.proofs.LawsSlab.{SoundSlab, slab_sound}
use Rattle.book_keys.proofs.LawsContent.{content_slab, content_no_slab}
use Rattle.book_start.specs.Start.{block}
use Rattle.book_start.specs.Units.{units_of}
use Rattle.book_start.proofs.LawsShown.{content_unfit, content_fit, claims_unfit, one_claimed, one_shared, shown_long}
use Rattle.book_start.proofs.claiming.claim_slab.Goals as goal

-- a slab that was scanned has a scan
scanned : (s : Ground) (class used off : ℕ) (r : Result Scanned Refusal) {end : Scanned}
    → scan_answer r ≡ answered (end_from 0) (soundly (slab_scan s class used off)) → r ≡ Ok end
    → (x : Scan) × (slab_scan s class used off ≡ accepted x)
scanned s class used off r e is =
    let got = was_accepted (end_from 0) _ (sym e ∙ ap scan_answer is) in (got.0, was_sound _ got.1)

pub returns-in_default : goal.returns-in_default
returns-in_default c units lent claims m =
    let s = body_ground c.args.body.now c.args.mark in
    let stop = was_refused (end_from 0) _ (sym c.slab_end.ensures ∙ ap scan_answer c.in_default.is) in
    claims_unfit units c.args.mark lent _ claims _ m
    (content_unfit claims (content_at s (Slab c.args.class c.args.used c.args.off))
    (content_no_slab s c.args.class c.args.used c.args.off (was_unsound _ stop).1))

pub claim_block-requires : goal.claim_block-requires
claim_block-requires c =
    let s = body_ground c.args.body.now c.args.mark in
    let x = scanned s c.args.class c.args.used c.args.off c.slab_end.result c.slab_end.ensures c.in-Ok.is in
    let sound = slab_sound s c.args.class c.args.used c.args.off x.0 x.1 in
    let k = sound.class_to_7 in
    record {
      mark = c.args.mark;
      stands = sound.stands;
      long = shown_long c.args.mark (units_of c.args.work.now) c.requires.shown;
    }

pub returns-then-not-claim_block : goal.returns-then-not-claim_block
returns-then-not-claim_block c units lent claims m =
    let s = body_ground c.args.body.now c.args.mark in
    let x = scanned s c.args.class c.args.used c.args.off c.slab_end.result c.slab_end.ensures c.in-Ok.is in
    let sound = slab_sound s c.args.class c.args.used c.args.off x.0 x.1 in
    let gives = content_fit claims (content_at s (Slab c.args.class c.args.used c.args.off))
    (content_slab s c.args.class c.args.used c.args.off x.0 x.1) in
    one_shared units c.args.mark lent _ claims (units_of c.args.work.now) m (block c.args.class c.args.off) sound.stands gives _
    c.claim_block.ensures.list (sym c.claim_block.ensures.free ∙ c.if-not-claim_block.true)

pub block_units-requires : goal.block_units-requires
block_units-requires c =
    let s = body_ground c.args.body.now c.args.mark in
    let x = scanned s c.args.class c.args.used c.args.off c.slab_end.result c.slab_end.ensures c.in-Ok.is in
    let k = (slab_sound s c.args.class c.args.used c.args.off x.0 x.1).class_to_7 in omega arith

pub returns : goal.returns
returns c units lent claims m =
    let s = body_ground c.args.body.now c.args.mark in
    let x = scanned s c.args.class c.args.used c.args.off c.slab_end.result c.slab_end.ensures c.in-Ok.is in
    let sound = slab_sound s c.args.class c.args.used c.args.off x.0 x.1 in
    let gives = content_fit claims (content_at s (Slab c.args.class c.args.used c.args.off))
    (content_slab s c.args.class c.args.used c.args.off x.0 x.1) in
    one_claimed units c.args.mark lent _ claims (units_of c.args.work.now) m (block c.args.class c.args.off) sound.stands gives _
    c.claim_block.ensures.list c.block_units.result c.block_units.ensures (sym c.claim_block.ensures.free ∙ c.if-not-claim_block.false)
