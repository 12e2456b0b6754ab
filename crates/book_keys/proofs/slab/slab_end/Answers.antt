-- `slab_end` meets its contract: where the slab stands decides, then its bytes.
use Rattle.std.proofs.Common.{ℕ, ◌+◌, ◌≤◌, true, List, ◌≡◌, sym, ap, ◌∙◌, arith, length, length-take, length-drop}
use borrow.Author.Tests.{not-true, not-false}
use Rattle.error.specs.Refusal.{answered}
use Rattle.scripthash_layout.specs.Sizes.{slab_bytes}
use Rattle.scripthash_stream.specs.Stream.{end_from}
use Rattle.scripthash_free.proofs.LawsBlock.{block_stands, bytes_from_16}
use Rattle.book_keys.specs.Keys.{soundly, Ground, body_ground}
use Rattle.book_keys.specs.Steps.{slab_read}
use Rattle.book_keys.proofs.LawsSound.{turned_back}
use Rattle.book_keys.proofs.LawsBlocks.{is_slab, slab_lies, slab_size, span}
use Rattle.book_keys.proofs.LawsSlab.{slab_no, slab_yes}
use Rattle.book_keys.proofs.slab.slab_end.Goals as goal

pub returns-then-not-slab_stands : goal.returns-then-not-slab_stands
returns-then-not-slab_stands c =
    let a = c.args in
    turned_back (end_from 0) _
    (slab_no (body_ground a.body.now a.mark) a.class a.used a.off (sym c.slab_stands.ensures
    ∙ not-true _ c.if-not-slab_stands.true-raw))

pub overflow_add-end : goal.overflow_add-end
overflow_add-end c =
    let stands : is_slab c.args.class c.args.off c.args.mark ≡ true = sym c.slab_stands.ensures ∙ not-false _ c.if-not-slab_stands.false-raw in
    let size : c.slab_bytes.result ≡ slab_bytes c.args.class = slab_size c.args.class _ (slab_lies c.args.class c.args.off c.args.mark stands).0 c.slab_bytes.ensures in
    let inside : c.args.off + c.slab_bytes.result ≤ length c.args.body.now = let b = block_stands c.args.class c.args.off c.args.mark (slab_lies c.args.class c.args.off c.args.mark stands).1 in let e = size in omega (arith, b.ends, c.requires) in
    let h = inside in omega arith

pub slice_bounds-read_slab-end : goal.slice_bounds-read_slab-end
slice_bounds-read_slab-end c =
    let stands : is_slab c.args.class c.args.off c.args.mark ≡ true = sym c.slab_stands.ensures ∙ not-false _ c.if-not-slab_stands.false-raw in
    let size : c.slab_bytes.result ≡ slab_bytes c.args.class = slab_size c.args.class _ (slab_lies c.args.class c.args.off c.args.mark stands).0 c.slab_bytes.ensures in
    let inside : c.args.off + c.slab_bytes.result ≤ length c.args.body.now = let b = block_stands c.args.class c.args.off c.args.mark (slab_lies c.args.class c.args.off c.args.mark stands).1 in let e = size in omega (arith, b.ends, c.requires) in
    inside

pub read_slab-requires : goal.read_slab-requires
read_slab-requires c =
    let stands : is_slab c.args.class c.args.off c.args.mark ≡ true = sym c.slab_stands.ensures ∙ not-false _ c.if-not-slab_stands.false-raw in
    let size : c.slab_bytes.result ≡ slab_bytes c.args.class = slab_size c.args.class _ (slab_lies c.args.class c.args.off c.args.mark stands).0 c.slab_bytes.ensures in
    let inside : c.args.off + c.slab_bytes.result ≤ length c.args.body.now = let b = block_stands c.args.class c.args.off c.args.mark (slab_lies c.args.class c.args.off c.args.mark stands).1 in let e = size in omega (arith, b.ends, c.requires) in
    let h = inside in
    let e = size in
    simp (length-take, length-drop) (omega (arith, bytes_from_16 c.args.class))

pub returns : goal.returns
returns c =
    let s : Ground = body_ground c.args.body.now c.args.mark in
    let stands : is_slab c.args.class c.args.off c.args.mark ≡ true = sym c.slab_stands.ensures ∙ not-false _ c.if-not-slab_stands.false-raw in
    let size : c.slab_bytes.result ≡ slab_bytes c.args.class = slab_size c.args.class _ (slab_lies c.args.class c.args.off c.args.mark stands).0 c.slab_bytes.ensures in
    c.read_slab.ensures
    ∙ ap (λ (bs : List ℕ). answered (end_from 0) (soundly (slab_read bs c.args.used)))
    (span c.args.body.now c.args.off c.slab_bytes.result (slab_bytes c.args.class) size)
    ∙ ap (λ a. answered (end_from 0) (soundly a)) (sym (slab_yes s c.args.class c.args.used c.args.off stands))
