-- `read_stored` meets its contract: where the slab stands decides, then its bytes.
use Rattle.std.proofs.Common.{ℕ, ◌+◌, ◌≤◌, true, List, ◌≡◌, refl, sym, ap, ◌∙◌, arith, length}
use lib.ListN.{length-take, length-drop}
use borrow.Author.Tests.{not-true, not-false}
use Rattle.scripthash_layout.specs.Sizes.{slab_bytes}
use Rattle.scripthash_free.proofs.LawsBlock.{block_stands, bytes_from_16}
use Rattle.book_keys.specs.Keys.{body_ground}
use Rattle.book_keys.specs.Steps.{slab_read}
use Rattle.book_keys.proofs.LawsSound.{soundly_no}
use Rattle.book_keys.proofs.LawsBlocks.{is_slab, slab_lies, slab_size, span}
use Rattle.book_keys.proofs.LawsSlab.{slab_no, slab_yes}
use Rattle.book_keys.proofs.LawsContent.{content_no_slab}
use Rattle.book_keys.proofs.LawsListed.{read_unsound}
use Rattle.book_keys.proofs.slab.read_stored.Goals as goal

pub returns-then-not-slab_stands : goal.returns-then-not-slab_stands
returns-then-not-slab_stands c =
    let a = c.args in
    let s = body_ground a.body.now a.mark in
    let stop = slab_no s a.class a.used a.off (sym c.slab_stands.ensures ∙ not-true _ c.if-not-slab_stands.true-raw) in
    read_unsound a.out.now _ _ (soundly_no _ (content_no_slab s a.class a.used a.off stop)) refl

pub overflow_add-end : goal.overflow_add-end
overflow_add-end c =
    let a = c.args in
    let stands : is_slab a.class a.off a.mark ≡ true = sym c.slab_stands.ensures ∙ not-false _ c.if-not-slab_stands.false-raw in
    let lies = slab_lies a.class a.off a.mark stands in
    omega (arith, slab_size a.class _ lies.0 c.slab_bytes.ensures, (block_stands a.class a.off a.mark lies.1).ends, c.requires)

pub slice_bounds-slab_list-end : goal.slice_bounds-slab_list-end
slice_bounds-slab_list-end c =
    let a = c.args in
    let stands : is_slab a.class a.off a.mark ≡ true = sym c.slab_stands.ensures ∙ not-false _ c.if-not-slab_stands.false-raw in
    let lies = slab_lies a.class a.off a.mark stands in
    omega (arith, slab_size a.class _ lies.0 c.slab_bytes.ensures, (block_stands a.class a.off a.mark lies.1).ends, c.requires)

pub slab_list-requires : goal.slab_list-requires
slab_list-requires c =
    let a = c.args in
    let stands : is_slab a.class a.off a.mark ≡ true = sym c.slab_stands.ensures ∙ not-false _ c.if-not-slab_stands.false-raw in
    let lies = slab_lies a.class a.off a.mark stands in
    let size = slab_size a.class _ lies.0 c.slab_bytes.ensures in
    let ends = (block_stands a.class a.off a.mark lies.1).ends in
    simp (length-take, length-drop) (omega (arith, bytes_from_16 a.class, size, ends, c.requires))

pub returns : goal.returns
returns c =
    let a = c.args in
    let s = body_ground a.body.now a.mark in
    let stands : is_slab a.class a.off a.mark ≡ true = sym c.slab_stands.ensures ∙ not-false _ c.if-not-slab_stands.false-raw in
    let size = slab_size a.class _ (slab_lies a.class a.off a.mark stands).0 c.slab_bytes.ensures in
    let bytes = span a.body.now a.off c.slab_bytes.result (slab_bytes a.class) size in
    c.slab_list.ensures s a.class a.off
    (slab_yes s a.class a.used a.off stands ∙ sym (ap (λ (bs : List ℕ). slab_read bs a.used) bytes)) (sym bytes)
