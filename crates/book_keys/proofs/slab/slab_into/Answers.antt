-- `slab_into` meets its contract: a sound slab's bytes read.
use Rattle.std.proofs.Common.{ℕ, ◌+◌, ◌≤◌, List, ◌≡◌, ap, ◌∙◌, arith, length, length-take, length-drop}
use Rattle.scripthash_layout.specs.Sizes.{slab_bytes}
use Rattle.scripthash_free.proofs.LawsBlock.{bytes_from_16}
use Rattle.book_keys.specs.Steps.{slab_read}
use Rattle.book_keys.proofs.LawsSound.{was_sound}
use Rattle.book_keys.proofs.LawsBlocks.{slab_size, span}
use Rattle.book_keys.proofs.LawsSlab.{slab_there}
use Rattle.book_keys.specs.Keys.{body_ground}
use Rattle.book_keys.proofs.slab.slab_into.Goals as goal

pub overflow_add-end : goal.overflow_add-end
overflow_add-end c =
    let size : c.slab_bytes.result ≡ slab_bytes c.args.class = slab_size c.args.class _ c.requires.0 c.slab_bytes.ensures in
    let inside : c.args.off + c.slab_bytes.result ≤ length c.args.body.now = let e = size in omega (arith, c.requires.1) in
    let h = inside in omega arith

pub slice_bounds-fill_slab-end : goal.slice_bounds-fill_slab-end
slice_bounds-fill_slab-end c =
    let size : c.slab_bytes.result ≡ slab_bytes c.args.class = slab_size c.args.class _ c.requires.0 c.slab_bytes.ensures in
    let inside : c.args.off + c.slab_bytes.result ≤ length c.args.body.now = let e = size in omega (arith, c.requires.1) in
    inside

pub fill_slab-requires : goal.fill_slab-requires
fill_slab-requires c =
    let size : c.slab_bytes.result ≡ slab_bytes c.args.class = slab_size c.args.class _ c.requires.0 c.slab_bytes.ensures in
    let inside : c.args.off + c.slab_bytes.result ≤ length c.args.body.now = let e = size in omega (arith, c.requires.1) in
    let h = inside in
    let e = size in
    simp (length-take, length-drop) (omega (arith, bytes_from_16 c.args.class))

pub returns : goal.returns
returns c mark used read e h =
    let size : c.slab_bytes.result ≡ slab_bytes c.args.class = slab_size c.args.class _ c.requires.0 c.slab_bytes.ensures in
    let a = c.args in
    let there = slab_there (body_ground a.body.now mark) a.class used a.off (was_sound _ e) in
    c.fill_slab.ensures used read
    (ap (λ (bs : List ℕ). slab_read bs used) (span a.body.now a.off c.slab_bytes.result (slab_bytes a.class) size)
    ∙ there.1) h
