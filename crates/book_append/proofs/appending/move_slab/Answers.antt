-- `move_slab` meets its contract: the list is read and its number stored behind it, what placing it tells decides.
use Rattle.std.proofs.Common.{ℕ, ◌+◌, ◌-◌, ◌<◌, List, [], ◌∷◌, ◌++◌, ◌≡◌, refl, ap, ◌∙◌, arith, length, set, take, replicate, length-append, length-set, sym}
use Rattle.std.proofs.lemmas.Result.{err_from_is_err_and}
use Rattle.buffer.specs.Bytes.{overwrite}
use Rattle.buffer.proofs.LawsBytes.{length_overwrite}
use Rattle.scripthash_free.proofs.LawsBlock.{block_stands}
use Rattle.book_space.specs.Space.{Space, space}
use Rattle.book_space.proofs.LawsLists.{stands_further}
use Rattle.book_keys.proofs.LawsSound.{soundly_yes}
use Rattle.book_keys.proofs.LawsSlab.{SoundSlab, slab_sound}
use Rattle.book.specs.Book.{Book, seen}
use Rattle.book.specs.Answers.{book_of}
use Rattle.book.proofs.LawsKey.{does_still}
use Rattle.book.proofs.LawsPlace.{placed_at, placed_none}
use Rattle.book_append.proofs.LawsAppend.{slab_free, does_as, places_for, list_behind, rises_behind, slab_moved, slab_unmoved}
use Rattle.book_append.proofs.appending.move_slab.Goals as goal

pub slab_into-requires : goal.slab_into-requires
slab_into-requires c =
    let b : Book = book_of c.args.body.now c.args.heads.now c.args.mark.now c.args.free.now c.args.counts.now in
    let sound : SoundSlab (seen b.space) c.args.class c.args.used c.args.off c.requires.scan =
    slab_sound (seen b.space) c.args.class c.args.used c.args.off c.requires.scan c.requires.sound in
    let known = sound in
    let stands = block_stands c.args.class c.args.off c.args.mark.now known.stands in
    (known.class_to_7, omega (arith, stands.ends, c.requires.to_append.shape.within))

pub bounds-list-held : goal.bounds-list-held
bounds-list-held c =
    let b : Book = book_of c.args.body.now c.args.heads.now c.args.mark.now c.args.free.now c.args.counts.now in
    let sound : SoundSlab (seen b.space) c.args.class c.args.used c.args.off c.requires.scan =
    slab_sound (seen b.space) c.args.class c.args.used c.args.off c.requires.scan c.requires.sound in
    omega (arith, c.from-held.ensures, sound.used_to_256)

pub slice_bounds-move_list-end : goal.slice_bounds-move_list-end
slice_bounds-move_list-end c =
    let b : Book = book_of c.args.body.now c.args.heads.now c.args.mark.now c.args.free.now c.args.counts.now in
    let sound : SoundSlab (seen b.space) c.args.class c.args.used c.args.off c.requires.scan =
    slab_sound (seen b.space) c.args.class c.args.used c.args.off c.requires.scan c.requires.sound in
    let few : length c.requires.scan.numbers < 257 = omega (arith, sound.counted, sound.used_to_256) in
    let read_is : c.slab_into.new.out ≡ overwrite (replicate 257 0) 0 c.requires.scan.numbers =
    let a = c.args in
    let there = slab_free a.body.now a.mark.now a.free.now a.class a.used a.off ∙ c.requires.sound in
    c.slab_into.ensures a.mark.now a.used c.requires.scan (soundly_yes _ there) (omega (arith, few)) in
    let room : length (set c.slab_into.new.out c.from-held.result c.args.n) ≡ 257 =
    simp length-set (ap length read_is ∙ length_overwrite (replicate 257 0) 0 c.requires.scan.numbers (omega (arith, few))) in
    let size = room in omega
    (arith, c.from-held.ensures, sound.used_to_256)

pub move_list-requires : goal.move_list-requires
move_list-requires c =
    let b : Book = book_of c.args.body.now c.args.heads.now c.args.mark.now c.args.free.now c.args.counts.now in
    let sound : SoundSlab (seen b.space) c.args.class c.args.used c.args.off c.requires.scan =
    slab_sound (seen b.space) c.args.class c.args.used c.args.off c.requires.scan c.requires.sound in
    let list : List ℕ = take (c.from-held.result + 1 - 0) (set c.slab_into.new.out c.from-held.result c.args.n) in
    let few : length c.requires.scan.numbers < 257 = omega (arith, sound.counted, sound.used_to_256) in
    let read_is : c.slab_into.new.out ≡ overwrite (replicate 257 0) 0 c.requires.scan.numbers =
    let a = c.args in
    let there = slab_free a.body.now a.mark.now a.free.now a.class a.used a.off ∙ c.requires.sound in
    c.slab_into.ensures a.mark.now a.used c.requires.scan (soundly_yes _ there) (omega (arith, few)) in
    let list_is : list ≡ c.requires.scan.numbers ++ (c.args.n ∷ []) =
    list_behind (replicate 257 0) _ c.requires.scan.numbers c.args.n c.from-held.result (sound.counted ∙ sym c.from-held.ensures) (omega (arith, c.from-held.ensures, few, sound.counted))
    read_is in
    let long : length list ≡ c.args.used + 1 = ap length list_is ∙ simp length-append (omega (arith, sound.counted)) in
    let known = sound in
    record {
      shape = c.requires.to_append.shape;
      known = c.requires.to_append.known;
      two = omega (arith, long, known.some);
      few = omega (arith, long, known.used_to_256);
      rises = rw list_is (rises_behind _ c.args.n known.rising c.requires.above c.requires.to_append.low);
    }

pub release_block-requires : goal.release_block-requires
release_block-requires c =
    let b : Book = book_of c.args.body.now c.args.heads.now c.args.mark.now c.args.free.now c.args.counts.now in
    let sound : SoundSlab (seen b.space) c.args.class c.args.used c.args.off c.requires.scan =
    slab_sound (seen b.space) c.args.class c.args.used c.args.off c.requires.scan c.requires.sound in
    stands_further c.args.class c.args.off c.args.mark.now _ (omega (arith, c.requires.to_append.shape.within))
    sound.stands

pub returns-in_err-place : goal.returns-in_err-place
returns-in_err-place c =
    let p = err_from_is_err_and c.from_residual.result c.from_residual.ensures.1 in
    let b : Book = book_of c.args.body.now c.args.heads.now c.args.mark.now c.args.free.now c.args.counts.now in
    let sound : SoundSlab (seen b.space) c.args.class c.args.used c.args.off c.requires.scan =
    slab_sound (seen b.space) c.args.class c.args.used c.args.off c.requires.scan c.requires.sound in
    let list : List ℕ = take (c.from-held.result + 1 - 0) (set c.slab_into.new.out c.from-held.result c.args.n) in
    let few : length c.requires.scan.numbers < 257 = omega (arith, sound.counted, sound.used_to_256) in
    let read_is : c.slab_into.new.out ≡ overwrite (replicate 257 0) 0 c.requires.scan.numbers =
    let a = c.args in
    let there = slab_free a.body.now a.mark.now a.free.now a.class a.used a.off ∙ c.requires.sound in
    c.slab_into.ensures a.mark.now a.used c.requires.scan (soundly_yes _ there) (omega (arith, few)) in
    let list_is : list ≡ c.requires.scan.numbers ++ (c.args.n ∷ []) =
    list_behind (replicate 257 0) _ c.requires.scan.numbers c.args.n c.from-held.result (sound.counted ∙ sym c.from-held.ensures) (omega (arith, c.from-held.ensures, few, sound.counted))
    read_is in
    let after : Space = space c.move_list.new.body c.move_list.new.mark c.move_list.new.free in
    let a = c.args in
    let none = placed_none b.space b.counts after c.move_list.new.counts
    (places_for a.desk b.space b.counts list) c.in_err-place.ensures refl in
    rw (p.1, p.2) (does_still b
    (slab_unmoved a.desk b a.key a.n a.class a.used a.off c.requires list list_is none.0)
    none.1 none.2)

pub returns : goal.returns
returns c =
    let b : Book = book_of c.args.body.now c.args.heads.now c.args.mark.now c.args.free.now c.args.counts.now in
    let sound : SoundSlab (seen b.space) c.args.class c.args.used c.args.off c.requires.scan =
    slab_sound (seen b.space) c.args.class c.args.used c.args.off c.requires.scan c.requires.sound in
    let list : List ℕ = take (c.from-held.result + 1 - 0) (set c.slab_into.new.out c.from-held.result c.args.n) in
    let few : length c.requires.scan.numbers < 257 = omega (arith, sound.counted, sound.used_to_256) in
    let read_is : c.slab_into.new.out ≡ overwrite (replicate 257 0) 0 c.requires.scan.numbers =
    let a = c.args in
    let there = slab_free a.body.now a.mark.now a.free.now a.class a.used a.off ∙ c.requires.sound in
    c.slab_into.ensures a.mark.now a.used c.requires.scan (soundly_yes _ there) (omega (arith, few)) in
    let list_is : list ≡ c.requires.scan.numbers ++ (c.args.n ∷ []) =
    list_behind (replicate 257 0) _ c.requires.scan.numbers c.args.n c.from-held.result (sound.counted ∙ sym c.from-held.ensures) (omega (arith, c.from-held.ensures, few, sound.counted))
    read_is in
    let after : Space = space c.move_list.new.body c.move_list.new.mark c.move_list.new.free in
    let a = c.args in
    let freed = space c.release_block.new.body after.mark c.release_block.new.free in
    let here = placed_at b.space b.counts after c.move_list.new.counts
    (places_for a.desk b.space b.counts list) c.in_ok-place.ensures refl in
    does_as
    (slab_moved a.desk b a.key a.n a.class a.used a.off c.requires list list_is
    freed here (c.release_block.ensures after.mark))
    (rw c.from.ensures at c.accept_append.ensures b freed c.move_list.new.counts refl)
