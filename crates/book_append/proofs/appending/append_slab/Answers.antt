-- `append_slab` meets its contract: what is told of the slab decides, then its room.
use Rattle.std.proofs.Common.{ℕ, ◌+◌, ◌-◌, ◌<◌, Bool, ◌≡◌, refl, sym, ap, ◌∙◌, arith}
use Rattle.std.proofs.lemmas.Result.{err_from_is_err_and}
use Rattle.compact.specs.Uleb128.{uleb_len}
use Rattle.compact.proofs.LawsLength.{len_at_most}
use Rattle.scripthash_layout.specs.Sizes.{slab_bytes}
use Rattle.error.proofs.LawsAnswer.{was_refused}
use Rattle.scripthash_stream.specs.Stream.{end_from}
use Rattle.scripthash_free.proofs.LawsBlock.{block_stands}
use Rattle.book_rules.specs.Places.{stays}
use Rattle.book_rules.proofs.LawsRules.{bytes_mono, stays_holds}
use Rattle.book_space.specs.Space.{space}
use Rattle.book_keys.specs.Keys.{soundly, slab_scan, body_ground}
use Rattle.book_keys.proofs.LawsSound.{unsound_is}
use Rattle.book_keys.proofs.LawsBlocks.{slab_size}
use Rattle.book_keys.proofs.LawsSlab.{SoundSlab, slab_sound}
use Rattle.book.specs.Book.{Book, seen}
use Rattle.book.specs.Answers.{book_of}
use Rattle.book_append.proofs.LawsAppend.{SlabTold, slab_told, slab_untold, does_as, does_none, slab_unsound, slab_low, slab_stays, slab_leaves}
use Rattle.book_append.proofs.appending.append_slab.Goals as goal

pub returns-in_err-taken : goal.returns-in_err-taken
returns-in_err-taken c =
    let p = err_from_is_err_and c.from_residual.result c.from_residual.ensures.1 in
    let a = c.args in
    let b : Book = book_of a.body.now a.heads.now a.mark.now a.free.now a.counts.now in
    let is = slab_untold a.body.now a.mark.now a.free.now a.class a.used a.off c.in_err-taken.ensures refl in
    let number =
    unsound_is (slab_scan (body_ground a.body.now a.mark.now) a.class a.used a.off)
    (was_refused (end_from 0) (soundly (slab_scan (body_ground a.body.now a.mark.now) a.class a.used a.off)) (sym c.in_err-taken.ensures)) in
    rw (p.1, p.2, number) (does_none b (slab_unsound a.desk b a.key a.n a.class a.used a.off is.1))

pub returns-then-n-last : goal.returns-then-n-last
returns-then-n-last c =
    let b : Book = book_of c.args.body.now c.args.heads.now c.args.mark.now c.args.free.now c.args.counts.now in
    let told : SlabTold b.space c.args.class c.args.used c.args.off c.in_ok-taken.field-0.taken c.in_ok-taken.field-0.last =
    let a = c.args in
    slab_told a.body.now a.mark.now a.free.now a.class a.used a.off c.in_ok-taken.ensures refl in
    let a = c.args in
    does_none b (slab_low a.desk b a.key a.n a.class a.used a.off told c.if-n-last.true)

pub overflow_add-taken : goal.overflow_add-taken
overflow_add-taken c =
    let b : Book = book_of c.args.body.now c.args.heads.now c.args.mark.now c.args.free.now c.args.counts.now in
    let told : SlabTold b.space c.args.class c.args.used c.args.off c.in_ok-taken.field-0.taken c.in_ok-taken.field-0.last =
    let a = c.args in
    slab_told a.body.now a.mark.now a.free.now a.class a.used a.off c.in_ok-taken.ensures refl in
    let sound : SoundSlab (seen b.space) c.args.class c.args.used c.args.off told.scan =
    slab_sound (seen b.space) c.args.class c.args.used c.args.off told.scan told.sound in
    let few : c.in_ok-taken.field-0.taken < 2048 =
    omega (arith, sound.taken_fits, told.taken_is, bytes_mono {c = c.args.class} {d = 7} sound.class_to_7) in
    omega (arith, few, c.uleb128_len.ensures, len_at_most (c.args.n - c.in_ok-taken.field-0.last) (omega (arith, c.requires.low)))

pub stays-requires : goal.stays-requires
stays-requires c =
    let b : Book = book_of c.args.body.now c.args.heads.now c.args.mark.now c.args.free.now c.args.counts.now in
    let told : SlabTold b.space c.args.class c.args.used c.args.off c.in_ok-taken.field-0.taken c.in_ok-taken.field-0.last =
    let a = c.args in
    slab_told a.body.now a.mark.now a.free.now a.class a.used a.off c.in_ok-taken.ensures refl in
    let sound : SoundSlab (seen b.space) c.args.class c.args.used c.args.off told.scan =
    slab_sound (seen b.space) c.args.class c.args.used c.args.off told.scan told.sound in
    let few : c.in_ok-taken.field-0.taken < 2048 =
    omega (arith, sound.taken_fits, told.taken_is, bytes_mono {c = c.args.class} {d = 7} sound.class_to_7) in (
      sound.class_to_7,
      omega (
        arith,
        few,
        c.uleb128_len.ensures,
        len_at_most (c.args.n - c.in_ok-taken.field-0.last)
            (omega (arith, c.requires.low)),
      ),
    )

pub grow_slab-requires : goal.grow_slab-requires
grow_slab-requires c =
    let b : Book = book_of c.args.body.now c.args.heads.now c.args.mark.now c.args.free.now c.args.counts.now in
    let told : SlabTold b.space c.args.class c.args.used c.args.off c.in_ok-taken.field-0.taken c.in_ok-taken.field-0.last =
    let a = c.args in
    slab_told a.body.now a.mark.now a.free.now a.class a.used a.off c.in_ok-taken.ensures refl in
    let sound : SoundSlab (seen b.space) c.args.class c.args.used c.args.off told.scan =
    slab_sound (seen b.space) c.args.class c.args.used c.args.off told.scan told.sound in
    let few : c.in_ok-taken.field-0.taken < 2048 =
    omega (arith, sound.taken_fits, told.taken_is, bytes_mono {c = c.args.class} {d = 7} sound.class_to_7) in
    let more : ℕ = uleb_len (c.args.n - c.in_ok-taken.field-0.last) in
    let test : (holds : Bool) → c.stays.result ≡ holds → stays c.args.class (c.args.used + 1) (c.in_ok-taken.field-0.taken + more) ≡ holds =
    λ _ e.
    sym (c.stays.ensures ∙ ap (λ (held : ℕ). stays c.args.class (held + 1) (c.in_ok-taken.field-0.taken + c.uleb128_len.result)) c.from.ensures ∙ ap (λ (len : ℕ). stays c.args.class (c.args.used + 1) (c.in_ok-taken.field-0.taken + len)) c.uleb128_len.ensures) ∙
    e in
    let size : c.slab_bytes-size.result ≡ slab_bytes c.args.class = slab_size c.args.class _ sound.class_to_7 c.slab_bytes-size.ensures in
    let known-slab = sound in
    let a = c.args in
    let stands = block_stands a.class a.off a.mark.now known-slab.stands in
    let holds = stays_holds a.class (a.used + 1) _ (test _ c.if-stays.true) in
    record {
      inside = omega (arith, size, stands.ends, c.requires.shape.within);
      few = omega (arith, known-slab.used_to_256);
      fits = omega (arith, size, holds.2);
    }

pub overflow_add-place : goal.overflow_add-place
overflow_add-place c =
    let b : Book = book_of c.args.body.now c.args.heads.now c.args.mark.now c.args.free.now c.args.counts.now in
    let told : SlabTold b.space c.args.class c.args.used c.args.off c.in_ok-taken.field-0.taken c.in_ok-taken.field-0.last =
    let a = c.args in
    slab_told a.body.now a.mark.now a.free.now a.class a.used a.off c.in_ok-taken.ensures refl in
    let sound : SoundSlab (seen b.space) c.args.class c.args.used c.args.off told.scan =
    slab_sound (seen b.space) c.args.class c.args.used c.args.off told.scan told.sound in
    omega (arith, sound.used_to_256)

pub returns-then-stays : goal.returns-then-stays
returns-then-stays c =
    let b : Book = book_of c.args.body.now c.args.heads.now c.args.mark.now c.args.free.now c.args.counts.now in
    let told : SlabTold b.space c.args.class c.args.used c.args.off c.in_ok-taken.field-0.taken c.in_ok-taken.field-0.last =
    let a = c.args in
    slab_told a.body.now a.mark.now a.free.now a.class a.used a.off c.in_ok-taken.ensures refl in
    let sound : SoundSlab (seen b.space) c.args.class c.args.used c.args.off told.scan =
    slab_sound (seen b.space) c.args.class c.args.used c.args.off told.scan told.sound in
    let more : ℕ = uleb_len (c.args.n - c.in_ok-taken.field-0.last) in
    let test : (holds : Bool) → c.stays.result ≡ holds → stays c.args.class (c.args.used + 1) (c.in_ok-taken.field-0.taken + more) ≡ holds =
    λ _ e.
    sym (c.stays.ensures ∙ ap (λ (held : ℕ). stays c.args.class (held + 1) (c.in_ok-taken.field-0.taken + c.uleb128_len.result)) c.from.ensures ∙ ap (λ (len : ℕ). stays c.args.class (c.args.used + 1) (c.in_ok-taken.field-0.taken + len)) c.uleb128_len.ensures) ∙
    e in
    let above : c.in_ok-taken.field-0.last < c.args.n = omega (arith, c.if-n-last.false) in
    let size : c.slab_bytes-size.result ≡ slab_bytes c.args.class = slab_size c.args.class _ sound.class_to_7 c.slab_bytes-size.ensures in
    let a = c.args in
    does_as
    (slab_stays a.desk b a.key a.n a.class a.used a.off told above
    (test _ c.if-stays.true)
    c.slab_bytes-size.result size c.grow_slab.new.body c.grow_slab.ensures)
    (c.accept_append.ensures b (space c.grow_slab.new.body a.mark.now a.free.now)
    a.counts.now refl)

pub move_slab-requires : goal.move_slab-requires
move_slab-requires c =
    let b : Book = book_of c.args.body.now c.args.heads.now c.args.mark.now c.args.free.now c.args.counts.now in
    let told : SlabTold b.space c.args.class c.args.used c.args.off c.in_ok-taken.field-0.taken c.in_ok-taken.field-0.last =
    let a = c.args in
    slab_told a.body.now a.mark.now a.free.now a.class a.used a.off c.in_ok-taken.ensures refl in
    let more : ℕ = uleb_len (c.args.n - c.in_ok-taken.field-0.last) in
    let test : (holds : Bool) → c.stays.result ≡ holds → stays c.args.class (c.args.used + 1) (c.in_ok-taken.field-0.taken + more) ≡ holds =
    λ _ e.
    sym (c.stays.ensures ∙ ap (λ (held : ℕ). stays c.args.class (held + 1) (c.in_ok-taken.field-0.taken + c.uleb128_len.result)) c.from.ensures ∙ ap (λ (len : ℕ). stays c.args.class (c.args.used + 1) (c.in_ok-taken.field-0.taken + len)) c.uleb128_len.ensures) ∙
    e in
    let above : c.in_ok-taken.field-0.last < c.args.n = omega (arith, c.if-n-last.false) in
    let a = c.args in
    slab_leaves a.desk b a.key a.n a.class a.used a.off told above c.requires
    (test _ c.if-stays.false)
