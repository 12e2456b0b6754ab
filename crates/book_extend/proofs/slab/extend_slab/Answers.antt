-- `extend_slab` meets its contract: the slab's end is told, and each turn is one law of `LawsInPlace`.
use Rattle.std.proofs.Common.{ℕ, ◌+◌, ◌<◌, [], ◌≡◌, refl, sym, subst, arith, rules, length, get_or}
use Rattle.std.proofs.lemmas.Result.{err_from_is_err_and}
use Rattle.error.proofs.LawsAnswer.{was_refused}
use Rattle.scripthash_layout.specs.Sizes.{slab_bytes}
use Rattle.scripthash_layout.specs.declared.head.ShHeadValue.TheVariants.{Slab}
use Rattle.scripthash_stream.specs.Stream.{end_from}
use Rattle.scripthash_free.proofs.LawsBlock.{block_stands}
use Rattle.book_rules.proofs.LawsRules.{bytes_mono, stays_holds}
use Rattle.book_keys.specs.Keys.{soundly, slab_scan, body_ground}
use Rattle.book_keys.proofs.LawsSound.{unsound_is}
use Rattle.book_keys.proofs.LawsBlocks.{slab_size}
use Rattle.book_keys.proofs.LawsSlab.{slab_sound}
use Rattle.book.specs.Answers.{book_of}
use Rattle.book_append.proofs.LawsAppend.{slab_told, slab_untold}
use Rattle.book_extend.specs.Steps.{InPlace}
use Rattle.book_extend.proofs.LawsSlab.{SlabEnds}
use Rattle.book_extend.proofs.LawsExtend.{standing_slab, unsound_slab}
use Rattle.book_extend.proofs.LawsInPlace.{put_none, put_slab, put_reached}
use Rattle.book_extend.proofs.LawsPast.{slab_not}
use Rattle.book_extend.proofs.slab.extend_slab.Goals as goal

pub returns-in_err-taken : goal.returns-in_err-taken
returns-in_err-taken c =
    let p = err_from_is_err_and c.from_residual.result c.from_residual.ensures.1 in
    let a = c.args in
    let is = slab_untold a.body.now a.mark [] a.class a.used a.off c.in_err-taken.ensures refl in
    let number =
    unsound_is (slab_scan (body_ground a.body.now a.mark) a.class a.used a.off)
    (was_refused (end_from 0) (soundly (slab_scan (body_ground a.body.now a.mark) a.class a.used a.off)) (sym c.in_err-taken.ensures)) in
    rw (p.1, p.2) (
      number,
      record {
        unsound = λ free counts.
            unsound_slab (book_of a.body.now a.heads.now a.mark free counts) a.key a.class a.used a.off c.requires.stands is.1;
        body_kept = refl;
        heads_kept = refl;
      },
    )

pub loop-i-init : goal.loop-i-init
loop-i-init c =
    let a = c.args in
    let t = slab_told a.body.now a.mark [] a.class a.used a.off c.in_ok-taken.ensures refl in
    let begins : SlabEnds (body_ground a.body.now a.mark) a.class a.used a.off c.in_ok-taken.field-0.taken c.in_ok-taken.field-0.last =
    record { scan = t.scan; sound = t.sound; taken_is = t.taken_is; fk_is = t.last_is } in
    record {
      put = put_none a.body.now a.heads.now a.mark a.key a.fks.now a.from (Slab a.class a.used a.off) c.requires.left c.requires.stands;
      ends = begins;
    }

pub form_in_slab-requires : goal.form_in_slab-requires
form_in_slab-requires c =
    let a = c.args in
    let l = c.loop-i in
    let e = l.invariant.ends in
    let known = slab_sound (body_ground l.body a.mark) a.class l.count a.off e.scan e.sound in (
      known.class_to_7,
      known.used_to_256,
      omega (arith, known.taken_fits, e.taken_is, bytes_mono {c = a.class} {d = 7} known.class_to_7),
    )

pub returns-in_default : goal.returns-in_default
returns-in_default c =
    let a = c.args in
    let l = c.loop-i in
    let t = slab_told a.body.now a.mark [] a.class a.used a.off c.in_ok-taken.ensures refl in
    let begins : SlabEnds (body_ground a.body.now a.mark) a.class a.used a.off c.in_ok-taken.field-0.taken c.in_ok-taken.field-0.last =
    record { scan = t.scan; sound = t.sound; taken_is = t.taken_is; fk_is = t.last_is } in
    put_reached (Slab a.class a.used a.off)
    (λ free counts. standing_slab (book_of a.body.now a.heads.now a.mark free counts) a.key a.class a.used a.off c.requires.stands begins)
    l.invariant.put
    (λ more free shape.
    slab_not (body_ground l.body a.mark) (get_or a.fks.now l.i 0) (get_or l.heads a.key 0) a.class l.count a.off l.invariant.put.stands
    l.invariant.ends c.in_default.ensures)

pub overflow_sub-n : goal.overflow_sub-n
overflow_sub-n c = omega (arith, c.in-Some.ensures.above)

pub grow_slab-requires : goal.grow_slab-requires
grow_slab-requires c =
    let a = c.args in
    let l = c.loop-i in
    let e = l.invariant.ends in
    let known = slab_sound (body_ground l.body a.mark) a.class l.count a.off e.scan e.sound in
    let takes = c.in-Some.ensures in
    let size = slab_size a.class _ known.class_to_7 c.slab_bytes-size.ensures in
    let stands = block_stands a.class a.off a.mark known.stands in
    let holds = stays_holds a.class (l.count + 1) _ takes.holds in
    record {
      inside = omega (arith, size, stands.ends, c.requires.within, l.invariant.put.body_long);
      few = omega (arith, known.used_to_256);
      fits = omega (arith, size, holds.2, takes.form);
    }

pub overflow_add-count : goal.overflow_add-count
overflow_add-count c =
    let a = c.args in
    let l = c.loop-i in
    let e = l.invariant.ends in
    let known = slab_sound (body_ground l.body a.mark) a.class l.count a.off e.scan e.sound in
    omega (arith, known.used_to_256)

pub put_head-requires : goal.put_head-requires
put_head-requires c = omega (arith, c.requires.keyed, c.loop-i.invariant.put.heads_long)

pub overflow_add-at : goal.overflow_add-at
overflow_add-at c =
    let a = c.args in
    let l = c.loop-i in
    let e = l.invariant.ends in
    let known = slab_sound (body_ground l.body a.mark) a.class l.count a.off e.scan e.sound in
    let holds = stays_holds a.class (l.count + 1) _ c.in-Some.ensures.holds in
    omega (arith, holds.2, bytes_mono {c = a.class} {d = 7} known.class_to_7)

pub loop-i-preserved : goal.loop-i-preserved
loop-i-preserved c =
    let a = c.args in
    let l = c.loop-i in
    let e = l.invariant.ends in
    let known = slab_sound (body_ground l.body a.mark) a.class l.count a.off e.scan e.sound in
    let size = slab_size a.class _ known.class_to_7 c.slab_bytes-size.ensures in
    let long : length c.grow_slab.new.body ≡ length l.body = search rules in
    let (p, w) = put_slab a.class l.count a.off c.requires.keyed c.requires.within l.invariant.put e c.loop-i-test.true c.in-Some.ensures
    c.slab_bytes-size.result size c.grow_slab.new.body c.put_head.new.heads c.grow_slab.ensures long c.put_head.ensures in
    record { put = p; ends = w }

pub returns : goal.returns
returns c =
    let a = c.args in
    let l = c.loop-i in
    let t = slab_told a.body.now a.mark [] a.class a.used a.off c.in_ok-taken.ensures refl in
    let begins : SlabEnds (body_ground a.body.now a.mark) a.class a.used a.off c.in_ok-taken.field-0.taken c.in_ok-taken.field-0.last =
    record { scan = t.scan; sound = t.sound; taken_is = t.taken_is; fk_is = t.last_is } in
    let all : l.i ≡ length a.fks.now = omega (arith, l.invariant.put.within, c.loop-i-test.false) in
    subst (λ (j : ℕ). InPlace a.body.now a.heads.now a.mark a.key a.fks.now a.from l.body l.heads j) all
    (put_reached (Slab a.class a.used a.off)
    (λ free counts. standing_slab (book_of a.body.now a.heads.now a.mark free counts) a.key a.class a.used a.off c.requires.stands begins)
    l.invariant.put (λ more. absurd (omega (arith, more, c.loop-i-test.false))))
