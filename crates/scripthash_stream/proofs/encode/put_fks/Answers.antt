-- `put_fks` meets its contract: the next number's form goes to the offset, and the rest of the stream behind it.
use Prim.Native.Nat.{ℕ, ◌+◌, ◌-◌, ◌^◌, ◌≤◌, ◌<◌}
use mathlib.Core.List.{List, [], ◌∷◌}
use mathlib.Core.Path.{◌≡◌, sym, ap, ◌∙◌}
use native.Mathlib.Omega.{arith}
use lib.ListN.{length, drop, get_or, drop_of_length-le}
use Rattle.buffer.specs.Bytes.{overwrite}
use Rattle.buffer.proofs.LawsBytes.{overwrite_nil, length_overwrite}
use Rattle.buffer.proofs.LawsOverwrite.{overwrite_adjoin}
use Rattle.compact.specs.Uleb128.{uleb_len, shortest}
use Rattle.compact.proofs.LawsLength.{length_shortest}
use Rattle.scripthash_stream.specs.Stream.{Rising, stream_from, stream_len_from}
use Rattle.scripthash_stream.proofs.LawsStream.{front}
use Rattle.scripthash_stream.proofs.encode.put_fks.Goals as goal

-- What is known of the next number of those left, and of those behind it.
record Turn (fks out : List ℕ) (prev off k : ℕ) : Type 0 where
  above : prev < get_or fks k 0
  room : off + uleb_len (get_or fks k 0 - prev) ≤ length out
  after : Rising (2 ^ 63) (get_or fks k 0) (drop (k + 1) fks)
  fits : off + uleb_len (get_or fks k 0 - prev) + stream_len_from (get_or fks k 0) (drop (k + 1) fks) ≤ length out
  makes : overwrite out off (stream_from prev (drop k fks))
      ≡ overwrite (overwrite out off (shortest (get_or fks k 0 - prev))) (off + uleb_len (get_or fks k 0 - prev))
      (stream_from (get_or fks k 0) (drop (k + 1) fks))

turn : (fks out : List ℕ) (prev off k : ℕ) → k < length fks → Rising (2 ^ 63) prev (drop k fks)
    → off + stream_len_from prev (drop k fks) ≤ length out
    → Turn fks out prev off k
unfolding Rising stream_from stream_len_from
turn fks out prev off k h rises fits =
    let first = front fks k h in
    let r : Rising (2 ^ 63) prev (get_or fks k 0 ∷ drop (k + 1) fks) = rw first at rises in
    let f : off + stream_len_from prev (get_or fks k 0 ∷ drop (k + 1) fks) ≤ length out = rw first at fits in
    record {
      above = r.0;
      room = omega arith;
      after = r.2;
      fits = omega arith;
      makes = rw (first, ← (length_shortest (get_or fks k 0 - prev)))
          (sym (overwrite_adjoin out off (shortest (get_or fks k 0 - prev)) (stream_from (get_or fks k 0) (drop (k + 1) fks)) (omega arith)));
    }

pub overflow_sub-fk : goal.overflow_sub-fk
overflow_sub-fk c =
    let l = c.loop-fk in
    omega (arith, (turn c.args.fks.now l.out l.prev l.off l.fk-index (omega arith) l.invariant.rises l.invariant.fits).above)

pub put_form-off-requires : goal.put_form-off-requires
put_form-off-requires c =
    let l = c.loop-fk in
    (turn c.args.fks.now l.out l.prev l.off l.fk-index (omega arith) l.invariant.rises l.invariant.fits).room

pub overflow_add-off : goal.overflow_add-off
overflow_add-off c =
    let l = c.loop-fk in
    let t = turn c.args.fks.now l.out l.prev l.off l.fk-index (omega arith) l.invariant.rises l.invariant.fits in
    omega (arith, t.room, c.put_form-off.ensures.len)

pub loop-fk-preserved : goal.loop-fk-preserved
loop-fk-preserved c =
    let l = c.loop-fk in
    let t = turn c.args.fks.now l.out l.prev l.off l.fk-index (omega arith) l.invariant.rises l.invariant.fits in
    let f = c.put_form-off in
    let fk = get_or c.args.fks.now l.fk-index 0 in
    let rest = drop (l.fk-index + 1) c.args.fks.now in
    let long = length_overwrite l.out l.off (shortest (fk - l.prev)) (omega (arith, t.room, length_shortest (fk - l.prev))) in
    let same : length f.new.out ≡ length l.out = ap length f.ensures.bytes ∙ long in
    record {
      rises = t.after;
      fits = omega (arith, t.fits, f.ensures.len);
      makes = ap (λ (o : ℕ). overwrite f.new.out (l.off + o) (stream_from fk rest)) f.ensures.len
          ∙ ap (λ (d : List ℕ). overwrite d (l.off + uleb_len (fk - l.prev)) (stream_from fk rest)) f.ensures.bytes ∙ sym t.makes
          ∙ l.invariant.makes;
    }

pub returns : goal.returns
unfolding stream_from
returns c =
    let end : drop c.loop-fk.fk-index c.args.fks.now ≡ [] = drop_of_length-le c.args.fks.now {i = c.loop-fk.fk-index} (omega arith) in
    sym (overwrite_nil c.loop-fk.out c.loop-fk.off) ∙ (rw end at c.loop-fk.invariant.makes)
