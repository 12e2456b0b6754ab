-- `encode_fk_delta_stream_into` meets its contract: what judging and measuring answers decides, then the room.
use Prim.Native.Nat.{ℕ, ◌^◌}
use mathlib.Core.List.{List}
use mathlib.Core.Path.{◌≡◌, sym, ap, ◌∙◌}
use native.Mathlib.Omega.{arith}
use lib.ListN.{length}
use Rattle.std.proofs.lemmas.Result.{err_from_is_err_and}
use Rattle.error.specs.Refusal.{accepted}
use Rattle.error.proofs.LawsAnswer.{accepted_inj}
use Rattle.scripthash_stream.specs.Stream.{Rising, stream_len, judged, encode_stream}
use Rattle.scripthash_stream.proofs.LawsEncode.{judged_accepted, encode_refused, encode_fits, encode_short, after_encode_no, after_encode_yes}
use Rattle.scripthash_stream.proofs.encode.encode_fk_delta_stream_into.Goals as goal

-- A list that was judged well.
record Judged (fks : List ℕ) (len : ℕ) : Type 0 where
  rises : Rising (2 ^ 63) 0 fks
  long : stream_len fks ≡ len

was_judged : (fks : List ℕ) (len : ℕ) → judged 0 fks (accepted (stream_len fks)) ≡ accepted len → Judged fks len
was_judged fks len is =
    let h = judged_accepted 0 fks (accepted (stream_len fks)) is in record { rises = h.0; long = accepted_inj h.1 }

pub returns-in_err-len-clause-answer : goal.returns-in_err-len-clause-answer
returns-in_err-len-clause-answer c =
    let p = err_from_is_err_and c.from_residual.result c.from_residual.ensures.1 in
    rw (p.1, p.2) (sym (encode_refused (length c.args.out.now) c.args.fks.now (sym c.in_err-len.ensures)))

pub returns-in_err-len-clause-bytes : goal.returns-in_err-len-clause-bytes
returns-in_err-len-clause-bytes c =
    let out = c.args.out.now in
    let fks = c.args.fks.now in
    sym (after_encode_no out fks (encode_stream (length out) fks) (encode_refused (length out) fks (sym c.in_err-len.ensures)))

pub returns-then-out-len-clause-answer : goal.returns-then-out-len-clause-answer
returns-then-out-len-clause-answer c =
    let j = was_judged c.args.fks.now c.in_ok-len.len (sym c.in_ok-len.ensures) in
    sym (encode_short (length c.args.out.now) c.args.fks.now j.rises (omega (arith, j.long)))

pub returns-then-out-len-clause-bytes : goal.returns-then-out-len-clause-bytes
returns-then-out-len-clause-bytes c =
    let out = c.args.out.now in
    let fks = c.args.fks.now in
    let j = was_judged fks c.in_ok-len.len (sym c.in_ok-len.ensures) in
    sym (after_encode_no out fks (encode_stream (length out) fks) (encode_short (length out) fks j.rises (omega (arith, j.long))))

pub put_fks-requires : goal.put_fks-requires
put_fks-requires c =
    let j = was_judged c.args.fks.now c.in_ok-len.len (sym c.in_ok-len.ensures) in (j.rises, omega (arith, j.long))

pub returns-clause-answer : goal.returns-clause-answer
returns-clause-answer c =
    let j = was_judged c.args.fks.now c.in_ok-len.len (sym c.in_ok-len.ensures) in
    ap accepted (sym j.long) ∙ sym (encode_fits (length c.args.out.now) c.args.fks.now j.rises (omega (arith, j.long)))

pub returns-clause-bytes : goal.returns-clause-bytes
returns-clause-bytes c =
    let out = c.args.out.now in
    let fks = c.args.fks.now in
    let j = was_judged fks c.in_ok-len.len (sym c.in_ok-len.ensures) in
    c.put_fks.ensures
    ∙ sym (after_encode_yes out fks (encode_stream (length out) fks) (encode_fits (length out) fks j.rises (omega (arith, j.long))))
