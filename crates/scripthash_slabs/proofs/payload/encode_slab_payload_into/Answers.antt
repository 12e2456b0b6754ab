-- `encode_slab_payload_into` meets its contract: after the two tests the stream's encoder decides, on the lent part after two bytes; the
-- count is written last.
use Prim.Native.Nat.{ℕ, ◌+◌, ◌-◌, ◌≤◌}
use mathlib.Core.List.{List}
use mathlib.Core.Path.{◌≡◌, sym, ap, ◌∙◌}
use native.Mathlib.Omega.{arith}
use lib.ListN.{length}
use Rattle.std.proofs.lemmas.Result.{err_from_is_err_and}
use Rattle.error.specs.Refusal.{Answer, accepted, refused}
use Rattle.error.proofs.LawsAnswer.{answered_yes, answered_no}
use Rattle.buffer.specs.Bytes.{overwrite}
use Rattle.buffer.specs.LittleEndian.{bytes_of}
use Rattle.scripthash_stream.specs.Stream.{encode_stream, max_offered}
use Rattle.scripthash_stream.proofs.LawsLent.{lent, length_lent, lent_no, lent_yes}
use Rattle.scripthash_stream.proofs.LawsEncode.{encode_accepted}
use Rattle.scripthash_slabs.specs.Slab.{encode_slab}
use Rattle.scripthash_slabs.proofs.LawsSlab.{slab_many, slab_short, slab_as_stream, after_slab_no, after_slab_yes, payload_written}
use Rattle.scripthash_slabs.proofs.payload.encode_slab_payload_into.Goals as goal

-- the stream's encoder was lent the part after two bytes, and answered
module _ (bytes fks : List ℕ) (inside : 2 ≤ length bytes) (few : length fks ≤ max_offered) where
  -- what it answers for the rest of the bytes
  rest : {a : Answer ℕ} → a ≡ encode_stream (length (lent bytes 2)) fks → encode_stream (length bytes - 2) fks ≡ a
  rest e = sym (e ∙ ap (λ (r : ℕ). encode_stream r fks) (length_lent bytes 2 inside))

  -- a refusal of the stream is one of the slab
  no : {number : ℕ} → refused number ≡ encode_stream (length (lent bytes 2)) fks → encode_slab (length bytes) fks ≡ refused number
  no e = slab_as_stream (length bytes) fks few inside ∙ answered_no (λ len. 2 + len) (encode_stream (length bytes - 2) fks) (rest e)

  -- a stream that is written makes a slab that is two bytes longer
  yes : {len : ℕ} → accepted len ≡ encode_stream (length (lent bytes 2)) fks → encode_slab (length bytes) fks ≡ accepted (2 + len)
  yes e = slab_as_stream (length bytes) fks few inside ∙ answered_yes (λ len. 2 + len) (encode_stream (length bytes - 2) fks) (rest e)

  -- and fits behind the two bytes
  within : {len : ℕ} → accepted len ≡ encode_stream (length (lent bytes 2)) fks → len ≤ length bytes - 2
  within e = let h = encode_accepted (length bytes - 2) fks (rest e) in omega arith

pub returns-then-fks-gt-MAX_OFFERED-clause-answer : goal.returns-then-fks-gt-MAX_OFFERED-clause-answer
returns-then-fks-gt-MAX_OFFERED-clause-answer c = sym (slab_many (length c.args.out.now) c.args.fks.now (omega arith))

pub returns-then-fks-gt-MAX_OFFERED-clause-bytes : goal.returns-then-fks-gt-MAX_OFFERED-clause-bytes
returns-then-fks-gt-MAX_OFFERED-clause-bytes c =
    sym (after_slab_no c.args.out.now c.args.fks.now _ (slab_many (length c.args.out.now) c.args.fks.now (omega arith)))

pub returns-then-out-lt2-clause-answer : goal.returns-then-out-lt2-clause-answer
returns-then-out-lt2-clause-answer c = sym (slab_short (length c.args.out.now) c.args.fks.now (omega arith) (omega arith))

pub returns-then-out-lt2-clause-bytes : goal.returns-then-out-lt2-clause-bytes
returns-then-out-lt2-clause-bytes c =
    sym (after_slab_no c.args.out.now c.args.fks.now _ (slab_short (length c.args.out.now) c.args.fks.now (omega arith) (omega arith)))

pub returns-in_err-len-clause-answer : goal.returns-in_err-len-clause-answer
returns-in_err-len-clause-answer c =
    let p = err_from_is_err_and c.from_residual.result c.from_residual.ensures.1 in
    rw (p.1, p.2) (sym (no c.args.out.now c.args.fks.now (omega arith) (omega arith) c.in_err-len.ensures.answer))

pub returns-in_err-len-clause-bytes : goal.returns-in_err-len-clause-bytes
returns-in_err-len-clause-bytes c =
    let bytes = c.args.out.now in
    let fks = c.args.fks.now in
    let stop = rest bytes fks (omega arith) (omega arith) c.in_err-len.ensures.answer in
    lent_no bytes 2 (omega arith) fks c.encode_fk_delta_stream_into.new.out c.encode_fk_delta_stream_into.ensures.bytes stop
    ∙ sym (after_slab_no bytes fks _ (no bytes fks (omega arith) (omega arith) c.in_err-len.ensures.answer))

pub overflow_add-result : goal.overflow_add-result
overflow_add-result c = omega (arith, within c.args.out.now c.args.fks.now (omega arith) (omega arith) c.in_ok-len.ensures.answer)

pub returns-clause-answer : goal.returns-clause-answer
returns-clause-answer c = sym (yes c.args.out.now c.args.fks.now (omega arith) (omega arith) c.in_ok-len.ensures.answer)

pub returns-clause-bytes : goal.returns-clause-bytes
returns-clause-bytes c =
    let bytes = c.args.out.now in
    let fks = c.args.fks.now in
    let went = rest bytes fks (omega arith) (omega arith) c.in_ok-len.ensures.answer in
    let written = lent_yes bytes 2 (omega arith) fks c.encode_fk_delta_stream_into.new.out c.encode_fk_delta_stream_into.ensures.bytes went in
    c.put_u16.ensures ∙ ap (λ (b : List ℕ). overwrite b 0 (bytes_of 2 (length fks))) written ∙ payload_written bytes fks (omega arith)
    ∙ sym (after_slab_yes bytes fks _ (yes bytes fks (omega arith) (omega arith) c.in_ok-len.ensures.answer))
