-- `decode_slab_payload_into` meets its contract: after the test the stream's decoder decides, on the part after two bytes and the count in
-- them.
use Prim.Native.Nat.{ℕ, ◌+◌, ◌-◌, ◌≤◌}
use mathlib.Core.List.{List}
use mathlib.Core.Path.{◌≡◌, sym, ap, ◌∙◌}
use native.Mathlib.Omega.{arith}
use lib.ListN.{length, take, drop, length-take, length-drop}
use Rattle.std.proofs.lemmas.Result.{err_from_is_err_and}
use Rattle.error.specs.Refusal.{accepted, refused, answered}
use Rattle.error.proofs.LawsAnswer.{answered_yes, answered_no, was_accepted, was_refused}
use Rattle.buffer.proofs.LawsBytes.{part_to_end}
use Rattle.scripthash_stream.specs.Stream.{StreamTold, stream_told, padded_in, decode_stream, after_decode}
use Rattle.scripthash_stream.proofs.LawsScan.{scan_accepted}
use Rattle.scripthash_stream.proofs.LawsDecode.{decode_accepted, after_refused}
use Rattle.scripthash_slabs.specs.Slab.{slab_used, slab_padded, slab_list_of, decode_slab}
use Rattle.scripthash_slabs.proofs.LawsSlab.{unslab_short, unslab_as_stream}
use Rattle.scripthash_slabs.proofs.payload.decode_slab_payload_into.Goals as goal

-- the stream's decoder was lent a list with some room, the part of a payload after two bytes, and the count in them
module _ (room : ℕ) (bytes : List ℕ) (used : ℕ) (inside : 2 ≤ length bytes) (counts : used ≡ slab_used bytes) where
  -- the stream
  abbrev rest : List ℕ
  rest = take (length bytes - 2) (drop 2 bytes)

  -- its decoder decides
  slab : decode_stream room used rest ≡ decode_slab room bytes
  slab =
      ap (decode_stream room used) (part_to_end bytes 2) ∙ ap (λ (n : ℕ). decode_stream room n (drop 2 bytes)) counts
      ∙ sym (unslab_as_stream room bytes inside)

  -- a refusal of the stream is one of the slab
  no : {number : ℕ} → refused number ≡ answered (stream_told used rest) (decode_stream room used rest)
      → answered (slab_list_of bytes) (decode_slab room bytes) ≡ refused number
  no e = answered_no (slab_list_of bytes) (decode_slab room bytes)
      (sym slab ∙ was_refused (stream_told used rest) (decode_stream room used rest) (sym e))

  -- What is known of a stream that was read.
  record Read (told : StreamTold) : Type 0 where
    within : told.taken ≤ length bytes - 2
    answer : answered (slab_list_of bytes) (decode_slab room bytes)
        ≡ accepted (record { used = used; len = 2 + told.taken; padded = told.padded })

  read : (told : StreamTold) → accepted told ≡ answered (stream_told used rest) (decode_stream room used rest) → Read told
  unfolding slab_padded
  read told e =
      let got = was_accepted (stream_told used rest) (decode_stream room used rest) (sym e) in
      let known = scan_accepted 0 _ _ _ (decode_accepted room _ _ got.1).0 in
      let inside = simp (length-take, length-drop) at known.within in
      let taken : got.0.taken ≡ told.taken = ap (λ (t : StreamTold). t.taken) got.2 in
      let padded : slab_padded bytes ≡ told.padded =
      ap (λ (n : ℕ). padded_in n (drop 2 bytes)) (sym counts) ∙ ap (padded_in used) (sym (part_to_end bytes 2))
      ∙ ap (λ (t : StreamTold). t.padded) got.2 in
      record {
        within = omega (arith, taken);
        answer = answered_yes (slab_list_of bytes) (decode_slab room bytes) (sym slab ∙ got.1)
            ∙ ap (λ (u : ℕ). accepted (record { used = u; len = 2 + got.0.taken; padded = slab_padded bytes })) known.counted
            ∙ ap (λ (t : ℕ). accepted (record { used = used; len = 2 + t; padded = slab_padded bytes })) taken
            ∙ ap (λ (m : ℕ). accepted (record { used = used; len = 2 + told.taken; padded = m })) padded;
      }

pub returns-then-buf-lt2-clause-answer : goal.returns-then-buf-lt2-clause-answer
returns-then-buf-lt2-clause-answer c =
    sym (answered_no (slab_list_of c.args.buf.now) _ (unslab_short (length c.args.out.now) c.args.buf.now (omega arith)))

pub returns-then-buf-lt2-clause-list : goal.returns-then-buf-lt2-clause-list
returns-then-buf-lt2-clause-list c = sym (after_refused c.args.out.now _ (unslab_short (length c.args.out.now) c.args.buf.now (omega arith)))

pub returns-in_err-read-clause-answer : goal.returns-in_err-read-clause-answer
returns-in_err-read-clause-answer c =
    let p = err_from_is_err_and c.from_residual.result c.from_residual.ensures.1 in
    rw (p.1, p.2)
    (sym (no (length c.args.out.now) c.args.buf.now c.from-used.result (omega arith) (c.from-used.ensures ∙ c.get_u16.ensures) c.in_err-read.ensures.answer))

pub returns-in_err-read-clause-list : goal.returns-in_err-read-clause-list
returns-in_err-read-clause-list c =
    c.decode_fk_delta_stream_into.ensures.list
    ∙ ap (after_decode c.args.out.now)
    (slab (length c.args.out.now) c.args.buf.now c.from-used.result (omega arith) (c.from-used.ensures ∙ c.get_u16.ensures))

pub overflow_add-result : goal.overflow_add-result
overflow_add-result c =
    let told : StreamTold = record { taken = c.in_ok-read.read.taken; padded = c.in_ok-read.read.padded } in
    let r = read (length c.args.out.now) c.args.buf.now c.from-used.result (omega arith) (c.from-used.ensures ∙ c.get_u16.ensures) told c.in_ok-read.ensures.answer in
    omega (arith, r.within)

pub returns-clause-answer : goal.returns-clause-answer
returns-clause-answer c =
    let told : StreamTold = record { taken = c.in_ok-read.read.taken; padded = c.in_ok-read.read.padded } in
    let r = read (length c.args.out.now) c.args.buf.now c.from-used.result (omega arith) (c.from-used.ensures ∙ c.get_u16.ensures) told c.in_ok-read.ensures.answer in
    sym r.answer

pub returns-clause-list : goal.returns-clause-list
returns-clause-list c =
    c.decode_fk_delta_stream_into.ensures.list
    ∙ ap (after_decode c.args.out.now)
    (slab (length c.args.out.now) c.args.buf.now c.from-used.result (omega arith) (c.from-used.ensures ∙ c.get_u16.ensures))
