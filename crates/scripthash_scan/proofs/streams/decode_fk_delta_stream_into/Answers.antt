-- `decode_fk_delta_stream_into` meets its contract: the stream is read, and then its padded numbers are counted over the bytes taken.
use Prim.Native.Nat.{ℕ, ◌≤◌}
use mathlib.Core.List.{List}
use mathlib.Core.Path.{◌≡◌, sym, ap, ◌∙◌}
use native.Mathlib.Omega.{arith}
use lib.ListN.{length}
use Rattle.std.proofs.lemmas.Result.{err_from_is_err_and}
use Rattle.error.specs.Refusal.{accepted, answered}
use Rattle.error.proofs.LawsAnswer.{answered_yes, answered_no, was_accepted, was_refused}
use Rattle.scripthash_stream.specs.Stream.{Scan, scan, padded_in, decode_stream, stream_told}
use Rattle.scripthash_stream.proofs.LawsScan.{scan_accepted}
use Rattle.scripthash_stream.proofs.LawsDecode.{decode_accepted}
use Rattle.scripthash_scan.proofs.streams.decode_fk_delta_stream_into.Goals as goal

-- What is known of a stream of n numbers that was read into a list with room for some, given the bytes that it takes.
record Read (room n : ℕ) (buf : List ℕ) (len : ℕ) : Type 0 where
  scanned : Scan
  is : decode_stream room n buf ≡ accepted scanned
  scans : scan n buf ≡ accepted scanned
  taken : scanned.taken ≡ len
  within : len ≤ length buf

read : (room n : ℕ) (buf : List ℕ) (len : ℕ) → answered (λ s. s.taken) (decode_stream room n buf) ≡ accepted len → Read room n buf len
read room n buf len e =
    let got = was_accepted (λ s. s.taken) (decode_stream room n buf) e in
    let scans = (decode_accepted room n buf got.1).0 in
    let known = scan_accepted 0 _ _ _ scans in
    record { scanned = got.0; is = got.1; scans = scans; taken = got.2; within = omega (arith, known.within, got.2) }

pub returns-in_err-taken-clause-answer : goal.returns-in_err-taken-clause-answer
returns-in_err-taken-clause-answer c =
    let decoded = decode_stream (length c.args.out.now) c.args.n c.args.buf.now in
    let p = err_from_is_err_and c.from_residual.result c.from_residual.ensures.1 in
    let stop = was_refused (λ s. s.taken) decoded (sym c.in_err-taken.ensures.answer) in
    rw (p.1, p.2) (sym (answered_no (stream_told c.args.n c.args.buf.now) decoded stop))

pub count_padded-requires : goal.count_padded-requires
count_padded-requires c =
    (read (length c.args.out.now) c.args.n c.args.buf.now c.in_ok-taken.taken (sym c.in_ok-taken.ensures.answer)).within

pub returns-clause-answer : goal.returns-clause-answer
returns-clause-answer c =
    let room = length c.args.out.now in
    let n = c.args.n in
    let buf = c.args.buf.now in
    let len = c.in_ok-taken.taken in
    let r = read room n buf len (sym c.in_ok-taken.ensures.answer) in
    ap (λ (m : ℕ). accepted (record { taken = len; padded = m })) (c.count_padded.ensures r.scanned r.scans r.taken)
    ∙ ap (λ (t : ℕ). accepted (record { taken = t; padded = padded_in n buf })) (sym r.taken)
    ∙ sym (answered_yes (stream_told n buf) (decode_stream room n buf) r.is)
