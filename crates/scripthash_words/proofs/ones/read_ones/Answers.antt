use Rattle.std.proofs.Common.{◌≡◌, ◌+◌, ◌-◌, ◌<◌, ◌^◌, ℕ, map, length, take, drop, ◌∙◌, arith, length-take}
use Rattle.std.proofs.lemmas.List.{map-id}
use Rattle.buffer.specs.Bytes.{overwrite}
use Rattle.scripthash_stream.specs.Stream.{last_from}
use Rattle.scripthash_words.specs.Words.{OnesAt, running_from, sum_of}
use Rattle.scripthash_words.proofs.LawsOnes.{ones_part, ones_sum, ones_read}
use Rattle.scripthash_words.proofs.LawsFilling.{last_sum}
use Rattle.scripthash_words.proofs.ones.read_ones.Goals as goal

pub sum_up-requires-clause-low : goal.sum_up-requires-clause-low
sum_up-requires-clause-low c =
    let a = c.args in
    let bytes = take (a.first.len + length a.out.now - a.first.len) (drop a.first.len a.buf.now) in
    let most = ones_sum bytes (c.all_ones.ensures c.if-not-all_ones.false) in
    let low : a.first.fk + sum_of (map (λ (b : ℕ). b) bytes) < 2 ^ 64 =
    rw (map-id bytes) (omega (arith, most, length-take (a.first.len + length a.out.now - a.first.len) (drop a.first.len a.buf.now))) in
    low

pub returns : goal.returns
returns c =
    let a = c.args in
    let n = length a.out.now in
    let part = take (a.first.len + n - a.first.len) (drop a.first.len a.buf.now) in
    let whole : a.first.len + n - a.first.len ≡ n = omega arith in
    let bytes = take n (drop a.first.len a.buf.now) in
    let is : map (λ (b : ℕ). b) part ≡ bytes = map-id part ∙ (rw whole) in
    let here : OnesAt bytes 0 (length bytes) = rw whole at (c.all_ones.ensures c.if-not-all_ones.false) in
    let most = ones_sum bytes here in
    let last : c.sum_up.result ≡ last_from a.first.fk (running_from a.first.fk bytes) = rw is at c.sum_up.ensures.last in
    let written : c.sum_up.new.out ≡ overwrite a.out.now 0 (running_from a.first.fk bytes) = rw is at c.sum_up.ensures.written in
    let kept : length c.sum_up.new.out ≡ n = omega arith in
    rw kept (ones_read a.buf.now a.first.len a.first.fk n c.sum_up.result a.out.now c.sum_up.new.out (omega arith) (omega arith)
    (ones_part a.buf.now a.first.len n (omega arith) here) (omega arith)
    (omega (arith, last, last_sum a.first.fk bytes, most, length-take n (drop a.first.len a.buf.now))) last written)
