use Rattle.std.proofs.Common.{◌≡◌, ◌+◌, ◌<◌, ◌^◌, ℕ, map, length, take, arith, length-take}
use Rattle.std.proofs.lemmas.List.{map-id}
use Rattle.buffer.specs.Bytes.{overwrite}
use Rattle.scripthash_stream.specs.Stream.{last_from}
use Rattle.scripthash_words.specs.Words.{running_from, sum_of}
use Rattle.scripthash_words.proofs.LawsValues.{values_sum}
use Rattle.scripthash_words.proofs.LawsFilling.{last_sum, rest_read_lem}
use Rattle.scripthash_words.proofs.read.read_rest.Goals as goal

pub sum_up-requires-clause-low : goal.sum_up-requires-clause-low
sum_up-requires-clause-low c =
    let a = c.args in
    let ws = c.find_starts-got.new.words in
    let vs = c.take_values.new.words in
    let values = (c.take_values.ensures.1 c.if-take_values-ne0.false).1 in
    let low : a.first.fk + sum_of (map (λ (v : ℕ). v) vs) < 2 ^ 64 =
    rw (map-id vs, values) (omega (arith, values_sum (take (length a.out.now) ws), length-take (length a.out.now) ws)) in
    low

pub returns : goal.returns
returns c =
    let a = c.args in
    let n = length a.out.now in
    let got = c.find_starts-got in
    let ws = got.new.words in
    let vs = c.take_values.new.words in
    let vals = c.take_values.ensures.1 c.if-take_values-ne0.false in
    let last : c.sum_up.result ≡ last_from a.first.fk (running_from a.first.fk vs) = rw (map-id vs) at c.sum_up.ensures.last in
    let written : c.sum_up.new.out ≡ overwrite a.out.now 0 (running_from a.first.fk vs) = rw (map-id vs) at c.sum_up.ensures.written in
    let most = rw (← vals.1) at (values_sum (take n ws)) in
    rest_read_lem a.buf.now a.first.len a.first.fk n got.result.at got.result.count c.in-Some.end c.sum_up.result ws vs a.out.now
    c.sum_up.new.out (λ i h. omega (arith, c.type_inv.buf i)) (omega arith) (omega arith) got.ensures.4
    (omega (arith, got.ensures.2, got.ensures.3)) (omega arith) (omega arith) (λ h. c.in-Some.ensures) got.ensures.1 vals (omega arith)
    (omega (arith, last, last_sum a.first.fk vs, most, length-take n ws)) last written
