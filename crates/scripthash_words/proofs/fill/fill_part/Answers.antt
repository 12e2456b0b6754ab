use Rattle.std.proofs.Common.{◌≡◌, ◌+◌, ◌-◌, ◌<◌, ◌^◌, ◌++◌, ℕ, map, length, take, drop, ap, ◌∙◌, arith, length-append, length-take, length-drop}
use Rattle.std.proofs.lemmas.List.{map-id}
use Rattle.buffer.specs.Bytes.{overwrite}
use Rattle.buffer.proofs.LawsBytes.{length_overwrite}
use Rattle.scripthash_stream.specs.Stream.{last_from}
use Rattle.scripthash_words.specs.Words.{running_from, sum_of}
use Rattle.scripthash_words.proofs.LawsValues.{values_sum}
use Rattle.scripthash_words.proofs.LawsFilling.{filled_part, filling_part, last_sum, length_sums}
use Rattle.scripthash_words.proofs.fill.fill_part.Goals as goal

pub sum_up-last-requires-clause-low : goal.sum_up-last-requires-clause-low
sum_up-last-requires-clause-low c =
    let a = c.args in
    let ws = take c.min-m.result c.find_starts-got.new.words in
    let vs = c.take_values.new.words in
    let values = (c.take_values.ensures.1 c.if-take_values-ne0.false).1 in
    let low : a.prev + sum_of (map (λ (v : ℕ). v) vs) < 2 ^ 64 =
    rw (map-id vs, values) (omega (arith, values_sum ws, length-take c.min-m.result c.find_starts-got.new.words)) in
    low

pub returns : goal.returns
returns c =
    let a = c.args in
    let got = c.find_starts-got in
    let m = c.min-m.result in
    let ws = got.new.words in
    let vs = c.take_values.new.words in
    let vals = c.take_values.ensures.1 c.if-take_values-ne0.false in
    let ys = running_from a.prev vs in
    let sized = c.take_values.ensures.0 ∙ length-take m ws in
    let last : c.sum_up-last.result ≡ last_from a.prev ys = rw (map-id vs) at c.sum_up-last.ensures.last in
    let written : take a.at a.out.now ++ (c.sum_up-last.new.out ++ drop (a.at + m - a.at) (drop a.at a.out.now)) ≡ overwrite a.out.now a.at ys =
    filled_part a.out.now c.sum_up-last.new.out ys a.at (a.at + m - a.at) (omega arith) (omega (arith, length_sums a.prev vs, sized))
    (rw (map-id vs) at c.sum_up-last.ensures.written) in
    let most = values_sum (take m ws) in (
      omega (arith, length-append vs (drop m ws), length-drop m ws, sized),
      ap length written ∙ length_overwrite a.out.now a.at ys (omega (arith, length_sums a.prev vs, sized)),
      (
        omega arith,
        omega arith,
        got.ensures.0,
        got.ensures.1,
        omega (arith, last, last_sum a.prev vs, rw (← vals.1) at most, length-take m ws),
        filling_part a.buf.now a.from got.result.at got.result.count m (length a.out.now - a.at) a.prev c.sum_up-last.result a.at ws vs
            a.out.now _ got.ensures.4 (omega (arith, got.ensures.2, got.ensures.3)) (omega arith) (omega arith) (λ k. omega arith)
            (omega arith) (vals.0, vals.1) written last,
      ),
    )
