use Rattle.std.proofs.Common.{◌≡◌, ◌+◌, ◌-◌, ◌≤◌, ◌++◌, ℕ, List, length, take, drop, set, ◌∙◌, arith, length-append, length-take, length-drop, length-set}
use Rattle.scripthash_stream.proofs.LawsScan.{scan_accepted}
use Rattle.scripthash_words.specs.Words.{words_at, values_in, running_from}
use Rattle.scripthash_words.proofs.LawsFilling.{filled_part, fill_list, fill_behind, length_sums, length_values}
use Rattle.scripthash_words.proofs.fill.fill_by_words.Goals as goal

-- a list keeps its length where a lent part of it does
length_kept : (out part : List ℕ) (n : ℕ) → 1 + n ≤ length out → length part ≡ length (take n (drop 1 out))
    → length (take 1 out ++ (part ++ drop n (drop 1 out))) ≡ length out
length_kept out part n h e =
    omega (arith, length-append {A = ℕ}, length-take {A = ℕ}, length-drop {A = ℕ}, e)

pub returns-then-ones_early : goal.returns-then-ones_early
returns-then-ones_early c =
    let a = c.args in
    let first = c.in-Some.first in
    let known = c.in-Some.ensures in
    let out = set a.out.now 0 first.fk in
    let some = first.some in
    let long : 1 + (a.n - 1) ≤ length out = simp length-set (omega arith) in
    let size : length (take (a.n - 1) (drop 1 out)) ≡ a.n - 1 = omega (arith, length-take {A = ℕ}, length-drop {A = ℕ}) in (
      length_kept out c.fill_ones.new.out (a.n - 1) long c.fill_ones.ensures.0 ∙ length-set a.out.now 0 first.fk,
      λ e s h.
          fill_behind a.n first.fk first.len a.buf.now a.out.now _ s (omega arith) (omega arith) h (known.next some)
          (λ t k.
          filled_part out c.fill_ones.new.out t.numbers 1 (a.n - 1) long
          (omega (arith, (scan_accepted first.fk (a.n - 1) (drop first.len a.buf.now) t k).counted))
          (c.fill_ones.ensures.1 e t (rw size k))),
    )

pub returns-then-words_pay : goal.returns-then-words_pay
returns-then-words_pay c =
    let a = c.args in
    let first = c.in-Some.first in
    let known = c.in-Some.ensures in
    let out = set a.out.now 0 first.fk in
    let some = first.some in
    let long : 1 + (a.n - 1) ≤ length out = simp length-set (omega arith) in
    let size : length (take (a.n - 1) (drop 1 out)) ≡ a.n - 1 = omega (arith, length-take {A = ℕ}, length-drop {A = ℕ}) in
    let words = take (a.n - 1) (words_at a.buf.now first.len) in
    let few : length (running_from first.fk (values_in words)) ≤ a.n - 1 =
    omega (arith, length_sums first.fk (values_in words), length_values words, length-take {A = ℕ}) in (
      length_kept out c.fill_rest.new.out (a.n - 1) long c.fill_rest.ensures.0 ∙ length-set a.out.now 0 first.fk,
      λ e s h.
          (let filled = rw size at (c.fill_rest.ensures.1 e) in
          fill_list a.n first.fk first.len a.buf.now a.out.now _ s (λ i p. omega (arith, c.type_inv.buf i)) (omega arith)
          (omega arith) h (known.next some) (known.ends some)
          (filled.0, filled_part out c.fill_rest.new.out (running_from first.fk (values_in words)) 1 (a.n - 1) long few filled.1)),
    )
