-- `read_form` meets its contract: each way on from an index is one law of `LawsReadFrom`.
use Prim.Native.Nat.{ℕ, ◌+◌, ◌-◌, ◌*◌, ◌^◌, ◌%◌, ◌≤◌, ◌<◌}
use mathlib.Core.Bool.{true, false}
use mathlib.Core.Path.{◌≡◌, sym, ◌∙◌, ap}
use mathlib.Core.List.{List, []}
use native.Mathlib.Omega.{arith}
use borrow.Author.Rules.{rules}
use borrow.Author.Tests.{lt-ltb}
use lib.ListN.{length, drop, get_or, drop_of_length-le}
use Rattle.error.specs.Refusal.{accepted, refused, answered, uleb_cut_short, uleb_overflow}
use Rattle.error.proofs.LawsAnswer.{answered_yes, answered_no}
use Rattle.compact.specs.Uleb128.{piece, passes, read_uleb, number_read}
use Rattle.compact.proofs.LawsReadFrom.{read_from, from_start, from_nil, at_over, at_last, at_more, Room, room}
use Rattle.compact.proofs.LawsPadded.{read_last}
use Rattle.compact.proofs.read_form.Goals as goal

-- bytes that end where a byte is wanted
ended : (buf : List ℕ) (i acc : ℕ) → read_from i acc (drop i buf) ≡ read_uleb buf → length buf ≤ i → i ≤ 10
    → refused uleb_cut_short ≡ answered number_read (read_uleb buf)
ended buf i acc e h k =
    let end : drop i buf ≡ [] = drop_of_length-le buf {i = i} h in
    sym (answered_no number_read (read_uleb buf) (sym (rw end at e) ∙ from_nil i acc k))

-- a byte that passes 64 bits
over : (buf : List ℕ) (i acc : ℕ) → read_from i acc (drop i buf) ≡ read_uleb buf → i < length buf → passes i (get_or buf i 0) ≡ true
    → refused uleb_overflow ≡ answered number_read (read_uleb buf)
over buf i acc e h p = sym (answered_no number_read (read_uleb buf) (sym e ∙ at_over buf i acc h p))

-- what the code adds for a byte that doesn't pass 64 bits is the byte's piece at its place
added : (i acc b p : ℕ) → p ≡ piece b → Room i acc b → acc + p * 2 ^ (7 * i) % 18446744073709551616 ≡ acc + piece b * 2 ^ (7 * i)
added i acc b p e r = ap (λ (q : ℕ). acc + q * 2 ^ (7 * i) % 2 ^ 64) e ∙ ap (λ (q : ℕ). acc + q) r.placed

pub loop-i-init : goal.loop-i-init
loop-i-init c = record { within = search rules; small = search rules; resumed = from_start c.args.buf.now }

pub returns-then-buf-i : goal.returns-then-buf-i
returns-then-buf-i c = ended c.args.buf.now c.loop-i.i c.loop-i.value c.loop-i.invariant.resumed (omega arith) (omega arith)

pub returns-then-passes_64_bits : goal.returns-then-passes_64_bits
returns-then-passes_64_bits c =
    over c.args.buf.now c.loop-i.i c.loop-i.value c.loop-i.invariant.resumed (omega arith) (sym c.passes_64_bits.ensures ∙ c.if-passes_64_bits.true)

pub overflow_add-value : goal.overflow_add-value
overflow_add-value c =
    let next = get_or c.args.buf.now c.loop-i.i 0 in
    let stays : passes c.loop-i.i next ≡ false = sym c.passes_64_bits.ensures ∙ c.if-passes_64_bits.false in
    let fits = room c.loop-i.i c.loop-i.value next stays c.loop-i.invariant.small in
    rw (added c.loop-i.i c.loop-i.value next c.piece_of.result c.piece_of.ensures fits) (omega (arith, fits.added))

pub returns-then-b-lt128 : goal.returns-then-b-lt128
returns-then-b-lt128 c =
    let next = get_or c.args.buf.now c.loop-i.i 0 in
    let stays : passes c.loop-i.i next ≡ false = sym c.passes_64_bits.ensures ∙ c.if-passes_64_bits.false in
    let fits = room c.loop-i.i c.loop-i.value next stays c.loop-i.invariant.small in
    let yes : read_uleb c.args.buf.now ≡ accepted (record { value = c.loop-i.value + piece next * 2 ^ (7 * c.loop-i.i); len = c.loop-i.i + 1 }) =
    sym c.loop-i.invariant.resumed ∙ at_last c.args.buf.now c.loop-i.i c.loop-i.value (omega arith) stays (omega arith) in
    let here : c.loop-i.i + 1 - 1 ≡ c.loop-i.i = omega arith in
    let end = rw here at (read_last c.args.buf.now _ yes) in
    rw (added c.loop-i.i c.loop-i.value next c.piece_of.result c.piece_of.ensures fits, c.ends_shortest.ensures, ← end)
    (sym (answered_yes number_read (read_uleb c.args.buf.now) yes))

pub loop-i-preserved : goal.loop-i-preserved
loop-i-preserved c =
    let next = get_or c.args.buf.now c.loop-i.i 0 in
    let stays : passes c.loop-i.i next ≡ false = sym c.passes_64_bits.ensures ∙ c.if-passes_64_bits.false in
    let fits = room c.loop-i.i c.loop-i.value next stays c.loop-i.invariant.small in
    rw (added c.loop-i.i c.loop-i.value next c.piece_of.result c.piece_of.ensures fits)
    (record {
      within = omega arith;
      small = fits.next;
      resumed = sym (at_more c.args.buf.now c.loop-i.i c.loop-i.value (omega arith) stays (omega arith)) ∙ c.loop-i.invariant.resumed;
    })

pub returns-then-buf-eq10 : goal.returns-then-buf-eq10
returns-then-buf-eq10 c = ended c.args.buf.now c.loop-i.i c.loop-i.value c.loop-i.invariant.resumed (omega arith) (omega arith)

pub returns : goal.returns
returns c =
    over c.args.buf.now c.loop-i.i c.loop-i.value c.loop-i.invariant.resumed (omega arith)
    (rw (lt-ltb 9 c.loop-i.i (omega arith)))
