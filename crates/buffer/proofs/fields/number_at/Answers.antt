use Rattle.std.proofs.Common.{◌≡◌, ◌+◌, ◌-◌, ℕ, [], ◌∷◌, ◌++◌, length, take, drop, ap, ◌∙◌, arith, length-append, length-take, length-drop}
use Rattle.buffer.specs.Bytes.{part}
use Rattle.buffer.specs.LittleEndian.{little_endian}
use Rattle.buffer.proofs.LawsLittleEndian.{little_endian_below, part_bytes}
use Rattle.buffer.proofs.LawsOverwrite.{length_part}
use Rattle.buffer.proofs.LawsEight.{little_endian_eight, little_endian_padded}
use Rattle.buffer.proofs.fields.number_at.Given
use Rattle.buffer.proofs.fields.number_at.Goals as goal

-- The bytes that are read, and the number that they hold.
value : (g : Given.Over) (c : goal.After-from_le_bytes g) → c.from_le_bytes.result ≡ little_endian (part c.args.b.now c.args.at g.row.N)
unfolding part
value g c =
    let n = g.row.N in
    let read = c.copy_from_slice.new.self in
    let whole : c.args.at + n - c.args.at ≡ n = omega arith in
    let eight : length (read ++ drop n (0 ∷ 0 ∷ 0 ∷ 0 ∷ 0 ∷ 0 ∷ 0 ∷ 0 ∷ [])) ≡ 8 =
    omega (arith, length-append {A = ℕ}, length-drop {A = ℕ}, length-take {A = ℕ}) in
    c.from_le_bytes.ensures ∙ little_endian_eight _ eight ∙ little_endian_padded read 8 n ∙ ap little_endian c.copy_from_slice.ensures.after
    ∙ ap (λ (k : ℕ). little_endian (take k (drop c.args.at c.args.b.now))) whole

pub returns-clause-value : goal.returns-clause-value
returns-clause-value g c = value g c

pub returns-clause-below : goal.returns-clause-below
returns-clause-below g c =
    let bytes = part_bytes c.args.b.now c.args.at g.row.N (λ i _. omega (arith, c.type_inv.b i)) in
    rw (value g c) (rw (length_part c.args.b.now c.args.at g.row.N (omega arith)) at (little_endian_below (part c.args.b.now c.args.at g.row.N) bytes))
