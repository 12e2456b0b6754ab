use Rattle.std.proofs.Common.{◌≡◌, ◌+◌, ◌-◌, ℕ, List, ◌++◌, take, drop, ap, ◌∙◌, arith}
use Rattle.buffer.specs.LittleEndian.{bytes_of}
use Rattle.buffer.proofs.LawsLittleEndian.{length_bytes_of}
use Rattle.buffer.proofs.LawsBytes.{overwrite_lent}
use Rattle.buffer.proofs.LawsEight.{take_bytes_of, bytes_of_eight}
use Rattle.buffer.proofs.fields.put_number.Goals as goal

pub returns : goal.returns
returns g c =
    let n = g.row.N in
    let b = c.args.b.now in
    let at = c.args.at in
    let written : c.copy_from_slice.new.self ≡ bytes_of n c.args.n =
    c.copy_from_slice.ensures.after ∙ ap (take n) (c.to_le_bytes.ensures ∙ bytes_of_eight c.args.n) ∙ take_bytes_of n 8 c.args.n (omega arith) in
    let whole : at + n - at ≡ n = omega arith in
    ap (λ (k : ℕ). take at b ++ (c.copy_from_slice.new.self ++ drop k (drop at b))) whole
    ∙ ap (λ (l : List ℕ). take at b ++ (l ++ drop n (drop at b))) written
    ∙ overwrite_lent b at n (bytes_of n c.args.n) (length_bytes_of n c.args.n)
