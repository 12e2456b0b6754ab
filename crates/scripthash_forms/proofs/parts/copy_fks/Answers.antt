use Rattle.std.proofs.Common.{◌≡◌, ◌+◌, ◌-◌, ℕ, List, ◌++◌, take, drop, ap, ◌∙◌, arith, length-take}
use Rattle.buffer.proofs.LawsBytes.{overwrite_lent}
use Rattle.scripthash_forms.proofs.parts.copy_fks.Goals as goal

pub returns : goal.returns
returns c =
    let a = c.args in
    let whole : a.at + a.n - a.at ≡ a.n = omega arith in
    ap (λ (k : ℕ). take a.at a.out.now ++ (c.copy_from_slice.new.self ++ drop k (drop a.at a.out.now))) whole
    ∙ ap (λ (l : List ℕ). take a.at a.out.now ++ (l ++ drop a.n (drop a.at a.out.now))) c.copy_from_slice.ensures.after
    ∙ overwrite_lent a.out.now a.at a.n (take a.n a.from.now) (omega (arith, length-take {A = ℕ}))
