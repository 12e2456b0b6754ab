-- `total_good` meets its contract: creates has four bytes, so that what it can't tell it isn't.
use Rattle.std.proofs.Common.{Bool, true, false, cond, ◌≡◌, refl, ℕ, ◌^◌, ◌<◌, arith, leb, eqb, eq-eqb, ne_eqb, leb-false}
use Rattle.book_limits.specs.Limits.{most_counted, total_told}
use Rattle.book_keys.specs.Keys.{total_good}
use Rattle.book_keys.proofs.chain.total_good.Goals as goal

-- creates that isn't 0 is the total told where it is the length
told_same : (creates n : ℕ) → creates < 2 ^ 32 → (creates ≡ 0 → ⊥) → eqb creates n ≡ eqb creates (total_told n)
told_same creates n low some' = go (leb n most_counted) refl
  where
    go : (t : Bool) → leb n most_counted ≡ t → eqb creates n ≡ eqb creates (cond t n 0)
    go true e = refl
    go false e =
        let past = leb-false n most_counted e in
        rw (ne_eqb creates n (λ (z : creates ≡ n). omega arith), ne_eqb creates 0 some') refl

pub returns-then-creates-eq0 : goal.returns-then-creates-eq0
unfolding total_good
returns-then-creates-eq0 c = rw (eq-eqb c.args.creates 0 c.if-creates-eq0.true)

pub returns-else-creates-eq0 : goal.returns-else-creates-eq0
unfolding total_good
returns-else-creates-eq0 c =
    let a = c.args in
    rw (c.from.ensures, ne_eqb a.creates 0 c.if-creates-eq0.false) (told_same a.creates a.length (omega arith) c.if-creates-eq0.false)
