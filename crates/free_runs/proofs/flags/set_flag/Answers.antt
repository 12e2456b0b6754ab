use Rattle.std.proofs.Common.{◌≡◌, ℕ, ◌*◌, ◌/◌, ◌%◌, ◌^◌, ◌<◌, get_or, set, ap, mod-eq_of_lt, arith}
use lib.Bits.{bit_or}
use lib.Pow.{pow-lt}
use Rattle.free_runs.specs.Steps.{set_flag}
use Rattle.free_runs.proofs.flags.set_flag.Goals as goal

-- A bit of a word fits.
bit_fits : (b : ℕ) → b < 64 → 1 * 2 ^ b % 18446744073709551616 ≡ 2 ^ b
bit_fits b h =
    let l : 2 ^ b < 2 ^ 64 = pow-lt h in
    let z : 1 * 2 ^ b ≡ 2 ^ b = omega arith in
    rw z (mod-eq_of_lt l)

pub returns : goal.returns
unfolding set_flag
returns c =
    let a = c.args in
    ap (λ (b : ℕ). set a.words.now (a.i / 64) (bit_or (get_or a.words.now (a.i / 64) 0) b)) (bit_fits (a.i % 64) (omega arith))
