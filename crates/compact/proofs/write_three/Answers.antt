-- `write_three` meets its contract: its forms have three bytes.
use Prim.Native.Nat.{ℕ, ◌/◌, ◌≤◌, ◌<◌}
use mathlib.Core.Path.{◌≡◌}
use native.Mathlib.Omega.{arith}
use lib.ListN.{length}
use Rattle.compact.specs.Uleb128.{uleb_len}
use Rattle.compact.proofs.LawsLength.{len_large, len_two}
use Rattle.compact.proofs.LawsWrite.{refuses, starts, goes, written}
use Rattle.compact.proofs.write_three.Goals as goal

-- its forms have three bytes
three : (n : ℕ) → 16384 ≤ n → n < 2097152 → uleb_len n ≡ 3
three n h k = rw (len_large n (omega arith), len_two (n / 128) (omega arith) (omega arith))

pub returns-then-dst-lt3 : goal.returns-then-dst-lt3
returns-then-dst-lt3 c =
    let no = refuses c.args.dst.now c.args.n (omega (arith, three c.args.n c.requires.0 c.requires.1)) in
    record { answer = no.0; bytes = no.1 }

pub returns : goal.returns
returns c =
    let n = c.args.n in
    let fits : uleb_len n ≤ length c.args.dst.now = omega (arith, three n c.requires.0 c.requires.1) in
    let top : n / 16384 ≡ n / 128 / 128 = omega arith in
    let two = goes (goes (starts c.args.dst.now n fits) (omega (arith, c.requires.0))) (omega (arith, c.requires.0)) in
    let yes = written two (omega (arith, c.requires.1)) in
    rw top (record { answer = yes.0; bytes = yes.1 })
