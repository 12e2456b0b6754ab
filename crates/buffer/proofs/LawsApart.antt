-- Writes into a buffer that lie apart. Assumes nothing.
use Prim.Native.Nat.{ℕ, ◌+◌, ◌≤◌}
use mathlib.Core.List.{List, ◌++◌, append_assoc}
use mathlib.Core.Path.{◌≡◌, sym, ap, ◌∙◌}
use native.Mathlib.Nat.{add-zero}
use native.Mathlib.Omega.{arith}
use lib.ListN.{length, take, drop, take-append-drop}
use lib.Seq.{take-append-le, drop-append-le, take-append-add, drop-append-add, length-take-le}
use Rattle.buffer.specs.Bytes.{overwrite}
use Rattle.buffer.proofs.LawsBytes.{length_overwrite}

-- a write into the first of two parts
pub overwrite_left : (xs rest : List ℕ) (o : ℕ) (ys : List ℕ) → o + length ys ≤ length xs
    → overwrite (xs ++ rest) o ys ≡ overwrite xs o ys ++ rest
unfolding overwrite
overwrite_left xs rest o ys h =
    rw (take-append-le o xs rest (omega arith), drop-append-le (o + length ys) xs rest h, append_assoc, append_assoc)

-- a write into the second
pub overwrite_right : (xs rest : List ℕ) (i : ℕ) (ys : List ℕ) → overwrite (xs ++ rest) (length xs + i) ys ≡ xs ++ overwrite rest i ys
unfolding overwrite
overwrite_right xs rest i ys =
    let place : length xs + i + length ys ≡ length xs + (i + length ys) = omega arith in
    rw (place, take-append-add xs rest i, drop-append-add xs rest (i + length ys), append_assoc)

at_seam : (xs rest : List ℕ) (o : ℕ) (ys zs : List ℕ) → o + length ys ≤ length xs
    → overwrite (overwrite (xs ++ rest) o ys) (length xs) zs ≡ overwrite (overwrite (xs ++ rest) (length xs) zs) o ys
at_seam xs rest o ys zs h =
    let kept : length (overwrite xs o ys) + 0 ≡ length xs = omega (arith, length_overwrite xs o ys h) in
    ap (λ (b : List ℕ). overwrite b (length xs) zs) (overwrite_left xs rest o ys h)
    ∙ ap (λ (p : ℕ). overwrite (overwrite xs o ys ++ rest) p zs) (sym kept) ∙ overwrite_right (overwrite xs o ys) rest 0 zs
    ∙ sym (overwrite_left xs (overwrite rest 0 zs) o ys h)
    ∙ ap (λ (b : List ℕ). overwrite b o ys) (sym (overwrite_right xs rest 0 zs)
    ∙ ap (λ (p : ℕ). overwrite (xs ++ rest) p zs) (add-zero (length xs)))

-- two writes that lie apart may come in either order
pub overwrite_apart : (b : List ℕ) (o : ℕ) (ys : List ℕ) (p : ℕ) (zs : List ℕ) → o + length ys ≤ p → p ≤ length b
    → overwrite (overwrite b o ys) p zs ≡ overwrite (overwrite b p zs) o ys
overwrite_apart b o ys p zs h k =
    let long = length-take-le p b k in
    rw (take-append-drop p b, long) at (at_seam (take p b) (drop p b) o ys zs (omega arith))
