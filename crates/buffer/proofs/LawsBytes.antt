-- Writes into a buffer, element by element. Assumes nothing.
use Prim.Native.Nat.{ℕ, suc, ◌+◌, ◌-◌, ◌≤◌, ◌<◌}
use mathlib.Core.List.{List, [], ◌∷◌, ◌++◌, append_assoc}
use mathlib.Core.Path.{◌≡◌, sym, ap, ◌∙◌}
use native.Mathlib.Nat.{add-zero, le_of_eq}
use native.Mathlib.Numerals.{add-one}
use native.Mathlib.Omega.{arith}
use lib.ListN.{length, take, drop, set, length-append, length-take, length-drop, take-append-drop}
use lib.Seq.{take-suc-set, drop-set-lt, take_all, take-take, take-add, drop-append-le, drop-drop}
use Rattle.buffer.specs.Bytes.{overwrite}

-- writing nothing changes nothing
pub overwrite_nil : {A : Type 0} (b : List A) (o : ℕ) → overwrite b o [] ≡ b
unfolding overwrite
overwrite_nil b o = rw (add-zero, take-append-drop)

-- a write is the write of its first element, and then of the others behind it
pub overwrite_step : {A : Type 0} (b : List A) (o : ℕ) (x : A) (xs : List A) → o < length b
    → overwrite b o (x ∷ xs) ≡ overwrite (set b o x) (o + 1) xs
unfolding overwrite
overwrite_step b o x xs h =
    let place : o + 1 + length xs ≡ o + suc (length xs) = omega arith in
    let after : drop (o + 1 + length xs) (set b o x) ≡ drop (o + suc (length xs)) b =
    drop-set-lt (o + 1 + length xs) b o x (omega arith) ∙ ap (λ (k : ℕ). drop k b) place in
    rw (after, add-one, take-suc-set b o x h, append_assoc)

-- the write of one element
pub overwrite_one : (b : List ℕ) (o x : ℕ) → o < length b → overwrite b o (x ∷ []) ≡ set b o x
overwrite_one b o x h = overwrite_step b o x [] h ∙ overwrite_nil (set b o x) (o + 1)

-- a write that fits keeps the buffer's length
pub length_overwrite : {A : Type 0} (b : List A) (o : ℕ) (ys : List A) → o + length ys ≤ length b → length (overwrite b o ys) ≡ length b
unfolding overwrite
length_overwrite b o ys h = simp (length-append, length-take, length-drop) (omega arith)

-- the part of a buffer from an offset to its end
pub part_to_end : (b : List ℕ) (o : ℕ) → take (length b - o) (drop o b) ≡ drop o b
part_to_end b o = take_all (length b - o) (drop o b) (le_of_eq (length-drop o b))

-- a write into a lent part of k elements from offset o on is a write into the whole
pub overwrite_part : (b : List ℕ) (o k i : ℕ) (ys : List ℕ) → o + k ≤ length b → i + length ys ≤ k
    → take o b ++ (overwrite (take k (drop o b)) i ys ++ drop k (drop o b)) ≡ overwrite b (o + i) ys
unfolding overwrite
overwrite_part b o k i ys h l =
    let d = drop o b in
    let long : k ≤ length d = simp length-drop (omega arith) in
    let front : take i (take k d) ≡ take i d = take-take i k d (omega arith) in
    let inside : i + length ys ≤ length (take k d) = simp length-take (omega arith) in
    let back : drop (i + length ys) (take k d) ++ drop k d ≡ drop (i + length ys) d =
    sym (drop-append-le (i + length ys) (take k d) (drop k d) inside) ∙ ap (drop (i + length ys)) (take-append-drop k d) in
    let place : o + (i + length ys) ≡ o + i + length ys = omega arith in
    rw (front, append_assoc, append_assoc, back, take-add o i b, append_assoc, ← place, ← (drop-drop (i + length ys) o b))

-- a lent part of k elements from offset o on that holds ys when it is given back is a write into the whole
pub overwrite_lent : {A : Type 0} (b : List A) (o k : ℕ) (ys : List A) → length ys ≡ k
    → take o b ++ (ys ++ drop k (drop o b)) ≡ overwrite b o ys
unfolding overwrite
overwrite_lent b o k ys e = rw (drop-drop k o b, e)
