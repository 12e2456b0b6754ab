-- Laws of parts of a buffer and of writes into it: the part written is what was written, a part apart from it stays,
-- and two writes that adjoin are one. Each follows from the laws of take and drop on appended lists.
use mathlib.Core.Path.{◌≡◌, refl, ap, sym, ◌∙◌}
use mathlib.Core.List.{List, [], ◌∷◌, ◌++◌, append_assoc}
use Prim.Native.Nat.{ℕ, zero, suc, ◌+◌, ◌-◌, ◌<◌, ◌≤◌}
use native.Mathlib.Nat.{add-zero, add_assoc}
use native.Mathlib.Numerals.{add-one}
use native.Mathlib.Omega.{arith}
use lib.ListN.{length, get_or, take, drop, set, length-append, length-take, length-drop, take-append-drop}
use lib.Seq.{length-take-le, take-length, take-append-le, drop-append-le, drop-append-add, take_at, drop-cons, drop-drop}
use Rattle.buffer.specs.Bytes.{part, overwrite}
use Rattle.buffer.proofs.LawsBytes.{overwrite_one, length_overwrite}

-- A part that lies in the buffer is as long as asked.
pub length_part : (b : List ℕ) (o n : ℕ) → o + n ≤ length b → length (part b o n) ≡ n
unfolding part
length_part b o n h = simp (length-take, length-drop) (omega arith)

-- The whole buffer is a part of itself.
pub part_whole : (b : List ℕ) → part b 0 (length b) ≡ b
unfolding part
part_whole b = take-length b

-- A part of no elements is empty.
pub part_none : (b : List ℕ) (o : ℕ) → part b o 0 ≡ []
unfolding part
part_none b o = refl

-- A part is its first element and the part after it.
pub part_step : (b : List ℕ) (o n : ℕ) → o < length b → part b o (n + 1) ≡ get_or b o 0 ∷ part b (o + 1) n
unfolding part
part_step b o n h = rw (add-one n, drop-cons b o 0 h, add-one o)

-- The k elements of a buffer from offset o on, read one by one.
abbrev pub listed : ℕ → List ℕ → ℕ → List ℕ
listed zero b o = []
listed (suc k) b o = get_or b o 0 ∷ listed k b (o + 1)

-- A part that lies in the buffer is its elements, read one by one.
pub part_listed : (k : ℕ) (b : List ℕ) (o : ℕ) → o + k ≤ length b → part b o k ≡ listed k b o
part_listed zero b o h = part_none b o
part_listed (suc k) b o h =
    ap (λ (n : ℕ). part b o n) (sym (add-one k)) ∙ part_step b o k (omega arith)
    ∙ ap (λ (l : List ℕ). get_or b o 0 ∷ l) (part_listed k b (o + 1) (omega arith))

-- A buffer of length k is its elements, read one by one.
pub whole_listed : (k : ℕ) (b : List ℕ) → length b ≡ k → b ≡ listed k b 0
whole_listed k b e =
    sym (part_whole b) ∙ ap (λ (n : ℕ). part b 0 n) e ∙ part_listed k b 0 (omega arith)

-- A part of what follows offset o.
part_drop : (b : List ℕ) (o i n : ℕ) → part (drop o b) i n ≡ part b (o + i) n
unfolding part
part_drop b o i n = ap (λ (l : List ℕ). take n l) (drop-drop i o b)

-- A part of two lists appended that lies in the first.
pub part_left : (xs ys : List ℕ) (i n : ℕ) → i + n ≤ length xs → part (xs ++ ys) i n ≡ part xs i n
unfolding part
part_left xs ys i n h =
    let room : n ≤ length (drop i xs) = simp length-drop (omega arith) in
    rw (drop-append-le i xs ys (omega arith), take-append-le n (drop i xs) ys room)

-- A part of two lists appended that lies in the second, the first being o long.
pub part_right : (xs ys : List ℕ) (o i n : ℕ) → length xs ≡ o → part (xs ++ ys) (o + i) n ≡ part ys i n
unfolding part
part_right xs ys o i n e = rw (← e, drop-append-add xs ys i)

module _ (b : List ℕ) (o : ℕ) (ys : List ℕ) (fits : o + length ys ≤ length b) where
  -- What stands before a write that fits is as long as its offset.
  length_front : length (take o b) ≡ o
  length_front = length-take-le o b (omega arith)

  -- A part of what was written.
  pub part_within : (i n : ℕ) → i + n ≤ length ys → part (overwrite b o ys) (o + i) n ≡ part ys i n
  unfolding overwrite
  part_within i n h =
      part_right (take o b) (ys ++ drop (o + length ys) b) o i n length_front ∙ part_left ys (drop (o + length ys) b) i n h

  -- The part written is what was written.
  pub part_written : part (overwrite b o ys) o (length ys) ≡ ys
  part_written =
      ap (λ (k : ℕ). part (overwrite b o ys) k (length ys)) (sym (add-zero o)) ∙ part_within 0 (length ys) (omega arith)
      ∙ part_whole ys

  -- A part that ends where the write begins, or before, stays.
  pub part_before : (p n : ℕ) → p + n ≤ o → part (overwrite b o ys) p n ≡ part b p n
  unfolding overwrite
  part_before p n h =
      let within : p + n ≤ length (take o b) = rw length_front h in
      part_left (take o b) (ys ++ drop (o + length ys) b) p n within ∙ sym (part_left (take o b) (drop o b) p n within)
      ∙ ap (λ (l : List ℕ). part l p n) (take-append-drop o b)

  -- A part that begins i after the write's end stays.
  part_past : (i n : ℕ) → part (overwrite b o ys) (o + (length ys + i)) n ≡ part b (o + (length ys + i)) n
  unfolding overwrite
  part_past i n =
      part_right (take o b) (ys ++ drop (o + length ys) b) o (length ys + i) n length_front
      ∙ part_right ys (drop (o + length ys) b) (length ys) i n refl
      ∙ part_drop b (o + length ys) i n
      ∙ ap (λ (k : ℕ). part b k n) (add_assoc o (length ys) i)

  -- A part that begins where the write ends, or after, stays.
  pub part_after : (p n : ℕ) → o + length ys ≤ p → part (overwrite b o ys) p n ≡ part b p n
  part_after p n h =
      let at : o + (length ys + (p - (o + length ys))) ≡ p = omega arith in
      rw at at (part_past (p - (o + length ys)) n)

-- Two writes that adjoin are one write.
pub overwrite_adjoin : (b : List ℕ) (o : ℕ) (ys zs : List ℕ) → o ≤ length b
    → overwrite (overwrite b o ys) (o + length ys) zs ≡ overwrite b o (ys ++ zs)
unfolding overwrite
overwrite_adjoin b o ys zs h =
    let rest : List ℕ = drop (o + length ys) b in
    let front : length (take o b ++ ys) ≡ o + length ys = simp (length-append, length-take-le o b h) in
    let count : o + length ys + length zs ≡ o + length (ys ++ zs) = omega (arith, length-append ys zs) in
    let joined : take o b ++ (ys ++ rest) ≡ take o b ++ ys ++ rest = sym (append_assoc (take o b) ys rest) in
    let before : take (o + length ys) (take o b ++ (ys ++ rest)) ≡ take o b ++ ys =
    ap (λ (l : List ℕ). take (o + length ys) l) joined ∙ take_at (take o b ++ ys) rest (o + length ys) front in
    let after : drop (o + length ys + length zs) (take o b ++ (ys ++ rest)) ≡ drop (o + length (ys ++ zs)) b =
    ap (λ (l : List ℕ). drop (o + length ys + length zs) l) joined
    ∙ ap (λ (k : ℕ). drop (k + length zs) (take o b ++ ys ++ rest)) (sym front)
    ∙ drop-append-add (take o b ++ ys) rest (length zs)
    ∙ drop-drop (length zs) (o + length ys) b
    ∙ ap (λ (k : ℕ). drop k b) count in
    rw (before, after) (simp append_assoc)

-- A write that goes on by one element.
pub overwrite_next : (b : List ℕ) (o : ℕ) (ys : List ℕ) (x : ℕ) → o + length ys < length b
    → set (overwrite b o ys) (o + length ys) x ≡ overwrite b o (ys ++ (x ∷ []))
overwrite_next b o ys x h =
    let inside : o + length ys < length (overwrite b o ys) = omega (arith, length_overwrite b o ys (omega arith)) in
    sym (overwrite_one (overwrite b o ys) (o + length ys) x inside) ∙ overwrite_adjoin b o ys (x ∷ []) (omega arith)
