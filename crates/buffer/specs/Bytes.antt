-- Parts of a buffer, and writes into it. A buffer's contents are the list of its elements.
use Rattle.std.specs.Prelude.{ℕ, ◌+◌, List, ◌++◌, length, take, drop}

-- The n elements of a buffer from offset o on.
unfoldable pub part : List ℕ → ℕ → ℕ → List ℕ
part b o n = take n (drop o b)

-- A buffer with ys written over its elements from offset o on.
unfoldable pub overwrite : {A : Type 0} → List A → ℕ → List A → List A
overwrite b o ys = take o b ++ (ys ++ drop (o + length ys) b)
