-- What can be offered to an account book.
use Rattle.std.specs.Prelude.{ℕ, ◌^◌, Bool, false, ◌&&◌, List, [], ◌∷◌, leb, eqb}
use Rattle.error.specs.Refusal.{Answer, refuse_if, offered_first_zero, offered_bit63, offered_too_large, offered_not_rising}

-- A number that is offered behind another, the first of its call or not.
unfoldable pub offered_number : {A : Type 0} → Bool → ℕ → ℕ → Answer A → Answer A
offered_number first prev n after =
    refuse_if (first && eqb n 0) offered_first_zero
    (refuse_if (leb (2 ^ 63) n) offered_bit63
    (refuse_if (leb (2 ^ 62) n) offered_too_large
    (refuse_if (leb n prev) offered_not_rising after)))

-- Offered numbers, one by one: the first that is turned back decides.
unfoldable pub offered_list : {A : Type 0} → Bool → ℕ → List ℕ → Answer A → Answer A
offered_list first prev [] after = after
offered_list first prev (n ∷ ns) after = offered_number first prev n (offered_list false n ns after)
