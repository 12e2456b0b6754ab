-- What the answers of the code mean: a refusal's number (FORMAT, Refusals), or the verdict.
use Rattle.std.specs.Prelude.{ℕ, Result}
use Rattle.error.specs.Refusal.{Answer}
use Rattle.error.specs.Answers.{result_answer}
use Rattle.error.specs.declared.Refusal.{Refusal}
use Rattle.book_start.specs.Start.{Verdict, good, key_unsound, key_shares, free_strays, free_shares, counts_exceed, freed_differs}
use Rattle.book_start.specs.Start.{held_differs, held_high, reserve_high, lacks_open}
use Rattle.book_start.specs.declared.judging.Verdict.{Verdict as Found}
use Rattle.book_start.specs.declared.judging.Verdict.TheVariants.{Good, KeyUnsound, KeyShares, FreeStrays, FreeShares}
use Rattle.book_start.specs.declared.judging.Verdict.TheVariants.{CountsExceed, FreedDiffers, HeldDiffers, HeldHigh}
use Rattle.book_start.specs.declared.judging.Verdict.TheVariants.{ReserveHigh, LacksOpen}

-- The verdict that the code finds.
abbrev pub verdict_of : Found → Verdict
verdict_of (Good lost) = good lost
verdict_of (KeyUnsound key) = key_unsound key
verdict_of (KeyShares key) = key_shares key
verdict_of (FreeStrays class) = free_strays class
verdict_of (FreeShares class) = free_shares class
verdict_of CountsExceed = counts_exceed
verdict_of FreedDiffers = freed_differs
verdict_of (HeldDiffers desk) = held_differs desk
verdict_of (HeldHigh desk) = held_high desk
verdict_of (ReserveHigh desk) = reserve_high desk
verdict_of LacksOpen = lacks_open

-- The answer of `judge_start`.
abbrev pub start_answer : Result Found Refusal → Answer Verdict
start_answer = result_answer verdict_of

-- The number of a verdict's ground, as it goes out.
abbrev pub ground_of : Verdict → ℕ
ground_of (good lost) = 0
ground_of (key_unsound key) = 1
ground_of (key_shares key) = 2
ground_of (free_strays class) = 3
ground_of (free_shares class) = 4
ground_of counts_exceed = 5
ground_of freed_differs = 6
ground_of (held_differs desk) = 7
ground_of (held_high desk) = 8
ground_of (reserve_high desk) = 9
ground_of lacks_open = 10

-- The key, the class or the desk that a verdict names, 0 where it names none.
abbrev pub which_of : Verdict → ℕ
which_of (good lost) = 0
which_of (key_unsound key) = key
which_of (key_shares key) = key
which_of (free_strays class) = class
which_of (free_shares class) = class
which_of counts_exceed = 0
which_of freed_differs = 0
which_of (held_differs desk) = desk
which_of (held_high desk) = desk
which_of (reserve_high desk) = desk
which_of lacks_open = 0

-- The units that belong to nobody beside a good verdict, 0 beside another.
abbrev pub lost_of : Verdict → ℕ
lost_of (good lost) = lost
lost_of (key_unsound key) = 0
lost_of (key_shares key) = 0
lost_of (free_strays class) = 0
lost_of (free_shares class) = 0
lost_of counts_exceed = 0
lost_of freed_differs = 0
lost_of (held_differs desk) = 0
lost_of (held_high desk) = 0
lost_of (reserve_high desk) = 0
lost_of lacks_open = 0

-- The answer of `fresh`.
abbrev pub fresh_answer : Result (Unit {0}) Refusal → Answer (Unit {0})
fresh_answer = result_answer (λ made. tt)
