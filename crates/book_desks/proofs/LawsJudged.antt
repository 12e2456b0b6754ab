-- A take judged in words: what is asked for keeps sums small, and the tests tell the number of the rule. Assumes nothing.
use Prim.Native.Nat.{ℕ, ◌+◌, ◌-◌, ◌*◌, ◌≤◌, ◌<◌, ◌^◌}
use mathlib.Core.Bool.{Bool, true, false, not, ◌&&◌}
use mathlib.Core.List.{List}
use mathlib.Core.Path.{◌≡◌, sym, ap, ◌∙◌}
use native.Mathlib.Omega.{arith}
use borrow.Author.Tests.{le-ltb, lt-ltb}
use lib.Dec.{ltb, eqb}
use lib.ListN.{get_or}
use Rattle.error.specs.Refusal.{refusal_of, past_ceiling, into_reserves}
use Rattle.error.proofs.LawsAnswer.{refuse_yes, refuse_no}
use Rattle.book_desks.specs.Desks.{desks, desk_count, lacks, lacks_with, to_be_had, permitted, permission_number}
use Rattle.book_desks.specs.Counts.{held_count, reserve_at, ceiling_at, held_in, limits_in}
use Rattle.book_desks.specs.Judged.{SmallCounts, ToJudge}
use Rattle.book_desks.proofs.LawsSums.{sum_most}
use Rattle.book_desks.proofs.LawsDesks.{lacks_by}
use Rattle.book_desks.proofs.LawsCounts.{held_at_lem, reserve_at_lem, ceiling_at_lem, lacks_in, counts_low}

module _ {counts : List ℕ} {size desk pages freed mark : ℕ} (k : ToJudge counts size desk pages freed mark) where
  abbrev held : ℕ
  held = held_count desk counts

  abbrev reserve : ℕ
  reserve = get_or counts (reserve_at desk) 0

  abbrev ceiling : ℕ
  ceiling = get_or counts (ceiling_at desk) 0

  -- The pages held, and each reserve, are no more than the largest body has.
  pub held_small : held ≤ 2 ^ 29
  held_small = let h = (counts_low size counts k.low).held desk k.known in let b = k.body in omega arith

  pub reserves_small : SmallCounts counts
  reserves_small d h = let r = (counts_low size counts k.low).reserve d h in let b = k.body in omega arith

  -- And all that is lacking no more than sixteen times that.
  pub lacks_small : lacks (limits_in counts) (held_in counts) ≤ 16 * 2 ^ 29
  lacks_small =
      let s = sum_most desks (2 ^ 29) (λ d. get_or counts (reserve_at d) 0 - held_count d counts)
      (λ d h. let r = reserves_small d h in omega arith) in
      let e = lacks_in counts in
      omega arith

  abbrev told : ℕ
  told = permission_number (limits_in counts) size desk pages (held_in counts) freed mark

  -- The test of the ceiling, in words.
  abbrev past : Bool
  past = not (eqb pages 0) && ltb ceiling (held + pages)

  past_same : (not (eqb pages 0) && ltb (desk_count desk (limits_in counts).ceiling) (desk_count desk (held_in counts) + pages)) ≡ past
  past_same = rw (ceiling_at_lem counts desk k.known, held_at_lem counts desk k.known)

  -- It holds: 40.
  pub judged_past : past ≡ true → past_ceiling ≡ told
  unfolding permission_number permitted
  judged_past e = sym (ap refusal_of (refuse_yes _ past_ceiling _ (past_same ∙ e)))

  -- The lacks with the take, by one sum over all desks and that desk's lack before and after.
  with_take : lacks_with (limits_in counts) (held_in counts) desk pages + (reserve - held)
      ≡ lacks (limits_in counts) (held_in counts) + (reserve - (held + pages))
  with_take =
      let s = lacks_by (limits_in counts) (held_in counts) desk pages k.known in
      let r = reserve_at_lem counts desk k.known in
      let h = held_at_lem counts desk k.known in
      omega arith

  -- It doesn't, and the reserves aren't covered: 41.
  pub judged_into : past ≡ false
      → to_be_had size freed mark + (reserve - held) < lacks (limits_in counts) (held_in counts) + (reserve - (held + pages))
      → into_reserves ≡ told
  unfolding permission_number permitted
  judged_into e h =
      let over : to_be_had size freed mark < lacks_with (limits_in counts) (held_in counts) desk pages = let w = with_take in omega arith in
      sym (ap refusal_of (refuse_no _ past_ceiling _ (past_same ∙ e) ∙ refuse_yes _ into_reserves _ (lt-ltb _ _ over)))

  -- They are covered: 0.
  pub judged_none : past ≡ false
      → lacks (limits_in counts) (held_in counts) + (reserve - (held + pages)) ≤ to_be_had size freed mark + (reserve - held) → 0 ≡ told
  unfolding permission_number permitted
  judged_none e h =
      let enough : lacks_with (limits_in counts) (held_in counts) desk pages ≤ to_be_had size freed mark = let w = with_take in omega arith in
      sym (ap refusal_of (refuse_no _ past_ceiling _ (past_same ∙ e) ∙ refuse_no _ into_reserves _ (le-ltb _ _ enough)))
