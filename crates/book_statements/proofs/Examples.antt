-- What is recorded, computed on an example. Assumes nothing.
use mathlib.Core.List.{List, [], ◌∷◌}
use mathlib.Core.Path.{◌≡◌, refl}
use Rattle.error.specs.Refusal.{accepted, refused}
use Rattle.scripthash_layout.specs.declared.head.ShHeadValue.TheVariants.{Inline, Slab}
use Rattle.book_rules.specs.declared.places.SlabFit.TheVariants.{Spare}
use Rattle.book_rules.specs.Outcomes.{loaded_in, appended_to, listing, dropped_of}
use Rattle.book_statements.specs.Calls.{read, load, append, drop, Call, ask, change, Answers, done, asked, changed}
use Rattle.book_statements.specs.Recorded.{recorded_by, recorded_after, recorded}

-- Some calls on keys 0 and 1, and answers that they may get.
abbrev calls : List Call
calls =
    change (append 0 4) ∷ change (drop 0) ∷ change (load Spare 0 (5 ∷ 9 ∷ [])) ∷ change (append 0 3) ∷ change (append 1 7) ∷
    change (append 0 12)
    ∷ ask (read 0 3) ∷ []

abbrev told : Answers calls
told =
    changed (accepted (appended_to (Inline 4 1) 0)) (changed (accepted (dropped_of 1)) (changed (accepted (loaded_in 0)) (changed (refused 32)
    (changed (accepted (appended_to (Inline 7 1) 0)) (changed (accepted (appended_to (Slab 0 3 4096) 0))
    (asked (accepted (listing (5 ∷ 9 ∷ 12 ∷ []) 0 0)) done))))))

-- What is recorded for key 0: a drop ends it, a load and an append record, and a change that is turned back or of another key doesn't.
pub recorded_at : recorded 0 told [] ≡ 5 ∷ 9 ∷ 12 ∷ []
unfolding recorded recorded_after recorded_by
recorded_at = refl
