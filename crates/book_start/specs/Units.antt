-- The work list of a judgement: a bit for each unit, which is 16 bytes of the body. It is 1 where a claimed block has the unit, else 0.
use Rattle.std.specs.Prelude.{ℕ, zero, suc, ◌+◌, ◌*◌, ◌/◌, ◌%◌, ◌≤◌, Bool, true, cond, ◌&&◌, List, [], ◌∷◌, ◌++◌, ◌≡◌, eqb, length, replicate, Result, Ok, Err}
use Rattle.error.specs.Refusal.{Answer, accepted, refused}
use Rattle.buffer.specs.Bytes.{part, overwrite}
use Rattle.scripthash_layout.specs.Sizes.{slab_bytes}
use Rattle.scripthash_free.specs.FreeList.{Block, Each}
use Rattle.book_start.specs.Start.{AllApart, Stands, bytes_taken, Verdict, Claim, claimed, unfit, shared}
use Rattle.book_start.specs.Answers.{verdict_of}
use Rattle.book_start.specs.declared.claiming.ClaimFault.{ClaimFault}
use Rattle.book_start.specs.declared.claiming.ClaimFault.TheVariants.{Unfit, Shared}
use Rattle.book_start.specs.declared.judging.Verdict.{Verdict as Found}

-- ---- bits

-- So many bits of a number, the lowest first, and then what is above them: seven bits, and the eighth of a byte.
unfoldable pub bits_from : ℕ → ℕ → List ℕ
bits_from zero w = w ∷ []
bits_from (suc k) w = w % 2 ∷ bits_from k (w / 2)

-- The eight bits of a byte, the lowest first.
abbrev pub bits_of : ℕ → List ℕ
bits_of w = bits_from 7 w

-- The units that the bytes of a work list tell, eight a byte.
unfoldable pub units_of : List ℕ → List ℕ
units_of [] = []
units_of (w ∷ ws) = bits_of w ++ units_of ws

-- ---- units

-- No unit of some is taken.
unfoldable pub all_free : List ℕ → Bool
all_free [] = true
all_free (u ∷ us) = eqb u 0 && all_free us

-- No unit of a block is taken.
unfoldable pub units_free : Block → List ℕ → Bool
units_free x work = all_free (part work (x.off / 16) (slab_bytes x.class / 16))

-- A work list in which the units of a block are marked.
unfoldable pub marked : Block → List ℕ → List ℕ
marked x work = overwrite work (x.off / 16) (replicate (slab_bytes x.class / 16) 1)

-- A work list after a block was claimed: its units are marked, if none of them was taken.
unfoldable pub claim_units : Block → List ℕ → List ℕ
claim_units x work = cond (units_free x work) (marked x work) work

-- A work list in which the units of some blocks are marked.
unfoldable pub mark_all : List Block → List ℕ → List ℕ
mark_all [] work = work
mark_all (x ∷ xs) work = marked x (mark_all xs work)

-- A list with so many elements cleared, from its start on: units, or bytes of the work list.
unfoldable pub cleared : ℕ → List ℕ → List ℕ
cleared units work = overwrite work 0 (replicate units 0)

-- A work list after a judgement of a body for which it has so many bytes: they are cleared, or all is as it was where the call is refused.
unfoldable pub work_after : ℕ → List ℕ → Answer Verdict → List ℕ
work_after bytes work (accepted v) = cleared bytes work
work_after bytes work (refused number) = work

-- ---- what the steps of the code tell each other

-- A work list that was lent shows these claims, of blocks below the mark that share no byte: all units were cleared, and those of the
-- claims are marked.
pub record Marked (units mark : ℕ) (lent : List ℕ) (claims : List Block) (work : List ℕ) : Type 0 where
  pub from : 4096 ≤ mark
  pub fits : mark ≤ 16 * units
  pub long : units ≤ length lent
  pub stand : Each (Stands mark) claims
  pub apart : AllApart claims
  pub is : work ≡ mark_all claims (cleared units lent)

-- A work list shows some claims.
pub record Shows (mark : ℕ) (work : List ℕ) : Type 0 where
  pub units : ℕ
  pub lent : List ℕ
  pub claims : List Block
  pub shows : Marked units mark lent claims work

-- So many units below the mark belong to none of some claims: what lies behind 4,096 is theirs, or lost.
abbrev pub Leaves : ℕ → List Block → ℕ → Type 0
Leaves mark claims lost = 4096 + (bytes_taken claims + 16 * lost) ≡ mark

-- What claiming gives that is told so, where these blocks are claimed at its end.
abbrev pub claim_of : Result ℕ ClaimFault → List Block → Claim
claim_of (Ok taken) bs = claimed bs
claim_of (Err Unfit) bs = unfit
claim_of (Err Shared) bs = shared

-- The units that claiming tells are those that it took, where some blocks were claimed before and others are at its end.
abbrev pub Took : List Block → List Block → Result ℕ ClaimFault → Type 0
Took before bs (Ok taken) = bytes_taken bs ≡ bytes_taken before + 16 * taken
Took before bs (Err Unfit) = Unit {0}
Took before bs (Err Shared) = Unit {0}

-- Claiming behind some blocks gives what is wanted and tells the units that it took, and the work list shows the blocks that are claimed
-- at its end.
pub record ClaimsAs (units mark : ℕ) (lent : List ℕ) (before : List Block) (want : Claim) (tells : Result ℕ ClaimFault)
    (work : List ℕ) : Type 0 where
  pub claims : List Block
  pub shows : Marked units mark lent claims work
  pub told : want ≡ claim_of tells claims
  pub took : Took before claims tells

-- A part of a judgement gives the wanted verdict, and the work list shows the blocks that are claimed at its end.
pub record JudgesAs (units mark : ℕ) (lent : List ℕ) (want : Verdict) (tells : Found) (work : List ℕ) : Type 0 where
  pub claims : List Block
  pub shows : Marked units mark lent claims work
  pub told : verdict_of tells ≡ want
