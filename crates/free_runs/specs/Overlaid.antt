-- What flags of all windows laid over each other tell: no answer of a public function is defined here.
use Rattle.std.specs.Prelude.{◌≡◌, ℕ, ◌/◌, ◌%◌, ◌<◌, Bool, true, false, ◌||◌, List, [], ◌∷◌, ◌==◌, Option, IfSome, is_some}
use Rattle.std.proofs.Math.Option.{none}
use Rattle.scripthash_layout.specs.Sizes.{page_size}
use Rattle.free_runs.specs.Runs.{lowest}
use Rattle.free_runs.specs.declared.list.FreedPages.{FreedPages}
use Rattle.free_runs.specs.Freed.{pages_of, passes}
use Rattle.free_runs.specs.Steps.{window_pages, flag, Unset}

-- An offset of a list is that of a page with an index in its window.
unfoldable pub overlaid_in : ℕ → List ℕ → Bool
overlaid_in i [] = false
overlaid_in i (x ∷ xs) = x / page_size % window_pages == i || overlaid_in i xs

-- The pages of a list are flagged, each in its window.
pub record Overlays (os before after : List ℕ) : Type 0 where
  pub flags : (i : ℕ) → i < window_pages → (flag after i == 1) ≡ (flag before i == 1) || overlaid_in i os

-- A free list was walked and, if it passes, its pages are flagged, each in its window.
pub record OverlaysList (list : FreedPages) (before after : List ℕ) (told : Bool) : Type 0 where
  pub passed : told ≡ passes list
  pub overlays : passes list ≡ true → Overlays (pages_of list) before after

-- What ruling a run out asks: words without a flag, and a page or more wanted.
pub record ToRuleOut (words : List ℕ) (pages : ℕ) : Type 0 where
  pub unset : Unset words
  pub some_pages : 0 < pages

-- A free list was walked, and something is told if it passes: where that is that a run is ruled out, no stretch of so many pages is freed.
pub record RulesOut (list : FreedPages) (pages : ℕ) (told : Option Bool) : Type 0 where
  pub passed : is_some told ≡ passes list
  pub rules : IfSome told (λ out. out ≡ true → lowest pages (pages_of list) ≡ none)
