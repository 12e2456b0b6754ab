-- What the loop of `walk_pages` keeps: the pages left to walk, with the numbers and pages passed, tell what the whole walk tells. A page has
-- no more numbers than bytes.
use Rattle.std.proofs.Common.{◌-◌, ◌*◌, ◌/◌, ◌≤◌, ◌≡◌}
use Rattle.error.specs.Refusal.{answered}
use Rattle.scripthash_layout.specs.Sizes.{page_size}
use Rattle.book_keys.specs.Keys.{soundly, walk, body_ground}
use Rattle.book_keys.specs.Steps.{walked_from}
use Rattle.book_keys.proofs.LawsWalk.{told}
use Rattle.book_keys.proofs.chain.walk_pages.Given as goal

abbrev pub invariant-loop-walked : goal.invariant-loop-walked
invariant-loop-walked l = record {
  few : l.length ≤ 4096 * l.walked;
  few_padded : l.padded ≤ 4096 * l.walked;
  tells : told l.counted l.length l.walked l.padded (l.mark / page_size - l.walked) (body_ground l.body l.mark) l.last l.prev l.off
      ≡ answered (walked_from l.counted 0 0 0) (soundly (walk (l.mark / page_size) (body_ground l.body l.mark) l.last 0 l.first));
}
