-- What the loop of `chain_into` keeps: for each chain that the walk from the first page gives, the pages left, written from here on, make
-- the whole list.
use Rattle.std.proofs.Common.{◌≡◌, ◌-◌, ◌/◌, ◌≤◌, length}
use Rattle.error.specs.Refusal.{accepted}
use Rattle.scripthash_layout.specs.Sizes.{page_size}
use Rattle.book_keys.specs.Keys.{Chain, walk, body_ground}
use Rattle.book_keys.proofs.LawsFill.{Filling}
use Rattle.book_keys.proofs.chain.chain_into.Given as goal

abbrev pub invariant-loop : goal.invariant-loop
invariant-loop l = record {
  within : l.at ≤ length l.out;
  long : length l.out ≡ length l.fn.out;
  filling : (w : Chain) → walk (l.mark / page_size) (body_ground l.body l.mark) l.last 0 l.first ≡ accepted w
      → length w.numbers ≤ length l.fn.out
      → Filling (l.mark / page_size - l.counter) (body_ground l.body l.mark) l.last l.fn.out w l.out l.at l.off;
}
