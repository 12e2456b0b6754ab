-- `put_run` meets its contract. Invariant: some numbers are left, their parts are those from index k on, and written to the pages from the
-- offset on they make the body what the contract says. Assumes nothing.
use Prim.Native.Nat.{ℕ, ◌+◌, ◌-◌, ◌*◌, ◌≤◌, ◌<◌}
use mathlib.Core.List.{List, []}
use mathlib.Core.Path.{◌≡◌, refl, sym, ap, ◌∙◌}
use native.Mathlib.Omega.{arith}
use borrow.Author.Rules.{rules}
use lib.ListN.{length, get_or, take, drop, length-take, length-drop}
use lib.Seq.{get_or-take, drop-drop}
use Rattle.buffer.specs.Bytes.{overwrite}
use Rattle.buffer.proofs.LawsBytes.{length_overwrite, part_to_end}
use Rattle.scripthash_layout.specs.Sizes.{page_size}
use Rattle.scripthash_cutting.specs.Cutting.{cutting}
use Rattle.book_blocks.specs.Blocks.{last_page_of, page_to, write_run}
use Rattle.book_blocks.proofs.LawsWrites.{RunLeft, RunTurn, RunEnd, cut, run_turn, run_end, run_start, length_page_to}
use Rattle.book_blocks.proofs.run.put_run.Statement.{statement}
use Rattle.book_blocks.proofs.run.put_run.Tie as tie

-- what holds at index k: which page comes, what is left, and what writing that comes to
record Turning (body₀ : List ℕ) (start : ℕ) (fks : List ℕ) (ranges : List (List ℕ)) (count : ℕ) (body : List ℕ) (off from k : ℕ)
    : Type 0 where
  more : k + 1 ≤ count
  long : length body ≡ length body₀
  page : off ≡ start + k * page_size
  left : RunLeft fks (take count ranges) k from (drop k (cutting fks))
  writes : write_run start count (length fks) body off (drop k (cutting fks)) ≡ write_run start count (length fks) body₀ start (cutting fks)

abbrev invariant_loop : tie.invariant-loop-k
invariant_loop body₀ start fks ranges count off₀ from₀ k₀ body off from k = Turning body₀ start fks ranges count body off from k

abbrev decreases_loop : tie.decreases-loop-k
decreases_loop body₀ start fks ranges count off₀ from₀ k₀ body off from k = count - k

-- a turn of the loop
module _ (c : tie.In-loop-k invariant_loop decreases_loop) where
  abbrev start : tie.Start invariant_loop decreases_loop
  start = c.before.before.before.before

  abbrev fks : List ℕ
  fks = start.args.fks.now

  abbrev from : ℕ
  from = c.before.loop-k.from

  abbrev to : ℕ
  to = get_or (get_or start.args.ranges.now c.before.loop-k.k []) 1 0

  turn : RunTurn fks (take start.args.count start.args.ranges.now) c.before.loop-k.k from to
      (drop c.before.loop-k.k (cutting fks))
  turn =
      let l = c.before.loop-k in
      let few : 1 < length (drop l.k (cutting fks)) = simp length-drop (omega (arith, start.requires.parts)) in
      rw (get_or-take start.args.count start.args.ranges.now l.k [] (omega arith)) at
      (run_turn fks (take start.args.count start.args.ranges.now) l.k l.from (drop l.k (cutting fks)) few l.invariant.left)

  -- its page lies in the body, and another behind it
  room : c.before.loop-k.off + 2 * page_size ≤ length c.before.loop-k.body
  room = let inv = c.before.loop-k.invariant in omega (arith, start.requires.inside, inv.long, inv.page)

-- behind the loop
module _ (c : tie.After-loop-k invariant_loop decreases_loop) where
  abbrev entry : tie.Start invariant_loop decreases_loop
  entry = c.before.before.before.before

  abbrev left : List ℕ
  left = drop c.before.loop-k.from entry.args.fks.now

  ends : RunEnd entry.args.fks.now c.before.loop-k.from (drop c.before.loop-k.k (cutting entry.args.fks.now))
  ends =
      let l = c.before.loop-k in
      let one : length (drop l.k (cutting entry.args.fks.now)) ≡ 1 =
      simp length-drop (omega (arith, entry.requires.parts, l.invariant.more)) in
      run_end entry.args.fks.now (take entry.args.count entry.args.ranges.now) l.k l.from _ one l.invariant.left

  -- what is left is lent whole
  whole : take (length entry.args.fks.now - c.before.loop-k.from) left ≡ left
  whole = part_to_end entry.args.fks.now c.before.loop-k.from

  -- the last page lies in the body
  last_room : c.before.loop-k.off + page_size ≤ length c.before.loop-k.body
  last_room = let inv = c.before.loop-k.invariant in omega (arith, entry.requires.inside, inv.more, inv.long, inv.page)

loop-k-init : tie.Need-loop-k-init invariant_loop decreases_loop
loop-k-init c =
    let s = c.before.before in
    let a = s.args in
    let begins = run_start (length a.body.now) a.start a.fks.now a.ranges.now a.count s.requires in
    record { more = omega (arith, begins.0); long = refl; page = omega arith; left = begins.1; writes = refl }

overflow_add-k : tie.Need-overflow_add-k invariant_loop decreases_loop
overflow_add-k c = omega (arith, c.loop-k.invariant.more)

offset_bounds-ranges-k : tie.Need-offset_bounds-ranges-k invariant_loop decreases_loop
offset_bounds-ranges-k c = omega (arith, (start c).requires.inside, (start c).requires.small)

bounds-ranges-k : tie.Need-bounds-ranges-k invariant_loop decreases_loop
bounds-ranges-k c =
    omega (arith, (turn c).ranged, length-take (start c).args.count (start c).args.ranges.now)

bounds-range-1 : tie.Need-bounds-range-1 invariant_loop decreases_loop
bounds-range-1 c = search rules

overflow_add-next : tie.Need-overflow_add-next invariant_loop decreases_loop
overflow_add-next c = omega (arith, room c.before)

offset_bounds-fks-from : tie.Need-offset_bounds-fks-from invariant_loop decreases_loop
offset_bounds-fks-from c = let d = c.before.before in omega (arith, (turn d).later, (turn d).within, (start d).requires.few)

slice_bounds-put_page_to-count : tie.Need-slice_bounds-put_page_to-count invariant_loop decreases_loop
slice_bounds-put_page_to-count c = (turn c.before.before).later

slice_bounds-put_page_to-start : tie.Need-slice_bounds-put_page_to-start invariant_loop decreases_loop
slice_bounds-put_page_to-start c = (turn c.before.before).later

slice_bounds-put_page_to-end : tie.Need-slice_bounds-put_page_to-end invariant_loop decreases_loop
slice_bounds-put_page_to-end c = (turn c.before.before).within

put_page_to-requires : tie.Need-put_page_to-requires invariant_loop decreases_loop
put_page_to-requires c κs =
    let d = c.before.before.before in
    let inv = d.before.loop-k.invariant in
    let pre = (start d).requires in
    record {
      inside = omega (arith, room d);
      linked = record {
        numbers = (turn d).numbers;
        next_named = record {
          aligned = omega (arith, pre.aligned, inv.page);
          some = omega arith;
          small = omega (arith, room d, pre.small, inv.long);
        };
      };
    }

overflow_add-k-in-loop-k : tie.Need-overflow_add-k-in-loop-k invariant_loop decreases_loop
overflow_add-k-in-loop-k c = omega arith

loop-k-smaller : tie.Need-loop-k-smaller invariant_loop decreases_loop
loop-k-smaller c = omega arith

loop-k-preserved : tie.Need-loop-k-preserved invariant_loop decreases_loop
loop-k-preserved c =
    let d = c.before.before.before.before.before.before in
    let l = d.before.loop-k in
    let a = (start d).args in
    let t = turn d in
    let put = c.before.before.put_page_to in
    let page = page_to (l.off + page_size) (cut (fks d) (from d) (to d)) in
    let behind = drop-drop 1 l.k (cutting (fks d)) in
    let long = length_page_to (l.off + page_size) (cut (fks d) (from d) (to d)) t.numbers.fits in
    record {
      more = omega arith;
      long = ap length put.ensures ∙ length_overwrite l.body l.off page (omega (arith, long, room d)) ∙ l.invariant.long;
      page = omega (arith, l.invariant.page);
      left = rw behind at t.left;
      writes =
          ap (λ (b : List ℕ). write_run a.start a.count (length (fks d)) b (l.off + page_size) (drop (l.k + 1) (cutting (fks d))))
          put.ensures
          ∙ ap (write_run a.start a.count (length (fks d)) (overwrite l.body l.off page) (l.off + page_size)) (sym behind)
          ∙ sym (t.writes a.start a.count (length (fks d)) l.body l.off) ∙ l.invariant.writes;
    }

offset_bounds-fks-from-2 : tie.Need-offset_bounds-fks-from-2 invariant_loop decreases_loop
offset_bounds-fks-from-2 c = omega (arith, (ends c.before).within, (entry c.before).requires.few)

slice_bounds-put_last_page-count : tie.Need-slice_bounds-put_last_page-count invariant_loop decreases_loop
slice_bounds-put_last_page-count c = (ends c.before).within

slice_bounds-put_last_page-start : tie.Need-slice_bounds-put_last_page-start invariant_loop decreases_loop
slice_bounds-put_last_page-start c = (ends c.before).within

slice_bounds-put_last_page-end : tie.Need-slice_bounds-put_last_page-end invariant_loop decreases_loop
slice_bounds-put_last_page-end c = search rules

overflow_cast-count : tie.Need-overflow_cast-count invariant_loop decreases_loop
overflow_cast-count c = let s = entry c.before.before in omega (arith, s.requires.inside, s.requires.small)

overflow_cast-fks : tie.Need-overflow_cast-fks invariant_loop decreases_loop
overflow_cast-fks c = omega (arith, (entry c.before.before).requires.few)

put_last_page-requires : tie.Need-put_last_page-requires invariant_loop decreases_loop
put_last_page-requires c κs =
    let d = c.before.before in
    let pre = (entry d).requires in
    record {
      inside = last_room d;
      last = record {
        numbers = rw (whole d) (ends d).numbers;
        base_named = record { aligned = pre.aligned; some = pre.some; small = omega (arith, pre.inside, pre.small) };
        some_extents = omega (arith, d.before.loop-k.invariant.more);
      };
    }

shape_of-body : tie.Need-shape_of-body invariant_loop decreases_loop
shape_of-body c = omega (arith, c.before.before.before.before.before.before.loop-k.invariant.long)

returns : tie.Need-returns invariant_loop decreases_loop
returns c =
    let d = c.before.before.before.before.before in
    let l = d.before.loop-k in
    let a = (entry d).args in
    c.before.before.put_last_page.ensures
    ∙ ap (λ (ns : List ℕ). overwrite l.body l.off (last_page_of a.start a.start a.count (length a.fks.now) ns)) (whole d)
    ∙ sym ((ends d).writes a.start a.count (length a.fks.now) l.body l.off) ∙ l.invariant.writes

pub put_run_spec : {M : Type 1} → statement M
put_run_spec =
    tie.close
    (tie.spec
    invariant_loop
    decreases_loop
    loop-k-init
    overflow_add-k
    offset_bounds-ranges-k
    bounds-ranges-k
    bounds-range-1
    overflow_add-next
    offset_bounds-fks-from
    slice_bounds-put_page_to-count
    slice_bounds-put_page_to-start
    slice_bounds-put_page_to-end
    put_page_to-requires
    overflow_add-k-in-loop-k
    loop-k-smaller
    loop-k-preserved
    offset_bounds-fks-from-2
    slice_bounds-put_last_page-count
    slice_bounds-put_last_page-start
    slice_bounds-put_last_page-end
    overflow_cast-count
    overflow_cast-fks
    put_last_page-requires
    shape_of-body
    returns)
