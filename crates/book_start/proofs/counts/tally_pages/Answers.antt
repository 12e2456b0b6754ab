-- `tally_pages` meets its contract: so far it has the pages of the keys passed, by desk.
use Rattle.std.proofs.Common.{ℕ, ◌≤◌, ◌<◌, ◌^◌, List, [], ◌≡◌, ap, ◌∙◌, arith, length, get_or}
use Rattle.book_desks.specs.Desks.{desks, desk_count, sum_to, desk_of}
use Rattle.book_desks.proofs.LawsDesks.{list_good, desk_in_lem}
use Rattle.book_keys.specs.Keys.{body_ground}
use Rattle.book.specs.Book.{Book}
use Rattle.book.specs.Answers.{book_of}
use Rattle.book_start.specs.Start.{pages_for, pages_held}
use Rattle.book_start.proofs.LawsTally.{pages_few, tallied_none, tally_small, tally_next}
use Rattle.book_start.proofs.counts.tally_pages.Goals as goal

-- a key
module _ (c : goal.After-key_pages) where
  abbrev book : List ℕ → List ℕ → Book
  book free counts = book_of c.args.body.now c.args.heads.now c.args.mark free counts

  desk : desk_of c.args.desks.now c.loop-key.key < desks
  desk = desk_in_lem c.args.desks.now (length c.args.heads.now) c.loop-key.key c.requires.named c.loop-key-test.true

  few : (k : ℕ) → pages_held (book [] []) k ≤ 2 ^ 29
  few k =
      let p = pages_few (body_ground c.args.body.now c.args.mark) (get_or c.args.heads.now k 0) in
      let w = c.requires.within in
      let m = c.requires.most in
      omega arith

  small : desk_count (desk_of c.args.desks.now c.loop-key.key) c.loop-key.tally ≤ 2 ^ 45
  small =
      let s = tally_small c.args.desks.now (book [] []) c.loop-key.tally c.loop-key.key (c.loop-key.invariant.all [] []) (2 ^ 29) (desk_of
      c.args.desks.now c.loop-key.key)
      few desk in
      let h = c.requires.few in
      let k = c.loop-key-test.true in
      omega arith

  sixteen : length c.loop-key.tally ≡ desks
  sixteen = (c.loop-key.invariant.all [] []).sixteen

pub loop-key-init : goal.loop-key-init
loop-key-init c = record { to_end = omega arith; all = λ free counts. tallied_none _ _ }

pub bounds-desks-key : goal.bounds-desks-key
bounds-desks-key c =
    let long : length c.args.desks.now ≡ length c.args.heads.now =
    (list_good c.args.desks.now (length c.args.heads.now) c.requires.named).0 in
    let e = long in omega arith

pub bounds-tally-desk : goal.bounds-tally-desk
bounds-tally-desk c = omega (arith, desk c, sixteen c)

pub overflow_add-tally : goal.overflow_add-tally
overflow_add-tally c =
    let p = c.key_pages.ensures in
    omega (arith, small c, few c c.loop-key.key)

pub bounds-tally-desk-in-loop-key : goal.bounds-tally-desk-in-loop-key
bounds-tally-desk-in-loop-key c = omega (arith, desk c, sixteen c)

pub loop-key-preserved : goal.loop-key-preserved
loop-key-preserved c =
    record {
      to_end = omega arith;
      all = λ free counts.
          tally_next c.args.desks.now (book c free counts) c.loop-key.tally c.loop-key.key (c.loop-key.invariant.all free counts)
          c.key_pages.result (desk c) c.key_pages.ensures;
    }

pub returns : goal.returns
returns c free counts d h =
    let l = c.loop-key in
    let a = c.args in
    let e : l.key ≡ length a.heads.now = let n = l.invariant.to_end in omega arith in
    (l.invariant.all free counts).sums d h
    ∙ ap (λ (k : ℕ). sum_to k (pages_for a.desks.now (book_of a.body.now a.heads.now a.mark free counts) d)) e
