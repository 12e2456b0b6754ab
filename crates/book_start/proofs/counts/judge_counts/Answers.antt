-- `judge_counts` meets its contract, test by test.
use Rattle.std.proofs.Common.{ℕ, ◌+◌, ◌≤◌, ◌^◌, cond, ◌≡◌, sym, ap, ◌∙◌, arith, ltb, length}
use Rattle.scripthash_layout.specs.Sizes.{page_class}
use Rattle.book_limits.specs.Limits.{most_heads}
use Rattle.book_desks.specs.Desks.{desks, total, lacks}
use Rattle.book_desks.specs.Counts.{held_in, limits_in}
use Rattle.book_desks.proofs.LawsCounts.{CountsLow, counts_low}
use Rattle.book_space.specs.Space.{InShape}
use Rattle.book_space.proofs.LawsShape.{shape_holds}
use Rattle.book.specs.Book.{Book}
use Rattle.book.specs.Answers.{book_of}
use Rattle.book_start.specs.Start.{good, lacks_open, to_be_had_in, judge_desks}
use Rattle.book_start.specs.Steps.{SmallHeld}
use Rattle.book_start.proofs.LawsTally.{total_small, counts_exceed_lem, counts_freed, counts_desks}
use Rattle.book_start.proofs.counts.judge_counts.Goals as goal

pub to_be_had-had-requires : goal.to_be_had-had-requires
to_be_had-had-requires c =
    let book : Book = let a = c.args in book_of a.body.now a.heads.now a.mark a.free.now a.counts.now in
    let shape : InShape book.space × (length book.heads ≤ most_heads) =
    let s = shape_holds book.space (length book.heads) c.requires.blocks.shape in
    (s.0, s.2) in
    let low : CountsLow (length book.space.body) book.counts = counts_low (length book.space.body) book.counts c.requires.low in
    let s = shape.0 in
    let m = s.most in
    let f = low.freed in
    (omega arith, s.within, m)

pub sum_of_held-requires : goal.sum_of_held-requires
sum_of_held-requires c =
    let book : Book = let a = c.args in book_of a.body.now a.heads.now a.mark a.free.now a.counts.now in
    let shape : InShape book.space × (length book.heads ≤ most_heads) =
    let s = shape_holds book.space (length book.heads) c.requires.blocks.shape in
    (s.0, s.2) in
    let low : CountsLow (length book.space.body) book.counts = counts_low (length book.space.body) book.counts c.requires.low in
    let small : SmallHeld book.counts = λ d h. let s = shape.0.most in let l = low.held d h in omega arith in
    small

pub overflow_add-sum_of_held : goal.overflow_add-sum_of_held
overflow_add-sum_of_held c =
    let book : Book = let a = c.args in book_of a.body.now a.heads.now a.mark a.free.now a.counts.now in
    let shape : InShape book.space × (length book.heads ≤ most_heads) =
    let s = shape_holds book.space (length book.heads) c.requires.blocks.shape in
    (s.0, s.2) in
    let low : CountsLow (length book.space.body) book.counts = counts_low (length book.space.body) book.counts c.requires.low in
    let small : SmallHeld book.counts = λ d h. let s = shape.0.most in let l = low.held d h in omega arith in
    let told : c.sum_of_held.result + c.to_be_had-had.result ≡ total (held_in book.counts) + to_be_had_in book =
    let h = c.sum_of_held.ensures in
    let b = c.to_be_had-had.ensures in
    omega arith in
    let few : c.sum_of_held.result + c.to_be_had-had.result ≤ 2 ^ 40 =
    let e = told in
    let t = total_small book.counts small in
    let f = low.freed in
    let m = shape.0.most in
    omega arith in
    omega (arith, few)

pub overflow_add-sum_of_held-2 : goal.overflow_add-sum_of_held-2
overflow_add-sum_of_held-2 c =
    let book : Book = let a = c.args in book_of a.body.now a.heads.now a.mark a.free.now a.counts.now in
    let shape : InShape book.space × (length book.heads ≤ most_heads) =
    let s = shape_holds book.space (length book.heads) c.requires.blocks.shape in
    (s.0, s.2) in
    let low : CountsLow (length book.space.body) book.counts = counts_low (length book.space.body) book.counts c.requires.low in
    let small : SmallHeld book.counts = λ d h. let s = shape.0.most in let l = low.held d h in omega arith in
    let told : c.sum_of_held.result + c.to_be_had-had.result ≡ total (held_in book.counts) + to_be_had_in book =
    let h = c.sum_of_held.ensures in
    let b = c.to_be_had-had.ensures in
    omega arith in
    let few : c.sum_of_held.result + c.to_be_had-had.result ≤ 2 ^ 40 =
    let e = told in
    let t = total_small book.counts small in
    let f = low.freed in
    let m = shape.0.most in
    omega arith in
    omega (arith, few)

pub returns-then-size-sum_of_held : goal.returns-then-size-sum_of_held
returns-then-size-sum_of_held c =
    let book : Book = let a = c.args in book_of a.body.now a.heads.now a.mark a.free.now a.counts.now in
    let told : c.sum_of_held.result + c.to_be_had-had.result ≡ total (held_in book.counts) + to_be_had_in book =
    let h = c.sum_of_held.ensures in
    let b = c.to_be_had-had.ensures in
    omega arith in
    let e = told in
    let h = c.if-size-sum_of_held.true in
    sym (counts_exceed_lem c.args.desks.now book c.args.lost (omega arith))

pub freed_pages-requires : goal.freed_pages-requires
freed_pages-requires c =
    let book : Book = let a = c.args in book_of a.body.now a.heads.now a.mark a.free.now a.counts.now in
    let shape : InShape book.space × (length book.heads ≤ most_heads) =
    let s = shape_holds book.space (length book.heads) c.requires.blocks.shape in
    (s.0, s.2) in
    record {
      within = shape.0.within;
      ends = c.requires.blocks.ends page_class (omega arith);
      stand = c.requires.blocks.stand page_class (omega arith);
    }

pub returns-then-freed-freed_pages : goal.returns-then-freed-freed_pages
returns-then-freed-freed_pages c =
    let book : Book = let a = c.args in book_of a.body.now a.heads.now a.mark a.free.now a.counts.now in
    let told : c.sum_of_held.result + c.to_be_had-had.result ≡ total (held_in book.counts) + to_be_had_in book =
    let h = c.sum_of_held.ensures in
    let b = c.to_be_had-had.ensures in
    omega arith in
    let e = told in
    let h = c.if-size-sum_of_held.false in
    (sym (counts_freed c.args.desks.now book c.args.lost (omega arith)
    (λ f. let e = c.freed_pages.ensures in let n = c.if-freed-freed_pages.true in omega arith)))

pub tally_pages-tally-requires : goal.tally_pages-tally-requires
tally_pages-tally-requires c =
    let book : Book = let a = c.args in book_of a.body.now a.heads.now a.mark a.free.now a.counts.now in
    let shape : InShape book.space × (length book.heads ≤ most_heads) =
    let s = shape_holds book.space (length book.heads) c.requires.blocks.shape in
    (s.0, s.2) in
    let low : CountsLow (length book.space.body) book.counts = counts_low (length book.space.body) book.counts c.requires.low in
    let small : SmallHeld book.counts = λ d h. let s = shape.0.most in let l = low.held d h in omega arith in
    let told : c.sum_of_held.result + c.to_be_had-had.result ≡ total (held_in book.counts) + to_be_had_in book =
    let h = c.sum_of_held.ensures in
    let b = c.to_be_had-had.ensures in
    omega arith in
    let few : c.sum_of_held.result + c.to_be_had-had.result ≤ 2 ^ 40 =
    let e = told in
    let t = total_small book.counts small in
    let f = low.freed in
    let m = shape.0.most in
    omega arith in
    record { within = shape.0.within; most = shape.0.most; few = shape.1; named = c.requires.named }

pub judge_desks-requires : goal.judge_desks-requires
judge_desks-requires c =
    let book : Book = let a = c.args in book_of a.body.now a.heads.now a.mark a.free.now a.counts.now in
    let shape : InShape book.space × (length book.heads ≤ most_heads) =
    let s = shape_holds book.space (length book.heads) c.requires.blocks.shape in
    (s.0, s.2) in
    let low : CountsLow (length book.space.body) book.counts = counts_low (length book.space.body) book.counts c.requires.low in
    let m = shape.0.most in
    λ d h. let r = low.reserve d h in omega arith

pub returns : goal.returns
returns c =
    let book : Book = let a = c.args in book_of a.body.now a.heads.now a.mark a.free.now a.counts.now in
    let told : c.sum_of_held.result + c.to_be_had-had.result ≡ total (held_in book.counts) + to_be_had_in book =
    let h = c.sum_of_held.ensures in
    let b = c.to_be_had-had.ensures in
    omega arith in
    let a = c.args in
    let e = told in
    let h = c.if-size-sum_of_held.false in
    c.judge_desks.ensures c.args.desks.now a.body.now a.heads.now a.mark a.free.now
    (c.tally_pages-tally.ensures a.free.now a.counts.now)
    ∙ ap (λ (n : ℕ). judge_desks c.args.desks.now book 0 desks
    (cond (ltb n (lacks (limits_in book.counts) (held_in book.counts))) lacks_open (good a.lost)))
    c.to_be_had-had.ensures
    ∙ (sym (counts_desks c.args.desks.now book a.lost (omega arith)
    (let e = c.freed_pages.ensures in let n = c.if-freed-freed_pages.false in omega arith)))
