-- `judge_start` meets its contract: the work list is cleared, keys and free lists are judged, it is cleared again, and counts are judged.
use Rattle.std.proofs.Common.{ℕ, ◌*◌, ◌/◌, ◌≤◌, List, [], ◌≡◌, ◌≢◌, refl, sym, ap, ◌∙◌, arith, rules, length}
use Rattle.std.proofs.lemmas.Result.{err_from_is_err_and}
use Rattle.error.specs.Refusal.{accepted, refused}
use Rattle.error.proofs.LawsResult.{number_pos}
use Rattle.book_space.specs.Space.{InShape}
use Rattle.book_space.proofs.LawsShape.{shape_holds}
use Rattle.book.specs.Book.{Book}
use Rattle.book.specs.Answers.{book_of}
use Rattle.book.specs.Steps.{call_number}
use Rattle.book_start.specs.Start.{Verdict, good, judge_keys, counts_verdict, verdict_of, judges}
use Rattle.book_start.specs.Answers as answers
use Rattle.book_start.specs.declared.judging.Verdict as found
use Rattle.book_start.specs.declared.judging.Verdict.TheVariants.{Good, KeyUnsound, KeyShares, FreeStrays, FreeShares}
use Rattle.book_start.specs.declared.judging.Verdict.TheVariants.{CountsExceed, FreedDiffers, HeldDiffers, HeldHigh, ReserveHigh, LacksOpen}
use Rattle.book_start.specs.Units.{units_of, cleared, work_after, Marked, JudgesAs}
use Rattle.book_start.proofs.LawsBits.{units_long}
use Rattle.book_start.proofs.LawsJudged.{judged_start}
use Rattle.book_start.proofs.LawsVerdict.{judges_off, judges_short, judges_all, judges_passed, judged_ends, judged_blocks, judged_on}
use Rattle.book_start.proofs.LawsVerdict.{after_refused, after_judged, cleared_is, cleared_bytes, shown_bytes, shows_none, shown_cleared}
use Rattle.book_start.proofs.judging.judge_start.Goals as goal

-- a fault that was found has a ground
faulty : (v : found.Verdict) → ((lost : ℕ) → v ≡ Good lost → ⊥) → answers.ground_of (answers.verdict_of v) ≢ 0
faulty (Good lost) n e = n lost refl
faulty (KeyUnsound key) n e = omega arith
faulty (KeyShares key) n e = omega arith
faulty (FreeStrays class) n e = omega arith
faulty (FreeShares class) n e = omega arith
faulty CountsExceed n e = omega arith
faulty FreedDiffers n e = omega arith
faulty (HeldDiffers desk) n e = omega arith
faulty (HeldHigh desk) n e = omega arith
faulty (ReserveHigh desk) n e = omega arith
faulty LacksOpen n e = omega arith

-- a book whose call passed the tests, and whose work list is long enough
module _ (ds : List ℕ) (b : Book) (work : List ℕ) (none : call_number ds b ≡ 0) (enough : length b.space.body / 128 ≤ length work) where
  in_shape : InShape b.space
  in_shape = (shape_holds b.space (length b.heads) (judges_passed ds b work none).0).0

  eight : 8 * (length b.space.body / 128) ≡ length b.space.body / 16
  eight = let p = in_shape.paged in omega arith

  -- the cleared work list shows no claims
  shows : {after : List ℕ} → after ≡ cleared (length b.space.body / 128) work
      → Marked (length b.space.body / 16) b.space.mark (units_of work) [] (units_of after)
  shows e =
      let p = in_shape.paged in
      let w = in_shape.within in
      let long = units_long work in
      let n = enough in
      let units = eight in
      shows_none (length b.space.body / 16) b.space.mark (units_of work) _ in_shape.begins (omega arith) (omega arith)
      (ap units_of e ∙ cleared_bytes (length b.space.body / 128) (length b.space.body / 16) work eight)

  -- and once it is cleared behind a judgement, it is what the call leaves
  left : {v : Verdict} {r : found.Verdict} (mid : List ℕ) {after : List ℕ}
      → JudgesAs (length b.space.body / 16) b.space.mark (units_of work) v r (units_of mid)
      → after ≡ cleared (length b.space.body / 128) mid
      → after ≡ work_after (length b.space.body / 128) work (judges ds b (length work))
  left mid judged e =
      e
      ∙ shown_bytes (length b.space.body / 128) (length b.space.body / 16) b.space.mark work judged.claims _ eight
      (shown_cleared (length b.space.body / 16) b.space.mark (units_of work) judged.claims _ judged.shows)
      ∙ after_judged (length b.space.body / 128) work (judges ds b (length work)) (judges_all ds b work none enough)

pub returns-in_err-judge_call : goal.returns-in_err-judge_call
returns-in_err-judge_call c =
    let book : Book = book_of c.args.body.now c.args.heads.now c.args.mark c.args.free c.args.counts.now in
    let n = c.in_err-judge_call.ensures c.args.heads.now c.args.free refl in
    let pos = number_pos c.in_err-judge_call.field-0.0 in
    let a = judges_off c.args.desks.now book c.args.work.now (λ z. omega arith) in
    let p = err_from_is_err_and c.from_residual.result c.from_residual.ensures.1 in
    record {
      answer = rw (p.1, p.2) (ap refused n ∙ sym a);
      list = after_refused (length c.args.body.now / 128) c.args.work.now (judges c.args.desks.now book (length c.args.work.now)) a;
    }

pub returns-then-work-bytes : goal.returns-then-work-bytes
returns-then-work-bytes c =
    let book : Book = book_of c.args.body.now c.args.heads.now c.args.mark c.args.free c.args.counts.now in
    let a = judges_short c.args.desks.now book c.args.work.now (sym (c.in_ok-judge_call.ensures c.args.heads.now c.args.free refl))
    c.if-work-bytes.true in
    record {
      answer = sym a;
      list = after_refused (length c.args.body.now / 128) c.args.work.now (judges c.args.desks.now book (length c.args.work.now)) a;
    }

pub judge_keys-found-requires : goal.judge_keys-found-requires
judge_keys-found-requires c =
    let book : Book = book_of c.args.body.now c.args.heads.now c.args.mark c.args.free c.args.counts.now in
    let none : call_number c.args.desks.now book ≡ 0 = sym (c.in_ok-judge_call.ensures c.args.heads.now c.args.free refl) in
    let enough : length c.args.body.now / 128 ≤ length c.args.work.now = let h = c.if-work-bytes.false in omega arith in
    let shape = in_shape c.args.desks.now book c.args.work.now none enough in
    record {
      nine = search rules;
      within = shape.within;
      aligned = shape.aligned;
      units = length c.args.body.now / 16;
      lent = units_of c.args.work.now;
      marked = shows c.args.desks.now book c.args.work.now none enough
          (c.fill_bytes.ensures ∙ cleared_is (length c.args.body.now / 128) c.args.work.now);
    }

pub judge_counts-requires : goal.judge_counts-requires
judge_counts-requires c =
    let book : Book = book_of c.args.body.now c.args.heads.now c.args.mark c.args.free c.args.counts.now in
    let nine : length c.args.free ≡ 9 = search rules in
    let none : call_number c.args.desks.now book ≡ 0 = sym (c.in_ok-judge_call.ensures c.args.heads.now c.args.free refl) in
    let enough : length c.args.body.now / 128 ≤ length c.args.work.now = let h = c.if-work-bytes.false in omega arith in
    let judged = c.judge_keys-found.ensures (length c.args.body.now / 16) (units_of c.args.work.now)
    (shows c.args.desks.now book c.args.work.now none enough
    (c.fill_bytes.ensures ∙ cleared_is (length c.args.body.now / 128) c.args.work.now)) in
    let is : judge_keys book.space 0 book.heads [] ≡ good c.in-Good.lost = sym judged.told ∙ ap answers.verdict_of c.in-Good.is in
    let p = judges_passed c.args.desks.now book c.args.work.now none in
    let whole = judged_blocks c.args.desks.now book c.args.work.now (ap answers.ground_of is) in
    record {
      blocks = (judged_start book nine _ p.0 whole).0;
      low = p.1;
      named = p.2;
    }

pub returns-in-Good-clause-answer : goal.returns-in-Good-clause-answer
returns-in-Good-clause-answer c =
    let book : Book = book_of c.args.body.now c.args.heads.now c.args.mark c.args.free c.args.counts.now in
    let none : call_number c.args.desks.now book ≡ 0 = sym (c.in_ok-judge_call.ensures c.args.heads.now c.args.free refl) in
    let enough : length c.args.body.now / 128 ≤ length c.args.work.now = let h = c.if-work-bytes.false in omega arith in
    let judged = c.judge_keys-found.ensures (length c.args.body.now / 16) (units_of c.args.work.now)
    (shows c.args.desks.now book c.args.work.now none enough
    (c.fill_bytes.ensures ∙ cleared_is (length c.args.body.now / 128) c.args.work.now)) in
    let is : judge_keys book.space 0 book.heads [] ≡ good c.in-Good.lost = sym judged.told ∙ ap answers.verdict_of c.in-Good.is in
    ap accepted
    (c.judge_counts.ensures ∙ ap (counts_verdict c.args.desks.now book) (sym (ap answers.lost_of is))
    ∙ sym (judged_on c.args.desks.now book c.args.work.now (ap answers.ground_of is)))
    ∙ sym (judges_all c.args.desks.now book c.args.work.now none enough)

pub returns-in-Good-clause-list : goal.returns-in-Good-clause-list
returns-in-Good-clause-list c =
    let book : Book = book_of c.args.body.now c.args.heads.now c.args.mark c.args.free c.args.counts.now in
    let none : call_number c.args.desks.now book ≡ 0 = sym (c.in_ok-judge_call.ensures c.args.heads.now c.args.free refl) in
    let enough : length c.args.body.now / 128 ≤ length c.args.work.now = let h = c.if-work-bytes.false in omega arith in
    let judged = c.judge_keys-found.ensures (length c.args.body.now / 16) (units_of c.args.work.now)
    (shows c.args.desks.now book c.args.work.now none enough
    (c.fill_bytes.ensures ∙ cleared_is (length c.args.body.now / 128) c.args.work.now)) in
    left c.args.desks.now book c.args.work.now none enough c.judge_keys-found.new.work judged
    (c.fill_bytes-2.ensures ∙ cleared_is (length c.args.body.now / 128) c.judge_keys-found.new.work)

pub returns-in_default : goal.returns-in_default
returns-in_default c =
    let book : Book = book_of c.args.body.now c.args.heads.now c.args.mark c.args.free c.args.counts.now in
    let none : call_number c.args.desks.now book ≡ 0 = sym (c.in_ok-judge_call.ensures c.args.heads.now c.args.free refl) in
    let enough : length c.args.body.now / 128 ≤ length c.args.work.now = let h = c.if-work-bytes.false in omega arith in
    let judged = c.judge_keys-found.ensures (length c.args.body.now / 16) (units_of c.args.work.now)
    (shows c.args.desks.now book c.args.work.now none enough
    (c.fill_bytes.ensures ∙ cleared_is (length c.args.body.now / 128) c.args.work.now)) in
    record {
      answer = ap accepted
          (judged.told ∙ sym (judged_ends c.args.desks.now book c.args.work.now
          (λ e. faulty c.judge_keys-found.result c.in_default.not-Good (ap answers.ground_of judged.told ∙ e))))
          ∙ sym (judges_all c.args.desks.now book c.args.work.now none enough);
      list = left c.args.desks.now book c.args.work.now none enough c.judge_keys-found.new.work judged
          (c.fill_bytes-2.ensures ∙ cleared_is (length c.args.body.now / 128) c.judge_keys-found.new.work);
    }
