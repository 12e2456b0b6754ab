-- `judge_desks` meets its contract: the desks that are left, judged, give what all of them give.
use Rattle.std.proofs.Common.{ℕ, Bool, cond, List, ◌≡◌, sym, ap, ◌∙◌, arith, lt-ltb, le-ltb}
use Rattle.book_desks.specs.Desks.{desks, desk_count, lacks}
use Rattle.book_desks.specs.Counts.{held_count, held_in, limits_in}
use Rattle.book.specs.Book.{Book}
use Rattle.book.specs.Answers.{book_of}
use Rattle.book_start.specs.Start.{Verdict, good, lacks_open, pages_of_desk}
use Rattle.book_start.specs.Steps.{Tallied}
use Rattle.book_start.proofs.LawsTally.{from, desk_differs, desk_high, desk_reserve, desk_good, desks_end}
use Rattle.book_start.proofs.counts.judge_desks.Invariants.{behind}
use Rattle.book_start.proofs.counts.judge_desks.Goals as goal

pub returns-then-held-tally : goal.returns-then-held-tally
returns-then-held-tally c ds body heads mark free w =
    let after : Verdict = behind c.args.counts.now c.args.had c.args.lost in
    let book : (ds : List ℕ) → (body : List ℕ) → (heads : List ℕ) → (mark : ℕ) → (free : List ℕ) → Book =
    λ ds body heads mark free.
    book_of body heads mark free c.args.counts.now in
    let all :
    (ds : List ℕ)
    → (body : List ℕ)
    → (heads : List ℕ)
    → (mark : ℕ)
    → (free : List ℕ)
    → (tallied : Tallied ds (book ds body heads mark free) c.args.tally)
    → from ds (book ds body heads mark free) after c.loop-d.d ≡ from ds (book ds body heads mark free) after 0 =
    λ ds body heads mark free tallied.
    c.loop-d.invariant.left ds body heads mark free tallied in
    let known :
    (ds : List ℕ)
    → (body : List ℕ)
    → (heads : List ℕ)
    → (mark : ℕ)
    → (free : List ℕ)
    → (tallied : Tallied ds (book ds body heads mark free) c.args.tally)
    → desk_count c.loop-d.d c.args.tally ≡ pages_of_desk ds (book ds body heads mark free) c.loop-d.d =
    λ ds body heads mark free tallied.
    tallied c.loop-d.d c.loop-d-test.true in
    (sym (desk_differs ds (book ds body heads mark free) after c.loop-d.d c.loop-d-test.true
    (λ e. c.if-held-tally.true (e ∙ sym (known ds body heads mark free w))))
    ∙ all ds body heads mark free w)

pub returns-then-ceiling-held : goal.returns-then-ceiling-held
returns-then-ceiling-held c ds body heads mark free w =
    let after : Verdict = behind c.args.counts.now c.args.had c.args.lost in
    let book : (ds : List ℕ) → (body : List ℕ) → (heads : List ℕ) → (mark : ℕ) → (free : List ℕ) → Book =
    λ ds body heads mark free.
    book_of body heads mark free c.args.counts.now in
    let all :
    (ds : List ℕ)
    → (body : List ℕ)
    → (heads : List ℕ)
    → (mark : ℕ)
    → (free : List ℕ)
    → (tallied : Tallied ds (book ds body heads mark free) c.args.tally)
    → from ds (book ds body heads mark free) after c.loop-d.d ≡ from ds (book ds body heads mark free) after 0 =
    λ ds body heads mark free tallied.
    c.loop-d.invariant.left ds body heads mark free tallied in
    let known :
    (ds : List ℕ)
    → (body : List ℕ)
    → (heads : List ℕ)
    → (mark : ℕ)
    → (free : List ℕ)
    → (tallied : Tallied ds (book ds body heads mark free) c.args.tally)
    → desk_count c.loop-d.d c.args.tally ≡ pages_of_desk ds (book ds body heads mark free) c.loop-d.d =
    λ ds body heads mark free tallied.
    tallied c.loop-d.d c.loop-d-test.true in
    let exact :
    (ds body heads : List ℕ) (mark : ℕ) (free : List ℕ)
    → Tallied ds (book ds body heads mark free) c.args.tally
    → held_count c.loop-d.d c.args.counts.now ≡ pages_of_desk ds (book ds body heads mark free) c.loop-d.d =
    λ ds body heads mark free tallied.
    c.if-held-tally.false ∙ known ds body heads mark free tallied in
    (sym (desk_high ds (book ds body heads mark free) after c.loop-d.d c.loop-d-test.true
    (exact ds body heads mark free w) c.if-ceiling-held.true)
    ∙ all ds body heads mark free w)

pub returns-then-ceiling-counts : goal.returns-then-ceiling-counts
returns-then-ceiling-counts c ds body heads mark free w =
    let after : Verdict = behind c.args.counts.now c.args.had c.args.lost in
    let book : (ds : List ℕ) → (body : List ℕ) → (heads : List ℕ) → (mark : ℕ) → (free : List ℕ) → Book =
    λ ds body heads mark free.
    book_of body heads mark free c.args.counts.now in
    let all :
    (ds : List ℕ)
    → (body : List ℕ)
    → (heads : List ℕ)
    → (mark : ℕ)
    → (free : List ℕ)
    → (tallied : Tallied ds (book ds body heads mark free) c.args.tally)
    → from ds (book ds body heads mark free) after c.loop-d.d ≡ from ds (book ds body heads mark free) after 0 =
    λ ds body heads mark free tallied.
    c.loop-d.invariant.left ds body heads mark free tallied in
    let known :
    (ds : List ℕ)
    → (body : List ℕ)
    → (heads : List ℕ)
    → (mark : ℕ)
    → (free : List ℕ)
    → (tallied : Tallied ds (book ds body heads mark free) c.args.tally)
    → desk_count c.loop-d.d c.args.tally ≡ pages_of_desk ds (book ds body heads mark free) c.loop-d.d =
    λ ds body heads mark free tallied.
    tallied c.loop-d.d c.loop-d-test.true in
    let exact :
    (ds body heads : List ℕ) (mark : ℕ) (free : List ℕ)
    → Tallied ds (book ds body heads mark free) c.args.tally
    → held_count c.loop-d.d c.args.counts.now ≡ pages_of_desk ds (book ds body heads mark free) c.loop-d.d =
    λ ds body heads mark free tallied.
    c.if-held-tally.false ∙ known ds body heads mark free tallied in
    (sym (desk_reserve ds (book ds body heads mark free) after c.loop-d.d c.loop-d-test.true
    (exact ds body heads mark free w) c.if-ceiling-held.false c.if-ceiling-counts.true)
    ∙ all ds body heads mark free w)

pub loop-d-preserved : goal.loop-d-preserved
loop-d-preserved c =
    let after : Verdict = behind c.args.counts.now c.args.had c.args.lost in
    let book : (ds : List ℕ) → (body : List ℕ) → (heads : List ℕ) → (mark : ℕ) → (free : List ℕ) → Book =
    λ ds body heads mark free.
    book_of body heads mark free c.args.counts.now in
    let all :
    (ds : List ℕ)
    → (body : List ℕ)
    → (heads : List ℕ)
    → (mark : ℕ)
    → (free : List ℕ)
    → (tallied : Tallied ds (book ds body heads mark free) c.args.tally)
    → from ds (book ds body heads mark free) after c.loop-d.d ≡ from ds (book ds body heads mark free) after 0 =
    λ ds body heads mark free tallied.
    c.loop-d.invariant.left ds body heads mark free tallied in
    let known :
    (ds : List ℕ)
    → (body : List ℕ)
    → (heads : List ℕ)
    → (mark : ℕ)
    → (free : List ℕ)
    → (tallied : Tallied ds (book ds body heads mark free) c.args.tally)
    → desk_count c.loop-d.d c.args.tally ≡ pages_of_desk ds (book ds body heads mark free) c.loop-d.d =
    λ ds body heads mark free tallied.
    tallied c.loop-d.d c.loop-d-test.true in
    let exact :
    (ds body heads : List ℕ) (mark : ℕ) (free : List ℕ)
    → Tallied ds (book ds body heads mark free) c.args.tally
    → held_count c.loop-d.d c.args.counts.now ≡ pages_of_desk ds (book ds body heads mark free) c.loop-d.d =
    λ ds body heads mark free tallied.
    c.if-held-tally.false ∙ known ds body heads mark free tallied in
    record {
      to_end = omega arith;
      left = λ ds body heads mark free w.
          sym (desk_good ds (book ds body heads mark free) after c.loop-d.d c.loop-d-test.true
          (exact ds body heads mark free w) c.if-ceiling-held.false c.if-ceiling-counts.false)
          ∙ all ds body heads mark free w;
    }

pub returns-then-had-sum_of_lacks : goal.returns-then-had-sum_of_lacks
returns-then-had-sum_of_lacks c ds body heads mark free w =
    let last : Verdict = behind c.args.counts.now c.args.had c.args.lost in
    let ends :
    (ds body heads : List ℕ) (mark : ℕ) (free : List ℕ)
    → Tallied ds (book_of body heads mark free c.args.counts.now) c.args.tally
    → last ≡ from ds (book_of body heads mark free c.args.counts.now) last 0 =
    λ ds body heads mark free w.
    let l = c.loop-d in
    let e : l.d ≡ desks = let n = l.invariant.to_end in omega arith in
    sym (desks_end ds (book_of body heads mark free c.args.counts.now) last l.d e) ∙ l.invariant.left ds body heads mark free w in
    let a = c.args in
    let test = lt-ltb a.had (lacks (limits_in a.counts.now) (held_in a.counts.now))
    (let s = c.sum_of_lacks.ensures in let h = c.if-had-sum_of_lacks.true in omega arith) in
    ap (λ (x : Bool). cond x lacks_open (good a.lost)) (sym test) ∙ ends ds body heads mark free w

pub returns : goal.returns
returns c ds body heads mark free w =
    let last : Verdict = behind c.args.counts.now c.args.had c.args.lost in
    let ends :
    (ds body heads : List ℕ) (mark : ℕ) (free : List ℕ)
    → Tallied ds (book_of body heads mark free c.args.counts.now) c.args.tally
    → last ≡ from ds (book_of body heads mark free c.args.counts.now) last 0 =
    λ ds body heads mark free w.
    let l = c.loop-d in
    let e : l.d ≡ desks = let n = l.invariant.to_end in omega arith in
    sym (desks_end ds (book_of body heads mark free c.args.counts.now) last l.d e) ∙ l.invariant.left ds body heads mark free w in
    let a = c.args in
    let test = le-ltb a.had (lacks (limits_in a.counts.now) (held_in a.counts.now))
    (let s = c.sum_of_lacks.ensures in let h = c.if-had-sum_of_lacks.false in omega arith) in
    ap (λ (x : Bool). cond x lacks_open (good a.lost)) (sym test) ∙ ends ds body heads mark free w
