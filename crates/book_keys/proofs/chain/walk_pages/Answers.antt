-- `walk_pages` meets its contract: each way on from a page is one law of `LawsWalk`.
use Rattle.std.proofs.Common.{ℕ, Bool, ◌≡◌, ◌+◌, ◌-◌, ◌*◌, ◌/◌, ◌≤◌, length, sym, ap, ◌∙◌, arith}
use Rattle.std.proofs.lemmas.Result.{err_from_is_err_and}
use Rattle.error.specs.Refusal.{accepted}
use Rattle.error.proofs.LawsAnswer.{was_accepted, was_refused}
use Rattle.scripthash_layout.specs.Sizes.{page_size}
use Rattle.scripthash_stream.specs.Stream.{Scan}
use Rattle.scripthash_pages.specs.Entries.{page_padded}
use Rattle.book_keys.specs.Keys.{page_at, link_scan, Ground, body_ground}
use Rattle.book_keys.specs.Steps.{LinkEndOf, link_end_of, if_asked}
use Rattle.book_keys.proofs.LawsSound.{was_sound, unsound_told}
use Rattle.book_keys.proofs.LawsPages.{link_sound, page_padded_most}
use Rattle.book_keys.proofs.LawsWalk.{told, told_start, told_none, told_refused, told_last, told_flagged, told_more, asked_most}
use Rattle.book_keys.proofs.chain.walk_pages.Goals as goal

-- a page that was read has no more numbers, padded ones among them, than bytes
few : (asked : Bool) (s : Ground) (prev off : ℕ) (p : Scan) (e : LinkEndOf) → link_scan s prev off ≡ accepted p
    → link_end_of asked (page_at s off) p ≡ e → (e.count ≤ 4096) × (e.padded ≤ 4096)
few asked s prev off p e is same =
    let k = (link_sound s prev off p is).read in
    let count_is : length p.numbers ≡ e.count = ap (λ (x : LinkEndOf). x.count) same in
    let padded_is : if_asked asked (page_padded (page_at s off)) ≡ e.padded = ap (λ (x : LinkEndOf). x.padded) same in (
      omega (arith, k.counted, k.count_fits),
      omega (arith, asked_most asked (page_padded (page_at s off)), page_padded_most (page_at s off), k.count_fits),
    )

pub loop-walked-init : goal.loop-walked-init
loop-walked-init c =
    let a = c.args in
    record {
      few = omega arith;
      few_padded = omega arith;
      tells = told_start a.counted (a.mark / page_size) (body_ground a.body.now a.mark) a.last a.first;
    }

pub returns-in_err-count : goal.returns-in_err-count
returns-in_err-count c =
    let p = err_from_is_err_and c.from_residual.result c.from_residual.ensures.1 in
    let a = c.args in
    let l = c.loop-walked in
    let s = body_ground a.body.now a.mark in
    let stop = was_refused (link_end_of a.counted (page_at s l.off)) _ (sym c.in_err-count.ensures) in
    rw (p.1, p.2, (unsound_told (link_scan s l.prev l.off) (sym stop)).0)
    (told_refused a.counted l.length l.walked l.padded (a.mark / page_size) s a.last l.prev l.off (omega arith) stop ∙ l.invariant.tells)

pub overflow_add-length : goal.overflow_add-length
overflow_add-length c =
    let a = c.args in
    let l = c.loop-walked in
    let s = body_ground a.body.now a.mark in
    let page = was_accepted (link_end_of a.counted (page_at s l.off)) _ (sym c.in_ok-count.ensures) in
    omega (arith, (few a.counted s l.prev l.off page.0 _ (was_sound _ page.1) page.2).0)

pub overflow_add-padded : goal.overflow_add-padded
overflow_add-padded c =
    let a = c.args in
    let l = c.loop-walked in
    let s = body_ground a.body.now a.mark in
    let page = was_accepted (link_end_of a.counted (page_at s l.off)) _ (sym c.in_ok-count.ensures) in
    omega (arith, (few a.counted s l.prev l.off page.0 _ (was_sound _ page.1) page.2).1)

pub returns-then-off-last : goal.returns-then-off-last
returns-then-off-last c =
    let a = c.args in
    let l = c.loop-walked in
    let s = body_ground a.body.now a.mark in
    let page = was_accepted (link_end_of a.counted (page_at s l.off)) _ (sym c.in_ok-count.ensures) in
    ap (λ (e : LinkEndOf). accepted (record { length = l.length + e.count; pages = l.walked + 1; padded = l.padded + e.padded })) (sym page.2)
    ∙ told_last a.counted l.length l.walked l.padded (a.mark / page_size) s a.last l.prev l.off (omega arith) page.0 (was_sound _ page.1)
    c.if-off-last.true
    ∙ l.invariant.tells

pub returns-then-end : goal.returns-then-end
returns-then-end c =
    let a = c.args in
    let l = c.loop-walked in
    let s = body_ground a.body.now a.mark in
    let page = was_accepted (link_end_of a.counted (page_at s l.off)) _ (sym c.in_ok-count.ensures) in
    told_flagged a.counted l.length l.walked l.padded (a.mark / page_size) s a.last l.prev l.off (omega arith) page.0 (was_sound _ page.1)
    c.if-off-last.false (ap (λ (e : LinkEndOf). e.last) page.2 ∙ c.if-end.true)
    ∙ l.invariant.tells

pub loop-walked-preserved : goal.loop-walked-preserved
loop-walked-preserved c =
    let a = c.args in
    let l = c.loop-walked in
    let s = body_ground a.body.now a.mark in
    let page = was_accepted (link_end_of a.counted (page_at s l.off)) _ (sym c.in_ok-count.ensures) in
    let most = few a.counted s l.prev l.off page.0 _ (was_sound _ page.1) page.2 in
    record {
      few = omega (arith, most.0);
      few_padded = omega (arith, most.1);
      tells = sym (ap (λ (e : LinkEndOf). told a.counted (l.length + e.count) (l.walked + 1) (l.padded + e.padded)
          (a.mark / page_size - (l.walked + 1)) s a.last e.fk e.next) page.2)
          ∙ told_more a.counted l.length l.walked l.padded (a.mark / page_size) s a.last l.prev l.off (omega arith) page.0 (was_sound _ page.1)
          c.if-off-last.false (ap (λ (e : LinkEndOf). e.last) page.2 ∙ c.if-end.false)
          ∙ l.invariant.tells;
    }

pub returns : goal.returns
returns c =
    let a = c.args in
    let l = c.loop-walked in
    told_none a.counted l.length l.walked l.padded (a.mark / page_size) (body_ground a.body.now a.mark) a.last l.prev l.off (omega arith)
    ∙ l.invariant.tells
