-- `chain_end` meets its contract: the last page's header decides, then the walk, and creates.
use Rattle.std.proofs.Common.{ℕ, ◌+◌, ◌/◌, ◌≡◌, sym, ap, ◌∙◌, arith, length, get_or}
use borrow.Author.Tests.{not-true, not-false}
use Rattle.std.proofs.lemmas.Result.{err_from_is_err_and}
use Rattle.error.specs.Refusal.{accepted}
use Rattle.error.proofs.LawsAnswer.{was_accepted, was_refused}
use Rattle.scripthash_layout.specs.Sizes.{page_size}
use Rattle.book_keys.specs.Keys.{soundly, Last, last_at, Chain, walk, total_good, Ground, body_ground}
use Rattle.book_keys.specs.Steps.{Walked, walked_from, chain_end_of, if_asked}
use Rattle.book_keys.specs.Answers.{last_page_answer, walk_answer}
use Rattle.book_keys.proofs.LawsSound.{was_sound, unsound_told, passed_on, turned_back, let_through}
use Rattle.book_keys.proofs.LawsWalk.{walk_first}
use Rattle.book_keys.proofs.LawsChain.{chain_no, chain_unwalked, chain_other, chain_yes}
use Rattle.book_keys.proofs.chain.chain_end.Goals as goal

pub returns-in_err-first : goal.returns-in_err-first
returns-in_err-first c =
    let p = err_from_is_err_and c.from_residual.result c.from_residual.ensures.1 in
    let s : Ground = body_ground c.args.body.now c.args.mark in
    let bad = unsound_told (last_at s c.args.last) c.in_err-first.ensures in
    rw (p.1, p.2, bad.0) (turned_back (chain_end_of c.args.counted) _ (chain_no s c.args.last bad.2))

pub returns-in_err-length : goal.returns-in_err-length
returns-in_err-length c =
    let p = err_from_is_err_and c.from_residual-in_err-length.result c.from_residual-in_err-length.ensures.1 in
    let s : Ground = body_ground c.args.body.now c.args.mark in
    let head : Last = record { first = c.in_ok-first.field-0.first; creates = c.in_ok-first.field-0.creates } in
    let is : last_at s c.args.last ≡ accepted head = was_sound _ (sym c.in_ok-first.ensures) in
    rw (p.1, p.2)
    (passed_on (walked_from c.args.counted 0 0 0) (walk (s.mark / page_size) s c.args.last 0 head.first) (chain_end_of c.args.counted) _
    c.in_err-length.ensures
    (λ m stop. (m, chain_unwalked s c.args.last head is stop)))

pub returns-then-not-total_good : goal.returns-then-not-total_good
returns-then-not-total_good c =
    let s : Ground = body_ground c.args.body.now c.args.mark in
    let head : Last = record { first = c.in_ok-first.field-0.first; creates = c.in_ok-first.field-0.creates } in
    let is : last_at s c.args.last ≡ accepted head = was_sound _ (sym c.in_ok-first.ensures) in
    let end : Walked = record { length = c.in_ok-length.field-0.length; pages = c.in_ok-length.field-0.pages; padded = c.in_ok-length.field-0.padded } in
    let chain : (w : Chain) × (soundly (walk (s.mark / page_size) s c.args.last 0 head.first) ≡ accepted w) × (walked_from c.args.counted 0 0 0 w ≡ end) = was_accepted (walked_from c.args.counted 0 0 0) _ (sym c.in_ok-length.ensures) in
    let walks : walk (s.mark / page_size) s c.args.last 0 head.first ≡ accepted chain.0 = was_sound _ chain.1 in
    let length_is : length chain.0.numbers ≡ end.length = let e : 0 + length chain.0.numbers ≡ end.length = ap (λ (x : Walked). x.length) chain.2 in omega arith in
    turned_back (chain_end_of c.args.counted) _
    (chain_other s c.args.last head is chain.0 walks
    (ap (total_good head.creates) length_is ∙ sym c.total_good.ensures ∙ not-true _ c.if-not-total_good.true-raw))

pub returns : goal.returns
returns c =
    let s : Ground = body_ground c.args.body.now c.args.mark in
    let head : Last = record { first = c.in_ok-first.field-0.first; creates = c.in_ok-first.field-0.creates } in
    let is : last_at s c.args.last ≡ accepted head = was_sound _ (sym c.in_ok-first.ensures) in
    let end : Walked = record { length = c.in_ok-length.field-0.length; pages = c.in_ok-length.field-0.pages; padded = c.in_ok-length.field-0.padded } in
    let chain : (w : Chain) × (soundly (walk (s.mark / page_size) s c.args.last 0 head.first) ≡ accepted w) × (walked_from c.args.counted 0 0 0 w ≡ end) = was_accepted (walked_from c.args.counted 0 0 0) _ (sym c.in_ok-length.ensures) in
    let walks : walk (s.mark / page_size) s c.args.last 0 head.first ≡ accepted chain.0 = was_sound _ chain.1 in
    let length_is : length chain.0.numbers ≡ end.length = let e : 0 + length chain.0.numbers ≡ end.length = ap (λ (x : Walked). x.length) chain.2 in omega arith in
    let pages_is : length chain.0.offs ≡ end.pages = let e : 0 + length chain.0.offs ≡ end.pages = ap (λ (x : Walked). x.pages) chain.2 in omega arith in
    let padded_is : if_asked c.args.counted chain.0.padded ≡ end.padded = let e : 0 + if_asked c.args.counted chain.0.padded ≡ end.padded = ap (λ (x : Walked). x.padded) chain.2 in omega arith in
    let k = chain.0 in
    ap (λ (f : ℕ). accepted (record { first = f; length = end.length; pages = end.pages; padded = end.padded }))
    (sym (walk_first _ s c.args.last 0 head.first k walks))
    ∙ ap (λ (n : ℕ). accepted (record { first = get_or k.offs 0 0; length = n; pages = end.pages; padded = end.padded }))
    (sym length_is)
    ∙ ap (λ (n : ℕ). accepted (record { first = get_or k.offs 0 0; length = length k.numbers; pages = n; padded = end.padded }))
    (sym pages_is)
    ∙ ap (λ (n : ℕ). accepted (record { first = get_or k.offs 0 0; length = length k.numbers; pages = length k.offs; padded = n }))
    (sym padded_is)
    ∙ let_through (chain_end_of c.args.counted) _
    (chain_yes s c.args.last head is k walks
    (ap (total_good head.creates) length_is ∙ sym c.total_good.ensures ∙ not-false _ c.if-not-total_good.false-raw))
