-- `read_link` meets its contract: the scan decides, then the last number, and the first.
use Rattle.std.proofs.Common.{ℕ, ◌-◌, Bool, true, List, ◌≡◌, refl, sym, ap, ◌∙◌, arith, length, take, drop, get_or}
use borrow.Author.Tests.{not-true, not-false}
use Rattle.error.specs.Refusal.{accepted, answered}
use Rattle.error.proofs.LawsAnswer.{refused≢accepted, accepted_inj, was_accepted, was_refused, answered_yes}
use Rattle.buffer.proofs.LawsBytes.{part_to_end}
use Rattle.compact.specs.Uleb128.{read_uleb, NumberRead, number_read}
use Rattle.scripthash_stream.specs.Stream.{Scan, last_from, End, end_from}
use Rattle.scripthash_fields.specs.Page.{link_of, is_last_link, link_offset, stream_off}
use Rattle.scripthash_fields.proofs.LawsFields.{read_link_lem}
use Rattle.scripthash_fields.specs.FieldAnswers.{Link}
use Rattle.scripthash_pages.specs.Entries.{page_scan, page_padded}
use Rattle.book_keys.specs.Steps.{sound_last, link_read, LinkEndOf, link_end_of, if_asked}
use Rattle.book_keys.proofs.LawsSound.{turned_back, let_through}
use Rattle.book_keys.proofs.LawsPages.{field_read, page_read, page_first, some_last, link_no, link_unsound, link_low, link_yes}
use Rattle.book_keys.proofs.chain.read_link.Goals as goal

-- What is told of a page, from its parts.
abbrev told : ℕ → ℕ → Bool → ℕ → ℕ → LinkEndOf
told count fk last next padded = record { count = count; fk = fk; last = last; next = next; padded = padded }

-- the first number of a page that scans is read where its stream starts
first_read : (page : List ℕ) (o : ℕ) (s : Scan) → o ≡ stream_off page → page_scan page ≡ accepted s → sound_last (last_from 0 s.numbers) ≡ true
    → (len : ℕ) × (answered number_read (read_uleb (take (length page - o) (drop o page)))
    ≡ accepted (number_read (record { value = get_or s.numbers 0 0; len = len })))
first_read page o s e scans sound =
    let first = page_first page s scans (some_last s.numbers sound) in (
      first.0,
      ap (λ (bs : List ℕ). answered number_read (read_uleb bs)) (part_to_end page o)
          ∙ ap (λ (k : ℕ). answered number_read (read_uleb (drop k page))) e
          ∙ answered_yes number_read _ first.1,
    )

pub returns-in_default : goal.returns-in_default
returns-in_default c =
    let a = c.args in
    turned_back (link_end_of a.counted a.page.now) _ (link_no a.page.now a.prev (was_refused (end_from 0) _ (sym c.in_default.ensures)))

pub returns-then-not-sound_last : goal.returns-then-not-sound_last
returns-then-not-sound_last c =
    let a = c.args in
    let got = was_accepted (end_from 0) (page_scan a.page.now) (sym c.in-Ok.ensures) in
    turned_back (link_end_of a.counted a.page.now) _
    (link_unsound a.page.now a.prev got.0 got.1
    (ap (λ (e : End). sound_last e.last) got.2 ∙ sym c.sound_last.ensures ∙ not-true _ c.if-not-sound_last.true-raw))

pub returns-in_default-read_uleb128 : goal.returns-in_default-read_uleb128
returns-in_default-read_uleb128 c =
    let page = c.args.page.now in
    let got = was_accepted (end_from 0) (page_scan page) (sym c.in-Ok.ensures) in
    let sound = ap (λ (e : End). sound_last e.last) got.2 ∙ sym c.sound_last.ensures ∙ not-false _ c.if-not-sound_last.false-raw in
    let first = first_read page c.stream_off-start.result got.0 c.stream_off-start.ensures got.1 sound in
    absurd (refused≢accepted (c.in_default-read_uleb128.ensures ∙ first.1))

pub returns-then-form-prev : goal.returns-then-form-prev
returns-then-form-prev c =
    let a = c.args in
    let page = a.page.now in
    let got = was_accepted (end_from 0) (page_scan page) (sym c.in-Ok.ensures) in
    let sound = ap (λ (e : End). sound_last e.last) got.2 ∙ sym c.sound_last.ensures ∙ not-false _ c.if-not-sound_last.false-raw in
    let first = first_read page c.stream_off-start.result got.0 c.stream_off-start.ensures got.1 sound in
    let value_is = ap (λ (r : NumberRead). r.value) (accepted_inj (c.in-Ok-read_uleb128.ensures ∙ first.1)) in
    turned_back (link_end_of a.counted page) _ (link_low page a.prev got.0 got.1 sound (omega (arith, c.if-form-prev.true, value_is)))

pub returns-in_default-sh_page_read_packed : goal.returns-in_default-sh_page_read_packed
returns-in_default-sh_page_read_packed c =
    let page = c.args.page.now in
    absurd (refused≢accepted (c.in_default-sh_page_read_packed.ensures ∙ sym (read_link_lem page c.requires (link_of page) refl)))

pub page_padded-requires : goal.page_padded-requires
page_padded-requires c =
    let page = c.args.page.now in
    let got = was_accepted (end_from 0) (page_scan page) (sym c.in-Ok.ensures) in
    let taken = ap (λ (e : End). e.taken) got.2 in
    (c.requires, omega (arith, (page_read page got.0 got.1).taken_fits, taken))

pub returns : goal.returns
returns c =
    let a = c.args in
    let page = a.page.now in
    let got = was_accepted (end_from 0) (page_scan page) (sym c.in-Ok.ensures) in
    let s = got.0 in
    let sound = ap (λ (e : End). sound_last e.last) got.2 ∙ sym c.sound_last.ensures ∙ not-false _ c.if-not-sound_last.false-raw in
    let first = first_read page c.stream_off-start.result s c.stream_off-start.ensures got.1 sound in
    let value_is = ap (λ (r : NumberRead). r.value) (accepted_inj (c.in-Ok-read_uleb128.ensures ∙ first.1)) in
    let reads : link_read a.prev page ≡ accepted s = link_yes page a.prev s got.1 sound (omega (arith, c.if-form-prev.false, value_is)) in
    let link = c.in-Ok-sh_page_read_packed.field-0 in
    let named = accepted_inj (c.in-Ok-sh_page_read_packed.ensures ∙ sym (read_link_lem page c.requires (link_of page) refl)) in
    let padded : c.page_padded.result ≡ if_asked a.counted (page_padded page) = c.page_padded.ensures s got.1 (ap (λ (e : End). e.taken) got.2) in
    let counted : c.from-count.result ≡ length s.numbers = c.from-count.ensures ∙ c.get_u16.ensures ∙ field_read page 1 2 ∙ sym (page_read page s got.1).counted in
    ap (λ (n : ℕ). accepted (told n c.in-Ok.field-0.last link.last link.off c.page_padded.result)) counted
    ∙ ap (λ (e : End). accepted (told (length s.numbers) e.last link.last link.off c.page_padded.result)) (sym got.2)
    ∙ ap (λ (w : Link). accepted (told (length s.numbers) (last_from 0 s.numbers) w.last w.off c.page_padded.result)) named
    ∙ ap (λ (n : ℕ). accepted (told (length s.numbers) (last_from 0 s.numbers) (is_last_link (link_of page)) (link_offset (link_of page)) n)) padded
    ∙ let_through (link_end_of a.counted page) _ reads
