-- `read_last` meets its contract: version, link and extent decide in turn.
use Rattle.std.proofs.Common.{ℕ, true, ◌≡◌, sym, ap, ◌∙◌, arith}
use Rattle.error.specs.Refusal.{accepted, and_then}
use Rattle.error.proofs.LawsAnswer.{then_yes, then_no}
use Rattle.scripthash_fields.specs.Page.{version_of, link_of, extent_base_of, extent_count_of, is_last_link, link_offset, extent_named}
use Rattle.scripthash_pages.proofs.LawsEntries.{version_byte}
use Rattle.scripthash_fields.specs.FieldAnswers.{offset_answer, done_answer}
use Rattle.book_keys.specs.Steps.{last_of_page, last_read}
use Rattle.book_keys.proofs.LawsSound.{soundly_yes, soundly_no}
use Rattle.book_keys.proofs.LawsPages.{field_read, first_told, first_untold, last_version, last_none, last_extent}
use Rattle.book_keys.proofs.chain.read_last.Goals as goal

pub returns-then-page-ne-SH_PAGE_EXTENT_VER : goal.returns-then-page-ne-SH_PAGE_EXTENT_VER
returns-then-page-ne-SH_PAGE_EXTENT_VER c =
    let p = c.args.page.now in
    sym (soundly_no _ (last_version p (λ e. c.if-page-ne-SH_PAGE_EXTENT_VER.true (sym (version_byte p (omega (arith, c.requires))) ∙ e))))

pub returns-in_default : goal.returns-in_default
returns-in_default c =
    let extent : version_of c.args.page.now ≡ 2 = version_byte c.args.page.now (omega (arith, c.requires)) ∙ c.if-page-ne-SH_PAGE_EXTENT_VER.false in
    let p = c.args.page.now in
    sym (soundly_no _ (last_none p extent
    (first_untold p c.requires (sym c.in_default.ensures))))

pub returns-in_default-check_extent : goal.returns-in_default-check_extent
returns-in_default-check_extent c =
    let extent : version_of c.args.page.now ≡ 2 = version_byte c.args.page.now (omega (arith, c.requires)) ∙ c.if-page-ne-SH_PAGE_EXTENT_VER.false in
    let last : (is_last_link (link_of c.args.page.now) ≡ true) × (link_offset (link_of c.args.page.now) ≡ c.in-Ok.first) = first_told c.args.page.now c.requires c.in-Ok.first (sym c.in-Ok.ensures) in
    let is : last_read c.args.page.now ≡ and_then (extent_named (extent_base_of c.args.page.now) (extent_count_of c.args.page.now)) (λ e. accepted (last_of_page c.args.page.now)) = last_extent c.args.page.now extent last.0 in
    let named : extent_named c.get_u64-base.result c.get_u32-n.result ≡ extent_named (extent_base_of c.args.page.now) (extent_count_of c.args.page.now) = ap (λ (b : ℕ). extent_named b c.get_u32-n.result) (c.get_u64-base.ensures ∙ field_read c.args.page.now 8 8) ∙ ap (extent_named (extent_base_of c.args.page.now)) (c.get_u32-n.ensures ∙ field_read c.args.page.now 16 4) in
    sym (soundly_no _ (is ∙ then_no _ _ (sym (c.in_default-check_extent.ensures ∙ named))))

pub returns : goal.returns
returns c =
    let extent : version_of c.args.page.now ≡ 2 = version_byte c.args.page.now (omega (arith, c.requires)) ∙ c.if-page-ne-SH_PAGE_EXTENT_VER.false in
    let last : (is_last_link (link_of c.args.page.now) ≡ true) × (link_offset (link_of c.args.page.now) ≡ c.in-Ok.first) = first_told c.args.page.now c.requires c.in-Ok.first (sym c.in-Ok.ensures) in
    let is : last_read c.args.page.now ≡ and_then (extent_named (extent_base_of c.args.page.now) (extent_count_of c.args.page.now)) (λ e. accepted (last_of_page c.args.page.now)) = last_extent c.args.page.now extent last.0 in
    let named : extent_named c.get_u64-base.result c.get_u32-n.result ≡ extent_named (extent_base_of c.args.page.now) (extent_count_of c.args.page.now) = ap (λ (b : ℕ). extent_named b c.get_u32-n.result) (c.get_u64-base.ensures ∙ field_read c.args.page.now 8 8) ∙ ap (extent_named (extent_base_of c.args.page.now)) (c.get_u32-n.ensures ∙ field_read c.args.page.now 16 4) in
    let p = c.args.page.now in
    ap (λ (n : ℕ). accepted (record { first = c.in-Ok.first; creates = n })) (c.get_u32-creates.ensures ∙ field_read p 20 4)
    ∙ ap (λ (f : ℕ). accepted (record { first = f; creates = (last_of_page p).creates })) (sym last.1)
    ∙ sym (soundly_yes _ (is ∙ then_yes _ _ (sym (c.in-Ok-check_extent.ensures ∙ named))))
