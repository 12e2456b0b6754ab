-- `sh_page_pack_extent_last_fks`: each test refuses before anything is written; then the stream, and the header over the first 24 bytes.
use Prim.Native.Nat.{ℕ, ◌≤◌}
use mathlib.Core.List.{List, ◌++◌}
use mathlib.Core.Path.{◌≡◌, refl, sym, ap, ◌∙◌}
use native.Mathlib.Omega.{arith}
use lib.Dec.{eqb}
use lib.ListN.{length, take}
use Rattle.std.proofs.lemmas.Result.{err_from_is_err_and}
use Rattle.error.specs.Refusal.{accepted, refused}
use Rattle.buffer.specs.Bytes.{overwrite}
use Rattle.buffer.specs.LittleEndian.{bytes_of}
use Rattle.buffer.proofs.LawsOverwrite.{overwrite_adjoin}
use Rattle.scripthash_layout.specs.Sizes.{page_size}
use Rattle.scripthash_fields.specs.Page.{link_to, extent_header, link_named, extent_named}
use Rattle.scripthash_fields.specs.Fields.{done, after_set}
use Rattle.scripthash_fields.proofs.LawsPage.{page_yes}
use Rattle.scripthash_fields.proofs.LawsFields.{link_yes, extent_yes, set_no, set_yes}
use Rattle.scripthash_pages.specs.Pack.{packed, linked, pack_extent}
use Rattle.scripthash_pages.proofs.LawsPack.{behind_no, behind_yes}
use Rattle.scripthash_pages.proofs.pack.sh_page_pack_extent_last_fks.Goals as goal

-- the header's length
size : (n link base count : ℕ) → length (extent_header n link base count 0) ≡ 24
unfolding extent_header
size n link base count = refl

-- a page whose link and extent were tested, with what the stream's packing left
module _ (page fks out : List ℕ) (base count next : ℕ) (long : length page ≡ page_size) (named : link_named (linked base next) ≡ accepted tt)
    (good : extent_named base count ≡ accepted tt)
    (wrote : out ≡ after_set page (packed (take 24 page) fks)) where
  abbrev header : List ℕ
  header = extent_header (length fks) (link_to (eqb next 0) (linked base next)) base count 0

  as_packed : pack_extent page fks base count next ≡ packed header fks
  unfolding pack_extent
  as_packed = page_yes page _ long ∙ link_yes (linked base next) _ named ∙ extent_yes base count _ good

  stopped : (number : ℕ) → refused number ≡ done (packed (take 24 page) fks)
      → (refused number ≡ done (pack_extent page fks base count next)) × (out ≡ after_set page (pack_extent page fks base count next))
  stopped number e =
      let stop = behind_no page fks header 24 (omega arith) (size _ _ _ _) out wrote (sym e) in
      let no = set_no page (pack_extent page fks base count next) (as_packed ∙ stop.0) in
      (no.0, stop.1 ∙ no.1)

  written : (after : List ℕ) → accepted tt ≡ done (packed (take 24 page) fks) → after ≡ overwrite out 0 header
      → (accepted tt ≡ done (pack_extent page fks base count next)) × (after ≡ after_set page (pack_extent page fks base count next))
  written after e put =
      let whole = behind_yes page fks header 24 (omega arith) (size _ _ _ _) out wrote (sym e) in
      set_yes page after (pack_extent page fks base count next) (as_packed ∙ whole.1) (put ∙ whole.2)

-- the header's two writes adjoin
header_put : (out put after : List ℕ) (n link link_is base count : ℕ) → link ≡ link_is
    → put ≡ overwrite out 0 (bytes_of 1 2 ++ (bytes_of 2 n ++ bytes_of 5 link))
    → after ≡ overwrite put 8 (bytes_of 8 base ++ (bytes_of 4 count ++ bytes_of 4 0)) → after ≡ overwrite out 0 (extent_header n link_is base count 0)
unfolding extent_header
header_put out put after n link link_is base count e f g =
    g ∙ ap (λ (b : List ℕ). overwrite b 8 (bytes_of 8 base ++ (bytes_of 4 count ++ bytes_of 4 0))) f
    ∙ overwrite_adjoin out 0 (bytes_of 1 2 ++ (bytes_of 2 n ++ bytes_of 5 link)) (bytes_of 8 base ++ (bytes_of 4 count ++ bytes_of 4 0)) (omega arith)
    ∙ ap (λ (l : ℕ). overwrite out 0 (extent_header n l base count 0)) e

pub returns-in_err-pack_stream-clause-answer : goal.returns-in_err-pack_stream-clause-answer
returns-in_err-pack_stream-clause-answer c =
    let p = err_from_is_err_and c.from_residual-in_err-pack_stream.result c.from_residual-in_err-pack_stream.ensures.1 in
    rw (p.1, p.2)
    (stopped c.args.page.now c.args.fks.now c.pack_stream.new.page c.args.base c.args.n c.args.next c.in_ok-whole_page.ensures.whole
    (ap link_named (sym c.linked_off-off.ensures) ∙ sym c.in_ok-check_link.ensures) (sym c.in_ok-check_extent.ensures)
    c.in_err-pack_stream.ensures.page _ c.in_err-pack_stream.ensures.answer).0

pub returns-in_err-pack_stream-clause-page : goal.returns-in_err-pack_stream-clause-page
returns-in_err-pack_stream-clause-page c =
    (stopped c.args.page.now c.args.fks.now c.pack_stream.new.page c.args.base c.args.n c.args.next c.in_ok-whole_page.ensures.whole
    (ap link_named (sym c.linked_off-off.ensures) ∙ sym c.in_ok-check_link.ensures) (sym c.in_ok-check_extent.ensures)
    c.in_err-pack_stream.ensures.page _ c.in_err-pack_stream.ensures.answer).1

pub returns-clause-answer : goal.returns-clause-answer
returns-clause-answer c =
    (written c.args.page.now c.args.fks.now c.pack_stream.new.page c.args.base c.args.n c.args.next c.in_ok-whole_page.ensures.whole
    (ap link_named (sym c.linked_off-off.ensures) ∙ sym c.in_ok-check_link.ensures) (sym c.in_ok-check_extent.ensures)
    c.in_ok-pack_stream.ensures.page c.put_extent.new.page c.in_ok-pack_stream.ensures.answer
    (header_put c.pack_stream.new.page c.put_header.new.page c.put_extent.new.page (length c.args.fks.now) c.link_to-link.result _ c.args.base
    c.args.n (c.link_to-link.ensures ∙ ap (link_to (eqb c.args.next 0)) c.linked_off-off.ensures) c.put_header.ensures c.put_extent.ensures)).0

pub returns-clause-page : goal.returns-clause-page
returns-clause-page c =
    (written c.args.page.now c.args.fks.now c.pack_stream.new.page c.args.base c.args.n c.args.next c.in_ok-whole_page.ensures.whole
    (ap link_named (sym c.linked_off-off.ensures) ∙ sym c.in_ok-check_link.ensures) (sym c.in_ok-check_extent.ensures)
    c.in_ok-pack_stream.ensures.page c.put_extent.new.page c.in_ok-pack_stream.ensures.answer
    (header_put c.pack_stream.new.page c.put_header.new.page c.put_extent.new.page (length c.args.fks.now) c.link_to-link.result _ c.args.base
    c.args.n (c.link_to-link.ensures ∙ ap (link_to (eqb c.args.next 0)) c.linked_off-off.ensures) c.put_header.ensures c.put_extent.ensures)).1
