-- `sh_page_pack_fks`: each test refuses before anything is written; then the stream, and the header over the first 8 bytes.
use Prim.Native.Nat.{ℕ, ◌≤◌}
use mathlib.Core.List.{List, ◌++◌}
use mathlib.Core.Path.{◌≡◌, refl, sym, ap, ◌∙◌}
use native.Mathlib.Omega.{arith}
use lib.Dec.{eqb}
use lib.ListN.{length, take}
use Rattle.std.proofs.lemmas.Result.{err_from_is_err_and}
use Rattle.error.specs.Refusal.{accepted, refused}
use Rattle.buffer.specs.Bytes.{overwrite}
use Rattle.buffer.specs.LittleEndian.{bytes_of}
use Rattle.scripthash_layout.specs.Sizes.{page_size}
use Rattle.scripthash_fields.specs.Page.{link_to, delta_header, link_named}
use Rattle.scripthash_fields.specs.Fields.{done, after_set}
use Rattle.scripthash_fields.proofs.LawsPage.{page_yes}
use Rattle.scripthash_fields.proofs.LawsFields.{link_yes, set_no, set_yes}
use Rattle.scripthash_pages.specs.Pack.{packed, pack_page}
use Rattle.scripthash_pages.proofs.LawsPack.{behind_no, behind_yes}
use Rattle.scripthash_pages.proofs.pack.sh_page_pack_fks.Goals as goal

-- the header's length
size : (count link : ℕ) → length (delta_header count link) ≡ 8
unfolding delta_header
size count link = refl

-- a page whose link was tested, with what the stream's packing left
module _ (page fks out : List ℕ) (next : ℕ) (long : length page ≡ page_size) (named : link_named next ≡ accepted tt)
    (wrote : out ≡ after_set page (packed (take 8 page) fks)) where
  abbrev header : List ℕ
  header = delta_header (length fks) (link_to (eqb next 0) next)

  as_packed : pack_page page fks next ≡ packed header fks
  unfolding pack_page
  as_packed = page_yes page _ long ∙ link_yes next _ named

  stopped : (number : ℕ) → refused number ≡ done (packed (take 8 page) fks)
      → (refused number ≡ done (pack_page page fks next)) × (out ≡ after_set page (pack_page page fks next))
  stopped number e =
      let stop = behind_no page fks header 8 (omega arith) (size _ _) out wrote (sym e) in
      let no = set_no page (pack_page page fks next) (as_packed ∙ stop.0) in
      (no.0, stop.1 ∙ no.1)

  written : (after : List ℕ) → accepted tt ≡ done (packed (take 8 page) fks) → after ≡ overwrite out 0 header
      → (accepted tt ≡ done (pack_page page fks next)) × (after ≡ after_set page (pack_page page fks next))
  written after e put =
      let good = behind_yes page fks header 8 (omega arith) (size _ _) out wrote (sym e) in
      set_yes page after (pack_page page fks next) (as_packed ∙ good.1) (put ∙ good.2)

pub returns-in_err-pack_stream-clause-answer : goal.returns-in_err-pack_stream-clause-answer
returns-in_err-pack_stream-clause-answer c =
    let p = err_from_is_err_and c.from_residual-in_err-pack_stream.result c.from_residual-in_err-pack_stream.ensures.1 in
    rw (p.1, p.2)
    (stopped c.args.page.now c.args.fks.now c.pack_stream.new.page c.args.next c.in_ok-whole_page.ensures.whole (sym c.in_ok-check_link.ensures)
    c.in_err-pack_stream.ensures.page _ c.in_err-pack_stream.ensures.answer).0

pub returns-in_err-pack_stream-clause-page : goal.returns-in_err-pack_stream-clause-page
returns-in_err-pack_stream-clause-page c =
    (stopped c.args.page.now c.args.fks.now c.pack_stream.new.page c.args.next c.in_ok-whole_page.ensures.whole (sym c.in_ok-check_link.ensures)
    c.in_err-pack_stream.ensures.page _ c.in_err-pack_stream.ensures.answer).1

-- the header that was put is the page's
put_is : (out : List ℕ) (count next link : ℕ) → link ≡ link_to (eqb next 0) next
    → overwrite out 0 (bytes_of 1 1 ++ (bytes_of 2 count ++ bytes_of 5 link)) ≡ overwrite out 0 (delta_header count (link_to (eqb next 0) next))
unfolding delta_header
put_is out count next link e = ap (λ (l : ℕ). overwrite out 0 (bytes_of 1 1 ++ (bytes_of 2 count ++ bytes_of 5 l))) e

pub returns-clause-answer : goal.returns-clause-answer
returns-clause-answer c =
    (written c.args.page.now c.args.fks.now c.pack_stream.new.page c.args.next c.in_ok-whole_page.ensures.whole (sym c.in_ok-check_link.ensures)
    c.in_ok-pack_stream.ensures.page c.put_header.new.page c.in_ok-pack_stream.ensures.answer
    (c.put_header.ensures ∙ put_is c.pack_stream.new.page (length c.args.fks.now) c.args.next c.link_to-link.result c.link_to-link.ensures)).0

pub returns-clause-page : goal.returns-clause-page
returns-clause-page c =
    (written c.args.page.now c.args.fks.now c.pack_stream.new.page c.args.next c.in_ok-whole_page.ensures.whole (sym c.in_ok-check_link.ensures)
    c.in_ok-pack_stream.ensures.page c.put_header.new.page c.in_ok-pack_stream.ensures.answer
    (c.put_header.ensures ∙ put_is c.pack_stream.new.page (length c.args.fks.now) c.args.next c.link_to-link.result c.link_to-link.ensures)).1
