-- `put_header` meets its contract: three writes that adjoin. Assumes nothing.
use Prim.Native.Nat.{ℕ}
use mathlib.Core.List.{List}
use mathlib.Core.Path.{◌≡◌, sym, ap, ◌∙◌}
use native.Mathlib.Omega.{arith}
use borrow.Author.Rules.{rules}
use lib.ListN.{length, length-set}
use Rattle.buffer.specs.Bytes.{overwrite}
use Rattle.buffer.specs.LittleEndian.{bytes_of}
use Rattle.buffer.proofs.LawsBytes.{length_overwrite}
use Rattle.scripthash_layout.specs.Sizes.{page_size}
use Rattle.scripthash_fields.specs.Page.{set_field}
use Rattle.scripthash_fields.proofs.LawsPage.{set_byte}
use Rattle.scripthash_pages.proofs.LawsAppend.{one_more_length}
use Rattle.scripthash_pages.proofs.LawsPack.{three_written}
use Rattle.scripthash_pages.proofs.pack.put_header.Statement.{statement}
use Rattle.scripthash_pages.proofs.pack.put_header.Tie as tie

-- version and count were written
module _ (c : tie.After-put_u16) where
  abbrev start : tie.Start
  start = c.before.before.before

  long : length c.put_u16.new.b ≡ page_size
  long =
      ap length c.put_u16.ensures ∙ one_more_length start.args.page.now start.args.version start.args.n (omega arith)
      ∙ start.requires

  written : c.put_u16.new.b ≡ overwrite (overwrite start.args.page.now 0 (bytes_of 1 start.args.version)) 1
      (bytes_of 2 start.args.n)
  unfolding set_field
  written =
      c.put_u16.ensures
      ∙ ap (λ (b : List ℕ). overwrite b 1 (bytes_of 2 start.args.n))
      (sym (set_byte start.args.page.now 0 start.args.version (search rules) (search rules)))

bounds-page-0 : tie.Need-bounds-page-0
bounds-page-0 c = search rules

put_u16-requires : tie.Need-put_u16-requires
put_u16-requires c κs = let s = c.before.before in omega (arith, length-set s.args.page.now 0 s.args.version, s.requires)

put_u40-requires : tie.Need-put_u40-requires
put_u40-requires c κs = omega (arith, long c.before.before.before)

shape_of-page : tie.Need-shape_of-page
shape_of-page c =
    let d = c.before.before.before.before.before.before in
    let whole = long d in
    ap length c.before.before.put_u40.ensures
    ∙ length_overwrite d.put_u16.new.b 3 (bytes_of 5 (start d).args.link) (omega arith) ∙ whole ∙ sym (start d).requires

returns : tie.Need-returns
returns c =
    let d = c.before.before.before.before.before.before in
    let a = (start d).args in
    c.before.before.put_u40.ensures ∙ ap (λ (b : List ℕ). overwrite b 3 (bytes_of 5 a.link)) (written d)
    ∙ three_written a.page.now 0 (bytes_of 1 a.version) (bytes_of 2 a.n) (bytes_of 5 a.link) (omega arith)

pub put_header_spec : {M : Type 1} → statement M
put_header_spec = tie.close (tie.spec bounds-page-0 put_u16-requires put_u40-requires shape_of-page returns)
