use Rattle.std.proofs.Common.{◌≡◌, ℕ, sym, ap, ◌∙◌, arith}
use Rattle.buffer.specs.Bytes.{overwrite}
use Rattle.buffer.specs.LittleEndian.{bytes_of, AreBytes}
use Rattle.scripthash_free.specs.FreeList.{next_of}
use Rattle.free_runs.proofs.LawsLinks.{link_kept}
use Rattle.free_runs.proofs.unlinking.relink.Goals as goal

pub returns-else-link-to : goal.returns-else-link-to
returns-else-link-to c =
    let body = c.args.body.now in
    let bytes : AreBytes body = λ i p. omega (arith, c.type_inv.body i) in
    let same : c.args.to ≡ next_of body c.args.at = let e = c.requires.link_is in omega arith in
    sym (ap (λ (v : ℕ). overwrite body c.args.at (bytes_of 8 v)) same ∙ link_kept body c.args.at bytes c.requires.inside)
