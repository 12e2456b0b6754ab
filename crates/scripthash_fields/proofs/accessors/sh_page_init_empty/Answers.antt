-- `sh_page_init_empty`: zeros with the version and LAST written.
use Prim.Native.Nat.{ℕ}
use mathlib.Core.Path.{ap, ◌∙◌}
use lib.ListN.{replicate, set}
use Rattle.scripthash_fields.specs.Fields.{init_empty}
use Rattle.scripthash_fields.proofs.LawsPage.{page_yes}
use Rattle.scripthash_fields.proofs.LawsFields.{empty_written, set_yes}
use Rattle.scripthash_fields.proofs.accessors.sh_page_init_empty.Goals as goal

pub returns-clause-page : goal.returns-clause-page
unfolding init_empty
returns-clause-page c =
    let page = c.args.page.now in
    let zeros = c.fill.ensures.after (λ y e. cc) ∙ ap (λ (n : ℕ). replicate n 0) c.in_ok-whole_page.ensures.whole in
    (set_yes page (set (set c.fill.new.self 0 1) 3 1) (init_empty page) (page_yes page _ c.in_ok-whole_page.ensures.whole)
    (empty_written c.fill.new.self zeros)).1
