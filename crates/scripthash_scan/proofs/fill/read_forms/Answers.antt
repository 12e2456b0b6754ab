-- By words, or else form by form.
use Rattle.std.proofs.Common.{◌≡◌, arith}
use Rattle.scripthash_scan.proofs.LawsFill.{short_again}
use Rattle.scripthash_scan.proofs.fill.read_forms.Goals as goal

pub returns : goal.returns
returns c =
    let a = c.args in
    let words = c.read_by_words-taken in
    let none : words.result ≡ 0 = omega arith in
    short_again c.read_singly.result a.top a.out.now words.new.out _ _ (rw none at words.ensures) c.read_singly.ensures
