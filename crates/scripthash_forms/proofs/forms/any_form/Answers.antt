-- `any_form` meets its contract: it tells what was read.
use Rattle.std.proofs.Common.{sym}
use Rattle.compact.proofs.LawsPadded.{number_back}
use Rattle.scripthash_forms.proofs.LawsForms.{quick_form}
use Rattle.scripthash_forms.proofs.forms.any_form.Goals as goal

pub returns : goal.returns
returns c =
    quick_form c.in-Ok.form.value c.in-Ok.form.len c.args.bytes.now (number_back c.args.bytes.now (sym c.in-Ok.ensures))
