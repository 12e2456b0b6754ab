-- `first_number` meets its contract: it tells what was read, where that is a number of a stream.
use Rattle.std.proofs.Common.{◌≡◌, ℕ, ◌<◌, List, sym, arith}
use Rattle.error.specs.Refusal.{accepted}
use Rattle.compact.specs.Uleb128.{read_uleb}
use Rattle.compact.proofs.LawsPadded.{number_back}
use Rattle.compact.proofs.LawsRead.{read_accepted}
use Rattle.scripthash_words.proofs.LawsFilling.{first_read}
use Rattle.scripthash_words.proofs.first.first_number.Goals as goal

-- a form that was read has some bytes
some_bytes : (value len : ℕ) (bs : List ℕ) → read_uleb bs ≡ accepted (record { value = value; len = len }) → 0 < len
some_bytes value len bs e = let got = read_accepted bs (record { value = value; len = len }) e in omega (arith, got.len_pos)

pub invariant_of-result : goal.invariant_of-result
invariant_of-result c = record {
  some = some_bytes c.in-Ok.form.value c.in-Ok.form.len c.args.buf.now (number_back c.args.buf.now (sym c.in-Ok.ensures));
}

pub returns : goal.returns
returns c =
    first_read c.in-Ok.form.value c.in-Ok.form.len c.args.buf.now (number_back c.args.buf.now (sym c.in-Ok.ensures)) (omega arith) (omega arith)
