use Rattle.std.proofs.Common.{◌≡◌, ℕ, List, drop, refl, ◌∙◌}
use Rattle.buffer.specs.Bytes.{part}
use Rattle.buffer.specs.LittleEndian.{little_endian}
use Rattle.scripthash_words.specs.Words.{four_bytes}
use Rattle.scripthash_words.proofs.starts.word_at.Goals as goal

-- the word at a place is the number in the four bytes from there on
word_part : (bs : List ℕ) (i : ℕ) → little_endian (part bs i 4) ≡ four_bytes (drop i bs)
unfolding part four_bytes
word_part bs i = refl

pub returns : goal.returns
returns c = c.get_u32.ensures ∙ word_part c.args.buf.now c.args.i
