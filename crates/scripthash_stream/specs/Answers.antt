-- What the answers of the code about streams mean: a refusal's number (FORMAT, Refusals) or what was told.
use Rattle.std.specs.Prelude.{ℕ, Result}
use Rattle.error.specs.Refusal.{Answer}
use Rattle.error.specs.Answers.{result_answer}
use Rattle.error.specs.declared.Refusal.{Refusal}
use Rattle.compact.specs.Uleb128.{Reading}
use Rattle.scripthash_stream.specs.Stream.{End, StreamTold}
use Rattle.scripthash_stream.specs.declared.stream.NextFk.{NextFk}
use Rattle.scripthash_stream.specs.declared.stream.Scanned.{Scanned}
use Rattle.scripthash_stream.specs.declared.stream.StreamRead.{StreamRead}

-- The next number of a stream.
abbrev pub next_answer : Result NextFk Refusal → Answer Reading
next_answer = result_answer (λ next. record { value = next.fk; len = next.len })

-- The answer of `scan_fk_delta_stream`.
abbrev pub scan_answer : Result Scanned Refusal → Answer End
scan_answer = result_answer (λ scanned. record { taken = scanned.taken; last = scanned.last })

-- The answer of the stream's encoder, and of reading a stream in two passes.
abbrev pub bytes_answer : Result ℕ Refusal → Answer ℕ
bytes_answer = result_answer (λ len. len)

-- The answer of `decode_fk_delta_stream_into`.
abbrev pub stream_read_answer : Result StreamRead Refusal → Answer StreamTold
stream_read_answer = result_answer (λ read. record { taken = read.taken; padded = read.padded })
