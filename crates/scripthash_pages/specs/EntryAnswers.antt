-- What the answers about a page's stream mean: a refusal's number (FORMAT, Refusals) or what was told.
use Rattle.std.specs.Prelude.{ℕ, Bool, true, false, Result}
use Rattle.error.specs.Refusal.{Answer}
use Rattle.error.specs.Answers.{result_answer}
use Rattle.error.specs.declared.Refusal.{Refusal}
use Rattle.scripthash_pages.specs.declared.answers.PageEntries.{PageEntries}
use Rattle.scripthash_pages.specs.declared.answers.PageSlice.{PageSlice}
use Rattle.scripthash_pages.specs.declared.answers.TryAppend.{TryAppend}
use Rattle.scripthash_pages.specs.declared.answers.TryAppend.TheVariants.{Appended, Full}

-- The answer of `sh_page_last_fk`.
abbrev pub last_fk_answer : Result ℕ Refusal → Answer ℕ
last_fk_answer = result_answer (λ fk. fk)

-- What reading a page's numbers tells: how many, and how many of them are padded.
pub record EntriesRead : Type 0 where
  pub count : ℕ
  pub padded : ℕ

-- The answer of `sh_page_entries_into`.
abbrev pub entries_answer : Result PageEntries Refusal → Answer EntriesRead
entries_answer = result_answer (λ read. record { count = read.count; padded = read.padded })

-- What reading a page tells besides its numbers: how many, the offset of the page behind it, and how many of the numbers are padded.
pub record PageRead : Type 0 where
  pub count : ℕ
  pub next : ℕ
  pub padded : ℕ

-- The answer of `sh_page_decode_slice_into`.
abbrev pub slice_answer : Result PageSlice Refusal → Answer PageRead
slice_answer = result_answer (λ read. record { count = read.count; next = read.next; padded = read.padded })

-- Whether a number was appended.
abbrev pub was_appended : TryAppend → Bool
was_appended Appended = true
was_appended Full = false

-- The answer of `sh_page_try_append`: whether the number was appended.
abbrev pub try_answer : Result TryAppend Refusal → Answer Bool
try_answer = result_answer was_appended
