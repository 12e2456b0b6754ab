-- What the answers of the code about keys mean: a refusal's number (FORMAT, Refusals) or what was told.
use Rattle.std.specs.Prelude.{ℕ, Result}
use Rattle.error.specs.Refusal.{Answer}
use Rattle.error.specs.Answers.{result_answer}
use Rattle.error.specs.declared.Refusal.{Refusal}
use Rattle.book_keys.specs.Keys.{Last}
use Rattle.book_keys.specs.Steps.{TailEndOf, LinkEndOf, Walked, ChainEndOf, FillTold, Counts}
use Rattle.book_keys.specs.declared.chain.LastPage.{LastPage}
use Rattle.book_keys.specs.declared.chain.TailEnd.{TailEnd}
use Rattle.book_keys.specs.declared.chain.LinkEnd.{LinkEnd}
use Rattle.book_keys.specs.declared.chain.ChainEnd.{ChainEnd}
use Rattle.book_keys.specs.declared.chain.PageFill.{PageFill}
use Rattle.book_keys.specs.declared.key.KeyCounts.{KeyCounts}

-- The header of a key's last page.
abbrev pub last_page_answer : Result LastPage Refusal → Answer Last
last_page_answer = result_answer (λ header. record { first = header.first; creates = header.creates })

-- The answer of `tail_end`.
abbrev pub tail_answer : Result TailEnd Refusal → Answer TailEndOf
tail_answer = result_answer (λ tail. record { taken = tail.taken; fk = tail.fk; first = tail.first; creates = tail.creates })

-- A page of a chain.
abbrev pub link_end_answer : Result LinkEnd Refusal → Answer LinkEndOf
link_end_answer =
    result_answer (λ page. record { count = page.count; fk = page.fk; last = page.last; next = page.next; padded = page.padded })

-- Pages walked.
abbrev pub walk_answer : Result KeyCounts Refusal → Answer Walked
walk_answer = result_answer (λ walked. record { length = walked.length; pages = walked.pages; padded = walked.padded })

-- The answer of `chain_end`.
abbrev pub chain_answer : Result ChainEnd Refusal → Answer ChainEndOf
chain_answer =
    result_answer (λ chain. record { first = chain.first; length = chain.length; pages = chain.pages; padded = chain.padded })

-- A page that a list was filled from.
abbrev pub fill_answer : Result PageFill Refusal → Answer FillTold
fill_answer = result_answer (λ filled. record { count = filled.count; next = filled.next })

-- The answer of `read_key`.
abbrev pub counts_answer : Result KeyCounts Refusal → Answer Counts
counts_answer = result_answer (λ counts. record { length = counts.length; pages = counts.pages; padded = counts.padded })

-- The answer of `key_length`.
abbrev pub length_answer : Result ℕ Refusal → Answer ℕ
length_answer = result_answer (λ length. length)
