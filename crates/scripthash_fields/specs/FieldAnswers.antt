-- What the answers about a page's fields mean: a refusal's number (FORMAT, Refusals) or what was told.
use Rattle.std.specs.Prelude.{ℕ, Bool, Option, Result}
use Rattle.std.proofs.Math.Option as maybe
use Rattle.error.specs.Refusal.{Answer}
use Rattle.error.specs.Answers.{result_answer, told_by}
use Rattle.error.specs.declared.Refusal.{Refusal}
use Rattle.scripthash_fields.specs.declared.answers.PageLink.{PageLink}
use Rattle.scripthash_fields.specs.declared.answers.PageExtent.{PageExtent}

-- What a link says: LAST or not, and the offset of the page that it names.
pub record Link : Type 0 where
  pub last : Bool
  pub off : ℕ

-- The answer of `sh_page_read_packed`.
abbrev pub link_answer : Result PageLink Refusal → Answer Link
link_answer = result_answer (λ link. record { last = link.last; off = link.off })

-- The answer of `sh_page_is_last`.
abbrev pub last_answer : Result Bool Refusal → Answer Bool
last_answer = result_answer (λ last. last)

-- The answer of `sh_page_first_off` and `sh_page_next`.
abbrev pub offset_answer : Result ℕ Refusal → Answer ℕ
offset_answer = result_answer (λ off. off)

-- An extent: its base, and how many pages it has.
pub record Extent : Type 0 where
  pub base : ℕ
  pub count : ℕ

-- The answer of `sh_page_extent`.
abbrev pub extent_answer : Result (Option PageExtent) Refusal → Answer (maybe.Option Extent)
extent_answer = result_answer (told_by (λ extent. record { base = extent.base; count = extent.n }))

-- The answer of `sh_page_extent_creates`.
abbrev pub creates_answer : Result ℕ Refusal → Answer ℕ
creates_answer = result_answer (λ n. n)

-- The answer of `sh_page_n_fks`, `sh_page_stream_off` and `sh_page_stream_cap`.
abbrev pub count_answer : Result ℕ Refusal → Answer ℕ
count_answer = result_answer (λ n. n)

-- The answer of `sh_page_require_delta` and of calls that set.
abbrev pub done_answer : Result (Unit {0}) Refusal → Answer (Unit {0})
done_answer = result_answer (λ done. tt)
