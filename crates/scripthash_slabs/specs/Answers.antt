-- What the answers of the code about slabs and classes mean: a refusal's number (FORMAT, Refusals) or what was told.
use Rattle.std.specs.Prelude.{ℕ, Option, Result}
use Rattle.error.specs.Refusal.{Answer}
use Rattle.error.specs.Answers.{result_answer, told_by}
use Rattle.error.specs.declared.Refusal.{Refusal}
use Rattle.std.proofs.Math.Option as maybe
use Rattle.scripthash_slabs.specs.Slab.{SlabList}
use Rattle.scripthash_slabs.specs.declared.payload.SlabPayload.{SlabPayload}

-- The answer of `decode_slab_payload_into`.
abbrev pub slab_answer : Result SlabPayload Refusal → Answer SlabList
slab_answer = result_answer (λ slab. record { used = slab.used; len = slab.len; padded = slab.padded })

-- The class that a choice answers, if it answers one.
abbrev pub chosen : Option ℕ → maybe.Option ℕ
chosen = told_by (λ class. class)
