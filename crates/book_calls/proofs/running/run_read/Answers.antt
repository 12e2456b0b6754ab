-- `run_read` meets its contract: the read's own, into the part behind four words, and then these words.
use Rattle.std.proofs.Common.{ℕ, List, [], arith}
use Rattle.book.specs.Book.{Book}
use Rattle.book_read.specs.Reads.{reads}
use Rattle.book.specs.Answers.{book_of}
use Rattle.book_calls.proofs.LawsPut.{re_written}
use Rattle.book_calls.proofs.LawsRead.{Put, put_reads}
use Rattle.book_calls.proofs.running.run_read.Goals as goal

pub put_read-requires : goal.put_read-requires
put_read-requires c =
    let book : (free : List ℕ) → (counts : List ℕ) → Book =
    λ free counts.
    book_of c.args.body.now c.args.heads.now c.args.mark free counts in
    let key : (free : List ℕ) → (counts : List ℕ) → ℕ = λ free counts. c.args.key in
    let room : (free : List ℕ) → (counts : List ℕ) → ℕ = λ free counts. c.args.room in
    let out : (free : List ℕ) → (counts : List ℕ) → List ℕ = λ free counts. c.args.out.now in
    let part : (free : List ℕ) → (counts : List ℕ) → List ℕ = λ free counts. c.read-answer.new.out in
    let done :
    (free : List ℕ)
    → (counts : List ℕ)
    → Put (book free counts) (key free counts) (room free counts) (out free counts) c.requires (reads (book free counts) (key free
    counts) (room free counts)) c.read-answer.result (part free counts) =
    λ free counts.
    put_reads (book free counts) (key free counts) (room free counts) (out free counts) c.requires c.read-answer.result (part free
    counts) (c.read-answer.ensures.answer free counts) (c.read-answer.ensures.list free counts) in
    let p = done [] [] in (omega (arith, p.same), omega (arith, p.same, p.long))

pub returns : goal.returns
returns c free counts =
    let book : (free : List ℕ) → (counts : List ℕ) → Book =
    λ free counts.
    book_of c.args.body.now c.args.heads.now c.args.mark free counts in
    let key : (free : List ℕ) → (counts : List ℕ) → ℕ = λ free counts. c.args.key in
    let room : (free : List ℕ) → (counts : List ℕ) → ℕ = λ free counts. c.args.room in
    let out : (free : List ℕ) → (counts : List ℕ) → List ℕ = λ free counts. c.args.out.now in
    let part : (free : List ℕ) → (counts : List ℕ) → List ℕ = λ free counts. c.read-answer.new.out in
    let done :
    (free : List ℕ)
    → (counts : List ℕ)
    → Put (book free counts) (key free counts) (room free counts) (out free counts) c.requires (reads (book free counts) (key free
    counts) (room free counts)) c.read-answer.result (part free counts) =
    λ free counts.
    put_reads (book free counts) (key free counts) (room free counts) (out free counts) c.requires c.read-answer.result (part free
    counts) (c.read-answer.ensures.answer free counts) (c.read-answer.ensures.list free counts) in
    let p = done free counts in
    let put = c.put_read in
    re_written put.ensures.words (p.said put.result put.ensures.len)
