-- `go_on` meets its contract: it goes on in place where the shape and the key allow that.
use Rattle.std.proofs.Common.{ℕ, ◌<◌, ◌≤◌, [], List, Result, Ok, Err, false, ◌≡◌, sym, ◌∙◌, subst, arith, length, get_or, true≢false, true}
use Rattle.std.specs.Result.{result_unwrap_or}
use Rattle.error.specs.declared.Refusal.{Refusal}
use Rattle.book_space.specs.Space.{space, shape_broken}
use Rattle.book_space.proofs.LawsShape.{shape_holds}
use Rattle.book.specs.Answers.{book_of}
use Rattle.book_extend.specs.Steps.{Stopped, Extending, Reaches, GoesOn}
use Rattle.book_extend.proofs.LawsPast.{unsound_not}
use Rattle.book_extend.proofs.extending.go_on.Goals as goal

-- nothing was appended
none : (body heads : List ℕ) (mark key : ℕ) (ns : List ℕ) (i : ℕ) → i ≤ length ns → Stopped body heads mark key ns i
    → GoesOn body heads mark key ns i body heads i
none body heads mark key ns i within stop =
    record { later = omega arith; within = within; goes = λ desk free counts known whole moves rewritten x. x; stopped = stop }

-- numbers went into the key's block as far as was told, or none did
gone : (body heads : List ℕ) (mark key : ℕ) (ns : List ℕ) (i : ℕ) (body' heads' : List ℕ) (r : Result ℕ Refusal) → i ≤ length ns
    → ((free : List ℕ) → shape_broken (space body mark free) (length heads) ≡ false) → key < length heads
    → Reaches body heads mark key ns i body' heads' r → GoesOn body heads mark key ns i body' heads' (result_unwrap_or r i)
gone body heads mark key ns i body' heads' (Ok j) within shape keyed p =
    record {
      later = p.later;
      within = p.within;
      goes = λ desk free counts known whole moves rewritten x.
          p.goes desk free counts (record { shape = shape free; known = known; keyed = keyed }) whole moves rewritten x;
      stopped = p.stopped;
    }
gone body heads mark key ns i body' heads' (Err refusal) within shape keyed (number, p) =
    record {
      later = omega arith;
      within = within;
      goes = λ desk free counts known whole moves rewritten x.
          subst (λ (l : List ℕ). Extending desk key ns whole (book_of l heads' mark free counts) i moves rewritten) (sym p.body_kept)
          (subst (λ (l : List ℕ). Extending desk key ns whole (book_of body l mark free counts) i moves rewritten) (sym p.heads_kept) x);
      stopped =
          subst (λ (l : List ℕ). Stopped l heads' mark key ns i) (sym p.body_kept)
          (subst (λ (l : List ℕ). Stopped body l mark key ns i) (sym p.heads_kept)
          (λ more free shape. unsound_not (book_of body heads mark free []) key (get_or ns i 0) (p.unsound free [])));
    }

pub returns-then-from-fks : goal.returns-then-from-fks
returns-then-from-fks c =
    let a = c.args in
    none a.body.now a.heads.now a.mark a.key a.fks.now a.from c.requires.1 (λ more. absurd (omega (arith, more, c.if-from-fks.true)))

pub returns-then-shape_broken : goal.returns-then-shape_broken
returns-then-shape_broken c =
    let a = c.args in
    none a.body.now a.heads.now a.mark a.key a.fks.now a.from c.requires.1
    (λ more free shape. absurd (true≢false (sym c.if-shape_broken.true ∙ c.shape_broken.ensures free ∙ shape)))

pub extend_in_place-requires : goal.extend_in_place-requires
extend_in_place-requires c =
    let a = c.args in
    let shape = shape_holds (space a.body.now a.mark []) (length a.heads.now) (sym (c.shape_broken.ensures []) ∙ c.if-shape_broken.false) in
    (shape.0.within, c.requires.0, c.requires.1)

pub returns : goal.returns
returns c =
    let a = c.args in
    let shape : (free : List ℕ) → shape_broken (space a.body.now a.mark free) (length a.heads.now) ≡ false =
    λ free. sym (c.shape_broken.ensures free) ∙ c.if-shape_broken.false in
    rw c.unwrap_or.ensures
    (gone a.body.now a.heads.now a.mark a.key a.fks.now a.from c.extend_in_place.new.body c.extend_in_place.new.heads c.extend_in_place.result
    c.requires.1 shape c.requires.0 c.extend_in_place.ensures)
