-- Lists of calls: spelled and read back they are the calls, and words that read as calls are their spelling. Assumes nothing.
use Prim.Native.Nat.{ℕ, suc, ◌+◌, ◌≤◌, ◌<◌, zero-le, suc-le-suc}
use mathlib.Core.Bool.{Bool, true, false, cond}
use mathlib.Core.List.{List, [], ◌∷◌, ◌++◌}
use mathlib.Core.Option.{Option, none, some}
use mathlib.Core.Logic.{◌⊎◌, inl, inr, ⊎_elim}
use mathlib.Core.Path.{◌≡◌, refl, sym, ap, ◌∙◌}
use native.Mathlib.Nat.{le_refl}
use native.Mathlib.Numerals.{add-one}
use native.Mathlib.Omega.{arith}
use borrow.Author.Tests.{le-leb, eqb-true, leb-true}
use lib.Dec.{leb, eqb}
use lib.ListN.{length, get_or, take as first_of, drop as behind, length-append, length-drop, take-append-drop}
use lib.Seq.{take-append_seam, drop-append_seam, length-take-le, drop-cons}
use Rattle.book_rules.specs.declared.places.SlabFit.{SlabFit}
use Rattle.book_rules.specs.declared.places.SlabFit.TheVariants.{Spare, Tight}
use Rattle.book_words.specs.Spelled.{SpelledCall, load, append, read, drop}
use Rattle.book_words.specs.Words.{Begins, begins, word, before}
use Rattle.book_words.specs.SpellCalls.{load_kind, is_load, fit_of, spell_call, spell_calls, load_of, call_of, call_at, calls_of}
use Rattle.book_words.proofs.LawsWords.{some_inj, none≢some, AllGood, reads_all, spelled_all, reads_none, reads_some}

-- ---- spelled, and read back

-- a call has words
call_words : (c : SpelledCall) → 0 < length (spell_call c)
unfolding spell_call
call_words (load fit key ns) = suc-le-suc zero-le
call_words (append key n) = suc-le-suc zero-le
call_words (read key room) = suc-le-suc zero-le
call_words (drop key) = suc-le-suc zero-le

-- the kind of a load is a load's, and tells its rule
load_kind_lem : (fit : SlabFit) → is_load (load_kind fit) ≡ true
unfolding is_load load_kind
load_kind_lem Spare = refl
load_kind_lem Tight = refl

fit_back : (fit : SlabFit) → fit_of (load_kind fit) ≡ fit
unfolding fit_of load_kind
fit_back Spare = refl
fit_back Tight = refl

-- a call reads back, whatever follows its words
pub call_back : (c : SpelledCall) (rest : List ℕ) → call_at (spell_call c ++ rest) ≡ begins c rest
unfolding spell_call call_at call_of word is_load
call_back (load fit key ns) rest =
    let room : length ns ≤ length (ns ++ rest) = omega (arith, length-append ns rest) in
    rw (load_kind_lem fit, fit_back fit, le-leb (length ns) (length (ns ++ rest)) room, take-append_seam ns rest, drop-append_seam ns rest)
call_back (append key n) rest = refl
call_back (read key room) rest = refl
call_back (drop key) rest = refl

-- every list of calls will do
any_calls : (cs : List SpelledCall) → AllGood (λ (c : SpelledCall). Unit {0}) cs
unfolding AllGood
any_calls [] = tt
any_calls (c ∷ cs) = (tt, any_calls cs)

-- A list of calls, spelled and read back, is the list.
pub calls_back : (cs : List SpelledCall) → calls_of (spell_calls cs) ≡ some cs
calls_back cs =
    reads_all spell_call call_at (λ (c : SpelledCall). Unit {0}) call_words (λ (c : SpelledCall) (rest : List ℕ) g. call_back c rest) cs
    (length (spell_calls cs)) (le_refl _) (any_calls cs)

-- ---- read, and spelled

-- what a choice came from
branch : (t : Bool) (x y z : Option (Begins SpelledCall)) → cond t x y ≡ z → ((t ≡ true) × (x ≡ z)) ⊎ (y ≡ z)
branch true x y z e = inl (refl, e)
branch false x y z e = inr e

-- a load's kind is that of its rule
kind_was : (kind : ℕ) → is_load kind ≡ true → load_kind (fit_of kind) ≡ kind
unfolding is_load fit_of load_kind
kind_was kind e = go (eqb kind 0) refl e
  where
    go : (t : Bool) → eqb kind 0 ≡ t → cond t true (eqb kind 4) ≡ true → load_kind (cond t Spare Tight) ≡ kind
    go true z e = sym (eqb-true kind 0 z)
    go false z e = sym (eqb-true kind 4 e)

-- the words of what was read
abbrev words_of : Begins SpelledCall → List ℕ
words_of b = spell_call b.first ++ b.rest

-- a load's words
load_was : (fit : SlabFit) (key count : ℕ) (rest : List ℕ) (b : Begins SpelledCall) → load_of fit key count rest ≡ some b
    → words_of b ≡ load_kind fit ∷ key ∷ count ∷ rest
unfolding spell_call
load_was fit key count rest b e =
    ⊎_elim (λ (w : (leb count (length rest) ≡ true) × (begins (load fit key (first_of count rest)) (behind count rest) ≡ some b)).
    let fits : length (first_of count rest) ≡ count = length-take-le count rest (leb-true count (length rest) w.0) in
    ap words_of (sym (some_inj w.1)) ∙ rw (fits, take-append-drop count rest))
    (λ (n : none ≡ some b). absurd (none≢some n))
    (branch (leb count (length rest)) _ none (some b) e)

-- A call that some words begin with was spelled by them.
pub call_was : (ws : List ℕ) (b : Begins SpelledCall) → call_at ws ≡ some b → spell_call b.first ++ b.rest ≡ ws
unfolding call_at call_of word spell_call
call_was [] b e = absurd (none≢some e)
call_was (kind ∷ []) b e = absurd (none≢some e)
call_was (kind ∷ key ∷ []) b e = absurd (none≢some e)
call_was (kind ∷ key ∷ third ∷ rest) b e =
    ⊎_elim (λ (w : (is_load kind ≡ true) × (load_of (fit_of kind) key third rest ≡ some b)).
    load_was (fit_of kind) key third rest b w.1 ∙ ap (λ (n : ℕ). n ∷ key ∷ third ∷ rest) (kind_was kind w.0))
    (λ e1. ⊎_elim (λ (w : (eqb kind 1 ≡ true) × (begins (append key third) rest ≡ some b)). ap words_of (sym (some_inj w.1))
    ∙ of_kind 1 w.0)
    (λ e2. ⊎_elim (λ (w : (eqb kind 2 ≡ true) × (begins (read key third) rest ≡ some b)). ap words_of (sym (some_inj w.1))
    ∙ of_kind 2 w.0)
    (λ e3. ⊎_elim (λ (w : (eqb kind 3 ≡ true) × (cond (eqb third 0) (begins (drop key) rest) none ≡ some b)).
    ⊎_elim (λ (v : (eqb third 0 ≡ true) × (begins (drop key) rest ≡ some b)).
    ap words_of (sym (some_inj v.1)) ∙ ap (λ (n : ℕ). 3 ∷ key ∷ n ∷ rest) (sym (eqb-true third 0 v.0)) ∙ of_kind 3 w.0)
    (λ (n : none ≡ some b). absurd (none≢some n)) (branch (eqb third 0) _ none (some b) w.1))
    (λ (n : none ≡ some b). absurd (none≢some n)) (branch (eqb kind 3) _ _ _ e3)) (branch (eqb kind 2) _ _ _ e2))
    (branch (eqb kind 1) _ _ _ e1)) (branch (is_load kind) _ _ _ e)
  where
    of_kind : (k : ℕ) → eqb kind k ≡ true → k ∷ key ∷ third ∷ rest ≡ kind ∷ key ∷ third ∷ rest
    of_kind k t = ap (λ (n : ℕ). n ∷ key ∷ third ∷ rest) (sym (eqb-true kind k t))

-- Words that read as calls are the words of these calls.
pub calls_was : (ws : List ℕ) (cs : List SpelledCall) → calls_of ws ≡ some cs → spell_calls cs ≡ ws
calls_was ws cs e = spelled_all spell_call call_at call_was (length ws) ws cs e

-- ---- the calls of words, one by one

-- a call takes a word at least
call_shrinks : (ws : List ℕ) (b : Begins SpelledCall) → call_at ws ≡ some b → length b.rest < length ws
call_shrinks ws b e =
    omega (arith, ap length (call_was ws b e), length-append (spell_call b.first) b.rest, call_words b.first)

-- words that begin no call spell no calls
pub calls_none : (ws : List ℕ) → 0 < length ws → call_at ws ≡ none → calls_of ws ≡ none
calls_none ws h e = reads_none call_at call_shrinks ws h e

-- others spell the call that they begin with, and those of the words behind it
pub calls_some : (ws : List ℕ) (b : Begins SpelledCall) → 0 < length ws → call_at ws ≡ some b
    → calls_of ws ≡ before b.first (calls_of b.rest)
calls_some ws b h e = reads_some call_at call_shrinks ws b h e

-- fewer than three words begin no call
call_few : (ws : List ℕ) → length ws < 3 → call_at ws ≡ none
unfolding call_at word
call_few [] l = refl
call_few (a ∷ []) l = refl
call_few (a ∷ b ∷ []) l = refl
call_few (a ∷ b ∷ c ∷ ws) l = absurd (omega arith)

-- The call at an index of a buffer, by its first three words.
module _ (calls : List ℕ) (at : ℕ) where
  pub call_at_lem : at + 3 ≤ length calls
      → call_at (behind at calls) ≡ call_of (get_or calls at 0) (get_or calls (at + 1) 0) (get_or calls (at + 2) 0) (behind (at + 3) calls)
  unfolding call_at word
  call_at_lem h =
      let one : at + 1 ≡ suc at = add-one at in
      let two : at + 2 ≡ suc (suc at) = omega arith in
      let three : at + 3 ≡ suc (suc (suc at)) = omega arith in
      rw (
        one,
        two,
        three,
        drop-cons calls at 0 (omega arith),
        drop-cons calls (suc at) 0 (omega arith),
        drop-cons calls (suc (suc at)) 0 (omega arith),
      )

  pub call_short : length calls < at + 3 → call_at (behind at calls) ≡ none
  call_short h = call_few (behind at calls) (simp length-drop (omega arith))
