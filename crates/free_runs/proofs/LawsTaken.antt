-- A run taken out of freed pages: the search over the bytes is the rule over the stack, what is left is the stack without the run's
-- pages, and only links of pages whose successor went are changed. Assumes nothing.
use Rattle.std.proofs.Common.{◌≡◌, ℕ, ◌+◌, ◌*◌, ◌%◌, ◌^◌, ◌<◌, ◌≤◌, Bool, true, false, ◌⊎◌, List, [], ◌∷◌, length, sym, refl, ap, ◌∙◌, subst, inl, inr, ⊎_elim, true≢false, arith}
use mathlib.Core.Option.{Option, none, some}
use Rattle.error.specs.Refusal.{accepted}
use Rattle.buffer.specs.Bytes.{part, overwrite}
use Rattle.buffer.specs.LittleEndian.{bytes_of, AreBytes}
use Rattle.buffer.proofs.LawsOrder.{lt_or_ge}
use Rattle.buffer.proofs.LawsOverwrite.{length_part, part_before, part_after}
use Rattle.buffer.proofs.LawsLittleEndian.{bytes_of_little_endian, part_bytes}
use Rattle.scripthash_free.specs.FreeList.{next_of, IsFreeList}
use Rattle.free_runs.specs.Runs.{is_in, lowest, in_run, left_of, top_goes, losing}
use Rattle.free_runs.specs.PageList.{walked, pages_end, top_of, relinked, run_sought}
use Rattle.free_runs.proofs.LawsRuns.{lowest_found, lowest_missed}
use Rattle.free_runs.proofs.LawsSought.{run_found_lem, Pages}
use Rattle.free_runs.proofs.LawsWalk.{walked_pages, from_member, ends_page}
use Rattle.free_runs.proofs.LawsLinks.{left_kept, left_taken, left_among, in_first, in_rest, length_relinked, overwrite_same}
use Rattle.free_runs.proofs.LawsStack.{AllPages, Distinct, length_walked, names_walked, names_end, walked_distinct}
use Rattle.free_runs.proofs.LawsStack.{left_distinct, left_count, linked_names, linked_part}

-- ---- a book whose bytes name its stack

module _
    (mark : ℕ) (body : List ℕ) (within : mark ≤ length body) (small : length body < 256 ^ 8) (head : ℕ) (os : List ℕ)
    (pages-all : AllPages mark os) (names : IsFreeList body head os)
  where
    ends : pages_end mark (length os) body head ≡ true
    ends = names_end mark body head os pages-all names

    same : walked (length os) body head ≡ os
    same = names_walked body head os names

    -- The search over the bytes is the rule over the stack.
    pub run_by_rule : (n : ℕ) → run_sought mark (length os) body head n ≡ accepted (lowest n os)
    run_by_rule n = run_found_lem mark (length os) body head n ends ∙ ap (λ (l : List ℕ). accepted (lowest n l)) same

    stack_pages : Pages mark os
    stack_pages = subst (λ (l : List ℕ). Pages mark l) same (walked_pages mark body (length os) head ends)

    stack_distinct : Distinct os
    stack_distinct = subst (λ (l : List ℕ). Distinct l) same (walked_distinct mark body (length os) head ends)

    stack_above : (o : ℕ) → is_in o os ≡ true → 0 < o
    stack_above o h =
        let r = from_member mark body (length os) head o ends (subst (λ (l : List ℕ). is_in o l ≡ true) (sym same) h) in
        let b = (ends_page mark body r.0 o r.2 r.3).0.begins in
        omega arith

    module _ (from end : ℕ) where
      -- What is left is named after the links are written.
      pub left_named : IsFreeList (relinked (left_of from end os) body) (top_of (left_of from end os)) (left_of from end os)
      left_named =
          linked_names body small (left_of from end os)
          (λ o h. stack_pages.aligned o (left_among from end o os h))
          (λ o h. let m = left_among from end o os h in let b = stack_pages.below o m in (stack_above o m, omega arith))
          (left_distinct from end os stack_distinct)

    -- The run that the rule finds takes as many pages out as it has.
    pub found_count : (n o : ℕ) → 0 < n → lowest n os ≡ some o → length (left_of o (o + n * 4096) os) + n ≡ length os
    found_count n o pos e =
        let w = lowest_found n os pos o e in
        let z : o + 0 * 4096 ≡ o = omega arith in
        left_count o n os (stack_pages.aligned o (rw z at (w.all 0 pos))) stack_pages.aligned stack_distinct w.all

-- ---- which links are written

-- A page that is left, with the one behind it, keeps its link.
top_stays : (from end : ℕ) (xs : List ℕ) → top_goes from end xs ≡ false → top_of (left_of from end xs) ≡ top_of xs
unfolding top_goes left_of
top_stays from end [] e = refl
top_stays from end (x ∷ xs) e = ap top_of (left_kept from end x xs e)

names_top : (body : List ℕ) (next : ℕ) (xs : List ℕ) → IsFreeList body next xs → next ≡ top_of xs
unfolding IsFreeList
names_top body next [] n = n
names_top body next (x ∷ xs) n = n.0

losing_in_run : (from end x : ℕ) (xs : List ℕ) → in_run from end x ≡ true → losing from end (x ∷ xs) ≡ losing from end xs
unfolding losing
losing_in_run from end x xs e = rw e

losing_top : (from end x : ℕ) (xs : List ℕ) → in_run from end x ≡ false → top_goes from end xs ≡ true
    → losing from end (x ∷ xs) ≡ x ∷ losing from end xs
unfolding losing
losing_top from end x xs e h = rw (e, h)

losing_none : (from end x : ℕ) (xs : List ℕ) → in_run from end x ≡ false → top_goes from end xs ≡ false
    → losing from end (x ∷ xs) ≡ losing from end xs
unfolding losing
losing_none from end x xs e h = rw (e, h)

-- Some bytes keep clear of the links of some pages.
abbrev Off : ℕ → ℕ → List ℕ → Type 0
Off p n os = (o : ℕ) → is_in o os ≡ true → (p + n ≤ o) ⊎ (o + 8 ≤ p)

module _ (body : List ℕ) (bytes : AreBytes body) (from end : ℕ) (x : ℕ) (xs : List ℕ)
    (f : (o : ℕ) → is_in o (x ∷ xs) ≡ true → (o % 4096 ≡ 0) × (o + 8 ≤ length body)) (other : is_in x xs ≡ false)
  where
    abbrev rest : List ℕ
    rest = left_of from end xs

    long : length (relinked rest body) ≡ length body
    long = length_relinked rest body (λ o h. (f o (in_rest o x xs (left_among from end o xs h))).1)

    fits : x + 8 ≤ length (relinked rest body)
    fits = let k = (f x (in_first x xs)).1 in let e = long in omega arith

    -- its link as it was
    kept_link : part (relinked rest body) x 8 ≡ bytes_of 8 (next_of body x)
    kept_link =
        let inside = (f x (in_first x xs)).1 in
        linked_part body rest x 8
        (λ o h.
        let m = left_among from end o xs h in
        let a = f o (in_rest o x xs m) in
        let b = f x (in_first x xs) in
        let apart : o ≡ x → ⊥ = λ z. true≢false (sym m ∙ subst (λ (y : ℕ). is_in y xs ≡ false) (sym z) other) in
        (a.1, ⊎_elim (λ (l : x < o). inl (omega (arith, a.0, b.0))) (λ (g : o ≤ x). inr (omega (arith, a.0, b.0))) (lt_or_ge x o)))
        ∙ sym (ap (λ (k : ℕ). bytes_of k (next_of body x)) (sym (length_part body x 8 inside))
        ∙ bytes_of_little_endian (part body x 8) (part_bytes body x 8 bytes))

    step : (t u : Bool) → in_run from end x ≡ t → top_goes from end xs ≡ u → IsFreeList body (next_of body x) xs
        → ((p n : ℕ) → Off p n (losing from end xs) → part (relinked rest body) p n ≡ part body p n)
        → (p n : ℕ) → Off p n (losing from end (x ∷ xs)) → part (relinked (left_of from end (x ∷ xs)) body) p n ≡ part body p n
    unfolding relinked
    step true u e h m ih p n g =
        ap (λ (l : List ℕ). part (relinked l body) p n) (left_taken from end x xs e)
        ∙ ih p n (subst (λ (l : List ℕ). Off p n l) (losing_in_run from end x xs e) g)
    step false true e h m ih p n g =
        let off = subst (λ (l : List ℕ). Off p n l) (losing_top from end x xs e h) g in
        ap (λ (l : List ℕ). part (relinked l body) p n) (left_kept from end x xs e)
        ∙ (⊎_elim (λ (l : p + n ≤ x). part_before (relinked rest body) x (bytes_of 8 (top_of rest)) fits p n l)
        (λ (l : x + 8 ≤ p). part_after (relinked rest body) x (bytes_of 8 (top_of rest)) fits p n l)
        (off x (in_first x (losing from end xs)))
        ∙ ih p n (λ o k. off o (in_rest o x (losing from end xs) k)))
    step false false e h m ih p n g =
        let top : next_of body x ≡ top_of rest = names_top body (next_of body x) xs m ∙ sym (top_stays from end xs h) in
        let same : overwrite (relinked rest body) x (bytes_of 8 (top_of rest)) ≡ relinked rest body =
        ap (λ (ys : List ℕ). overwrite (relinked rest body) x ys) (ap (λ (v : ℕ). bytes_of 8 v) (sym top) ∙ sym kept_link)
        ∙ overwrite_same (relinked rest body) x 8 fits in
        ap (λ (l : List ℕ). part (relinked l body) p n) (left_kept from end x xs e)
        ∙ (ap (λ (b : List ℕ). part b p n) same ∙ ih p n (subst (λ (l : List ℕ). Off p n l) (losing_none from end x xs e h) g))

-- Bytes that keep clear of the links of pages whose successor goes stay.
pub losing_part : (body : List ℕ) → AreBytes body → (from end : ℕ) (os : List ℕ) (head : ℕ) → IsFreeList body head os
    → ((o : ℕ) → is_in o os ≡ true → (o % 4096 ≡ 0) × (o + 8 ≤ length body)) → Distinct os
    → (p n : ℕ) → Off p n (losing from end os) → part (relinked (left_of from end os) body) p n ≡ part body p n
unfolding IsFreeList Distinct left_of relinked
losing_part body bytes from end [] head m f d p n g = refl
losing_part body bytes from end (x ∷ xs) head m f d p n g =
    step body bytes from end x xs f d.0 (in_run from end x) (top_goes from end xs) refl refl m.3
    (λ q k h. losing_part body bytes from end xs (next_of body x) m.3 (λ o i. f o (in_rest o x xs i)) d.1 q k h)
    p n g

-- A list with fewer pages than are wanted has no run.
pub run_short : (mark count : ℕ) (body : List ℕ) (head n : ℕ) → count < n → pages_end mark count body head ≡ true
    → run_sought mark count body head n ≡ accepted none
run_short mark count body head n h e =
    let os = walked count body head in
    let ps = walked_pages mark body count head e in
    run_found_lem mark count body head n e
    ∙ ap (λ (r : Option ℕ). accepted r) (lowest_missed n os (omega arith)
    (λ p f.
    let z : p + 0 * 4096 ≡ p = omega arith in
    let c = left_count p n os (ps.aligned p (rw z at (f 0 (omega arith)))) ps.aligned (walked_distinct mark body count head e) f in
    let l = length_walked count body head in
    omega arith))
