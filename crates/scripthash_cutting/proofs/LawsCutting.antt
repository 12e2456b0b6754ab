-- The cutting for a last page with a small room and other pages with a large one: it is allowed, and no allowed cutting of a rising list
-- has fewer parts. What a part leaves over of numbers that fit the large room has to fit the small one, so the rooms are near to each
-- other: with 10 and 100 bytes, 1 to 100 would be cut into ten parts, where 1 to 90 and 91 to 100 are allowed. Assumes nothing.
use Prim.Native.Nat.{ℕ, zero, suc, ◌+◌, ◌-◌, ◌*◌, ◌^◌, ◌≤◌, ◌<◌, zero-le, suc-le-suc}
use mathlib.Core.Bool.{Bool, true, false, cond}
use mathlib.Core.List.{List, [], ◌∷◌, ◌++◌, append-nil}
use mathlib.Core.Logic.{◌⊎◌, inl, inr, ⊎_elim}
use mathlib.Core.Path.{◌≡◌, refl, sym, ap, ◌∙◌}
use native.Mathlib.Nat.{le_refl, le_trans, suc-mul, mul-le-mul_right}
use native.Mathlib.Omega.{arith}
use borrow.Author.Tests.{eq-eqb, ne_eqb}
use lib.Dec.{eqb}
use lib.ListN.{length, take, drop, length-drop, length-append, take-append-drop}
use lib.Seq.{take-length, drop-length, drop-nil, length-take-le, drop-drop, drop-append-le, drop-append-add, take_at}
use Rattle.buffer.proofs.LawsOrder.{lt_or_ge}
use Rattle.compact.specs.Uleb128.{uleb_len}
use Rattle.scripthash_stream.specs.Stream.{Rising, stream_len_from, stream_len}
use Rattle.scripthash_cutting.specs.Cutting.{fitting, first_part, greedy_parts, greedy, replace_last, recut_last, cutting_for, joined, Fit}
use Rattle.scripthash_cutting.specs.Cutting.{Allowed}
use Rattle.scripthash_cutting.specs.Steps.{next_part}
use Rattle.scripthash_cutting.proofs.LawsFitting.{Words, words_drop, Fitting, part_some, part_known}
use Rattle.scripthash_cutting.proofs.LawsRising.{rising_words, rising_left, rising_right, stream_drop}

-- what stands in front of others is kept when the last of them is replaced
pub replace_behind : {A : Type 0} (f : A → List A) (x : A) (ys : List A) → 0 < length ys → replace_last f (x ∷ ys) ≡ x ∷ replace_last f ys
unfolding replace_last
replace_behind f x [] h = absurd (omega arith)
replace_behind f x (y ∷ ys) h = refl

-- ---- the greedy cutting

module _ (room : ℕ) where
  -- any two bounds that are large enough give the same parts
  enough : (d e : ℕ) (ns : List ℕ) → length ns ≤ d → length ns ≤ e → greedy_parts d room ns ≡ greedy_parts e room ns
  unfolding greedy_parts first_part
  enough zero zero [] h k = refl
  enough zero (suc e) [] h k = refl
  enough (suc d) zero [] h k = refl
  enough (suc d) (suc e) [] h k = refl
  enough zero e (n ∷ ns) h k = absurd (omega arith)
  enough (suc d) zero (n ∷ ns) h k = absurd (omega arith)
  enough (suc d) (suc e) (n ∷ ns) h k =
      let f = fitting (room - uleb_len n) n ns in
      ap (λ (ps : List (List ℕ)). take (suc f) (n ∷ ns) ∷ ps)
      (enough d e (drop f ns) (omega (arith, length-drop f ns)) (omega (arith, length-drop f ns)))

  -- the first part, and the cutting of what is behind it
  pub greedy_step : (n : ℕ) (ns : List ℕ)
      → let k = first_part room (n ∷ ns) in greedy room (n ∷ ns) ≡ take k (n ∷ ns) ∷ greedy room (drop k (n ∷ ns))
  unfolding greedy_parts first_part
  greedy_step n ns =
      let f = fitting (room - uleb_len n) n ns in
      ap (λ (ps : List (List ℕ)). take (suc f) (n ∷ ns) ∷ ps)
      (enough (length ns) (length (drop f ns)) (drop f ns) (omega (arith, length-drop f ns)) (le_refl (length (drop f ns))))

  -- no numbers have no parts, and some have one
  pub greedy_nil : greedy room [] ≡ []
  unfolding greedy_parts
  greedy_nil = refl

  pub greedy_some : (ns : List ℕ) → 0 < length ns → 0 < length (greedy room ns)
  greedy_some [] h = absurd (omega arith)
  greedy_some (n ∷ ns) h = rw (greedy_step n ns) (suc-le-suc zero-le)

  -- numbers that fit together are one part
  pub greedy_one : (n : ℕ) (ns : List ℕ) → 10 ≤ room → Words (n ∷ ns) → stream_len (n ∷ ns) ≤ room → greedy room (n ∷ ns) ≡ (n ∷ ns) ∷ []
  greedy_one n ns h w e =
      let p = part_known room n ns h w in
      let all : first_part room (n ∷ ns) ≡ length (n ∷ ns) =
      omega (arith, p.longest (length (n ∷ ns)) (le_refl (length (n ∷ ns))) (rw (take-length (n ∷ ns)) e), p.within) in
      greedy_step n ns ∙ rw (all, take-length (n ∷ ns), drop-length (n ∷ ns), greedy_nil)

-- ---- the cutting, part by part

module _ (small large : ℕ) (ten : 10 ≤ small) (less : small ≤ large) (near : large + 9 ≤ small + small) where
  -- numbers that fit the large room together are cut for the small one
  cut_whole : (ns : List ℕ) → Words ns → stream_len ns ≤ large → cutting_for small large ns ≡ greedy small ns
  unfolding replace_last greedy_parts
  cut_whole [] w e = refl
  cut_whole (n ∷ ns) w e = ap (recut_last small) (greedy_one large n ns (le_trans ten less) w e)

  -- then what the first part leaves over fits the small room
  leaves : (n : ℕ) (ns : List ℕ) → Words (n ∷ ns) → stream_len (n ∷ ns) ≤ large
      → stream_len (drop (first_part small (n ∷ ns)) (n ∷ ns)) ≤ small
  unfolding stream_len_from
  leaves n ns w e =
      let p = part_known small n ns ten w in
      ⊎_elim (λ (l : first_part small (n ∷ ns) < length (n ∷ ns)). omega (arith, p.rest w l))
      (λ (g : length (n ∷ ns) ≤ first_part small (n ∷ ns)).
      let all : first_part small (n ∷ ns) ≡ length (n ∷ ns) = omega (arith, p.within) in rw (all, drop-length (n ∷ ns)) zero-le)
      (lt_or_ge (first_part small (n ∷ ns)) (length (n ∷ ns)))

  -- What is known of the next part.
  pub record Next (ns : List ℕ) (k : ℕ) : Type 0 where
    pub some : 0 < k
    pub within : k ≤ length ns
    pub fits : stream_len (take k ns) ≤ large
    pub cut : cutting_for small large ns ≡ take k ns ∷ cutting_for small large (drop k ns)
    pub which : ((k ≡ first_part large ns) × (k < length ns)) ⊎ ((stream_len ns ≤ large) × (stream_len (take k ns) ≤ small))

  next_known : (n : ℕ) (ns : List ℕ) → Words (n ∷ ns) → Next (n ∷ ns) (next_part small large (n ∷ ns))
  unfolding next_part
  next_known n ns w = ⊎_elim before whole (lt_or_ge (first_part large (n ∷ ns)) (length (n ∷ ns)))
    where
      p : Fitting large 0 (n ∷ ns) (first_part large (n ∷ ns))
      p = part_known large n ns (le_trans ten less) w

      s : Fitting small 0 (n ∷ ns) (first_part small (n ∷ ns))
      s = part_known small n ns ten w

      before : first_part large (n ∷ ns) < length (n ∷ ns) → Next (n ∷ ns) (next_part small large (n ∷ ns))
      before l = rw (ne_eqb (first_part large (n ∷ ns)) (length (n ∷ ns)) (λ (e : first_part large (n ∷ ns) ≡ length (n ∷ ns)). omega arith))
          (record {
            some = part_some large n ns;
            within = p.within;
            fits = p.fits;
            cut = ap (recut_last small) (greedy_step large n ns)
                ∙ replace_behind (greedy small) _ (greedy large (drop (first_part large (n ∷ ns)) (n ∷ ns)))
                (greedy_some large (drop (first_part large (n ∷ ns)) (n ∷ ns)) (simp length-drop (omega arith)));
            which = inl (refl, l);
          })

      whole : length (n ∷ ns) ≤ first_part large (n ∷ ns) → Next (n ∷ ns) (next_part small large (n ∷ ns))
      whole g =
          let all : first_part large (n ∷ ns) ≡ length (n ∷ ns) = omega (arith, p.within) in
          let short : stream_len (n ∷ ns) ≤ large = rw (all, take-length (n ∷ ns)) at p.fits in
          let k = first_part small (n ∷ ns) in
          let left = leaves n ns w short in
          rw (eq-eqb (first_part large (n ∷ ns)) (length (n ∷ ns)) all) (record {
            some = part_some small n ns;
            within = s.within;
            fits = le_trans s.fits less;
            cut = cut_whole (n ∷ ns) w short ∙ greedy_step small n ns
                ∙ ap (λ (ps : List (List ℕ)). take k (n ∷ ns) ∷ ps)
                (sym (cut_whole (drop k (n ∷ ns)) (words_drop k (n ∷ ns) w) (le_trans left less)));
            which = inr (short, s.fits);
          })

  -- all of that holds of the next part
  pub next_of : (ns : List ℕ) → 0 < length ns → Words ns → Next ns (next_part small large ns)
  next_of [] h w = absurd (omega arith)
  next_of (n ∷ ns) h w = next_known n ns w

  -- what holds of no numbers, and of some where it holds of those behind their next part, holds of every list
  within_parts : (P : List ℕ → Type 0) → P []
      → ((n : ℕ) (ns : List ℕ) → Words (n ∷ ns) → P (drop (next_part small large (n ∷ ns)) (n ∷ ns)) → P (n ∷ ns))
      → (d : ℕ) (ns : List ℕ) → length ns ≤ d → Words ns → P ns
  within_parts P none some zero [] h w = none
  within_parts P none some (suc d) [] h w = none
  within_parts P none some zero (n ∷ ns) h w = absurd (omega arith)
  within_parts P none some (suc d) (n ∷ ns) h w =
      let k = next_part small large (n ∷ ns) in
      some n ns w
      (within_parts P none some d (drop k (n ∷ ns)) (omega (arith, length-drop k (n ∷ ns), (next_known n ns w).some))
      (words_drop k (n ∷ ns) w))

  by_parts : (P : List ℕ → Type 0) → P []
      → ((n : ℕ) (ns : List ℕ) → Words (n ∷ ns) → P (drop (next_part small large (n ∷ ns)) (n ∷ ns)) → P (n ∷ ns))
      → (ns : List ℕ) → Words ns → P ns
  by_parts P none some ns w = within_parts P none some (length ns) ns (le_refl (length ns)) w

  -- ---- the cutting is allowed

  -- a part in front of parts that fit: where there are none it has to fit the small room
  fit_cons : (p : List ℕ) (ps : List (List ℕ)) → 0 < length p → stream_len p ≤ large → (length ps ≡ 0 → stream_len p ≤ small)
      → Fit small large ps → Fit small large (p ∷ ps)
  unfolding Fit
  fit_cons p [] h l e f = (h, e refl)
  fit_cons p (q ∷ ps) h l e f = (h, l, f)

  -- some numbers have a part, and no numbers have none
  cut_some : (ns : List ℕ) → Words ns → 0 < length ns → 0 < length (cutting_for small large ns)
  cut_some [] w h = absurd (omega arith)
  cut_some (n ∷ ns) w h = rw (next_known n ns w).cut (suc-le-suc zero-le)

  cut_nil : cutting_for small large [] ≡ []
  unfolding replace_last greedy_parts
  cut_nil = refl

  allowed_nil : Allowed small large [] []
  unfolding joined Fit
  allowed_nil = record { consecutive = refl; fit = tt }

  allowed_cons : (n : ℕ) (ns : List ℕ) → Words (n ∷ ns)
      → (let k = next_part small large (n ∷ ns) in Allowed small large (drop k (n ∷ ns)) (cutting_for small large (drop k (n ∷ ns))))
      → Allowed small large (n ∷ ns) (cutting_for small large (n ∷ ns))
  unfolding joined
  allowed_cons n ns w ih =
      let k = next_part small large (n ∷ ns) in
      let x = next_known n ns w in
      let behind = drop k (n ∷ ns) in
      let size : length (take k (n ∷ ns)) ≡ k = length-take-le k (n ∷ ns) x.within in
      let last : length (cutting_for small large behind) ≡ 0 → stream_len (take k (n ∷ ns)) ≤ small =
      λ e. ⊎_elim (λ l. absurd (omega (arith, cut_some behind (words_drop k (n ∷ ns) w) (omega (arith, length-drop k (n ∷ ns), l.1)))))
      (λ r. r.1) x.which in
      rw x.cut (record {
        consecutive = ap (λ (r : List ℕ). take k (n ∷ ns) ++ r) ih.consecutive ∙ take-append-drop k (n ∷ ns);
        fit = fit_cons (take k (n ∷ ns)) (cutting_for small large behind) (omega (arith, size, x.some)) x.fits last ih.fit;
      })

  -- the cutting of any numbers of 64 bits is allowed
  pub cutting_allowed : (ns : List ℕ) → Words ns → Allowed small large ns (cutting_for small large ns)
  cutting_allowed = by_parts (λ ns. Allowed small large ns (cutting_for small large ns)) (rw cut_nil allowed_nil) allowed_cons

  -- ---- no allowed cutting has fewer parts

  greedy_few : (ns : List ℕ) → Words ns → stream_len ns ≤ small → length (greedy small ns) ≤ 1
  greedy_few [] w e = rw (greedy_nil small) zero-le
  greedy_few (n ∷ ns) w e = rw (greedy_one small n ns ten w e) (le_refl 1)

  -- numbers that fit the small room are one part at most
  cut_one : (ns : List ℕ) → Words ns → stream_len ns ≤ small → length (cutting_for small large ns) ≤ 1
  cut_one ns w e = rw (cut_whole ns w (le_trans e less)) (greedy_few ns w e)

  -- and numbers that fit the large room are two at most
  cut_two : (ns : List ℕ) → Words ns → stream_len ns ≤ large → length (cutting_for small large ns) ≤ 2
  cut_two [] w e = rw cut_nil zero-le
  cut_two (n ∷ ns) w e =
      rw (cut_whole (n ∷ ns) w e, greedy_step small n ns)
      (suc-le-suc (greedy_few (drop (first_part small (n ∷ ns)) (n ∷ ns)) (words_drop (first_part small (n ∷ ns)) (n ∷ ns) w)
      (leaves n ns w e)))

  -- where some numbers fit the large room, it is enough to bound the cutting of what is behind them or further on
  covers : (ns : List ℕ) → Words ns → (i : ℕ) → i ≤ length ns → stream_len (take i ns) ≤ large → (bound : ℕ) → 0 < bound
      → ((k : ℕ) → i ≤ k → length (cutting_for small large (drop k ns)) ≤ bound) → length (cutting_for small large ns) ≤ suc bound
  covers [] w i h e bound pos behind = rw cut_nil zero-le
  covers (n ∷ ns) w i h e bound pos behind =
      let k = next_part small large (n ∷ ns) in
      let x = next_known n ns w in
      ⊎_elim
      (λ l. rw x.cut (suc-le-suc (behind k (omega (arith, l.0, (part_known large n ns (le_trans ten less) w).longest i h e)))))
      (λ r. le_trans (cut_two (n ∷ ns) w r.0) (omega arith))
      x.which

  -- a part in front that fits the large room adds one part at most
  in_front : (p rest : List ℕ) → Rising (2 ^ 63) 0 (p ++ rest) → stream_len p ≤ large → (bound : ℕ) → 0 < bound
      → ((j : ℕ) → length (cutting_for small large (drop j rest)) ≤ bound) → (j : ℕ)
      → length (cutting_for small large (drop j (p ++ rest))) ≤ suc bound
  in_front p rest r e bound pos behind j = ⊎_elim inside after (lt_or_ge j (length p))
    where
      past : (m : ℕ) → length p ≤ m → length (cutting_for small large (drop m (p ++ rest))) ≤ bound
      past m h =
          let m-is : m ≡ length p + (m - length p) = omega arith in
          let there : drop m (p ++ rest) ≡ drop (m - length p) rest =
          ap (λ (k : ℕ). drop k (p ++ rest)) m-is ∙ drop-append-add p rest (m - length p) in
          rw there (behind (m - length p))

      after : length p ≤ j → length (cutting_for small large (drop j (p ++ rest))) ≤ suc bound
      after h = le_trans (past j h) (omega arith)

      inside : j < length p → length (cutting_for small large (drop j (p ++ rest))) ≤ suc bound
      inside h =
          let i = length p - j in
          let front : take i (drop j (p ++ rest)) ≡ drop j p =
          rw (drop-append-le j p rest (omega arith)) (take_at (drop j p) rest i (length-drop j p)) in
          covers (drop j (p ++ rest)) (words_drop j (p ++ rest) (rising_words 0 (p ++ rest) r)) i
          (omega (arith, length-drop j (p ++ rest), length-append p rest))
          (rw front (le_trans (stream_drop (2 ^ 63) 0 j p (rising_left (2 ^ 63) 0 p rest r)) e)) bound pos
          (λ k g. rw (drop-drop k j (p ++ rest)) (past (j + k) (omega arith)))

  -- a cutting that fits has no fewer parts than the cutting of any end of its numbers
  fewest : (ps : List (List ℕ)) → Fit small large ps → Rising (2 ^ 63) 0 (joined ps) → (j : ℕ)
      → length (cutting_for small large (drop j (joined ps))) ≤ length ps
  unfolding Fit joined
  fewest [] f r j = rw (drop-nil j, cut_nil) zero-le
  fewest (p ∷ []) f r j =
      let r' : Rising (2 ^ 63) 0 p = rw append-nil at r in
      rw (append-nil p) (cut_one (drop j p) (words_drop j p (rising_words 0 p r')) (le_trans (stream_drop (2 ^ 63) 0 j p r') f.1))
  fewest (p ∷ q ∷ ps) f r j =
      in_front p (joined (q ∷ ps)) r f.1 (suc (length ps)) (suc-le-suc zero-le)
      (λ i. fewest (q ∷ ps) f.2 (rising_right (2 ^ 63) 0 p (joined (q ∷ ps)) r) i) j

  -- every allowed cutting of a rising list has at least as many parts
  pub cutting_optimal : (ns : List ℕ) → Rising (2 ^ 63) 0 ns → (parts : List (List ℕ)) → Allowed small large ns parts
      → length (cutting_for small large ns) ≤ length parts
  cutting_optimal ns r parts a =
      let r' : Rising (2 ^ 63) 0 (joined parts) = rw a.consecutive r in rw a.consecutive at (fewest parts a.fit r' 0)

  -- ---- how many parts there are at most

  -- every part but the last two holds at least a tenth of the large room in numbers
  pub parts_at_most : (least : ℕ) → 10 * least ≤ large → (ns : List ℕ) → Words ns
      → length (cutting_for small large ns) * least ≤ length ns + 2 * least
  parts_at_most least h =
      by_parts (λ ns. length (cutting_for small large ns) * least ≤ length ns + 2 * least) (rw cut_nil (omega arith)) step
    where
      step : (n : ℕ) (ns : List ℕ) → Words (n ∷ ns)
          → (let behind = drop (next_part small large (n ∷ ns)) (n ∷ ns) in
          length (cutting_for small large behind) * least ≤ length behind + 2 * least)
          → length (cutting_for small large (n ∷ ns)) * least ≤ suc (length ns) + 2 * least
      step n ns w ih =
          let k = next_part small large (n ∷ ns) in
          let x = next_known n ns w in
          let p = part_known large n ns (le_trans ten less) w in
          ⊎_elim
          (λ l. let short : first_part large (n ∷ ns) < length (n ∷ ns) = omega (arith, l.0, l.1) in
          rw (x.cut, suc-mul (length (cutting_for small large (drop k (n ∷ ns)))) least)
          (omega (arith, l.0, p.many w short, length-drop k (n ∷ ns))))
          (λ r. le_trans (mul-le-mul_right least (cut_two (n ∷ ns) w r.0)) (omega arith))
          x.which

-- ---- rooms that are the same

-- the next part is the greedy one
next_same : (room : ℕ) (ns : List ℕ) → next_part room room ns ≡ first_part room ns
unfolding next_part
next_same room ns = either (eqb (first_part room ns) (length ns))
  where
    either : (b : Bool) → cond b (first_part room ns) (first_part room ns) ≡ first_part room ns
    either true = refl
    either false = refl

-- and so is the cutting: its last part fits as it is
pub cut_same : (room : ℕ) → 10 ≤ room → (ns : List ℕ) → Words ns → cutting_for room room ns ≡ greedy room ns
cut_same room ten =
    by_parts room room ten (le_refl room) (omega arith) (λ ns. cutting_for room room ns ≡ greedy room ns)
    (cut_nil room room ten (le_refl room) (omega arith) ∙ sym (greedy_nil room)) step
  where
    step : (n : ℕ) (ns : List ℕ) → Words (n ∷ ns)
        → (let behind = drop (next_part room room (n ∷ ns)) (n ∷ ns) in cutting_for room room behind ≡ greedy room behind)
        → cutting_for room room (n ∷ ns) ≡ greedy room (n ∷ ns)
    step n ns w ih =
        (next_known room room ten (le_refl room) (omega arith) n ns w).cut
        ∙ ap (λ (ps : List (List ℕ)). take (next_part room room (n ∷ ns)) (n ∷ ns) ∷ ps) ih
        ∙ ap (λ (k : ℕ). take k (n ∷ ns) ∷ greedy room (drop k (n ∷ ns))) (next_same room (n ∷ ns)) ∙ sym (greedy_step room n ns)
