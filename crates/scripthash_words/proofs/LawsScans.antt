-- Words and scans: the words of whole forms, how many bytes those take, and the numbers that they scan as. Assumes nothing.
use Prim.Native.Nat.{ℕ, zero, suc, ◌+◌, ◌-◌, ◌^◌, ◌≤◌, ◌<◌}
use mathlib.Core.Bool.{Bool, true, false, cond, not}
use mathlib.Core.List.{List, [], ◌∷◌}
use mathlib.Core.Logic.{⊎_elim}
use mathlib.Core.Path.{◌≡◌, refl, sym, ap, ◌∙◌}
use native.Mathlib.Omega.{arith}
use borrow.Author.Tests.{lt-leb, le-leb, le-ltb}
use lib.ListN.{length, take, drop, get_or, length-drop}
use lib.Seq.{get_or-drop, drop-drop}
use Rattle.error.specs.Refusal.{accepted, refuse_if}
use Rattle.error.proofs.LawsAnswer.{accepted_inj}
use Rattle.buffer.specs.LittleEndian.{AreBytes}
use Rattle.buffer.proofs.LawsOrder.{lt_or_ge}
use Rattle.compact.specs.Uleb128.{goes_on, is_form, form_at, value, overflows, read_form, Reading, read_uleb}
use Rattle.compact.proofs.LawsRead.{read_accepted}
use Rattle.scripthash_stream.specs.Stream.{Scan, scan_from, next_number}
use Rattle.scripthash_stream.proofs.LawsScan.{Step, scan_step, next_accepted, next_is, stored_sum, scan_cons}
use Rattle.scripthash_words.specs.Words.{four_bytes, start_words, WholeForms, forms_len, has_end}
use Rattle.scripthash_words.specs.Words.{value_in, values_in, AllEnded, AllAbove, running_from, sum_of}
use Rattle.scripthash_words.proofs.LawsForm.{no_form, form_last, form_on, rest_form}
use Rattle.scripthash_words.proofs.LawsForm.{length_last, length_on, length_most, form_within}
use Rattle.scripthash_words.proofs.LawsStarts.{past_end}
use Rattle.scripthash_words.proofs.LawsValues.{word_value, last_ends}

-- within a form no four_bytes is collected
past : (bs : List ℕ) → is_form (form_at bs) ≡ true → start_words false bs ≡ start_words true (drop (length (form_at bs)) bs)
unfolding start_words
past [] f = absurd (no_form f)
past (b ∷ bs) f =
    ⊎_elim (λ (p : b < 128). rw (form_last b bs p, lt-leb 128 b p))
    (λ (q : 128 ≤ b). rw (form_on b bs q, le-leb 128 b q) (past bs (rest_form b bs q f))) (lt_or_ge b 128)

-- the words of a whole form and of those behind it
pub words_form : (bs : List ℕ) → is_form (form_at bs) ≡ true → start_words true bs ≡ four_bytes bs ∷ start_words true (drop (length
    (form_at bs)) bs)
unfolding start_words
words_form [] f = absurd (no_form f)
words_form (b ∷ bs) f =
    ⊎_elim (λ (p : b < 128). rw (form_last b bs p, lt-leb 128 b p))
    (λ (q : 128 ≤ b). rw (form_on b bs q, le-leb 128 b q) (ap (λ (l : List ℕ). four_bytes (b ∷ bs) ∷ l) (past bs (rest_form b bs q f))))
    (lt_or_ge b 128)

-- ---- whole forms, by counting starts

-- a place behind a form's end has fewer starts from it on than an earlier start
fewer_behind : (s : Bool) (bs : List ℕ) (e : ℕ) → e < length bs → get_or bs e 0 < 128
    → length (start_words true (drop (suc e) bs)) + cond s 1 0 ≤ length (start_words s bs)
unfolding start_words
fewer_behind s [] e h l = absurd (omega arith)
fewer_behind true (b ∷ bs) zero h l = rw (lt-leb 128 b l) (omega arith)
fewer_behind false (b ∷ bs) zero h l = rw (lt-leb 128 b l) (omega arith)
fewer_behind true (b ∷ bs) (suc e) h l = omega (arith, fewer_behind (not (goes_on b)) bs e (omega arith) l)
fewer_behind false (b ∷ bs) (suc e) h l = omega (arith, fewer_behind (not (goes_on b)) bs e (omega arith) l)

-- n starts between a start and such a place: n whole forms, which end there
pub record Forms (n : ℕ) (bs : List ℕ) (e : ℕ) : Type 0 where
  pub whole : WholeForms n bs
  pub long : forms_len n bs ≡ e

pub forms_between : (n : ℕ) (bs : List ℕ) (e : ℕ) → e ≤ length bs → (0 < e → get_or bs (e - 1) 0 < 128)
    → length (start_words true bs) ≡ n + length (start_words true (drop e bs)) → Forms n bs e
unfolding WholeForms forms_len
forms_between zero bs zero h l c = record { whole = tt; long = refl }
forms_between zero bs (suc e) h l c =
    let here : suc e - 1 ≡ e = omega arith in
    let f = fewer_behind true bs e (omega arith) (rw here at (l (omega arith))) in
    absurd (omega (arith, f, c))
forms_between (suc n) bs zero h l c = absurd (omega (arith, c))
forms_between (suc n) bs (suc e) h l c =
    let here : suc e - 1 ≡ e = omega arith in
    let ends : get_or bs e 0 < 128 = rw here at (l (omega arith)) in
    let w = form_within bs e (omega arith) ends in
    let len = length (form_at bs) in
    let split = words_form bs w.whole in
    let place : len + (suc e - len) ≡ suc e = omega (arith, w.short) in
    let behind : drop (suc e - len) (drop len bs) ≡ drop (suc e) bs = drop-drop (suc e - len) len bs ∙ ap (λ (k : ℕ). drop k bs) place in
    let m = forms_between n (drop len bs) (suc e - len) (rw (length-drop len bs) (omega arith))
    (λ p. rw (get_or-drop len bs (suc e - len - 1) 0) (let at : len + (suc e - len - 1) ≡ e = omega (arith, p) in rw at ends))
    (rw behind (omega (arith, ap length split, c))) in
    record { whole = (w.whole, m.whole); long = omega (arith, m.long, w.short) }

-- ---- the numbers of a scan

-- bytes from a place on are bytes
pub drop_bytes : (bs : List ℕ) (n : ℕ) → AreBytes bs → AreBytes (drop n bs)
drop_bytes bs n l i h = rw (get_or-drop n bs i 0) (l (n + i) (let e = simp length-drop at h in omega arith))

first_ends : (x : ℕ) (xs : List ℕ) → AllEnded (x ∷ xs) → (has_end x ≡ true) × AllEnded xs
unfolding AllEnded
first_ends x xs a = a

-- the numbers of a scan are the sums of the values of the words, where each has an end
pub scan_words : (prev n : ℕ) (bs : List ℕ) (s : Scan) → AreBytes bs → scan_from prev n bs ≡ accepted s
    → AllEnded (take n (start_words true bs))
    → s.numbers ≡ running_from prev (values_in (take n (start_words true bs)))
unfolding scan_from running_from values_in
scan_words prev zero bs s l e a = ap (λ (x : Scan). x.numbers) (sym (accepted_inj e))
scan_words prev (suc n) bs s l e a =
    behind (scan_step prev n bs s e) (λ r t f b. scan_words r.value n (drop r.len bs) t (drop_bytes bs r.len l) f b)
  where
    behind : (w : Step prev n bs s)
        → ((r : Reading) (t : Scan) → scan_from r.value n (drop r.len bs) ≡ accepted t
        → AllEnded (take n (start_words true (drop r.len bs)))
        → t.numbers ≡ running_from r.value (values_in (take n (start_words true (drop r.len bs)))))
        → s.numbers ≡ running_from prev (values_in (take (suc n) (start_words true bs)))
    behind w ih =
        let r = w.first in
        let m = next_accepted prev bs r w.next in
        let got = read_accepted bs (record { value = r.value - prev; len = r.len }) m.read in
        let split : start_words true bs ≡ four_bytes bs ∷ start_words true (drop r.len bs) =
        rw got.len_is at (words_form bs got.form) in
        let ends = first_ends (four_bytes bs) (take n (start_words true (drop r.len bs))) (rw split at a) in
        let is : value_in (four_bytes bs) ≡ r.value - prev = word_value bs l got.form ends.0 ∙ got.value_is in
        let sum : prev + value_in (four_bytes bs) ≡ r.value = omega (arith, is, m.above) in
        ap (λ (x : Scan). x.numbers) w.whole ∙ (rw (split, sum) (ap (λ (ns : List ℕ). r.value ∷ ns) (ih r w.rest w.more
        ends.1)))

-- ---- a scan by whole forms

-- a form of up to four bytes stays below 64 bits
short_form : (f : List ℕ) → length f ≤ 4 → overflows f ≡ false
unfolding overflows
short_form f h = rw (past_end f 9 (omega arith), le-ltb 10 (length f) (omega arith))

pub read_short : (bs : List ℕ) → is_form (form_at bs) ≡ true → length (form_at bs) ≤ 4
    → read_uleb bs ≡ accepted (record { value = value (form_at bs); len = length (form_at bs) })
unfolding read_uleb read_form refuse_if
read_short bs f l = rw (short_form (form_at bs) l, f)

four_most : (a b c d : ℕ) (bs : List ℕ) → AreBytes (a ∷ b ∷ c ∷ d ∷ bs) → has_end (four_bytes (a ∷ b ∷ c ∷ d ∷ bs)) ≡ true
    → length (form_at (a ∷ b ∷ c ∷ d ∷ bs)) ≤ 4
unfolding four_bytes
four_most a b c d bs l e =
    let la : a < 256 = l 0 (omega arith) in
    let lb : b < 256 = l 1 (omega arith) in
    let lc : c < 256 = l 2 (omega arith) in
    let ld : d < 256 = l 3 (omega arith) in
    ⊎_elim (λ (p : a < 128). omega (arith, length_last a (b ∷ c ∷ d ∷ bs) p))
    (λ (p : 128 ≤ a).
    ⊎_elim (λ (q : b < 128). omega (arith, length_on a (b ∷ c ∷ d ∷ bs) p, length_last b (c ∷ d ∷ bs) q))
    (λ (q : 128 ≤ b).
    ⊎_elim (λ (r : c < 128). omega (arith, length_on a (b ∷ c ∷ d ∷ bs) p, length_on b (c ∷ d ∷ bs) q, length_last c (d ∷ bs) r))
    (λ (r : 128 ≤ c).
    omega (
      arith,
      length_on a (b ∷ c ∷ d ∷ bs) p,
      length_on b (c ∷ d ∷ bs) q,
      length_on c (d ∷ bs) r,
      length_last d bs (last_ends a b c d la lb lc ld p q r e),
    )) (lt_or_ge c 128)) (lt_or_ge b 128)) (lt_or_ge a 128)

short_word : (bs : List ℕ) → AreBytes bs → has_end (four_bytes bs) ≡ true → length (form_at bs) ≤ 4
short_word [] l e = omega (arith, length_most [])
short_word (a ∷ []) l e = omega (arith, length_most (a ∷ []))
short_word (a ∷ b ∷ []) l e = omega (arith, length_most (a ∷ b ∷ []))
short_word (a ∷ b ∷ c ∷ []) l e = omega (arith, length_most (a ∷ b ∷ c ∷ []))
short_word (a ∷ b ∷ c ∷ d ∷ bs) l e = four_most a b c d bs l e

first_pos : (x : ℕ) (xs : List ℕ) → AllAbove (x ∷ xs) → (0 < x) × AllAbove xs
unfolding AllAbove
first_pos x xs a = a

-- n whole forms that end in their words, of values above 0 that add up to less than 2 ^ 63: their scan
pub words_scan : (prev n : ℕ) (bs : List ℕ) → AreBytes bs → WholeForms n bs → AllEnded (take n (start_words true bs))
    → AllAbove (values_in (take n (start_words true bs))) → prev + sum_of (values_in (take n (start_words true bs))) < 2 ^ 63
    → scan_from prev n bs ≡ accepted (record { numbers = running_from prev (values_in (take n (start_words true bs))); taken = forms_len n bs })
unfolding scan_from running_from values_in sum_of forms_len WholeForms
words_scan prev zero bs l h a p t = refl
words_scan prev (suc n) bs l h a p t =
    let form = h.0 in
    let len = length (form_at bs) in
    let rest = start_words true (drop len bs) in
    let split : start_words true bs ≡ four_bytes bs ∷ rest = words_form bs form in
    let ends = first_ends (four_bytes bs) (take n rest) (rw split at a) in
    let pos = first_pos (value_in (four_bytes bs)) (values_in (take n rest)) (rw split at p) in
    let v = value_in (four_bytes bs) in
    let low : prev + (v + sum_of (values_in (take n rest))) < 2 ^ 63 = rw split at t in
    let is : v ≡ value (form_at bs) = word_value bs l form ends.0 in
    let was : read_uleb bs ≡ accepted (record { value = v; len = len }) = rw is (read_short bs form (short_word bs l ends.0)) in
    let next : next_number prev bs ≡ accepted (record { value = prev + v; len = len }) =
    next_is prev bs (record { value = v; len = len }) was ∙ stored_sum prev (record { value = v; len = len }) pos.0 (omega
    (arith, low)) in
    let more = words_scan (prev + v) n (drop len bs) (drop_bytes bs len l) h.1 ends.1 pos.1 (omega (arith, low)) in
    rw split (scan_cons prev n bs (record { value = prev + v; len = len }) _ next more)
