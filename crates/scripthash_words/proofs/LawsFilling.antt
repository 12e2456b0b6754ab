-- A list filled part by part, and streams whose first number is read by itself. Assumes nothing.
use Prim.Native.Nat.{ℕ, suc, ◌+◌, ◌-◌, ◌*◌, ◌^◌, ◌≤◌, ◌<◌}
use mathlib.Core.Bool.{true, false}
use mathlib.Core.List.{List, [], ◌∷◌, ◌++◌, append-nil}
use mathlib.Core.Logic.{⊎_elim}
use mathlib.Core.Path.{◌≡◌, refl, sym, ap, ◌∙◌}
use native.Mathlib.Nat.{zero-add, add-zero}
use native.Mathlib.Omega.{arith}
use borrow.Author.Tests.{lt-leb}
use lib.ListN.{length, take, drop, get_or, set, length-drop, length-append, take-append-drop}
use lib.Seq.{get_or-drop, drop-drop, take-add, length-take-le, take-append-le, take-take, take_at, drop_at}
use Rattle.error.specs.Refusal.{Answer, accepted}
use Rattle.error.proofs.LawsAnswer.{accepted_inj}
use Rattle.buffer.specs.Bytes.{overwrite}
use Rattle.buffer.proofs.LawsBytes.{overwrite_nil, overwrite_step, overwrite_part}
use Rattle.buffer.proofs.LawsOverwrite.{overwrite_adjoin}
use Rattle.buffer.specs.LittleEndian.{AreBytes}
use Rattle.buffer.proofs.LawsOrder.{lt_or_ge}
use Rattle.compact.specs.Uleb128.{goes_on, Reading, read_uleb}
use Rattle.compact.proofs.LawsRead.{read_accepted}
use Rattle.scripthash_stream.specs.Stream.{Scan, scan_from, scan, next_number, last_from}
use Rattle.scripthash_forms.specs.Quick.{ShortRead, unread, short}
use Rattle.scripthash_stream.proofs.LawsScan.{scan_step, scan_cons, next_is, stored_sum, scan_accepted}
use Rattle.scripthash_words.proofs.LawsForm.{last_byte}
use Rattle.scripthash_words.specs.Words.{FirstNumber, start_words, words_at, Found, value_in, values_in, AllEnded}
use Rattle.scripthash_words.specs.Words.{AllAbove, running_from, sum_of, Filling, RestRead, not_read, rest_read, forms_len}
use Rattle.scripthash_words.proofs.LawsScans.{scan_words, words_scan, drop_bytes, forms_between}

all_end_append : (xs ys : List ℕ) → AllEnded xs → AllEnded ys → AllEnded (xs ++ ys)
unfolding AllEnded
all_end_append [] ys a b = b
all_end_append (x ∷ xs) ys a b = (a.0, all_end_append xs ys a.1 b)

values_append : (xs ys : List ℕ) → values_in (xs ++ ys) ≡ values_in xs ++ values_in ys
unfolding values_in
values_append [] ys = refl
values_append (x ∷ xs) ys = ap (λ (l : List ℕ). value_in x ∷ l) (values_append xs ys)

sums_append : (p : ℕ) (xs ys : List ℕ) → running_from p (xs ++ ys) ≡ running_from p xs ++ running_from (last_from p (running_from p xs)) ys
unfolding running_from last_from
sums_append p [] ys = refl
sums_append p (x ∷ xs) ys = ap (λ (l : List ℕ). (p + x) ∷ l) (sums_append (p + x) xs ys)

pub length_sums : (p : ℕ) (xs : List ℕ) → length (running_from p xs) ≡ length xs
unfolding running_from
length_sums p [] = refl
length_sums p (x ∷ xs) = ap suc (length_sums (p + x) xs)

pub length_values : (xs : List ℕ) → length (values_in xs) ≡ length xs
unfolding values_in
length_values [] = refl
length_values (x ∷ xs) = ap suc (length_values xs)

-- numbers written to a lent part of a list are written to the list
pub filled_part : (out part ys : List ℕ) (at n : ℕ) → at + n ≤ length out → length ys ≤ n → part ≡ overwrite (take n (drop at out)) 0 ys
    → take at out ++ (part ++ drop n (drop at out)) ≡ overwrite out at ys
filled_part out part ys at n h l e = rw e (rw (add-zero at) at (overwrite_part out at n 0 ys h (omega arith)))

-- the first words of all are the first collected, and the first of those behind them
first_words : (ws rest : List ℕ) (starts left m : ℕ) → starts ≤ length ws → m ≤ starts → m ≤ left → (m < starts → m ≡ left)
    → take left (take starts ws ++ rest) ≡ take m ws ++ take (left - m) rest
first_words ws rest starts left m r p q e =
    let size : length (take starts ws) ≡ starts = length-take-le starts ws r in
    ⊎_elim
    (λ (h : m < starts).
    let is : m ≡ left = e h in
    let none : left - m ≡ 0 = omega arith in
    take-append-le left (take starts ws) rest (omega (arith, size)) ∙ take-take left starts ws (omega arith) ∙ (rw (none, append-nil, is)))
    (λ (h : starts ≤ m).
    let is : starts ≡ m = omega arith in
    let all : left ≡ m + (left - m) = omega arith in
    let here : length (take m ws) ≡ m = rw is at size in
    (rw is) ∙ ap (λ (k : ℕ). take k (take m ws ++ rest)) all ∙ take-add m (left - m) (take m ws ++ rest)
    ∙ (rw (take_at (take m ws) rest m here, drop_at (take m ws) rest m here)))
    (lt_or_ge m starts)

-- a part whose values were taken out and summed up
pub filling_part : (bs : List ℕ) (i i' starts m left prev last at : ℕ) (ws vs out out' : List ℕ) → Found bs i i' starts ws
    → starts ≤ length ws → m ≤ starts → m ≤ left → (m < starts → m ≡ left) → at + left ≤ length out
    → AllEnded (take m ws) × (vs ≡ values_in (take m ws))
    → out' ≡ overwrite out at (running_from prev vs) → last ≡ last_from prev (running_from prev vs)
    → Filling bs i prev left out at i' last (left - m) out' (at + m)
filling_part bs i i' starts m left prev last at ws vs out out' c r p q e room w o s =
    let all : take left (words_at bs i) ≡ take m ws ++ take (left - m) (words_at bs i') =
    ap (take left) c.whole ∙ first_words ws (words_at bs i') starts left m r p q e in
    let more = values_in (take (left - m) (words_at bs i')) in
    let xs = running_from prev vs in
    let size : length xs ≡ m = length_sums prev vs ∙ ap length w.1 ∙ length_values (take m ws) ∙ length-take-le m ws (omega arith) in
    let sums : running_from prev (values_in (take left (words_at bs i))) ≡ xs ++ running_from last more =
    ap (λ (z : List ℕ). running_from prev (values_in z)) all ∙ ap (running_from prev) (values_append (take m ws) (take (left - m)
    (words_at bs i')))
    ∙ ap (λ (z : List ℕ). running_from prev (z ++ more)) (sym w.1) ∙ sums_append prev vs more
    ∙ ap (λ (z : ℕ). xs ++ running_from z more) (sym s) in
    let place : at + length xs ≡ at + m = ap (λ (z : ℕ). at + z) size in
    record {
      ends = λ a. rw all (all_end_append (take m ws) (take (left - m) (words_at bs i')) w.0 a);
      writes = ap (λ (z : List ℕ). overwrite z (at + m) (running_from last more)) o
          ∙ (rw place at (overwrite_adjoin out at xs (running_from last more) (omega (arith, size)))) ∙ ap (overwrite out at) (sym sums);
    }

-- all done
pub filling_end : (bs : List ℕ) (i sum left : ℕ) (out : List ℕ) (at i' sum' left' : ℕ) (out' : List ℕ) (at' : ℕ)
    → Filling bs i sum left out at i' sum' left' out' at' → left' ≡ 0
    → AllEnded (take left (words_at bs i)) × (out' ≡ overwrite out at (running_from sum (values_in (take left (words_at bs i)))))
unfolding AllEnded values_in running_from
filling_end bs i sum left out at i' sum' left' out' at' f e =
    (f.ends (rw e tt), sym (overwrite_nil out' at') ∙ (rw e at f.writes))

-- ---- the first number and the others

-- the numbers of a stream whose first was read by itself: that, and the sums behind it
pub fill_all : (n first next : ℕ) (bs : List ℕ) (s : Scan) → AreBytes bs → scan_from 0 (suc n) bs ≡ accepted s
    → next_number 0 bs ≡ accepted (record { value = first; len = next }) → get_or bs (next - 1) 0 < 128 → AllEnded (take n (words_at bs next))
    → s.numbers ≡ first ∷ running_from first (values_in (take n (words_at bs next)))
fill_all n first next bs s l e f b a =
    let w = scan_step 0 n bs s e in
    let same : w.first ≡ record { value = first; len = next } = accepted_inj (sym w.next ∙ f) in
    let g : goes_on (get_or bs (next - 1) 0) ≡ false = lt-leb 128 _ b in
    let rest : scan_from first n (drop next bs) ≡ accepted w.rest = rw same at w.more in
    let numbers = scan_words first n (drop next bs) w.rest (drop_bytes bs next l) rest (rw g at a) in
    ap (λ (x : Scan). x.numbers) w.whole ∙ (rw (same, g) (ap (λ (ns : List ℕ). first ∷ ns) numbers))

-- the whole list
pub fill_list : (n first next : ℕ) (bs out out' : List ℕ) (s : Scan) → AreBytes bs → 0 < n → 0 < length out → scan_from 0 n bs ≡ accepted s
    → next_number 0 bs ≡ accepted (record { value = first; len = next }) → get_or bs (next - 1) 0 < 128
    → AllEnded (take (n - 1) (words_at bs next))
    × (out' ≡ overwrite (set out 0 first) 1 (running_from first (values_in (take (n - 1) (words_at bs next)))))
    → out' ≡ overwrite out 0 s.numbers
fill_list n first next bs out out' s l h r e f b w =
    let more : n ≡ suc (n - 1) = omega arith in
    let numbers = fill_all (n - 1) first next bs s l (rw more at e) f b w.0 in
    w.1 ∙ sym (overwrite_step out 0 first (running_from first (values_in (take (n - 1) (words_at bs next)))) r)
    ∙ ap (overwrite out 0) (sym numbers)

-- the last number is the one before with the differences added
pub last_sum : (prev : ℕ) (ds : List ℕ) → last_from prev (running_from prev ds) ≡ prev + sum_of ds
unfolding last_from running_from sum_of
last_sum prev [] = omega arith
last_sum prev (d ∷ ds) = last_sum (prev + d) ds ∙ (omega arith)

-- the place that was told, the values and their sums: what reading the numbers behind the first gives
pub rest_read_lem : (bs : List ℕ) (from prev n i count end last : ℕ) (ws vs out out' : List ℕ) → AreBytes bs → from ≤ length bs
    → get_or bs (from - 1) 0 < 128 → Found bs from i count ws → count ≤ length ws → n ≤ count → 0 < end
    → (0 < end → (from ≤ end) × (end ≤ i) × (get_or bs (end - 1) 0 < 128)
    × (length (words_at bs i) + (count - n) ≡ length (words_at bs end))) → i ≤ length bs
    → AllEnded (take n ws) × (vs ≡ values_in (take n ws)) × AllAbove vs → prev + 2 ^ 32 * n < 2 ^ 63
    → last ≤ prev + 2 ^ 32 * n → last ≡ last_from prev (running_from prev vs)
    → out' ≡ overwrite out 0 (running_from prev vs) → RestRead end bs from prev n (prev + 2 ^ 32 * n + 1) out out' 0
rest_read_lem bs from prev n i count end last ws vs out out' l fits b f r h some p within w room low is o =
    let q = p some in
    let e : goes_on (get_or bs (from - 1) 0) ≡ false = lt-leb 128 _ b in
    let g : goes_on (get_or bs (end - 1) 0) ≡ false = lt-leb 128 _ q.2 in
    let size : length (take count ws) ≡ count = length-take-le count ws r in
    let all : start_words true (drop from bs) ≡ take count ws ++ words_at bs i = rw e at f.whole in
    let firsts : take n (start_words true (drop from bs)) ≡ take n ws =
    ap (take n) all ∙ take-append-le n (take count ws) (words_at bs i) (omega (arith, size)) ∙ take-take n count ws (omega arith) in
    let counted : length (start_words true (drop from bs)) ≡ count + length (words_at bs i) =
    ap length all ∙ length-append (take count ws) (words_at bs i) ∙ ap (λ (k : ℕ). k + length (words_at bs i)) size in
    let place : from + (end - from) ≡ end = omega (arith, q.0) in
    let behind : drop (end - from) (drop from bs) ≡ drop end bs = drop-drop (end - from) from bs ∙ ap (λ (k : ℕ). drop k bs) place in
    let left : length (words_at bs i) + (count - n) ≡ length (start_words true (drop end bs)) = rw g at q.3 in
    let forms = forms_between n (drop from bs) (end - from) (rw (length-drop from bs) (omega (arith, q.1)))
    (λ k. rw (get_or-drop from bs (end - from - 1) 0) (let at : from + (end - from - 1) ≡ end - 1 = omega (arith, k) in rw at q.2))
    (rw behind (omega (arith, counted, left))) in
    let vals : values_in (take n (start_words true (drop from bs))) ≡ vs = ap values_in firsts ∙ sym w.1 in
    let sum = last_sum prev vs in
    let scanned = words_scan prev n (drop from bs) (drop_bytes bs from l) forms.whole (rw firsts w.0) (rw vals w.2)
    (rw vals (omega (arith, sum, is, low, room))) in
    rest_read (running_from prev vs) (forms_len n (drop from bs)) some (rw vals at scanned) (omega (arith, forms.long, place))
    (omega (arith, is, low)) o

-- the others, written behind the first, make the whole list
pub fill_behind : (n first next : ℕ) (bs out out' : List ℕ) (s : Scan) → 0 < n → 0 < length out → scan_from 0 n bs ≡ accepted s
    → next_number 0 bs ≡ accepted (record { value = first; len = next })
    → ((t : Scan) → scan_from first (n - 1) (drop next bs) ≡ accepted t → out' ≡ overwrite (set out 0 first) 1 t.numbers)
    → out' ≡ overwrite out 0 s.numbers
fill_behind n first next bs out out' s h r e f w =
    let more : n ≡ suc (n - 1) = omega arith in
    let step = scan_step 0 (n - 1) bs s (rw more at e) in
    let same : step.first ≡ record { value = first; len = next } = accepted_inj (sym step.next ∙ f) in
    let rest : scan_from first (n - 1) (drop next bs) ≡ accepted step.rest = rw same at step.more in
    let all : s.numbers ≡ first ∷ step.rest.numbers = ap (λ (x : Scan). x.numbers) step.whole ∙ (rw same) in
    w step.rest rest ∙ sym (overwrite_step out 0 first step.rest.numbers r) ∙ ap (overwrite out 0) (sym all)

-- ---- a first number

pub first_read : (fk len : ℕ) (bs : List ℕ) → read_uleb bs ≡ accepted (record { value = fk; len = len }) → 0 < fk → fk < 2 ^ 63
    → FirstNumber fk len bs
first_read fk len bs e h l =
    let r : Reading = record { value = fk; len = len } in
    let got = read_accepted bs r e in
    record {
      below = l;
      within = got.len_within;
      ends = λ k. rw got.len_is at (last_byte bs got.form);
      next = λ k. rw (zero-add fk) at (next_is 0 bs r e ∙ stored_sum 0 r h (omega (arith, l)));
    }

-- ---- the first number and those read behind it

-- numbers read to a lent part of a list, from its second place on, were read to the list
pub rest_whole : (told : ℕ) (bs : List ℕ) (from prev n top : ℕ) (out part : List ℕ) → 1 + n ≤ length out
    → RestRead told bs from prev n top (take n (drop 1 out)) part 0
    → RestRead told bs from prev n top out (take 1 out ++ (part ++ drop n (drop 1 out))) 1
rest_whole told bs from prev n top out part h (not_read none same) =
    not_read none (rw (same, take-append-drop n (drop 1 out), take-append-drop 1 out))
rest_whole told bs from prev n top out part h (rest_read ns taken some scanned place below wrote) =
    let count = (scan_accepted prev n (drop from bs) _ scanned).counted in
    rest_read ns taken some scanned place below (filled_part out part ns 1 n h (omega (arith, count)) wrote)

set_first : (out ys : List ℕ) (x : ℕ) → 0 < length out → set (overwrite out 1 ys) 0 x ≡ overwrite (set out 0 x) 1 ys
unfolding overwrite
set_first [] ys x h = absurd (omega arith)
set_first (y ∷ out) ys x h =
    let more : 1 + length ys ≡ suc (length ys) = omega arith in
    rw more

pub short_read : (told top n fk len : ℕ) (bs out out' : List ℕ) → FirstNumber fk len bs → 0 < len → 0 < n → n ≤ length out
    → fk + 2 ^ 32 * (n - 1) < top → RestRead told bs len fk (n - 1) (fk + 2 ^ 32 * (n - 1) + 1) out out' 1 → 0 < told
    → ShortRead told top out (set out' 0 fk) (scan n bs)
unfolding last_from
short_read told top n fk len bs out out' f p h room low (not_read none same) some = absurd (omega arith)
short_read told top n fk len bs out out' f p h room low (rest_read ns taken told-some scanned place below wrote) some =
    let more : n ≡ suc (n - 1) = omega arith in
    let r : Reading = record { value = fk; len = len } in
    let whole = scan_cons 0 (n - 1) bs r (record { numbers = ns; taken = taken }) (f.next p) scanned in
    let is : scan n bs ≡ accepted (record { numbers = fk ∷ ns; taken = len + taken }) = ap (λ (k : ℕ). scan_from 0 k bs) more ∙ whole in
    let count = (scan_accepted 0 n bs _ is).counted in
    let written : set out' 0 fk ≡ overwrite out 0 (fk ∷ ns) =
    ap (λ (l : List ℕ). set l 0 fk) wrote ∙ set_first out ns fk (omega arith) ∙ sym (overwrite_step out 0 fk ns (omega arith)) in
    short (record { numbers = fk ∷ ns; taken = len + taken }) some is place (omega (arith, count)) (omega (arith, below)) written

pub short_none : (top : ℕ) (out : List ℕ) (a : Answer Scan) → ShortRead 0 top out out a
short_none top out a = unread refl refl
