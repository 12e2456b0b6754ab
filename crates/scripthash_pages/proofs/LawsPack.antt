-- Packing a page: the cases of the answer, and what the writes to the page come to. Assumes nothing.
use Prim.Native.Nat.{ℕ, ◌+◌, ◌-◌, ◌≤◌, ◌<◌}
use mathlib.Core.List.{List, [], ◌++◌, append_assoc, append-nil}
use mathlib.Core.Path.{◌≡◌, sym, ap, ◌∙◌}
use native.Mathlib.Nat.{zero-add}
use native.Mathlib.Omega.{arith}
use borrow.Author.Tests.{lt-ltb, le-ltb, ltb-false}
use lib.Dec.{ltb}
use lib.ListN.{length, take, drop, replicate, length-append, length-take, length-drop, drop_of_length-le}
use lib.Seq.{take_at, drop_at, length-take-le}
use Rattle.error.specs.Refusal.{accepted, refused, answered, too_many_offered}
use Rattle.error.proofs.LawsAnswer.{passed, refuse_yes, refuse_no, refused_alike, answered_yes, answered_no, was_accepted, was_refused}
use Rattle.buffer.specs.Bytes.{overwrite}
use Rattle.buffer.proofs.LawsBytes.{length_overwrite}
use Rattle.buffer.proofs.LawsOverwrite.{overwrite_adjoin}
use Rattle.scripthash_layout.specs.Sizes.{page_size}
use Rattle.scripthash_stream.specs.Stream.{stream, encode_stream, max_offered}
use Rattle.scripthash_stream.proofs.LawsLent.{lent, put_back}
use Rattle.scripthash_fields.specs.Page.{page_of}
use Rattle.scripthash_fields.specs.Fields.{done, after_set}
use Rattle.scripthash_fields.proofs.LawsFields.{done_no, done_yes}
use Rattle.scripthash_pages.specs.Pack.{packed}

-- ---- the answer

module _ (header ns : List ℕ) where
  abbrev room : ℕ
  room = page_size - length header

  abbrev whole : ℕ → List ℕ
  whole len = page_of header (stream ns)

  -- more numbers than two bytes count are refused
  pub packed_many : max_offered < length ns → packed header ns ≡ refused too_many_offered
  unfolding packed
  packed_many h = refuse_yes (ltb max_offered (length ns)) _ _ (lt-ltb max_offered (length ns) h)

  -- and else the stream decides
  pub packed_as_stream : length ns ≤ max_offered → packed header ns ≡ answered whole (encode_stream room ns)
  unfolding packed
  packed_as_stream h = refuse_no (ltb max_offered (length ns)) _ _ (le-ltb max_offered (length ns) h)

  pub packed_stop : length ns ≤ max_offered → {number : ℕ} → encode_stream room ns ≡ refused number → packed header ns ≡ refused number
  packed_stop h e = packed_as_stream h ∙ answered_no whole (encode_stream room ns) e

  pub packed_fits : length ns ≤ max_offered → {len : ℕ} → encode_stream room ns ≡ accepted len
      → packed header ns ≡ accepted (page_of header (stream ns))
  packed_fits h e = packed_as_stream h ∙ answered_yes whole (encode_stream room ns) e

-- What is known of a page that was packed: the list is short, rises and fits behind the header.
pub record Packed (header ns page : List ℕ) : Type 0 where
  pub few : length ns ≤ max_offered
  pub len : ℕ
  pub fits : encode_stream (page_size - length header) ns ≡ accepted len
  pub is : page_of header (stream ns) ≡ page

pub packed_accepted : (header ns page : List ℕ) → packed header ns ≡ accepted page → Packed header ns page
unfolding packed
packed_accepted header ns page e =
    let m = passed (ltb max_offered (length ns)) _ _ e in
    let w = was_accepted (whole header ns) (encode_stream (room header ns) ns) m.1 in
    record { few = ltb-false max_offered (length ns) m.0; len = w.0; fits = w.1; is = w.2 }

-- another header of the same length: the same refusal, and the page with that header
module _ (header other ns : List ℕ) (same : length header ≡ length other) where
  pub packed_no : {number : ℕ} → packed header ns ≡ refused number → packed other ns ≡ refused number
  unfolding packed
  packed_no e =
      refused_alike (ltb max_offered (length ns)) too_many_offered _ _
      (λ stop. answered_no (whole other ns) (encode_stream (page_size - length other) ns)
      (ap (λ (k : ℕ). encode_stream (page_size - k) ns) (sym same)
      ∙ was_refused (whole header ns) (encode_stream (page_size - length header) ns) stop)) e

  pub packed_yes : {page : List ℕ} → packed header ns ≡ accepted page → packed other ns ≡ accepted (page_of other (stream ns))
  packed_yes {page} e =
      let p = packed_accepted header ns page e in
      packed_fits other ns p.few (ap (λ (k : ℕ). encode_stream (page_size - k) ns) (sym same) ∙ p.fits)

-- ---- the page

-- the part from an offset on is 0
pub cleared : (b : List ℕ) (o : ℕ) → o ≤ length b → (out : List ℕ) → out ≡ replicate (length (lent b o)) 0
    → put_back b o out ≡ take o b ++ replicate (length b - o) 0
cleared b o h out is =
    let none : drop (length b - o) (drop o b) ≡ [] = drop_of_length-le (drop o b) {i = length b - o} (omega (arith, length-drop o b)) in
    let long : length (lent b o) ≡ length b - o = simp (length-take, length-drop) (omega arith) in
    rw (none, is, long, append-nil {A = ℕ} (replicate (length b - o) 0))

-- a stream written behind the first bytes of a page, with 0 behind it, is a whole page with those bytes as its header
pub stream_packed : (page : List ℕ) (o : ℕ) (s : List ℕ) → length page ≡ page_size → o + length s ≤ page_size
    → take (o + length s) (overwrite page o s) ++ replicate (page_size - (o + length s)) 0 ≡ page_of (take o page) s
unfolding overwrite page_of
stream_packed page o s long h =
    let front : length (take o page) ≡ o = length-take-le o page (omega arith) in
    let rest = drop (o + length s) page in
    let size : length (take o page ++ s) ≡ o + length s = simp (length-append, front) in
    ap (λ (l : List ℕ). take (o + length s) l ++ replicate (page_size - (o + length s)) 0) (sym (append_assoc (take o page) s rest))
    ∙ ap (λ (l : List ℕ). l ++ replicate (page_size - (o + length s)) 0) (take_at (take o page ++ s) rest (o + length s) size)
    ∙ append_assoc (take o page) s (replicate (page_size - (o + length s)) 0)
    ∙ ap (λ (k : ℕ). take o page ++ (s ++ replicate (page_size - (k + length s)) 0)) (sym front)

-- another header of the same length written over a page's
pub header_written : (header other s : List ℕ) → length header ≡ length other → overwrite (page_of header s) 0 other ≡ page_of other s
unfolding overwrite page_of
header_written header other s same =
    let rest = s ++ replicate (page_size - (length header + length s)) 0 in
    ap (λ (k : ℕ). other ++ drop k (header ++ rest)) (zero-add (length other))
    ∙ ap (λ (l : List ℕ). other ++ l) (drop_at header rest (length other) same)
    ∙ ap (λ (k : ℕ). other ++ (s ++ replicate (page_size - (k + length s)) 0)) same

-- both writes: the stream at o, and 0 from its end e on
pub stream_cleared : (page : List ℕ) (o : ℕ) (s between : List ℕ) (e : ℕ) (out : List ℕ) → length page ≡ page_size → o + length s ≤ page_size
    → e ≡ o + length s
    → between ≡ overwrite page o s → out ≡ replicate (length (lent between e)) 0 → put_back between e out ≡ page_of (take o page) s
stream_cleared page o s between e out long h end is zeros =
    let size : length between ≡ page_size = ap length is ∙ length_overwrite page o s (omega arith) ∙ long in
    cleared between e (omega arith) out zeros ∙ ap (λ (k : ℕ). take e between ++ replicate (k - e) 0) size
    ∙ ap (λ (k : ℕ). take k between ++ replicate (page_size - k) 0) end
    ∙ ap (λ (b : List ℕ). take (o + length s) b ++ replicate (page_size - (o + length s)) 0) is ∙ stream_packed page o s long h

-- a page packed behind its first o bytes, and then another header of o bytes written over them
module _ (page ns other : List ℕ) (o : ℕ) (inside : o ≤ length page) (size : length other ≡ o) (out : List ℕ)
    (is : out ≡ after_set page (packed (take o page) ns)) where
  same : length (take o page) ≡ length other
  same = length-take-le o page inside ∙ sym size

  -- a refusal is that of the packed page, and leaves the page
  pub behind_no : {number : ℕ} → done (packed (take o page) ns) ≡ refused number → (packed other ns ≡ refused number) × (out ≡ page)
  behind_no e =
      let stop = done_no (packed (take o page) ns) e in
      (packed_no (take o page) other ns same stop, is ∙ ap (after_set page) stop)

  -- an acceptance is that of the packed page, and its header makes the page that page
  pub behind_yes : done (packed (take o page) ns) ≡ accepted tt
      → (length ns ≤ max_offered) × (packed other ns ≡ accepted (page_of other (stream ns)))
      × (overwrite out 0 other ≡ page_of other (stream ns))
  behind_yes e =
      let got = done_yes (packed (take o page) ns) e in
      let p = packed_accepted (take o page) ns got.0 got.1 in
      let held : out ≡ page_of (take o page) (stream ns) = is ∙ ap (after_set page) got.1 ∙ sym p.is in (
        p.few,
        packed_yes (take o page) other ns same got.1,
        ap (λ (b : List ℕ). overwrite b 0 other) held
            ∙ header_written (take o page) other (stream ns) same,
      )

-- three writes that adjoin are one
pub three_written : (b : List ℕ) (o : ℕ) (xs ys zs : List ℕ) → o ≤ length b
    → overwrite (overwrite (overwrite b o xs) (o + length xs) ys) (o + length (xs ++ ys)) zs ≡ overwrite b o (xs ++ (ys ++ zs))
three_written b o xs ys zs h =
    ap (λ (l : List ℕ). overwrite l (o + length (xs ++ ys)) zs) (overwrite_adjoin b o xs ys h) ∙ overwrite_adjoin b o (xs ++ ys) zs h
    ∙ ap (overwrite b o) (append_assoc xs ys zs)
