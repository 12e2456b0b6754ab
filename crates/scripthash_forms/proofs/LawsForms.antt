-- Reading the form at an offset of a buffer byte by byte, one law for a byte that goes on and one for a form's last. Assumes nothing.
use Prim.Native.Nat.{ℕ, ◌+◌, ◌-◌, ◌*◌, ◌%◌, ◌^◌, ◌≤◌, ◌<◌}
use mathlib.Core.Bool.{false}
use mathlib.Core.List.{List}
use mathlib.Core.Path.{◌≡◌, refl, sym, ap, ◌∙◌, subst}
use native.Mathlib.Nat.{add-zero}
use native.Mathlib.Omega.{arith}
use borrow.Author.Tests.{le-ltb, ne_eqb}
use lib.ListN.{length, drop, get_or, length-drop}
use lib.Seq.{get_or-drop}
use Rattle.error.specs.Refusal.{accepted}
use Rattle.compact.specs.Uleb128.{piece, passes, read_uleb}
use Rattle.compact.proofs.LawsReadFrom.{read_from, from_start, at_last, at_more}
use Rattle.scripthash_forms.specs.Quick.{ThreeGoOn, QuickForm}

-- one that was read
pub quick_form : (value len : ℕ) (bs : List ℕ) → read_uleb bs ≡ accepted (record { value = value; len = len }) → QuickForm value len bs
unfolding QuickForm
quick_form value len bs e h = e

-- The form at `off` is read up to its byte j, and the bytes before that carry acc.
pub record Carried (buf : List ℕ) (off j acc : ℕ) : Type 0 where
  pub reads : read_from j acc (drop j (drop off buf)) ≡ read_uleb (drop off buf)

pub form_start : (buf : List ℕ) (off : ℕ) → Carried buf off 0 0
form_start buf off = record { reads = from_start (drop off buf) }

-- the piece of a byte that goes on is what it has above 128
piece_on : (b : ℕ) → 128 ≤ b → b < 256 → b % 128 ≡ b - 128
piece_on b g t = omega arith

-- its byte j, at `place`, which is one of the first nine
module _ {buf : List ℕ} {off j acc place : ℕ} (m : Carried buf off j acc) (is : off + j ≡ place) (h : place < length buf)
    (early : j < 9) where
  here : get_or (drop off buf) j 0 ≡ get_or buf place 0
  here = get_or-drop off buf j 0 ∙ ap (λ (p : ℕ). get_or buf p 0) is

  inside : j < length (drop off buf)
  inside = simp length-drop (omega arith)

  stays : (b : ℕ) → passes j b ≡ false
  stays b = rw (le-ltb 9 j (omega arith), ne_eqb j 9 (λ (e : j ≡ 9). omega arith))

  -- goes on
  pub form_on : 128 ≤ get_or buf place 0 → Carried buf off (j + 1) (acc + piece (get_or buf place 0) * 2 ^ (7 * j))
  form_on g = record {
    reads = sym (rw here at (at_more (drop off buf) j acc inside (stays (get_or (drop off buf) j 0)) (rw here g)))
        ∙ m.reads;
  }

  -- the same for a byte, whose piece is what it has above 128
  pub form_more : (value : ℕ) → 128 ≤ get_or buf place 0 → get_or buf place 0 < 256 → value ≡ acc + (get_or buf place 0 - 128) * 2 ^ (7 * j)
      → Carried buf off (j + 1) value
  form_more value g t e = rw (e, ← piece_on (get_or buf place 0) g t) (form_on g)

  -- is its last
  pub form_last : (value len : ℕ) → get_or buf place 0 < 128 → value ≡ acc + get_or buf place 0 * 2 ^ (7 * j) → len ≡ j + 1
      → QuickForm value len (drop off buf)
  form_last value len g e l =
      let piece : get_or buf place 0 % 128 ≡ get_or buf place 0 = omega arith in
      quick_form value len (drop off buf)
      (sym m.reads ∙ (rw (here, piece, ← e, ← l)
      at (at_last (drop off buf) j acc inside (stays (get_or (drop off buf) j 0)) (rw here g))))

-- three bytes that go on carry what their pieces add up to
pub three_carried : {buf : List ℕ} {off value : ℕ} → ThreeGoOn buf off value → Carried buf off 3 value
three_carried {buf} {off} {value} t =
    let within = t.within in
    let one = form_on (form_start buf off) (add-zero off) (omega arith) (omega arith) t.first in
    let two = form_on one refl (omega arith) (omega arith) t.second in
    let three = form_on two refl (omega arith) (omega arith) t.third in
    subst (λ (v : ℕ). Carried buf off 3 v) (omega (arith, t.carries)) three
