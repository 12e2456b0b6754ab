-- The pages of a sound chain that are left from its first on, and a page's link as it is read from the body. Assumes nothing.
use Prim.Native.Nat.{ℕ, ◌+◌, ◌/◌, ◌≤◌}
use mathlib.Core.Bool.{Bool}
use mathlib.Core.List.{List}
use mathlib.Core.Path.{◌≡◌, refl, sym, ap, ◌∙◌}
use native.Mathlib.Omega.{arith}
use lib.ListN.{length, take, drop, take-append-drop}
use lib.Seq.{drop-drop}
use Rattle.error.specs.Refusal.{accepted}
use Rattle.buffer.specs.Bytes.{part}
use Rattle.buffer.specs.LittleEndian.{little_endian}
use Rattle.buffer.proofs.LawsOverwrite.{length_part, part_left}
use Rattle.scripthash_layout.specs.Sizes.{page_size}
use Rattle.scripthash_fields.specs.Page.{field, link_of}
use Rattle.book_keys.specs.Keys.{Ground, Chain, chain_at}
use Rattle.book_keys.specs.Steps.{ChainEndOf, chain_end_of}
use Rattle.book_keys.proofs.LawsChain.{chain_sound}
use Rattle.book_keys.specs.Steps.{PagesLeft}

-- All pages of a sound chain are left, from its first on.
pub chain_left : (counted : Bool) (s : Ground) (last : ℕ) (c : Chain) (end : ChainEndOf) → s.mark ≤ length s.body
    → chain_at s last ≡ accepted c
    → chain_end_of counted c ≡ end
    → PagesLeft s end.first end.pages c.offs
chain_left counted s last c end within e told =
    let k = chain_sound s last c e in
    let first : k.header.first ≡ end.first = sym k.begins ∙ ap (λ (x : ChainEndOf). x.first) told in
    record {
      within = within;
      count = ap (λ (x : ChainEndOf). x.pages) told;
      rest = λ h. record {
        most = s.mark / page_size;
        last = last;
        prev = 0;
        chain = c;
        walks = rw first at k.walks;
        met = refl;
      };
    }

-- Some bytes of a part are bytes of the whole.
part_inner : (b : List ℕ) (o k i n : ℕ) → o + k ≤ length b → i + n ≤ k → part (part b o k) i n ≡ part b (o + i) n
unfolding part
part_inner b o k i n within h =
    let long = length_part b o k within in
    sym (part_left (take k (drop o b)) (drop k (drop o b)) i n (omega arith))
    ∙ ap (λ (l : List ℕ). take n (drop i l)) (take-append-drop k (drop o b))
    ∙ ap (take n) (drop-drop i o b)

-- A page's link, as it is read from the body.
pub link_read_lem : (body : List ℕ) (off : ℕ) → off + 4096 ≤ length body → little_endian (part body (off + 3) 5) ≡ link_of (part body off 4096)
unfolding field
link_read_lem body off within = ap little_endian (sym (part_inner body off 4096 3 5 within (omega arith)))
