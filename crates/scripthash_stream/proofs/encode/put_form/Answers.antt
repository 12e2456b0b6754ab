-- `put_form` meets its contract: one byte is one store, two bytes are two, and any other form is written into the lent part from the offset
-- on, where it fits.
use Rattle.std.proofs.Common.{ℕ, ◌+◌, ◌-◌, ◌/◌, ◌%◌, ◌≤◌, ◌<◌, List, [], ◌∷◌, ◌++◌, ◌≡◌, sym, ap, ◌∙◌, add-zero, arith, length, take, drop, set, length-set}
use Rattle.buffer.specs.Bytes.{overwrite}
use Rattle.buffer.proofs.LawsBytes.{overwrite_step, overwrite_one, overwrite_part}
use Rattle.compact.specs.Uleb128.{uleb_len, shortest}
use Rattle.compact.proofs.LawsLength.{len_pos, len_small, len_two, shortest_small, shortest_two, length_shortest}
use Rattle.scripthash_stream.proofs.encode.put_form.Goals as goal

-- a buffer with a form written into its part from an offset on
whole : (b : List ℕ) (off d : ℕ) (part : List ℕ) → off + uleb_len d ≤ length b
    → part ≡ overwrite (take (length b - off) (drop off b)) 0 (shortest d)
    → take off b ++ (part ++ drop (length b - off) (drop off b)) ≡ overwrite b off (shortest d)
whole b off d part fits e =
    let long = length_shortest d in
    ap (λ (m : List ℕ). take off b ++ (m ++ drop (length b - off) (drop off b))) e
    ∙ overwrite_part b off (length b - off) 0 (shortest d) (omega arith) (omega arith)
    ∙ ap (λ (o : ℕ). overwrite b o (shortest d)) (add-zero off)

pub bounds-out-off : goal.bounds-out-off
bounds-out-off c = omega (arith, len_pos c.args.d)

pub returns-then-d-lt128 : goal.returns-then-d-lt128
returns-then-d-lt128 c =
    let a = c.args in
    let one = len_small a.d (omega arith) in
    record {
      len = sym one;
      bytes = sym (ap (overwrite a.out.now a.off) (shortest_small a.d (omega arith)) ∙ overwrite_one a.out.now a.off a.d
          (omega arith));
    }

pub bounds-out-off-then-d-lt16384 : goal.bounds-out-off-then-d-lt16384
bounds-out-off-then-d-lt16384 c = omega (arith, len_pos c.args.d)

pub bounds-out-off-then-d-lt16384-2 : goal.bounds-out-off-then-d-lt16384-2
bounds-out-off-then-d-lt16384-2 c = let a = c.args in simp length-set (omega (arith, len_two a.d (omega arith) (omega arith)))

pub returns-then-d-lt16384 : goal.returns-then-d-lt16384
returns-then-d-lt16384 c =
    let a = c.args in
    let b = a.out.now in
    let two = len_two a.d (omega arith) (omega arith) in
    let inside : a.off + 1 < length (set b a.off (a.d % 128 + 128)) = simp length-set (omega arith) in
    record {
      len = sym two;
      bytes = sym (ap (overwrite b a.off) (shortest_two a.d (omega arith) (omega arith))
          ∙ overwrite_step b a.off (a.d % 128 + 128) ((a.d / 128) ∷ []) (omega arith)
          ∙ overwrite_one (set b a.off (a.d % 128 + 128)) (a.off + 1) (a.d / 128) inside);
    }

pub returns-clause-bytes : goal.returns-clause-bytes
returns-clause-bytes c = whole c.args.out.now c.args.off c.args.d c.put_uleb128.new.dst c.requires c.put_uleb128.ensures.bytes
