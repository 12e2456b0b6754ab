-- A key's slab: by its bytes, and where it stands. Assumes nothing.
use Prim.Native.Nat.{ℕ, zero, suc, ◌+◌, ◌^◌, ◌≤◌, ◌<◌}
use mathlib.Core.Bool.{Bool, true, false, ◌&&◌}
use mathlib.Core.List.{List, [], ◌∷◌}
use mathlib.Core.Path.{◌≡◌, refl, sym, ap, ◌∙◌}
use native.Mathlib.Omega.{arith}
use borrow.Author.Tests.{leb-true, eqb-true, ltb-false, lt-ltb, le-leb, lt-leb, eq-eqb, ne_eqb}
use lib.Dec.{leb, ltb, eqb}
use lib.ListN.{length, drop, length-take, length-drop}
use Rattle.error.specs.Refusal.{Answer, accepted, refused, and_then, key_unsound}
use Rattle.error.proofs.LawsAnswer.{accepted_inj, passed, then_yes, went_on}
use Rattle.buffer.specs.Bytes.{part}
use Rattle.scripthash_layout.specs.Sizes.{slab_bytes, max_slab_class, max_slab_count}
use Rattle.scripthash_stream.specs.Stream.{Rising, last_from, Scan, scan_from, scan, decode_stream}
use Rattle.scripthash_stream.proofs.LawsScan.{scan_accepted}
use Rattle.scripthash_stream.proofs.LawsDecode.{decode_refused, decode_fits, decode_accepted}
use Rattle.scripthash_slabs.specs.Slab.{slab_used, decode_slab}
use Rattle.scripthash_slabs.proofs.LawsSlab.{unslab_as_stream}
use Rattle.scripthash_free.specs.FreeList.{is_block}
use Rattle.scripthash_free.proofs.LawsBlock.{both}
use Rattle.book_keys.specs.Keys.{sure, go_on, block_at, slab_scan, Ground}
use Rattle.book_keys.specs.Steps.{sound_last, slab_read}
use Rattle.book_keys.proofs.LawsSound.{sure_yes, sure_no, was_sure, last_above, going, last_sound, first_by_last}
use Rattle.book_keys.proofs.LawsBlocks.{is_slab, slab_lies}

-- ---- by its bytes

module _ (slab : List ℕ) (used : ℕ) where
  -- a slab with more numbers than one may have
  pub slab_many : max_slab_count < used → slab_read slab used ≡ refused key_unsound
  unfolding slab_read
  slab_many h = sure_no _ _ (ap (λ (t : Bool). t && eqb (slab_used slab) used) (lt-leb used max_slab_count h))

  -- a slab that says another count than its head
  pub slab_other : used ≤ max_slab_count → (slab_used slab ≡ used → ⊥) → slab_read slab used ≡ refused key_unsound
  unfolding slab_read
  slab_other h k = sure_no _ _ (rw (le-leb used max_slab_count h, ne_eqb (slab_used slab) used k))

  -- and else the scan decides
  decode_as_scan : slab_used slab ≡ used → 2 ≤ length slab → decode_slab used slab ≡ scan used (drop 2 slab)
  decode_as_scan e h = unslab_as_stream used slab h ∙ ap (λ (n : ℕ). decode_stream used n (drop 2 slab)) e
      ∙ always (scan used (drop 2 slab)) refl
    where
      always : (a : Answer Scan) → scan used (drop 2 slab) ≡ a → decode_stream used used (drop 2 slab) ≡ a
      always (accepted s) is = decode_fits used used (drop 2 slab) is (omega arith)
      always (refused number) is = decode_refused used used (drop 2 slab) is

  pub slab_by_scan : used ≤ max_slab_count → slab_used slab ≡ used → 2 ≤ length slab → slab_read slab used ≡ last_sound (scan used (drop 2 slab))
  unfolding slab_read
  slab_by_scan h e l =
      sure_yes _ _ (rw (le-leb used max_slab_count h, eq-eqb (slab_used slab) used e))
      ∙ ap (λ (a : Answer Scan). and_then a (λ c. sure (go_on 0 c.numbers) (accepted c))) (decode_as_scan e l)
      ∙ first_by_last (scan used (drop 2 slab)) (λ c f. (scan_accepted 0 used (drop 2 slab) c f).rising)

-- a stream that takes bytes has a last number
last_some : (ns : List ℕ) → Rising (2 ^ 63) 0 ns → 0 < length ns → 0 < last_from 0 ns
unfolding Rising last_from
last_some [] h some = absurd (omega (arith, some))
last_some (n ∷ ns) h some = omega (arith, last_above (2 ^ 63) n ns h.2, h.0)

scanned_last : (n : ℕ) (bs : List ℕ) (c : Scan) → scan n bs ≡ accepted c → 0 < c.taken → 0 < last_from 0 c.numbers
unfolding scan_from
scanned_last zero bs c e h = absurd (omega (arith, h, ap (λ (x : Scan). x.taken) (accepted_inj e)))
scanned_last (suc k) bs c e h =
    let w = scan_accepted 0 (suc k) bs c e in
    last_some c.numbers w.rising (omega (arith, w.counted))

-- a slab whose stream takes bytes and ends below 2 ^ 62 is read as that stream
pub slab_short : (slab : List ℕ) (used : ℕ) (c : Scan) → used ≤ max_slab_count → slab_used slab ≡ used → 2 ≤ length slab
    → scan used (drop 2 slab) ≡ accepted c → 0 < c.taken → last_from 0 c.numbers < 2 ^ 62 → slab_read slab used ≡ accepted c
unfolding sound_last
slab_short slab used c few e l is some low =
    let last = last_from 0 c.numbers in
    slab_by_scan slab used few e l ∙ then_yes (scan used (drop 2 slab)) _ is
    ∙ sure_yes _ _ (rw (lt-ltb 0 last (scanned_last used (drop 2 slab) c is some), lt-ltb last (2 ^ 62) low))

-- ---- where it stands

module _ (s : Ground) (class used off : ℕ) where
  -- a slab that can't stand is refused
  pub slab_no : is_slab class off s.mark ≡ false → slab_scan s class used off ≡ refused key_unsound
  unfolding slab_scan
  slab_no e = sure_no (is_slab class off s.mark) _ e

  -- and else its bytes decide
  pub slab_yes : is_slab class off s.mark ≡ true → slab_scan s class used off ≡ slab_read (block_at s class off) used
  unfolding slab_scan slab_read
  slab_yes e = sure_yes (is_slab class off s.mark) _ e

-- ---- what is known of a sound one

-- What is known of a payload that was read: the bytes that it takes, and that it reads so into any list with room for it.
pub record Payload (slab : List ℕ) (c : Scan) : Type 0 where
  pub scanned : scan (slab_used slab) (drop 2 slab) ≡ accepted c
  pub counted : length c.numbers ≡ slab_used slab
  pub rising : Rising (2 ^ 63) 0 c.numbers
  pub taken_within : c.taken + 2 ≤ length slab
  pub into : (room : ℕ) → length c.numbers ≤ room → decode_slab room slab ≡ accepted c

pub payload_read : (room : ℕ) (slab : List ℕ) (c : Scan) → decode_slab room slab ≡ accepted c → Payload slab c
unfolding decode_slab
payload_read room slab c e =
    let long = passed (ltb (length slab) 2) _ _ e in
    let two : 2 ≤ length slab = ltb-false (length slab) 2 long.0 in
    let read = (decode_accepted room (slab_used slab) (drop 2 slab) long.1).0 in
    let known = scan_accepted 0 (slab_used slab) (drop 2 slab) c read in
    record {
      scanned = read;
      counted = known.counted;
      rising = known.rising;
      taken_within = omega (arith, known.within, length-drop 2 slab);
      into = λ r h. unslab_as_stream r slab two ∙ decode_fits r (slab_used slab) (drop 2 slab) read (omega (arith, known.counted));
    }

-- What is known of a slab that reads as its head tells.
pub slab_payload_lem : (slab : List ℕ) (used : ℕ) (c : Scan) → slab_read slab used ≡ accepted c
    → (slab_used slab ≡ used) × (used ≤ max_slab_count) × Payload slab c × (go_on 0 c.numbers ≡ true)
unfolding slab_read
slab_payload_lem slab used c e =
    let told = was_sure (leb used max_slab_count && eqb (slab_used slab) used) _ e in
    let tests = both (leb used max_slab_count) (eqb (slab_used slab) used) told.0 in
    let read = went_on (decode_slab used slab) _ told.1 in
    let gone = was_sure (go_on 0 read.0.numbers) _ read.2 in
    let same : read.0 ≡ c = accepted_inj gone.1 in (
      eqb-true (slab_used slab) used tests.1,
      leb-true used max_slab_count tests.0,
      rw same at (payload_read used slab read.0 read.1),
      ap (λ (x : Scan). go_on 0 x.numbers) (sym same) ∙ gone.0,
    )

-- What is known of a sound slab: where it stands, how many numbers its head and its bytes tell, and its numbers.
pub record SoundSlab (s : Ground) (class used off : ℕ) (c : Scan) : Type 0 where
  pub class_to_7 : class ≤ max_slab_class
  pub stands : is_block class off s.mark ≡ true
  pub used_to_256 : used ≤ max_slab_count
  pub stored : slab_used (block_at s class off) ≡ used
  pub payload : Payload (block_at s class off) c
  pub counted : length c.numbers ≡ used
  pub some : 0 < used
  pub goes : go_on 0 c.numbers ≡ true
  pub rising : Rising (2 ^ 62) 0 c.numbers
  pub taken_fits : c.taken + 2 ≤ slab_bytes class

module _ (s : Ground) (class used off : ℕ) where
  -- it stands, and its bytes read
  pub slab_there : {c : Scan} → slab_scan s class used off ≡ accepted c
      → (is_slab class off s.mark ≡ true) × (slab_read (block_at s class off) used ≡ accepted c)
  unfolding slab_scan slab_read
  slab_there e = was_sure (is_slab class off s.mark) _ e

  pub slab_sound : (c : Scan) → slab_scan s class used off ≡ accepted c → SoundSlab s class used off c
  unfolding part
  slab_sound c e =
      let slab = block_at s class off in
      let there = slab_there e in
      let lies = slab_lies class off s.mark there.0 in
      let read = slab_payload_lem slab used c there.1 in
      let payload = read.2 in
      let goes = read.3 in
      let counted : length c.numbers ≡ used = payload.counted ∙ read.0 in
      let know = going 0 c.numbers payload.rising goes in
      record {
        class_to_7 = lies.0;
        stands = lies.1;
        used_to_256 = read.1;
        stored = read.0;
        payload = payload;
        counted = counted;
        some = omega (arith, know.some);
        goes = goes;
        rising = know.rising;
        taken_fits = omega (arith, payload.taken_within, length-take (slab_bytes class) (drop off s.body));
      }

  -- a slab that stands and reads as its head tells is sound
  pub sound_slab : (c : Scan) → class ≤ max_slab_class → is_block class off s.mark ≡ true → used ≤ max_slab_count
      → slab_used (block_at s class off) ≡ used
      → decode_slab used (block_at s class off) ≡ accepted c → go_on 0 c.numbers ≡ true → slab_scan s class used off ≡ accepted c
  unfolding slab_scan
  sound_slab c h stands few stored read goes =
      sure_yes _ _ (rw (le-leb class max_slab_class h, stands)) ∙ sure_yes _ _ (rw (le-leb used max_slab_count few, eq-eqb _ used stored))
      ∙ then_yes (decode_slab used (block_at s class off)) _ read ∙ sure_yes (go_on 0 c.numbers) _ goes
