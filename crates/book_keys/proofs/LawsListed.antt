-- Reading a key's list into a lent list: what is told, and what the list holds afterwards. Assumes nothing.
use Prim.Native.Nat.{ℕ, ◌+◌, ◌^◌, ◌≤◌, ◌<◌}
use mathlib.Core.List.{List}
use mathlib.Core.Path.{◌≡◌, refl, sym, ap, ◌∙◌}
use native.Mathlib.Omega.{arith}
use borrow.Author.Tests.{lt-ltb, le-ltb}
use lib.Dec.{ltb}
use lib.ListN.{length, drop}
use Rattle.std.specs.Prelude.{Option, Some, None}
use Rattle.error.specs.Refusal.{Answer, accepted, refused, list_too_short, key_unsound}
use Rattle.error.proofs.LawsAnswer.{then_yes, then_no, refuse_yes, refuse_no, answered_yes, answered_no}
use Rattle.buffer.specs.Bytes.{overwrite}
use Rattle.scripthash_layout.specs.Sizes.{max_slab_count}
use Rattle.scripthash_layout.specs.declared.head.ShHeadValue.TheVariants.{Slab}
use Rattle.scripthash_stream.specs.Stream.{Scan, scan, padded_in}
use Rattle.scripthash_forms.specs.Quick.{ShortRead, unread as unread-stream, short as short-stream}
use Rattle.scripthash_slabs.specs.Slab.{slab_used, slab_padded}
use Rattle.book_keys.specs.Keys.{soundly, block_at, slab_scan, Content, content_at, Ground}
use Rattle.book_keys.specs.Steps.{slab_read, Counts, counts_of, ShortList, unread, short, in_room, after_read, KeyRead}
use Rattle.book_keys.proofs.LawsSound.{soundly_yes, soundly_no}
use Rattle.book_keys.proofs.LawsSlab.{slab_short, slab_payload_lem}
use Rattle.book_keys.proofs.LawsContent.{in_slab, content_slab, content_no_slab}

-- ---- a key's list, and the room for it

module _ (room : ℕ) (a : Answer Content) where
  -- a key that isn't sound
  pub fitting_no : {number : ℕ} → a ≡ refused number → in_room room a ≡ refused number
  unfolding in_room
  fitting_no e = then_no a _ e

  -- a list that doesn't fit, and one that does
  pub fitting_short : (c : Content) → a ≡ accepted c → room < length c.numbers → in_room room a ≡ refused list_too_short
  unfolding in_room
  fitting_short c e h = then_yes a _ e ∙ refuse_yes (ltb room (length c.numbers)) _ _ (lt-ltb room (length c.numbers) h)

  pub fitting_yes : (c : Content) → a ≡ accepted c → length c.numbers ≤ room → in_room room a ≡ accepted c
  unfolding in_room
  fitting_yes c e h = then_yes a _ e ∙ refuse_no (ltb room (length c.numbers)) _ _ (le-ltb room (length c.numbers) h)

-- ---- a read

-- one that is refused, and leaves the list
stays : (out : List ℕ) (a : Answer Content) {number : ℕ} → in_room (length out) a ≡ refused number → KeyRead (refused number) out out a
unfolding after_read
stays out a e = (sym (answered_no counts_of _ e), rw e)

module _ (out after : List ℕ) (a : Answer Content) where
  -- a key that isn't sound
  pub read_unsound : {number : ℕ} → a ≡ refused number → after ≡ out → KeyRead (refused number) out after a
  read_unsound e f = rw f (stays out a (fitting_no (length out) a e))

  module _ (c : Content) (is : a ≡ accepted c) where
    -- a list that is too short
    pub read_short : length out < length c.numbers → after ≡ out → KeyRead (refused list_too_short) out after a
    read_short h f = rw f (stays out a (fitting_short (length out) a c is h))

    -- and else the numbers are in the list
    pub read_listed : (k : Counts) → counts_of c ≡ k → length c.numbers ≤ length out → after ≡ overwrite out 0 c.numbers
        → KeyRead (accepted k) out after a
    unfolding after_read
    read_listed k n h f =
        let e = fitting_yes (length out) a c is h in
        (ap accepted (sym n) ∙ sym (answered_yes counts_of _ e), f ∙ rw e)

-- ---- a try at a short list

-- one that told nothing left the list
pub short_left : (told : Option ℕ) (before after : List ℕ) (a : Answer Scan) → ShortList told before after a → told ≡ None → after ≡ before
short_left told before after a (unread e f) g = f
short_left told before after a (short c t some is h f) g = cc

-- one of a slab whose stream was tried in vain
pub slab_untried : (told : ℕ) (before after : List ℕ) (a b : Answer Scan) → told ≡ 0 → ShortRead told (2 ^ 62) before after a
    → ShortList None before after b
slab_untried told before after a b z (unread-stream t f) = unread refl f
slab_untried told before after a b z (short-stream c some is size fits low f) = absurd (omega arith)

-- one of a slab whose stream was tried and read
pub short_slab : (slab : List ℕ) (used told : ℕ) (before after : List ℕ) → used ≤ max_slab_count → slab_used slab ≡ used → 2 ≤ length slab
    → 0 < told → ShortRead told (2 ^ 62) before after (scan used (drop 2 slab)) → ShortList (Some told) before after (slab_read slab used)
short_slab slab used told before after few e l took (unread-stream t f) = absurd (omega arith)
short_slab slab used told before after few e l took (short-stream c some is size fits low f) =
    short c (ap Some (sym size)) (omega arith) (slab_short slab used c few e l is (omega arith) low) fits f

-- ---- a slab's list

-- a key whose slab's bytes read
module _ (s : Ground) (class used off : ℕ) (slab out after : List ℕ) (at : slab_scan s class used off ≡ slab_read slab used)
    (bytes : block_at s class off ≡ slab) where
  -- they don't
  pub slab_unsound : {number : ℕ} → slab_read slab used ≡ refused number → after ≡ out
      → KeyRead (refused key_unsound) out after (soundly (content_at s (Slab class used off)))
  slab_unsound e f = read_unsound out after _ (soundly_no _ (content_no_slab s class used off (at ∙ e))) f

  module _ (c : Scan) (is : slab_read slab used ≡ accepted c) where
    holds : soundly (content_at s (Slab class used off)) ≡ accepted (in_slab s class off c)
    holds = soundly_yes _ (content_slab s class used off c (at ∙ is))

    pub slab_counted : length c.numbers ≡ used
    slab_counted = let p = slab_payload_lem slab used c is in p.2.counted ∙ p.0

    -- but the list is too short
    pub slab_too_long : length out < used → after ≡ out
        → KeyRead (refused list_too_short) out after (soundly (content_at s (Slab class used off)))
    slab_too_long h f = read_short out after _ (in_slab s class off c) holds (omega (arith, slab_counted)) f

    -- and else they are in the list
    pub slab_listed : length c.numbers ≤ length out → after ≡ overwrite out 0 c.numbers
        → KeyRead (accepted (record { length = used; pages = 0; padded = slab_padded slab })) out after
        (soundly (content_at s (Slab class used off)))
    slab_listed h f =
        read_listed out after _ (in_slab s class off c) holds _
        (ap (λ (n : ℕ). record { length = n; pages = 0; padded = slab_padded (block_at s class off) }) slab_counted
        ∙ ap (λ (bs : List ℕ). record { length = used; pages = 0; padded = slab_padded bs }) bytes) h f

-- A slab's stream that a try took, and what the list holds then.
pub record Tried (slab : List ℕ) (used taken : ℕ) (out after : List ℕ) : Type 0 where
  pub scanned : Scan
  pub is : slab_read slab used ≡ accepted scanned
  pub size : scanned.taken ≡ taken
  pub fits : length scanned.numbers ≤ length out
  pub written : after ≡ overwrite out 0 scanned.numbers

-- a try that told some bytes read a slab's list
pub slab_tried : (slab : List ℕ) (used taken : ℕ) (out after : List ℕ) → ShortList (Some taken) out after (slab_read slab used)
    → Tried slab used taken out after
slab_tried slab used taken out after (unread e f) = cc
slab_tried slab used taken out after (short c t some is h f) =
    record { scanned = c; is = is; size = cc; fits = h; written = f }

-- what is counted over the bytes that a slab's stream takes
pub slab_told : (slab bs : List ℕ) (used taken r : ℕ) → bs ≡ drop 2 slab
    → ((s : Scan) → scan used bs ≡ accepted s → s.taken ≡ taken → r ≡ padded_in used bs)
    → (c : Scan) → slab_read slab used ≡ accepted c → c.taken ≡ taken → r ≡ slab_padded slab
unfolding slab_padded
slab_told slab bs used taken r f told c is t =
    let p = slab_payload_lem slab used c is in
    told c (ap (scan used) f ∙ ap (λ (k : ℕ). scan k (drop 2 slab)) (sym p.0) ∙ p.2.scanned) t
    ∙ ap (padded_in used) f ∙ ap (λ (k : ℕ). padded_in k (drop 2 slab)) (sym p.0)

-- the bytes of a slab's stream lie in it
pub slab_within : (slab : List ℕ) (used : ℕ) (c : Scan) → slab_read slab used ≡ accepted c → 2 + c.taken ≤ length slab
slab_within slab used c is = omega (arith, (slab_payload_lem slab used c is).2.taken_within)
