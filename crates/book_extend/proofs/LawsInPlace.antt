-- Numbers put one after another into the block where a key stands: what holds midway, and a turn. Assumes nothing.
use Prim.Native.Nat.{ℕ, ◌+◌, ◌-◌, ◌≤◌, ◌<◌}
use mathlib.Core.List.{List}
use mathlib.Core.Path.{◌≡◌, refl, sym, ap, subst, ◌∙◌}
use native.Mathlib.Omega.{arith}
use lib.ListN.{length, get_or, set, length-set}
use Rattle.error.specs.Refusal.{accepted}
use Rattle.buffer.specs.Bytes.{part, overwrite}
use Rattle.scripthash_layout.specs.Sizes.{slab_bytes, page_size}
use Rattle.scripthash_layout.specs.Head.{unpack_head}
use Rattle.scripthash_layout.specs.declared.head.ShHeadValue.{ShHeadValue}
use Rattle.scripthash_layout.specs.declared.head.ShHeadValue.TheVariants.{Slab, Extent}
use Rattle.scripthash_layout.proofs.LawsWords.{slab_word_lem, extent_word_lem}
use Rattle.scripthash_fields.specs.Page.{stream_off}
use Rattle.book_rules.proofs.LawsRules.{stays_holds}
use Rattle.book_space.specs.Space.{shape_broken}
use Rattle.book_keys.specs.Keys.{body_ground}
use Rattle.book_keys.proofs.LawsSlab.{slab_sound}
use Rattle.book_blocks.specs.Blocks.{slab_with, total_with, page_with}
use Rattle.book.specs.Book.{Outcome, head_word}
use Rattle.book.specs.Answers.{book_of}
use Rattle.book_append.specs.Steps.{KeyKnown}
use Rattle.book_extend.specs.Extends.{Extended, standing}
use Rattle.book_extend.specs.Steps.{PageTakes, SlabTakes, Extending, Stopped, InPlace}
use Rattle.book_extend.proofs.LawsWords.{put_told, slab_low, extent_low}
use Rattle.book_extend.proofs.LawsPage.{PageEnds, page_ends}
use Rattle.book_extend.proofs.LawsSlab.{SlabEnds, slab_ends}
use Rattle.book_extend.proofs.LawsExtend.{still, page_appends, slab_appends}

-- What is known of a call is known with another body and other heads that are as long.
known_on : (desk : ℕ) (body heads body' heads' : List ℕ) (mark : ℕ) (free counts : List ℕ) (key : ℕ) → length body' ≡ length body
    → length heads' ≡ length heads
    → KeyKnown desk (book_of body heads mark free counts) key → KeyKnown desk (book_of body' heads' mark free counts) key
unfolding shape_broken
known_on desk body heads body' heads' mark free counts key long keys k =
    record { shape = rw (long, keys) k.shape; known = k.known; keyed = omega (arith, keys, k.keyed) }

-- What is left from one index on gives the whole that was left from another.
abbrev pub Carries : List ℕ → List ℕ → ℕ → ℕ → List ℕ → ℕ → List ℕ → List ℕ → ℕ → Type 0
Carries body heads mark key ns i body' heads' j =
    (desk : ℕ) (free counts : List ℕ) → KeyKnown desk (book_of body heads mark free counts) key
    → (whole : Outcome Extended) (moves rewritten : ℕ)
    → Extending desk key ns whole (book_of body heads mark free counts) i moves rewritten
    → Extending desk key ns whole (book_of body' heads' mark free counts) j moves rewritten

-- Numbers up to an index were put where a key stands.
pub record Put (body₀ heads₀ : List ℕ) (mark key : ℕ) (ns : List ℕ) (i₀ : ℕ) (body heads : List ℕ) (i : ℕ) (place : ShHeadValue)
    : Type 0 where
  pub body_long : length body ≡ length body₀
  pub heads_long : length heads ≡ length heads₀
  pub later : i₀ ≤ i
  pub within : i ≤ length ns
  pub stands : unpack_head (get_or heads key 0) ≡ accepted place
  pub goes : Carries body₀ heads₀ mark key ns i₀ body heads i

-- At first none was.
pub put_none : (body heads : List ℕ) (mark key : ℕ) (ns : List ℕ) (i : ℕ) (place : ShHeadValue) → i ≤ length ns
    → unpack_head (get_or heads key 0) ≡ accepted place → Put body heads mark key ns i body heads i place
put_none body heads mark key ns i place left stands =
    record {
      body_long = refl;
      heads_long = refl;
      later = omega arith;
      within = left;
      stands = stands;
      goes = λ desk free counts known whole moves rewritten x. x;
    }

-- The numbers so far went where a sound key stands, and the next doesn't.
pub put_reached : {body₀ heads₀ : List ℕ} {mark key : ℕ} {ns : List ℕ} {i₀ : ℕ} {body heads : List ℕ} {i : ℕ} {place : ShHeadValue}
    → (from : ShHeadValue) → ((free counts : List ℕ) → standing (book_of body₀ heads₀ mark free counts) key ≡ accepted from)
    → Put body₀ heads₀ mark key ns i₀ body heads i place → Stopped body heads mark key ns i
    → InPlace body₀ heads₀ mark key ns i₀ body heads i
put_reached from sound p stop =
    record { later = p.later; within = p.within; place = from; sound = sound; goes = p.goes; stopped = stop }

module _ {body₀ heads₀ : List ℕ} {mark key : ℕ} {ns : List ℕ} {i₀ : ℕ} {body heads : List ℕ} {i : ℕ} where
  -- The last page takes the next number.
  pub put_page : (last : ℕ) {taken fk creates len : ℕ} → key < length heads₀ → mark ≤ length body₀
      → Put body₀ heads₀ mark key ns i₀ body heads i (Extent last) → PageEnds (body_ground body mark) last taken fk creates
      → i < length ns → PageTakes (get_or ns i 0) fk taken len
      → (written put : List ℕ) → written ≡ overwrite body last
      (page_with (part body last page_size) (record { at = stream_off (part body last page_size) + taken; difference = get_or ns i 0 - fk })
      creates)
      → length written ≡ length body → put ≡ set heads key (head_word (Extent last))
      → Put body₀ heads₀ mark key ns i₀ written put (i + 1) (Extent last)
      × PageEnds (body_ground written mark) last (taken + len) (get_or ns i 0) (total_with creates)
  put_page last {taken} {fk} {creates} {len} keyed below p e more t written put w long h =
      let n = get_or ns i 0 in
      let bounds = extent_low (get_or heads key 0) last p.stands in
      let word = extent_word_lem last bounds.0 bounds.1 in (
        record {
          body_long = long ∙ p.body_long;
          heads_long = ap length h ∙ length-set heads key (head_word (Extent last)) ∙ p.heads_long;
          later = omega (arith, p.later);
          within = omega arith;
          stands = ap (λ (l : List ℕ). unpack_head (get_or l key 0)) h ∙ put_told heads key (omega (arith, keyed, p.heads_long)) word;
          goes = λ desk free counts known whole moves rewritten x.
              subst (λ (l : List ℕ). Extending desk key ns whole (book_of written l mark free counts) (i + 1) moves rewritten) (sym h)
              (still (p.goes desk free counts known whole moves rewritten x) more
              (page_appends desk (book_of body heads mark free counts) key
              (known_on desk body₀ heads₀ body heads mark free counts key p.body_long p.heads_long known) n last p.stands e t
              written w)
              refl);
        },
        subst (λ (m : ℕ). PageEnds (body_ground written mark) last (taken + m) n (total_with creates)) (sym t.form)
            (page_ends body mark last (omega (arith, below, p.body_long)) e n t.above t.low (omega (arith, t.form, t.room))
            written w),
      )

  -- The next number stays in the slab.
  pub put_slab : (class used off : ℕ) {taken fk len : ℕ} → key < length heads₀ → mark ≤ length body₀
      → Put body₀ heads₀ mark key ns i₀ body heads i (Slab class used off) → SlabEnds (body_ground body mark) class used off taken fk
      → i < length ns → SlabTakes class used (get_or ns i 0) fk taken len
      → (size : ℕ) → size ≡ slab_bytes class → (written put : List ℕ)
      → written ≡ overwrite body off (slab_with (part body off size) used taken (get_or ns i 0 - fk)) → length written ≡ length body
      → put ≡ set heads key (head_word (Slab class (used + 1) off))
      → Put body₀ heads₀ mark key ns i₀ written put (i + 1) (Slab class (used + 1) off)
      × SlabEnds (body_ground written mark) class (used + 1) off (taken + len) (get_or ns i 0)
  put_slab class used off {taken} {fk} {len} keyed below p e more t size size_is written put w long h =
      let n = get_or ns i 0 in
      let low = slab_low (get_or heads key 0) class used off p.stands in
      let known-slab = slab_sound (body_ground body mark) class used off e.scan e.sound in
      let few = (stays_holds class (used + 1) (taken + len) t.holds).0 in
      let word = slab_word_lem class (used + 1) off (omega (arith, known-slab.class_to_7)) (omega (arith, known-slab.some))
      (omega (arith, few))
      low in (
        record {
          body_long = long ∙ p.body_long;
          heads_long = ap length h ∙ length-set heads key (head_word (Slab class (used + 1) off)) ∙ p.heads_long;
          later = omega (arith, p.later);
          within = omega arith;
          stands = ap (λ (l : List ℕ). unpack_head (get_or l key 0)) h ∙ put_told heads key (omega (arith, keyed, p.heads_long)) word;
          goes = λ desk free counts known whole moves rewritten x.
              subst (λ (l : List ℕ). Extending desk key ns whole (book_of written l mark free counts) (i + 1) moves rewritten) (sym h)
              (still (p.goes desk free counts known whole moves rewritten x) more
              (slab_appends desk (book_of body heads mark free counts) key
              (known_on desk body₀ heads₀ body heads mark free counts key p.body_long p.heads_long known) n class used off p.stands
              e t
              size size_is written w)
              refl);
        },
        subst (λ (m : ℕ). SlabEnds (body_ground written mark) class (used + 1) off (taken + m) n) (sym t.form)
            (slab_ends body mark class used off (omega (arith, below, p.body_long)) e n t.above t.low (rw t.form at t.holds)
            size
            size_is written w),
      )
