-- `extend_in_place` meets its contract: the place that the head word tells decides.
use Rattle.std.proofs.Common.{ℕ, ◌≤◌, List, length, ◌≡◌, refl, sym, ap, ◌∙◌, arith, get_or}
use mathlib.Core.Logic.{⊎_elim}
use Rattle.error.specs.Refusal.{accepted}
use Rattle.scripthash_layout.specs.declared.head.ShHeadValue.{ShHeadValue}
use Rattle.scripthash_layout.specs.declared.head.ShHeadValue.TheVariants.{Empty, Inline}
use Rattle.book_keys.specs.Keys.{body_ground}
use Rattle.book.specs.Answers.{book_of}
use Rattle.book_extend.specs.Extends.{standing}
use Rattle.book_extend.specs.Steps.{Stopped, InPlace}
use Rattle.book_extend.proofs.LawsExtend.{standing_none, standing_empty, standing_inline}
use Rattle.book_extend.proofs.LawsPast.{empty_not, inline_not}
use Rattle.book_extend.proofs.extending.extend_in_place.Goals as goal

-- no number goes into a key without a block
none : (body heads : List ℕ) (mark key : ℕ) (ns : List ℕ) (i : ℕ) (place : ShHeadValue) → i ≤ length ns
    → ((free counts : List ℕ) → standing (book_of body heads mark free counts) key ≡ accepted place) → Stopped body heads mark key ns i
    → InPlace body heads mark key ns i body heads i
none body heads mark key ns i place within sound stop =
    record {
      later = omega arith;
      within = within;
      place = place;
      sound = sound;
      goes = λ desk free counts known whole moves rewritten x. x;
      stopped = stop;
    }

pub returns-in_default : goal.returns-in_default
returns-in_default c =
    let a = c.args in (
      refl,
      record {
        unsound = λ free counts. standing_none (book_of a.body.now a.heads.now a.mark free counts) a.key (sym c.in_default.ensures);
        body_kept = refl;
        heads_kept = refl;
      },
    )

pub extend_slab-requires : goal.extend_slab-requires
extend_slab-requires c =
    let pre = c.requires in
    record { within = pre.0; keyed = pre.1; left = pre.2; stands = sym c.in-Ok.ensures ∙ ap accepted c.in-Slab.is }

pub extend_page-requires : goal.extend_page-requires
extend_page-requires c =
    let pre = c.requires in
    record { within = pre.0; keyed = pre.1; left = pre.2; stands = sym c.in-Ok.ensures ∙ ap accepted c.in-Extent.is }

pub returns-in-Empty : goal.returns-in-Empty
returns-in-Empty c =
    let a = c.args in
    let at = sym c.in-Ok.ensures in
    let g = body_ground a.body.now a.mark in
    let n = get_or a.fks.now a.from 0 in
    let word = get_or a.heads.now a.key 0 in
    ⊎_elim
    (λ (e : c.in-Ok.place ≡ Empty).
    none a.body.now a.heads.now a.mark a.key a.fks.now a.from _ c.requires.2
    (λ free counts. standing_empty (book_of a.body.now a.heads.now a.mark free counts) a.key (at ∙ ap accepted e))
    (λ more free shape. empty_not g n word (at ∙ ap accepted e)))
    (λ (w : (entry : ℕ) × (used : ℕ) × (c.in-Ok.place ≡ Inline entry used)).
    none a.body.now a.heads.now a.mark a.key a.fks.now a.from _ c.requires.2
    (λ free counts. standing_inline (book_of a.body.now a.heads.now a.mark free counts) a.key _ _ (at ∙ ap accepted w.2))
    (λ more free shape. inline_not g n word _ _ (at ∙ ap accepted w.2)))
    c.in-Empty.is
