-- A history with extends is one of appends: from a good start each extend is the appends of the numbers that it accepted, the next of which
-- is refused by the number that it tells; so each list of steps leaves the book of a list of calls, of which every theorem over histories
-- speaks. Assumes nothing.
use Prim.Native.Nat.{ℕ, zero, suc, ◌+◌, ◌<◌}
use mathlib.Core.List.{List, [], ◌∷◌, ◌++◌}
use mathlib.Core.Path.{◌≡◌, refl, sym, ap, subst, ◌∙◌}
use native.Mathlib.Omega.{arith}
use lib.ListN.{get_or, take}
use Rattle.error.specs.Refusal.{Answer, accepted, refused}
use Rattle.error.proofs.LawsAnswer.{accepted_inj, went_on}
use Rattle.book_rules.specs.Outcomes.{Appended, book_after}
use Rattle.book_statements.specs.Calls.{append, Call, ask, change, after_calls}
use Rattle.book_desks.specs.Desks.{desk_of}
use Rattle.plain_book.specs.Book.{after as plain_after}
use Rattle.book.specs.Book.{Book, Outcome}
use Rattle.book_append.specs.Appends.{appends}
use Rattle.book_extend.specs.Extends.{Extended, extended, with_append, after_one, extend_from, standing, extends, extends_with}
use Rattle.book_extend.proofs.LawsLeads.{desk_passed}
use Rattle.book_start.specs.Start.{GoodStart}
use Rattle.book_history.specs.Calls.{does, serves, after}
use Rattle.book_history.specs.Core.{core_does, core_serves}
use Rattle.book_history.specs.PlainOf.{plain_of}
use Rattle.book_history.specs.Standing.{Standing}
use Rattle.book_history.specs.Extended.{appends_of, OfAppends, Step, call, extend, accepted_by, step_calls, after_step}
use Rattle.book_history.specs.Extended.{after_steps, all_calls}
use Rattle.book_history.proofs.LawsStartKept.{start_kept}
use Rattle.book_history.proofs.Core.{start_passes, core_did, core_after}
use Rattle.book_history.proofs.Demand3.{demand_3_from}

-- ---- the appends of an extend, by the core

-- What the appends of some numbers by a key's desk did, behind so many that were accepted before.
record Run (ds : List ℕ) (b : Book) (key : ℕ) (ns : List ℕ) (before : ℕ) (o : Outcome Extended) : Type 0 where
  taken : ℕ
  counts : o.told.count ≡ before + taken
  of : OfAppends (core_serves ds) b key ns taken o.told.refusal o.book

module _ (ds : List ℕ) (key : ℕ) where
  abbrev desk : ℕ
  desk = desk_of ds key

  -- The book after the appends of some numbers.
  abbrev left : Book → List ℕ → Book
  left b ns = after_calls (core_serves ds) b (appends_of key ns)

  -- An accepted append leads from a book to the next.
  left_on_lem : (b : Book) (n : ℕ) (ns : List ℕ) {p : Outcome Appended} → appends desk b key n ≡ accepted p
      → left b (n ∷ ns) ≡ left p.book ns
  unfolding after_calls appends_of core_does book_after
  left_on_lem b n ns e = ap (λ (a : Answer (Outcome Appended)). left (book_after b a) ns) e

  -- Behind an accepted append each is accepted that is so from its book on.
  each_on : (b : Book) (n : ℕ) (ns : List ℕ) (k : ℕ) {p : Outcome Appended} → appends desk b key n ≡ accepted p
      → ((i : ℕ) → i < k → (o : Outcome Appended) × (core_does ds (left p.book (take i ns)) (append key (get_or ns i 0)) ≡ accepted o))
      → (i : ℕ) → i < suc k
      → (o : Outcome Appended) × (core_does ds (left b (take i (n ∷ ns))) (append key (get_or (n ∷ ns) i 0)) ≡ accepted o)
  unfolding after_calls appends_of core_does
  each_on b n ns k {p} e more zero h = (p, e)
  each_on b n ns k {p} e more (suc i) h =
      let (o, is) = more i (omega arith) in
      (o, ap (λ (c : Book). appends desk c key (get_or ns i 0)) (left_on_lem b n (take i ns) e) ∙ is)

  -- One append before others.
  run_one : (n : ℕ) (ns : List ℕ) (b : Book) (x : Extended) → x.refusal ≡ 0
      → ((c : Book) (y : Extended) → y.refusal ≡ 0 → Run ds c key ns y.count (extend_from desk key ns c y))
      → (a : Answer (Outcome Appended)) → appends desk b key n ≡ a
      → Run ds b key (n ∷ ns) x.count (after_one b x (extend_from desk key ns) a)
  unfolding after_one after_calls appends_of core_does
  run_one n ns b x none more (accepted p) e =
      let r = more p.book (with_append x p.told) none in
      record {
        taken = suc r.taken;
        counts = omega (arith, r.counts);
        of = record {
          few = omega (arith, r.of.few);
          book = r.of.book ∙ sym (left_on_lem b n (take r.taken ns) e);
          each = each_on b n ns r.taken e r.of.each;
          stops = λ h. r.of.stops (omega (arith, h));
          ends = λ h. r.of.ends (omega (arith, h));
        };
      }
  run_one n ns b x none more (refused number) e =
      record {
        taken = 0;
        counts = omega arith;
        of = record {
          few = omega arith;
          book = refl;
          each = λ i h. absurd (omega (arith, h));
          stops = λ h. e;
          ends = λ h. absurd (omega (arith, h));
        };
      }

  -- The appends of all numbers.
  run : (ns : List ℕ) (b : Book) (x : Extended) → x.refusal ≡ 0 → Run ds b key ns x.count (extend_from desk key ns b x)
  unfolding extend_from after_calls appends_of
  run [] b x none =
      record {
        taken = 0;
        counts = omega arith;
        of = record {
          few = omega arith;
          book = refl;
          each = λ i h. absurd (omega (arith, h));
          stops = λ h. absurd (omega (arith, h));
          ends = λ h. none;
        };
      }
  run (n ∷ ns) b x none = run_one n ns b x none (run ns) (appends desk b key n) refl

  -- An extend that isn't refused is the appends of the numbers that it accepted.
  pub core_extends : (b : Book) (ns : List ℕ) {o : Outcome Extended} → extends desk b key ns ≡ accepted o
      → OfAppends (core_serves ds) b key ns o.told.count o.told.refusal o.book
  unfolding extends
  core_extends b ns {o} e =
      let (known, e1) = desk_passed desk b key _ e in
      let (place, sound, is) = went_on (standing b key) _ e1 in
      let whole = extend_from desk key ns b (extended 0 0 place 0 0) in
      let r = run ns b (extended 0 0 place 0 0) refl in
      let all : OfAppends (core_serves ds) b key ns whole.told.count whole.told.refusal whole.book =
      subst (λ (n : ℕ). OfAppends (core_serves ds) b key ns n whole.told.refusal whole.book) (sym (r.counts ∙ omega arith))
      r.of in
      subst (λ (x : Outcome Extended). OfAppends (core_serves ds) b key ns x.told.count x.told.refusal x.book)
      (accepted_inj is) all

-- ---- from a good start

module _ (ds : List ℕ) (b : Book) (g : GoodStart ds b) where
  -- The book after calls is a good start, and the same by the core's.
  module _ (cs : List Call) where
    same_after : after_calls (core_serves ds) b cs ≡ after ds b cs
    same_after = core_after ds b cs g

    good_after : GoodStart ds (after ds b cs)
    good_after = start_kept ds b cs g

  module _ (key : ℕ) (ns : List ℕ) where
    -- An append after calls does the same by the core's.
    same_did : (cs : List Call) (n : ℕ)
        → core_does ds (after_calls (core_serves ds) b cs) (append key n) ≡ does ds (after ds b cs) (append key n)
    same_did cs n =
        ap (λ (c : Book). core_does ds c (append key n)) (same_after cs) ∙ core_did ds (after ds b cs) (good_after cs) (append key n)

    -- An extend is the appends of the numbers that it accepted, each lent the list of desks as it is.
    pub extend_of_appends : {o : Outcome Extended} → extends_with ds b key ns ≡ accepted o
        → OfAppends (serves ds) b key ns o.told.count o.told.refusal o.book
    extend_of_appends {o} e =
        let r = core_extends ds key b ns (sym (start_passes ds b g key _) ∙ e) in
        let cs = appends_of key (take o.told.count ns) in
        let book = r.book ∙ same_after cs in
        record {
          few = r.few;
          book = book;
          each = λ i h. let (p, is) = r.each i h in (p, sym (same_did (appends_of key (take i ns)) (get_or ns i 0)) ∙ is);
          stops = λ h.
              ap (λ (c : Book). does ds c (append key (get_or ns o.told.count 0))) book
              ∙ sym (same_did cs (get_or ns o.told.count 0))
              ∙ ap (λ (c : Book). core_does ds c (append key (get_or ns o.told.count 0))) (sym r.book) ∙ r.stops h;
          ends = r.ends;
        }

  -- The book after an extend is the book after those appends: the same where it is refused.
  extend_leaves : (key : ℕ) (ns : List ℕ) (a : Answer (Outcome Extended)) → extends_with ds b key ns ≡ a
      → book_after b a ≡ after ds b (appends_of key (take (accepted_by a) ns))
  unfolding book_after after_calls appends_of
  extend_leaves key ns (accepted o) e = (extend_of_appends key ns e).book
  extend_leaves key ns (refused number) e = refl

  -- The book after a step is the book after its calls.
  step_as_calls : (s : Step) → after_step ds b s ≡ after ds b (step_calls ds b s)
  unfolding after_step step_calls
  step_as_calls (call c) = refl
  step_as_calls (extend key ns) = extend_leaves key ns (extends_with ds b key ns) refl

-- ---- histories

-- Calls after calls.
after_then : (ds : List ℕ) (b : Book) (cs more : List Call) → after ds b (cs ++ more) ≡ after ds (after ds b cs) more
unfolding after_calls
after_then ds b [] more = refl
after_then ds b (ask q ∷ cs) more = after_then ds b cs more
after_then ds b (change c ∷ cs) more = after_then ds (book_after b (does ds b c)) cs more

-- A history with extends leaves the book of a history of calls.
pub steps_as_calls : (ds : List ℕ) (b : Book) (ss : List Step) → GoodStart ds b → after_steps ds b ss ≡ after ds b (all_calls ds b ss)
unfolding after_steps all_calls after_calls
steps_as_calls ds b [] g = refl
steps_as_calls ds b (s ∷ ss) g =
    let here = step_as_calls ds b g s in
    let good : GoodStart ds (after_step ds b s) = subst (GoodStart ds) (sym here) (start_kept ds b (step_calls ds b s) g) in
    steps_as_calls ds (after_step ds b s) ss good
    ∙ ap (λ (c : Book). after ds c (all_calls ds (after_step ds b s) ss)) here
    ∙ sym (after_then ds b (step_calls ds b s) (all_calls ds (after_step ds b s) ss))

-- So a history with extends, from a good start, leaves a good start, and stands as the plain book does after those calls.
pub steps_stand : (ds : List ℕ) (b : Book) (ss : List Step) → GoodStart ds b
    → GoodStart ds (after_steps ds b ss) × Standing (plain_after (plain_of ds b) (all_calls ds b ss)) (after_steps ds b ss)
steps_stand ds b ss g =
    let same = sym (steps_as_calls ds b ss g) in (
      subst (GoodStart ds) same (start_kept ds b (all_calls ds b ss) g),
      subst (Standing (plain_after (plain_of ds b) (all_calls ds b ss))) same (demand_3_from ds b (all_calls ds b ss) g).1,
    )
