-- Flagging the pages of a list: what is left of it gives the whole. Assumes nothing.
use Rattle.std.proofs.Common.{◌≡◌, ℕ, ◌+◌, ◌-◌, ◌*◌, ◌/◌, ◌%◌, ◌<◌, ◌≤◌, Bool, true, false, ◌||◌, eqb, List, [], ◌∷◌, length, sym, refl, ap, ◌∙◌, ⊎_elim, arith, eq-eqb, ne_eqb}
use Rattle.free_runs.specs.Runs.{is_in}
use Rattle.free_runs.specs.Steps.{window_pages, flag, set_flag, FlagsOne, Marks}
use Rattle.free_runs.proofs.LawsFlags.{same_or_not, flag_set, long_set}

-- ---- one page

module _ (from page next : ℕ) (words : List ℕ) where
  pub one_before_lem : page < from → FlagsOne from page next words words next
  one_before_lem h =
      record {
        flags = λ i l. rw (ne_eqb page (from + i) (λ z. omega arith));
        long = refl;
        limit = omega arith;
        passed = λ p l m z. omega arith;
      }

  pub one_flagged : length words ≡ 4096 → from ≤ page → page - from < window_pages
      → FlagsOne from page next words (set_flag words (page - from)) next
  one_flagged long h w =
      record {
        flags = λ i l.
            flag_set words (page - from) (omega arith) i
            ∙ ap (λ (b : Bool). b || eqb (flag words i) 1)
            (⊎_elim (λ (e : page - from ≡ i). eq-eqb _ _ e ∙ sym (eq-eqb page (from + i) (omega arith)))
            (λ (n : page - from ≡ i → ⊥). ne_eqb _ _ n ∙ sym (ne_eqb page (from + i) (λ z. n (omega arith))))
            (same_or_not (page - from) i));
        long = long_set words (page - from);
        limit = omega arith;
        passed = λ p l m z. omega arith;
      }

  pub one_behind : (told : ℕ) → from + window_pages ≤ page → told ≤ next → told ≤ page → FlagsOne from page next words words told
  one_behind told h l m =
      record { flags = λ i k. rw (ne_eqb page (from + i) (λ z. omega arith)); long = refl; limit = l; passed = λ p a b z. omega arith }

-- ---- the pages of a list

-- With this rest of a list still to be flagged, all of it is flagged at the end.
pub record Going (mark : ℕ) (os : List ℕ) (from : ℕ) (before words rest : List ℕ) (next : ℕ) : Type 0 where
  pub flags : (i : ℕ) → i < window_pages
      → eqb (flag words i) 1 || is_in ((from + i) * 4096) rest ≡ eqb (flag before i) 1 || is_in ((from + i) * 4096) os
  pub long : length words ≡ 4096
  pub limit : next ≤ mark / 4096
  pub passed : (p : ℕ) → from + window_pages ≤ p → p < next → is_in (p * 4096) rest ≡ is_in (p * 4096) os

pub turn_or : (a b c : Bool) → (a || b) || c ≡ b || (a || c)
turn_or true true c = refl
turn_or true false c = refl
turn_or false true c = refl
turn_or false false c = refl

pub none_or : (b : Bool) → b || false ≡ b
none_or true = refl
none_or false = refl

-- An aligned offset is a page's if its page is that one.
pub same_page : (o p : ℕ) → o % 4096 ≡ 0 → eqb o (p * 4096) ≡ eqb (o / 4096) p
same_page o p a =
    ⊎_elim (λ (e : o / 4096 ≡ p). eq-eqb o (p * 4096) (omega arith) ∙ sym (eq-eqb (o / 4096) p e))
    (λ (n : o / 4096 ≡ p → ⊥). ne_eqb o (p * 4096) (λ z. n (omega arith)) ∙ sym (ne_eqb (o / 4096) p n))
    (same_or_not (o / 4096) p)

module _ (mark : ℕ) (os : List ℕ) (from : ℕ) (before : List ℕ) where
  pub going_starts : length before ≡ 4096 → Going mark os from before before os (mark / 4096)
  going_starts long = record { flags = λ i h. refl; long = long; limit = omega arith; passed = λ p l m. refl }

  pub going_on : (words words' : List ℕ) (o : ℕ) (rest : List ℕ) (next told : ℕ) → o % 4096 ≡ 0
      → Going mark os from before words (o ∷ rest) next → FlagsOne from (o / 4096) next words words' told
      → Going mark os from before words' rest told
  unfolding is_in
  going_on words words' o rest next told a g f =
      record {
        flags = λ i h.
            ap (λ (b : Bool). b || is_in ((from + i) * 4096) rest)
            (f.flags i h ∙ ap (λ (b : Bool). b || eqb (flag words i) 1) (sym (same_page o (from + i) a)))
            ∙ (turn_or (eqb o ((from + i) * 4096)) (eqb (flag words i) 1) (is_in ((from + i) * 4096) rest) ∙ g.flags i h);
        long = f.long ∙ g.long;
        limit = let l = f.limit in let k = g.limit in omega arith;
        passed = λ p l m.
            let apart : eqb o (p * 4096) ≡ false = same_page o p a ∙ ne_eqb (o / 4096) p (λ z. f.passed p l m (sym z)) in
            ap (λ (b : Bool). b || is_in (p * 4096) rest) (sym apart) ∙ g.passed p l (let k = f.limit in omega arith);
      }

  pub going_done : (words : List ℕ) (next : ℕ) → Going mark os from before words [] next → Marks mark os from before words next
  unfolding is_in
  going_done words next g =
      record {
        flags = λ i h. sym (none_or (eqb (flag words i) 1)) ∙ g.flags i h;
        limit = g.limit;
        none_between = λ p l m. sym (g.passed p l m);
      }
