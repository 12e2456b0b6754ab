-- A key's chain: the tests of the whole, and what is known of a sound one. Assumes nothing.
use Prim.Native.Nat.{ℕ, ◌/◌}
use mathlib.Core.Bool.{true, false}
use mathlib.Core.Path.{◌≡◌, sym, ap, ◌∙◌}
use lib.ListN.{length, get_or}
use Rattle.error.specs.Refusal.{accepted, refused, key_unsound}
use Rattle.error.proofs.LawsAnswer.{accepted_inj, then_yes, then_no, went_on}
use Rattle.scripthash_layout.specs.Sizes.{page_size}
use Rattle.book_keys.specs.Keys.{sure, Last, last_at, Chain, walk, total_good, chain_at, Ground}
use Rattle.book_keys.proofs.LawsSound.{sure_yes, sure_no, was_sure}
use Rattle.book_keys.proofs.LawsWalk.{walk_first}

-- ---- the tests

module _ (s : Ground) (last : ℕ) where
  -- no good header
  pub chain_no : {number : ℕ} → last_at s last ≡ refused number → chain_at s last ≡ refused number
  unfolding chain_at
  chain_no e = then_no (last_at s last) _ e

  module _ (h : Last) (is : last_at s last ≡ accepted h) where
    -- a walk that ends before the last page
    pub chain_unwalked : {number : ℕ} → walk (s.mark / page_size) s last 0 h.first ≡ refused number → chain_at s last ≡ refused number
    unfolding chain_at
    chain_unwalked e = then_yes (last_at s last) _ is ∙ then_no (walk (s.mark / page_size) s last 0 h.first) _ e

    module _ (c : Chain) (walks : walk (s.mark / page_size) s last 0 h.first ≡ accepted c) where
      walked : chain_at s last ≡ sure (total_good h.creates (length c.numbers)) (accepted c)
      unfolding chain_at
      walked = then_yes (last_at s last) _ is ∙ then_yes (walk (s.mark / page_size) s last 0 h.first) _ walks

      -- creates that tells another length
      pub chain_other : total_good h.creates (length c.numbers) ≡ false → chain_at s last ≡ refused key_unsound
      chain_other e = walked ∙ sure_no (total_good h.creates (length c.numbers)) _ e

      -- and one that doesn't
      pub chain_yes : total_good h.creates (length c.numbers) ≡ true → chain_at s last ≡ accepted c
      chain_yes e = walked ∙ sure_yes (total_good h.creates (length c.numbers)) _ e

-- ---- what is known of a sound one

-- What is known of a sound chain: the last page's header, and the walk from the page that it names.
pub record SoundChain (s : Ground) (last : ℕ) (c : Chain) : Type 0 where
  pub header : Last
  pub header_is : last_at s last ≡ accepted header
  pub walks : walk (s.mark / page_size) s last 0 header.first ≡ accepted c
  pub creates : total_good header.creates (length c.numbers) ≡ true
  pub begins : get_or c.offs 0 0 ≡ header.first

pub chain_sound : (s : Ground) (last : ℕ) (c : Chain) → chain_at s last ≡ accepted c → SoundChain s last c
unfolding chain_at
chain_sound s last c e =
    let head = went_on (last_at s last) _ e in
    let gone = went_on (walk (s.mark / page_size) s last 0 head.0.first) _ head.2 in
    let all = was_sure (total_good head.0.creates (length gone.0.numbers)) _ gone.2 in
    let same : gone.0 ≡ c = accepted_inj all.1 in
    let walks : walk (s.mark / page_size) s last 0 head.0.first ≡ accepted c = gone.1 ∙ ap accepted same in
    record {
      header = head.0;
      header_is = head.1;
      walks = walks;
      creates = ap (λ (x : Chain). total_good head.0.creates (length x.numbers)) (sym same) ∙ all.0;
      begins = walk_first (s.mark / page_size) s last 0 head.0.first c walks;
    }

-- its walk, by the offset of its first page
pub chain_walks : (s : Ground) (last first : ℕ) (c : Chain) → chain_at s last ≡ accepted c → first ≡ get_or c.offs 0 0
    → walk (s.mark / page_size) s last 0 first ≡ accepted c
chain_walks s last first c e f =
    let k = chain_sound s last c e in
    ap (λ (o : ℕ). walk (s.mark / page_size) s last 0 o) (f ∙ k.begins) ∙ k.walks
