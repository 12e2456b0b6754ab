-- The specimens (FORMAT, Worked examples), as equations about definitions. Bytes in decimal: 128 is 80, 167 is A7, 185 is B9, 255 is FF.
use Rattle.std.specs.Prelude.{ℕ, zero, suc, ◌+◌, ◌-◌, List, [], ◌∷◌, ◌++◌, ◌≡◌, length, replicate}
use Rattle.error.specs.Refusal.{accepted, refused}
use Rattle.compact.specs.Uleb128.{shortest, read_uleb}
use Rattle.scripthash_layout.specs.Head.{pack_head, unpack_head}
use Rattle.scripthash_layout.specs.declared.head.ShHeadValue.{ShHeadValue}
use Rattle.scripthash_layout.specs.declared.head.ShHeadValue.TheVariants.{Slab}
use Rattle.scripthash_stream.specs.Stream.{scan}
use Rattle.scripthash_slabs.specs.Slab.{slab_payload, decode_slab}
use Rattle.scripthash_cutting.specs.Cutting.{cutting, range_of, ranges_from}

-- A number is some bytes: they are its shortest form, and they read as the number with their length.
pub record Is (n : ℕ) (bytes : List ℕ) : Type 0 where
  pub written : shortest n ≡ bytes
  pub read : read_uleb bytes ≡ accepted (record { value = n; len = length bytes })

-- A list is some bytes as a slab: they are its payload, and they read as the list into a lent list of its length; the stream
-- takes all of them but the two of the count.
pub record SlabOf (ns : List ℕ) (bytes : List ℕ) : Type 0 where
  pub written : slab_payload ns ≡ bytes
  pub read : decode_slab (length ns) bytes ≡ accepted (record { numbers = ns; taken = length bytes - 2 })

-- A head value is a word: it is packed as the word, and the word unpacks to it.
pub record IsHead (v : ShHeadValue) (w : ℕ) : Type 0 where
  pub packed : pack_head v ≡ accepted w
  pub unpacked : unpack_head w ≡ accepted v

-- k numbers in a row, from n on.
unfoldable pub in_aRow : ℕ → ℕ → List ℕ
in_aRow n zero = []
in_aRow n (suc k) = n ∷ in_aRow (n + 1) k

-- The specimens, one field each.
pub record Specimens : Type 0 where
  -- 0 is 00, 128 is 80 01.
  pub S1 : Is 0 (0 ∷ []) × Is 128 (128 ∷ 1 ∷ [])
  -- 12857 is B9 64.
  pub S2 : Is 12857 (185 ∷ 100 ∷ [])
  -- 80 00 reads 0, length 2.
  pub S3 : read_uleb (128 ∷ 0 ∷ []) ≡ accepted (record { value = 0; len = 2 })
  -- Nine FF and 02 give 18.
  pub S4 : read_uleb (replicate 9 255 ++ (2 ∷ [])) ≡ refused 18
  -- Ten 80 give 17, eleven 18.
  pub S5 : (read_uleb (replicate 10 128) ≡ refused 17) × (read_uleb (replicate 11 128) ≡ refused 18)
  -- Slab 5, 300, 301 is 03 00 05 A7 02 01.
  pub S6 : SlabOf (5 ∷ 300 ∷ 301 ∷ []) (3 ∷ 0 ∷ 5 ∷ 167 ∷ 2 ∷ 1 ∷ [])
  -- 05 00 as two numbers gives 21.
  pub S7 : scan 2 (5 ∷ 0 ∷ []) ≡ refused 21
  -- Class 2, used 5, offset 4,096 is 4200050000001000.
  pub S8 : IsHead (Slab 2 5 4096) 4755806704061386752
  -- 8000000000000000 gives 29.
  pub S9 : unpack_head 9223372036854775808 ≡ refused 29
  -- 1 to 4,088 cuts after 4,072; 1 to 4,072 is one part.
  pub S10 : (ranges_from 0 (cutting (in_aRow 1 4088)) ≡ range_of 0 4072 ∷ range_of 4072 4088 ∷ [])
      × (cutting (in_aRow 1 4072) ≡ in_aRow 1 4072 ∷ [])
