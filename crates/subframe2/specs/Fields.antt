-- The fields of subframe 2 of B-CNAV1 (001, section 6.2.3.2): 31 fields, 576 bits in all, high bit first.
use Rattle.std.specs.Prelude.{ℕ, zero, suc, ◌+◌, Bool, true, false, List, [], ◌∷◌, ℤ, pos, get_or}
use Rattle.bits.specs.Pick.{pick}
use Rattle.bits.specs.Bits.{field_at}
use Rattle.bits.specs.Table.{table}
use Rattle.records.specs.Signed.{signed_of}

-- 001, figures 6-6 and 6-12 to 6-14: the bits of each field, in order; and chapter 7: whether its table marks it as two's complement
unfoldable pub rows : List (ℕ × Bool)
rows =
    (13, false)  -- WN: table 7-2
    ∷ (8, false)  -- HOW: table 7-2
    ∷ (10, false)  -- IODC: section 7.4.2
    ∷ (8, false)  -- IODE: section 7.4.1
    ∷ (11, false)  -- toe: figure 6-12, table 7-8
    ∷ (2, false)  -- SatType: table 7-8
    ∷ (26, true)  -- dA: table 7-8
    ∷ (25, true)  -- A dot: table 7-8
    ∷ (17, true)  -- dn0: table 7-8
    ∷ (23, true)  -- dn0 dot: table 7-8
    ∷ (33, true)  -- M0: table 7-8
    ∷ (33, false)  -- e: table 7-8
    ∷ (33, true)  -- omega: table 7-8
    ∷ (33, true)  -- Omega0: figure 6-13, table 7-8
    ∷ (33, true)  -- i0: table 7-8
    ∷ (19, true)  -- Omega dot: table 7-8
    ∷ (15, true)  -- i0 dot: table 7-8
    ∷ (16, true)  -- Cis: table 7-8
    ∷ (16, true)  -- Cic: table 7-8
    ∷ (24, true)  -- Crs: table 7-8
    ∷ (24, true)  -- Crc: table 7-8
    ∷ (21, true)  -- Cus: table 7-8
    ∷ (21, true)  -- Cuc: table 7-8
    ∷ (11, false)  -- toc: figure 6-14, table 7-5
    ∷ (25, true)  -- a0: table 7-5
    ∷ (22, true)  -- a1: table 7-5
    ∷ (11, true)  -- a2: table 7-5
    ∷ (12, true)  -- TGDB2ap: table 7-6
    ∷ (12, true)  -- ISCB1Cd: table 7-6
    ∷ (12, true)  -- TGDB1Cp: table 7-6
    ∷ (7, false)  -- Rev: reserved
    ∷ []

-- how many bits field i, from 0, has
abbrev pub width_of : ℕ → ℕ
width_of i = (get_or rows i (0, false)).0

-- whether they are in two's complement
abbrev pub is_signed : ℕ → Bool
is_signed i = (get_or rows i (0, false)).1

-- where they begin: after those of the fields before it
unfoldable pub offset_of : ℕ → ℕ
offset_of zero = 0
offset_of (suc i) = offset_of i + width_of i

-- the number that the n bits of x say, in two's complement or not
abbrev pub number_of : ℕ → Bool → ℕ → ℤ
number_of n signed x = pick signed (signed_of n x) (pos x)

-- 02, CR 6: field i as a raw number
abbrev pub field_of : List ℕ → ℕ → ℤ
field_of s i = number_of (width_of i) (is_signed i) (field_at s (offset_of i) (width_of i))

-- 02, CR 6: all of them, in the figure's order
unfoldable pub fields_of : List ℕ → List ℤ
fields_of s = table (field_of s) 31
