-- 01, Slots and places.
use Rattle.std.specs.Prelude.{ℕ, ◌+◌, ◌-◌, Bool, ◌&&◌, List, [], ◌∷◌, eqb, ltb, leb}
use Rattle.bits.specs.Pick.{pick}
use Rattle.slots.specs.declared.System.TheVariants.{Reserved, BeiDou, Gps, Galileo, Glonass}
use Rattle.slots.specs.declared.Satellite.{Satellite}

-- 01: 1 to 63 is BeiDou 1 to 63; 64 to 100 GPS 1 to 37; 101 to 137 Galileo 1 to 37; 138 to 174 GLONASS 1 to 37; 175 to 255 are reserved
abbrev pub satellite_of : ℕ → Satellite
satellite_of s =
    pick (eqb s 0) (record { system = Reserved; number = 0 })
    (pick (leb s 63) (record { system = BeiDou; number = s })
    (pick (leb s 100) (record { system = Gps; number = s - 63 })
    (pick (leb s 137) (record { system = Galileo; number = s - 100 })
    (pick (leb s 174) (record { system = Glonass; number = s - 137 }) (record { system = Reserved; number = 0 })))))

-- 01, 11: a slot above 255 is refused: it names nothing, as the blank's 0 does
abbrev pub slot_named : ℕ → ℕ
slot_named x = pick (ltb x 256) x 0

-- 01: how many bits of a mask are set
unfoldable pub set_count : List Bool → ℕ
set_count [] = 0
set_count (b ∷ bs) = set_count bs + pick b 1 0

-- 01: place n means the n-th set bit, counting from 1 in rising slot order; 0 where there is none. The first bit stands for slot k
unfoldable pub nth_from : List Bool → ℕ → ℕ → ℕ
nth_from [] k n = 0
nth_from (b ∷ bs) k n = pick (b && eqb n 1) k (nth_from bs (k + 1) (pick b (n - 1) n))

-- the slot of place n
abbrev pub nth_set : List Bool → ℕ → ℕ
nth_set bits n = nth_from bits 1 n
