-- docs/FORM.md: the URA codes that a ledger keeps for slots, as lent bytes: 255 of 2 bytes from byte 9216 on, up to its end. First byte 1 means held; anything
-- else is the absent record.
use Rattle.std.specs.Prelude.{ℕ, true, false, List, [], ◌∷◌, eqb, get_or, replicate}
use Rattle.bits.specs.Bytes.{store_at}
use Rattle.bits.specs.Pick.{pick}
use Rattle.lookback.specs.Store.{Kind}
use Rattle.lent.specs.Digits.{flag_of}
use Rattle.lent.specs.Held.{offset, held_at, helds_at, put_held}
use Rattle.held_codes.specs.declared.HeldCode.{HeldCode}

-- 02, CR 2: no code replaces that of the slot's orbit
abbrev pub no_code : HeldCode
no_code = record { has = false; code = 0 }

-- how codes are kept: every code comes by place
abbrev pub codes_kept : Kind HeldCode
codes_kept = record { absent = no_code; placed = λ r. true }

-- FORM: held (1), the code (1)
abbrev pub held_code_bytes : HeldCode → List ℕ
held_code_bytes h = flag_of h.has ∷ h.code ∷ []

-- FORM: the code that its bytes say; first byte 1 means held
abbrev pub held_code_of : List ℕ → HeldCode
held_code_of r = pick (eqb (get_or r 0 0) 1) (record { has = true; code = get_or r 1 0 }) no_code

-- FORM: where the code of a slot begins
abbrev pub code_offset : ℕ → ℕ
code_offset slot = offset 2 9216 slot

-- the code kept for a slot
abbrev pub held_code_at : List ℕ → ℕ → HeldCode
held_code_at s slot = held_at held_code_of 2 s 9216 slot

-- the codes kept for slots 1 to 255
abbrev pub held_codes_at : List ℕ → List HeldCode
held_codes_at s = helds_at held_code_of 2 s 9216

-- the bytes with a code kept for a slot
abbrev pub put_code : List ℕ → ℕ → HeldCode → List ℕ
put_code s slot h = put_held held_code_bytes 2 s 9216 slot h

-- the bytes with the code of a slot made absent, two zero bytes, where one is held
unfoldable pub drop_code : List ℕ → ℕ → List ℕ
drop_code s slot = pick (held_code_at s slot).has (put_code s slot no_code) s

-- FORM: the bytes with all codes made absent: the 510 bytes from 9216 on are zero
unfoldable pub cleared_codes : List ℕ → List ℕ
cleared_codes s = store_at s 9216 (replicate 510 0)
