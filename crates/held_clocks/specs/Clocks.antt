-- docs/FORM.md: the clocks that a ledger keeps, as lent bytes: 255 of 12 bytes from byte 36 on. First byte 1 means held; anything else is the absent record.
use Rattle.std.specs.Prelude.{ℕ, ◌/◌, ◌%◌, Bool, true, false, List, [], ◌∷◌, eqb, pos, get_or}
use Rattle.bits.specs.Pick.{pick}
use Rattle.lookback.specs.Store.{Named, Kind}
use Rattle.lent.specs.Digits.{flag_of, zig_of, zag_of, pair_of, quad_of}
use Rattle.lent.specs.Held.{offset, held_at, helds_at, put_held, replace_held, replace_helds, target_of}
use Rattle.lent.specs.Drop.{drop_one, dropped_to}
use Rattle.newest.specs.Newest.{replaces}
use Rattle.newest.specs.declared.Stamp.{Stamp}
use Rattle.held_clocks.specs.declared.HeldClock.{HeldClock}

-- 01, What the ledger keeps: the slot has no clock
abbrev pub no_clock : HeldClock
no_clock = record { has = false; placed = false; epoch = 0; ssr = 0; corr = 0; c0 = pos 0 }

-- how clocks are kept: those that came by place can be dropped by a mask
abbrev pub clocks_kept : Kind HeldClock
clocks_kept = record { absent = no_clock; placed = λ r. r.placed }

-- what decides which clock counts
abbrev pub clock_stamp : HeldClock → Stamp
clock_stamp h = record { ssr = h.ssr; corr = h.corr; epoch = h.epoch }

-- 02, CR 3: a clock replaces the one held
unfoldable pub clock_replaces : HeldClock → HeldClock → Bool
clock_replaces held new = replaces held.has (clock_stamp held) (clock_stamp new)

-- FORM: held (1), by place (1), epoch (4), IOD SSR (1), IOD Corr (1), C0 (2), 2 spare
abbrev pub held_clock_bytes : HeldClock → List ℕ
held_clock_bytes h =
    flag_of h.has
    ∷ flag_of h.placed
    ∷ h.epoch / 65536 / 256
    ∷ h.epoch / 65536 % 256
    ∷ h.epoch % 65536 / 256
    ∷ h.epoch % 65536 % 256
    ∷ h.ssr
    ∷ h.corr
    ∷ zig_of h.c0 / 256
    ∷ zig_of h.c0 % 256
    ∷ 0
    ∷ 0
    ∷ []

-- FORM: the clock that the bytes of a held one say
abbrev pub held_clock_in : List ℕ → HeldClock
held_clock_in r =
    record {
      has = true;
      placed = eqb (get_or r 1 0) 1;
      epoch = quad_of (pair_of (get_or r 2 0) (get_or r 3 0)) (pair_of (get_or r 4 0) (get_or r 5 0));
      ssr = get_or r 6 0;
      corr = get_or r 7 0;
      c0 = zag_of (pair_of (get_or r 8 0) (get_or r 9 0));
    }

-- FORM: the clock that its bytes say; first byte 1 means held
abbrev pub held_clock_of : List ℕ → HeldClock
held_clock_of r = pick (eqb (get_or r 0 0) 1) (held_clock_in r) no_clock

-- FORM: where the clock of a slot begins
abbrev pub clock_offset : ℕ → ℕ
clock_offset slot = offset 12 36 slot

-- the clock kept for a slot
abbrev pub held_clock_at : List ℕ → ℕ → HeldClock
held_clock_at s slot = held_at held_clock_of 12 s 36 slot

-- the clocks kept for slots 1 to 255
abbrev pub held_clocks_at : List ℕ → List HeldClock
held_clocks_at s = helds_at held_clock_of 12 s 36

-- the bytes with a clock kept for a slot
abbrev pub put_clock : List ℕ → ℕ → HeldClock → List ℕ
put_clock s slot h = put_held held_clock_bytes 12 s 36 slot h

-- the bytes with a clock kept for a slot where it replaces the one held
abbrev pub replace_clock : List ℕ → ℕ → HeldClock → List ℕ
replace_clock s slot h = replace_held clock_replaces held_clock_of held_clock_bytes 12 s 36 slot h

-- where such a clock is stored
abbrev pub clock_target : List ℕ → ℕ → HeldClock → ℕ
clock_target s slot h = target_of clock_replaces held_clock_of 12 s 36 slot h

-- the bytes with named clocks kept so, one after the other
abbrev pub replace_clocks : List ℕ → List (Named HeldClock) → List ℕ
replace_clocks s ns = replace_helds clock_replaces held_clock_of held_clock_bytes 12 s 36 ns

-- the bytes with the clock of a slot dropped if it came by place
abbrev pub drop_clock : List ℕ → ℕ → List ℕ
drop_clock s slot = drop_one clocks_kept held_clock_of held_clock_bytes 12 s 36 slot

-- the same for slots 1 to n
abbrev pub dropped_clocks : List ℕ → ℕ → List ℕ
dropped_clocks s n = dropped_to clocks_kept held_clock_of held_clock_bytes 12 s 36 n
