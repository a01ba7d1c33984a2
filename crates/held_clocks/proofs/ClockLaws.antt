-- Laws of the clocks' form: a clock reads back as it was written, what the bytes say after each step, and what each step keeps.
use mathlib.Core.Path.{◌≡◌, refl, sym}
use mathlib.Core.Logic.{◌⊎◌}
use Prim.Native.Nat.{ℕ, ◌≤◌}
use mathlib.Core.Bool.{Bool, true, false, not, ◌&&◌}
use mathlib.Core.List.{List, map}
use lib.Dec.{eqb}
use lib.ListN.{get_or, length}
use native.Mathlib.Omega.{arith}
use Rattle.bits.specs.Pick.{pick}
use Rattle.bits.specs.Bytes.{Kept}
use Rattle.slots.specs.Slots.{slot_named}
use Rattle.lookback.specs.Store.{Named, replace_all, unplaced}
use Rattle.lent.specs.Digits.{zig_of}
use Rattle.lent.specs.Held.{comes_in}
use Rattle.lent.proofs.HeldLaws.{replace_named, replace_none, replace_room, replaces_room, replaces_view, AllHeld, held_sound, helds_kept}
use Rattle.lent.proofs.DropLaws.{drop_room, dropped_view}
use Rattle.lent.proofs.DigitLaws.{pair_back, quad_back, zag_zig, flag_back}
use Rattle.held_mask.specs.Size.{size}
use Rattle.newest.specs.Newest.{replaces, stamp_at}
use Rattle.newest.specs.Rows.{replaces_row, comes_to}
use Rattle.newest.specs.declared.Rows.{Rows}
use Rattle.newest.proofs.RowLaws.{comes_replaces}
use Rattle.held_clocks.specs.Clocks.{clock_stamp, clock_replaces, held_clock_at, clock_offset, no_clock, clocks_kept, held_clock_bytes, held_clock_in, held_clock_of, held_clocks_at, replace_clock, replace_clocks, dropped_clocks}
use Rattle.held_clocks.specs.declared.HeldClock.{HeldClock}
use Rattle.held_clocks.proofs.ReadLaws.{clock_none}

-- ---- what decides of the clock that a row says
abbrev pub clock_rows : Rows
clock_rows = record { first = 36; size = 12; epoch = 2; ssr = 6; corr = 7 }

clock_row_lem : (h : HeldClock) (r : List ℕ) → replaces_row r clock_rows (clock_stamp h) ≡ clock_replaces (held_clock_of r) h
unfolding replaces clock_replaces
clock_row_lem h r = go (eqb (get_or r 0 0) 1)
  where
    go : (b : Bool) → replaces b (stamp_at r 2 6 7) (clock_stamp h) ≡ clock_replaces (pick b (held_clock_in r) no_clock) h
    go true = refl
    go false = refl

-- a clock comes into force where it replaces the one kept for its slot; slot 0 is none
pub clock_comes : (s : List ℕ) (slot : ℕ) (h : HeldClock) → comes_to s clock_rows slot (clock_stamp h) ≡ not (eqb slot 0) && comes_in clock_replaces held_clock_of 12 s 36 slot h
clock_comes s slot h = comes_replaces clock_replaces held_clock_of s clock_rows slot (clock_stamp h) h (clock_row_lem h)

-- ---- there and back
pub clock_long : (h : HeldClock) → length (held_clock_bytes h) ≡ 12
clock_long h = refl

-- a clock that is held is read as it was written, whatever its fields
pub clock_sound : (h : HeldClock) → h.has ≡ true → held_clock_of (held_clock_bytes h) ≡ h
clock_sound h e = rw (e, quad_back h.epoch, pair_back (zig_of h.c0), zag_zig h.c0, flag_back h.placed)

-- no clock is twelve zeros
pub no_clock_sound : held_clock_of (held_clock_bytes no_clock) ≡ no_clock
no_clock_sound = refl

-- ---- what the bytes say: named clocks put where they replace what is held are put so into the list that the bytes say
abbrev pub ClocksHeld : List (Named HeldClock) → Type 0
ClocksHeld ns = AllHeld (λ (h : HeldClock). h.has) ns

module _ (s : List ℕ) (long : length s ≡ size) where
  pub clocks_view : (ns : List (Named HeldClock)) → ClocksHeld ns → held_clocks_at (replace_clocks s ns) ≡ replace_all clock_replaces no_clock (held_clocks_at s) ns
  clocks_view ns a = replaces_view clock_replaces no_clock held_clock_of held_clock_bytes 12 clock_long s 36 ns (omega arith) (held_sound held_clock_of held_clock_bytes 12 clock_long (λ (h : HeldClock). h.has) clock_sound ns a)

  -- 01, What the ledger keeps: clocks that came by place are gone
  pub clocks_dropped : held_clocks_at (dropped_clocks s 255) ≡ map (unplaced clocks_kept) (held_clocks_at s)
  clocks_dropped = dropped_view clocks_kept held_clock_of held_clock_bytes 12 clock_long no_clock_sound s 36 (omega arith)

-- ---- what each step keeps, of bytes of any length
module _ (s : List ℕ) where
  pub clock_room : (slot : ℕ) (h : HeldClock) → Kept 36 3096 s (replace_clock s slot h)
  clock_room slot h = replace_room clock_replaces no_clock held_clock_of held_clock_bytes 12 clock_long s 36 slot h

  -- a slot above 255 is slot 0, and slot 0 is none
  pub clock_named : (x : ℕ) (h : HeldClock) → replace_clock s (slot_named x) h ≡ replace_clock s x h
  clock_named x h = replace_named clock_replaces no_clock held_clock_of held_clock_bytes 12 clock_long s 36 x h

  pub clock_nowhere : (h : HeldClock) → replace_clock s 0 h ≡ s
  clock_nowhere h = replace_none clock_replaces no_clock held_clock_of held_clock_bytes 12 clock_long s 36 h

  pub clocks_room : (ns : List (Named HeldClock)) → Kept 36 3096 s (replace_clocks s ns)
  clocks_room ns = replaces_room clock_replaces no_clock held_clock_of held_clock_bytes 12 clock_long s 36 ns

  pub dropped_room : (n : ℕ) → Kept 36 3096 s (dropped_clocks s n)
  dropped_room n = drop_room clocks_kept held_clock_of held_clock_bytes 12 clock_long s 36 n

-- clocks are as they were where their bytes are
pub clocks_kept_lem : (lo hi : ℕ) (s t : List ℕ) → Kept lo hi s t → (3096 ≤ lo) ⊎ (hi ≤ 36) → held_clocks_at t ≡ held_clocks_at s
clocks_kept_lem lo hi s t k o = helds_kept held_clock_of 12 36 lo hi s t k o

-- zero bytes, however many, hold no clock
module _ (s : List ℕ) (zeros : (j : ℕ) → get_or s j 0 ≡ 0) where
  pub zero_clock : (slot : ℕ) → held_clock_at s slot ≡ no_clock
  zero_clock slot = sym (clock_none s slot (clock_offset slot) refl (λ e. omega (arith, zeros (clock_offset slot))))
