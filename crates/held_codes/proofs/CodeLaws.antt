-- Laws of the codes' form: a code reads back as it was written, what the bytes say after each step, and what each step keeps.
use mathlib.Core.Path.{◌≡◌, refl, sym, ap, ◌∙◌}
use mathlib.Core.Logic.{◌⊎◌, ◌≢◌}
use Prim.Native.Nat.{ℕ, zero, suc, ◌+◌, ◌-◌, ◌*◌, ◌≤◌}
use mathlib.Core.Bool.{Bool, true, false, true≢false}
use mathlib.Core.List.{List, [], ◌∷◌, ◌++◌, map, map-append}
use lib.Dec.{eqb}
use lib.ListN.{get_or, length, replicate, length-replicate}
use native.Mathlib.Nat.{add-zero}
use native.Mathlib.Omega.{arith}
use borrow.Author.Tests.{eq-eqb, ne_eqb}
use Rattle.bits.specs.Pick.{pick}
use Rattle.bits.specs.Table.{table}
use Rattle.bits.specs.Bytes.{Kept, row_at, store_at}
use Rattle.bits.proofs.TableLaws.{table_ext}
use Rattle.bits.proofs.ByteLaws.{kept_same, kept_store, store_in}
use Rattle.lookback.specs.Store.{unplaced}
use Rattle.lookback.proofs.ReplaceLaws.{flat}
use Rattle.lent.specs.Held.{held_at, helds_at}
use Rattle.lent.proofs.HeldLaws.{put_far, put_room, put_back, put_other, held_kept, helds_kept}
use Rattle.lent.proofs.ZeroLaws.{get_or_zeros}
use Rattle.held_mask.specs.Size.{size}
use Rattle.held_codes.specs.Codes.{no_code, codes_kept, held_code_bytes, held_code_of, code_offset, held_code_at, held_codes_at, put_code, drop_code, cleared_codes}
use Rattle.held_codes.specs.declared.HeldCode.{HeldCode}

-- ---- as it is read
has_by : (b : Bool) (c : ℕ) → (pick {A = HeldCode} b (record { has = true; code = c }) no_code).has ≡ b
has_by true c = refl
has_by false c = refl

module _ (s : List ℕ) (slot at : ℕ) where
  pub code_none : at ≡ code_offset slot → get_or s at 0 ≢ 1 → no_code ≡ held_code_at s slot
  unfolding held_at row_at table
  code_none e n = rw (← e, add-zero at, ne_eqb _ _ n)

  pub code_some : at ≡ code_offset slot → get_or s at 0 ≡ 1 → ◌≡◌ {A = HeldCode} (record { has = true; code = get_or s (at + 1) 0 }) (held_code_at s slot)
  unfolding held_at row_at table
  code_some e n = rw (← e, add-zero at, eq-eqb _ _ n)

  -- the first byte says whether one is held
  pub code_has : at ≡ code_offset slot → eqb (get_or s at 0) 1 ≡ (held_code_at s slot).has
  unfolding held_at row_at table
  code_has e = rw (← e, add-zero at) (sym (has_by (eqb (get_or s at 0) 1) (get_or s (at + 1) 0)))

-- where none is held it is the absent record
absent_at : (s : List ℕ) (slot : ℕ) → (held_code_at s slot).has ≡ false → held_code_at s slot ≡ no_code
unfolding held_at
absent_at s slot e = go (row_at s (code_offset slot) 2) e
  where
    by : (b : Bool) (h : HeldCode) → h.has ≡ true → (pick b h no_code).has ≡ false → pick b h no_code ≡ no_code
    by true h y n = absurd (true≢false (sym y ∙ n))
    by false h y n = refl

    go : (r : List ℕ) → (held_code_of r).has ≡ false → held_code_of r ≡ no_code
    go r n = by (eqb (get_or r 0 0) 1) (record { has = true; code = get_or r 1 0 }) refl n

-- ---- there and back
pub code_long : (h : HeldCode) → length (held_code_bytes h) ≡ 2
code_long h = refl

-- a code that is held is read as it was written
pub code_sound : (h : HeldCode) → h.has ≡ true → held_code_of (held_code_bytes h) ≡ h
code_sound h e = rw e

-- ---- what each step keeps, of bytes of any length
module _ (s : List ℕ) where
  pub code_room : (slot : ℕ) (h : HeldCode) → Kept 9216 9726 s (put_code s slot h)
  code_room slot h = put_room held_code_of held_code_bytes 2 code_long s 9216 slot h

  pub drop_code_room : (slot : ℕ) → Kept 9216 9726 s (drop_code s slot)
  unfolding drop_code
  drop_code_room slot = go (held_code_at s slot).has
    where
      go : (b : Bool) → Kept 9216 9726 s (pick b (put_code s slot no_code) s)
      go true = code_room slot no_code
      go false = kept_same _ _ s

  -- a slot above 255 has none
  pub drop_far : (slot : ℕ) → 256 ≤ slot → drop_code s slot ≡ s
  unfolding drop_code
  drop_far slot l = rw (put_far held_code_of held_code_bytes 2 code_long s 9216 slot no_code l) (flat (held_code_at s slot).has s)

  pub cleared_room : Kept 9216 9726 s (cleared_codes s)
  unfolding cleared_codes
  cleared_room = kept_store 9216 9726 s 9216 (replicate 510 0) (omega arith) (omega (arith, length-replicate {A = ℕ} 510 0))

-- codes are as they were where their bytes are
module _ (lo hi : ℕ) (s t : List ℕ) (k : Kept lo hi s t) (o : (9726 ≤ lo) ⊎ (hi ≤ 9216)) where
  pub code_kept : (slot : ℕ) → 1 ≤ slot → slot ≤ 255 → held_code_at t slot ≡ held_code_at s slot
  code_kept = held_kept held_code_of 2 9216 lo hi s t k o

  pub codes_kept_lem : held_codes_at t ≡ held_codes_at s
  codes_kept_lem = helds_kept held_code_of 2 9216 lo hi s t k o

-- a list of values, each changed
map_table : {A B : Type 0} (f : A → B) (g : ℕ → A) (n : ℕ) → table (λ (i : ℕ). f (g i)) n ≡ map f (table g n)
unfolding table
map_table f g zero = refl
map_table f g (suc n) = ap (λ (l : List _). l ++ (f (g n) ∷ [])) (map_table f g n) ∙ sym (map-append f (table g n) (g n ∷ []))

-- ---- what the bytes say, of a ledger's
module _ (s : List ℕ) (long : length s ≡ size) where
  -- a code that is kept is there
  pub code_put : (slot : ℕ) (h : HeldCode) → 1 ≤ slot → slot ≤ 255 → h.has ≡ true → held_code_at (put_code s slot h) slot ≡ h
  code_put slot h p q e = put_back held_code_of held_code_bytes 2 code_long s 9216 slot h (omega arith) p (omega arith) ∙ code_sound h e

  -- one that is dropped is not
  pub code_dropped : (slot : ℕ) → 1 ≤ slot → slot ≤ 255 → held_code_at (drop_code s slot) slot ≡ no_code
  unfolding drop_code
  code_dropped slot p q = go (held_code_at s slot).has refl
    where
      go : (b : Bool) → (held_code_at s slot).has ≡ b → held_code_at (pick b (put_code s slot no_code) s) slot ≡ no_code
      go true e = put_back held_code_of held_code_bytes 2 code_long s 9216 slot no_code (omega arith) p (omega arith)
      go false e = absent_at s slot e

  -- all of them dropped
  pub code_cleared : (slot : ℕ) → 1 ≤ slot → slot ≤ 255 → held_code_at (cleared_codes s) slot ≡ no_code
  unfolding cleared_codes
  code_cleared slot p q =
      let zeros = replicate {A = ℕ} 510 0 in
      let z : get_or (store_at s 9216 zeros) (code_offset slot) 0 ≡ 0 = store_in s 9216 zeros (2 * (slot - 1)) (omega (arith, length-replicate {A = ℕ} 510 0)) (omega (arith, length-replicate {A = ℕ} 510 0)) ∙ get_or_zeros 510 (2 * (slot - 1)) in
      sym (code_none (store_at s 9216 zeros) slot (code_offset slot) refl (λ e. omega arith))

  pub codes_cleared : held_codes_at (cleared_codes s) ≡ map (unplaced codes_kept) (held_codes_at s)
  unfolding helds_at
  codes_cleared =
      table_ext _ _ 255 (λ i l. code_cleared (i + 1) (omega arith) (omega arith))
      ∙ map_table (unplaced codes_kept) (λ (i : ℕ). held_code_at s (i + 1)) 255

-- every other slot's code is as it was
module _ (s : List ℕ) (slot other : ℕ) (p : 1 ≤ slot) (q : 1 ≤ other) (n : other ≢ slot) where
  pub code_other : (h : HeldCode) → held_code_at (put_code s slot h) other ≡ held_code_at s other
  code_other h = put_other held_code_of held_code_bytes 2 code_long s 9216 slot other h p q n

  pub drop_code_other : held_code_at (drop_code s slot) other ≡ held_code_at s other
  unfolding drop_code
  drop_code_other = go (held_code_at s slot).has
    where
      go : (b : Bool) → held_code_at (pick b (put_code s slot no_code) s) other ≡ held_code_at s other
      go true = code_other no_code
      go false = refl

-- zero bytes, however many, hold no code
module _ (s : List ℕ) (zeros : (j : ℕ) → get_or s j 0 ≡ 0) where
  pub zero_code : (slot : ℕ) → held_code_at s slot ≡ no_code
  zero_code slot = sym (code_none s slot (code_offset slot) refl (λ e. omega (arith, zeros (code_offset slot))))
