-- Records of one width in lent bytes, one for each slot from 1 to 255: read, put, replaced, and the list that they say. For any record type.
use Rattle.std.specs.Prelude.{ℕ, ◌+◌, ◌-◌, ◌*◌, Bool, not, ◌&&◌, List, eqb, ltb, length}
use Rattle.bits.specs.Pick.{pick}
use Rattle.bits.specs.Table.{table}
use Rattle.bits.specs.Bytes.{store_at, row_at}
use Rattle.lookback.specs.Store.{Named, in_order}

-- where the record of a slot begins: records of w bytes from st on
abbrev pub offset : ℕ → ℕ → ℕ → ℕ
offset w st slot = st + w * (slot - 1)

-- the record of a slot
unfoldable pub held_at : {A : Type 0} → (List ℕ → A) → ℕ → List ℕ → ℕ → ℕ → A
held_at of w s st slot = of (row_at s (offset w st slot) w)

-- the records of slots 1 to 255
unfoldable pub helds_at : {A : Type 0} → (List ℕ → A) → ℕ → List ℕ → ℕ → List A
helds_at of w s st = table (λ (i : ℕ). held_at of w s st (i + 1)) 255

-- the bytes with one record put; a slot that is not 1 to 255 is none
unfoldable pub put_held : {A : Type 0} → (A → List ℕ) → ℕ → List ℕ → ℕ → ℕ → A → List ℕ
put_held bytes w s st slot h = pick (eqb slot 0) s (pick (ltb slot 256) (store_at s (offset w st slot) (bytes h)) s)

-- the bytes of a slot's record are all there
abbrev pub all_there : ℕ → List ℕ → ℕ → ℕ → Bool
all_there w s st slot = not (ltb (length s) (offset w st slot + w))

-- 02, CR 3: a record replaces the one that is held for a slot now
abbrev pub comes_in : {A : Type 0} → (A → A → Bool) → (List ℕ → A) → ℕ → List ℕ → ℕ → ℕ → A → Bool
comes_in replaces of w s st slot h = all_there w s st slot && replaces (held_at of w s st slot) h

-- 02, CR 3: the bytes with one record put where it replaces the one held there now
unfoldable pub replace_held : {A : Type 0} → (A → A → Bool) → (List ℕ → A) → (A → List ℕ) → ℕ → List ℕ → ℕ → ℕ → A → List ℕ
replace_held replaces of bytes w s st slot h = pick (comes_in replaces of w s st slot h) (put_held bytes w s st slot h) s

-- where such a record is stored: at its slot's offset, or at the end of the bytes, where all of it is lost
unfoldable pub target_of : {A : Type 0} → (A → A → Bool) → (List ℕ → A) → ℕ → List ℕ → ℕ → ℕ → A → ℕ
target_of replaces of w s st slot h =
    pick (eqb slot 0) (length s) (pick (comes_in replaces of w s st slot h) (offset w st slot) (length s))

-- named records, one after the other
abbrev pub replace_helds : {A : Type 0} → (A → A → Bool) → (List ℕ → A) → (A → List ℕ) → ℕ → List ℕ → ℕ → List (Named A) → List ℕ
replace_helds replaces of bytes w s st ns = in_order (λ t slot h. replace_held replaces of bytes w t st slot h) s ns
