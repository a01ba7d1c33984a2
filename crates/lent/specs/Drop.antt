-- Records that came by place dropped in place, in lent bytes. For any record type.
use Rattle.std.specs.Prelude.{ℕ, zero, suc, ◌+◌, List}
use Rattle.bits.specs.Pick.{pick}
use Rattle.lookback.specs.Store.{Kind}
use Rattle.lent.specs.Held.{held_at, put_held}

-- the bytes with a slot's record made absent if it came by place
unfoldable pub drop_one : {A : Type 0} → Kind A → (List ℕ → A) → (A → List ℕ) → ℕ → List ℕ → ℕ → ℕ → List ℕ
drop_one k of bytes w s st slot = pick (k.placed (held_at of w s st slot)) (put_held bytes w s st slot k.absent) s

-- the same for slots 1 to n
unfoldable pub dropped_to : {A : Type 0} → Kind A → (List ℕ → A) → (A → List ℕ) → ℕ → List ℕ → ℕ → ℕ → List ℕ
dropped_to k of bytes w s st zero = s
dropped_to k of bytes w s st (suc n) = drop_one k of bytes w (dropped_to k of bytes w s st n) st (n + 1)
