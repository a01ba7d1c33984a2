-- A property of every record that a frame can name, and of none, is one of what is in force. For any record type.
use Prim.Native.Nat.{ℕ, zero, suc, ◌+◌}
use mathlib.Core.Bool.{Bool, true, false}
use mathlib.Core.List.{List, [], ◌∷◌, ◌++◌}
use mathlib.Core.Option.{Option, none, some}
use lib.Dec.{eqb}
use lib.ListN.{take}
use Rattle.bits.specs.Pick.{pick}
use Rattle.bits.specs.Table.{table}
use Rattle.layout.proofs.LayoutLaws.{pick_all}
use Rattle.lookback.specs.Store.{Named, Kind, or_else, or_given, naming, replacing, all_same, standing_or}
use Rattle.places.specs.Keeps.{by_slot, by_place}

-- ---- of every element of a list
module _ {A : Type 0} (P : A → Type 0) where
  abbrev pub Each : List A → Type 0
  Each [] = Unit {0}
  Each (x ∷ xs) = P x × Each xs

  each_more : (xs : List A) (x : A) → Each xs → P x → Each (xs ++ (x ∷ []))
  each_more [] x a p = (p, tt)
  each_more (y ∷ xs) x a p = (a.0, each_more xs x a.1 p)

  pub each_table : (f : ℕ → A) (n : ℕ) → ((i : ℕ) → P (f i)) → Each (table f n)
  unfolding table
  each_table f zero a = tt
  each_table f (suc n) a = each_more (table f n) (f n) (each_table f n a) (a n)

  pub each_take : (n : ℕ) (xs : List A) → Each xs → Each (take n xs)
  each_take zero xs a = tt
  each_take (suc n) [] a = tt
  each_take (suc n) (x ∷ xs) a = (a.0, each_take n xs a.1)

-- ---- of every record that a frame names
module _ {A : Type 0} (P : A → Type 0) where
  abbrev pub EachNamed : List (Named A) → Type 0
  EachNamed ns = Each (λ (n : Named A). P n.held) ns

  module _ {R : Type 0} (Q : R → Type 0) (f : R → A) (g : (r : R) → Q r → P (f r)) where
    pub each_slot : (slot : R → ℕ) (rs : List R) → Each Q rs → EachNamed (by_slot slot f rs)
    unfolding by_slot
    each_slot slot [] a = tt
    each_slot slot (r ∷ rs) a = (g r a.0, each_slot slot rs a.1)

    pub each_place : (bits : List Bool) (rs : List R) (n : ℕ) → Each Q rs → EachNamed (by_place f bits rs n)
    unfolding by_place
    each_place bits [] n a = tt
    each_place bits (r ∷ rs) n a = (g r a.0, each_place bits rs (n + 1) a.1)

  -- ---- of what may be there
  abbrev pub May : Option A → Type 0
  May none = Unit {0}
  May (some a) = P a

  may_else : (a b : Option A) → May a → May b → May (or_else a b)
  may_else (some x) b p q = p
  may_else none b p q = q

  pub may_pick : (b : Bool) (o : Option A) → May o → May (pick b o none)
  may_pick true o p = p
  may_pick false o p = tt

  pub may_naming : (s : ℕ) (ns : List (Named A)) → EachNamed ns → May (naming s ns)
  unfolding naming
  may_naming s [] a = tt
  may_naming s (n ∷ ns) a = may_else (naming s ns) _ (may_naming s ns a.1) (may_pick (eqb n.at s) (some n.held) a.0)

  pub may_replacing : (replaces : A → A → Bool) (d : A) (o : Option A) → May o → May (replacing replaces d o)
  may_replacing replaces d (some r) p = may_pick (replaces d r) (some r) p
  may_replacing replaces d none p = tt

  -- ---- of what is in force
  pub all_or : (o : Option A) (d : A) → May o → P d → P (or_given o d)
  all_or (some a) d p q = p
  all_or none d p q = q

  pub all_standing : {M : Type 0} (k : Kind A) (same : M → M → Bool) (o : Option A) (m : M) (ms : List M) (d : A) → P k.absent → May o → P d → P (standing_or k same o m ms d)
  all_standing k same (some r) m ms d z p q =
      pick_all P (k.placed r) _ _ (pick_all P (all_same same m ms) _ _ p z) p
  all_standing k same none m ms d z p q = q
