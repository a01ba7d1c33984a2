-- Records put where they replace what is held: what a slot has then, where at most one of them names it.
use Prim.Native.Nat.{ℕ, ◌+◌, ◌-◌, ◌≤◌}
use mathlib.Core.Path.{◌≡◌, refl, ap, sym, ◌∙◌}
use mathlib.Core.List.{List, [], ◌∷◌}
use mathlib.Core.Bool.{Bool, true, false}
use mathlib.Core.Option.{Option, none, some}
use native.Mathlib.Omega.{arith}
use borrow.Author.Tests.{eqb-true, eqb-false}
use lib.Dec.{eqb}
use lib.ListN.{length, get_or, set, length-set}
use lib.Seq.{get_or-set_same, get_or-set_other}
use Rattle.bits.specs.Pick.{pick}
use Rattle.lookback.specs.Store.{Named, put, replace, replace_all, or_else, or_given, naming, replacing}

-- the test does not matter where both are the same
pub flat : {A : Type 0} (b : Bool) (x : A) → pick b x x ≡ x
flat true x = refl
flat false x = refl

-- ---- one record
length_put : {A : Type 0} (xs : List A) (a : ℕ) (v : A) → length (put xs a v) ≡ length xs
length_put xs a v = go (eqb a 0)
  where
    go : (b : Bool) → length (pick b xs (set xs (a - 1) v)) ≡ length xs
    go true = refl
    go false = length-set xs (a - 1) v

put_at : {A : Type 0} (xs : List A) (a s : ℕ) (v d : A) → 1 ≤ s → s ≤ length xs → get_or (put xs a v) (s - 1) d ≡ pick (eqb a s) v (get_or xs (s - 1) d)
put_at xs a s v d p q = go (eqb a 0) refl (eqb a s) refl
  where
    go : (z : Bool) → eqb a 0 ≡ z → (b : Bool) → eqb a s ≡ b → get_or (pick z xs (set xs (a - 1) v)) (s - 1) d ≡ pick b v (get_or xs (s - 1) d)
    go true ez true eb = absurd (let e = eqb-true a 0 ez in let f = eqb-true a s eb in omega arith)
    go true ez false eb = refl
    go false ez true eb = let f : s ≡ a = sym (eqb-true a s eb) in rw f (get_or-set_same xs (a - 1) v d (omega arith))
    go false ez false eb = get_or-set_other xs (a - 1) (s - 1) v d (λ e. eqb-false a s eb (let n : a ≡ 0 → ⊥ = eqb-false a 0 ez in omega arith))

-- ---- how many of some records name the slot
unfoldable pub times : {A : Type 0} → ℕ → List (Named A) → ℕ
times s [] = 0
times s (n ∷ ns) = times s ns + pick (eqb n.at s) 1 0

pub times_none : {A : Type 0} (s : ℕ) (ns : List (Named A)) → times s ns ≡ 0 → naming s ns ≡ none
unfolding times naming
times_none s [] e = refl
times_none s (n ∷ ns) e = go (eqb n.at s) e (times_none s ns)
  where
    go : (b : Bool) → times s ns + pick b 1 0 ≡ 0 → (times s ns ≡ 0 → naming s ns ≡ none) → or_else (naming s ns) (pick b (some n.held) none) ≡ none
    go true t ih = absurd (let z : ⊥ = omega arith in z)
    go false t ih = rw (ih (omega arith))

-- of three, the first that is there
pub or_or : {A : Type 0} (a b : Option A) (d : A) → or_given a (or_given b d) ≡ or_given (or_else a b) d
or_or (some x) b d = refl
or_or none b d = refl

or_none : {A : Type 0} (o : Option A) → or_else o none ≡ o
or_none (some r) = refl
or_none none = refl

-- a slot that no record names, and one that a record names
pub naming_other : {A : Type 0} (s : ℕ) (n : Named A) (ns : List (Named A)) → eqb n.at s ≡ false → naming s (n ∷ ns) ≡ naming s ns
unfolding naming
naming_other s n ns e = rw e (or_none (naming s ns))

pub naming_own : {A : Type 0} (s : ℕ) (n : Named A) (ns : List (Named A)) → eqb n.at s ≡ true → naming s (n ∷ ns) ≡ or_else (naming s ns) (some n.held)
unfolding naming
naming_own s n ns e = rw e

-- the latest to arrive counts: where every record replaces what is held, any does
pub arrives : {A : Type 0} (d : A) (o : Option A) → replacing (λ a b. true) d o ≡ o
arrives d (some r) = refl
arrives d none = refl

-- ---- some records, one after the other
module _ {A : Type 0} (replaces : A → A → Bool) (absent : A) where
  length_replace : (xs : List A) (a : ℕ) (v : A) → length (replace replaces absent xs a v) ≡ length xs
  unfolding replace
  length_replace xs a v = go (replaces (get_or xs (a - 1) absent) v)
    where
      go : (b : Bool) → length (pick b (put xs a v) xs) ≡ length xs
      go true = length_put xs a v
      go false = refl

  replace_at : (xs : List A) (a s : ℕ) (v : A) → 1 ≤ s → s ≤ length xs →
      get_or (replace replaces absent xs a v) (s - 1) absent ≡ pick (eqb a s) (pick (replaces (get_or xs (s - 1) absent) v) v (get_or xs (s - 1) absent)) (get_or xs (s - 1) absent)
  unfolding replace
  replace_at xs a s v p q = go (eqb a s) refl (put_at xs a s v absent p q)
    where
      either : (b : Bool) (x : A) → get_or (put xs a v) (s - 1) absent ≡ x → get_or (pick b (put xs a v) xs) (s - 1) absent ≡ pick b x (get_or xs (s - 1) absent)
      either true x e = e
      either false x e = refl

      go : (b : Bool) → eqb a s ≡ b → get_or (put xs a v) (s - 1) absent ≡ pick b v (get_or xs (s - 1) absent) →
          get_or (pick (replaces (get_or xs (a - 1) absent) v) (put xs a v) xs) (s - 1) absent ≡ pick b (pick (replaces (get_or xs (s - 1) absent) v) v (get_or xs (s - 1) absent)) (get_or xs (s - 1) absent)
      go true e f =
          let here : get_or xs (a - 1) absent ≡ get_or xs (s - 1) absent = rw (eqb-true a s e) in
          rw here (either (replaces (get_or xs (s - 1) absent) v) v f)
      go false e f = either (replaces (get_or xs (a - 1) absent) v) (get_or xs (s - 1) absent) f ∙ flat (replaces (get_or xs (a - 1) absent) v) (get_or xs (s - 1) absent)

  -- THE LAW: where at most one record names the slot, it is there if it replaces what was held, which is there if not
  pub replace_all_at : (xs : List A) (ns : List (Named A)) (s : ℕ) → 1 ≤ s → s ≤ length xs → times s ns ≤ 1 →
      get_or (replace_all replaces absent xs ns) (s - 1) absent ≡ or_given (replacing replaces (get_or xs (s - 1) absent) (naming s ns)) (get_or xs (s - 1) absent)
  unfolding replace_all naming times
  replace_all_at xs [] s p q o = refl
  replace_all_at xs (n ∷ ns) s p q o =
      let ys = replace replaces absent xs n.at n.held in
      go (eqb n.at s) o (replace_at xs n.at s n.held p q) (replace_all_at ys ns s p (rw (length_replace xs n.at n.held) q))
    where
      go : (b : Bool) → times s ns + pick b 1 0 ≤ 1 →
          get_or (replace replaces absent xs n.at n.held) (s - 1) absent ≡ pick b (pick (replaces (get_or xs (s - 1) absent) n.held) n.held (get_or xs (s - 1) absent)) (get_or xs (s - 1) absent) →
          (times s ns ≤ 1 → get_or (replace_all replaces absent (replace replaces absent xs n.at n.held) ns) (s - 1) absent ≡ or_given (replacing replaces (get_or (replace replaces absent xs n.at n.held) (s - 1) absent) (naming s ns)) (get_or (replace replaces absent xs n.at n.held) (s - 1) absent)) →
          get_or (replace_all replaces absent (replace replaces absent xs n.at n.held) ns) (s - 1) absent ≡ or_given (replacing replaces (get_or xs (s - 1) absent) (or_else (naming s ns) (pick b (some n.held) none))) (get_or xs (s - 1) absent)
      go true t e ih =
          let z : naming s ns ≡ none = times_none s ns (omega arith) in
          ih (omega arith) ∙ rw (z, e) (one (replaces (get_or xs (s - 1) absent) n.held))
        where
          one : (b : Bool) → pick b n.held (get_or xs (s - 1) absent) ≡ or_given (pick b (some n.held) none) (get_or xs (s - 1) absent)
          one true = refl
          one false = refl
      go false t e ih = ih (omega arith) ∙ rw e (ap (λ (x : Option A). or_given (replacing replaces (get_or xs (s - 1) absent) x) (get_or xs (s - 1) absent)) (sym (or_none (naming s ns))))
