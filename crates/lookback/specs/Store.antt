-- Records kept by slot, and what is left of them when masks come. Nothing here knows what a record, a mask or a frame is.
use Rattle.std.specs.Prelude.{ℕ, ◌-◌, List, [], ◌∷◌, map, Bool, true, false, eqb, get_or, set}
use Rattle.std.proofs.Math.Option.{Option, none, some}
use Rattle.bits.specs.Pick.{pick}

-- a record with the slot that it names; 0 is none
pub record Named (A : Type 0) : Type 0 where
  pub at : ℕ
  pub held : A

-- the records with r kept for slot s, which is element s - 1; slot 0 is none
abbrev pub put : {A : Type 0} → List A → ℕ → A → List A
put xs s r = pick (eqb s 0) xs (set xs (s - 1) r)

-- 02, CR 3: r is kept for slot s where it replaces the record that is held there now, absent if there is none
unfoldable pub replace : {A : Type 0} → (A → A → Bool) → A → List A → ℕ → A → List A
replace replaces absent xs s r = pick (replaces (get_or xs (s - 1) absent) r) (put xs s r) xs

-- named records, one after the other
unfoldable pub replace_all : {A : Type 0} → (A → A → Bool) → A → List A → List (Named A) → List A
replace_all replaces absent xs [] = xs
replace_all replaces absent xs (n ∷ ns) = replace_all replaces absent (replace replaces absent xs n.at n.held) ns

-- named records, one after the other, each by one step from state to state
unfoldable pub in_order : {S A : Type 0} → (S → ℕ → A → S) → S → List (Named A) → S
in_order step s [] = s
in_order step s (n ∷ ns) = in_order step (step s n.at n.held) ns

-- the first of two that is there
abbrev pub or_else : {A : Type 0} → Option A → Option A → Option A
or_else (some a) o = some a
or_else none o = o

-- what is there, or d
abbrev pub or_given : {A : Type 0} → Option A → A → A
or_given (some a) d = a
or_given none d = d

-- 01, What the ledger keeps: the latest record of a list that names slot s
unfoldable pub naming : {A : Type 0} → ℕ → List (Named A) → Option A
naming s [] = none
naming s (n ∷ ns) = or_else (naming s ns) (pick (eqb n.at s) (some n.held) none)

-- 02, CR 3: a record, where there is one and it replaces the held one d
abbrev pub replacing : {A : Type 0} → (A → A → Bool) → A → Option A → Option A
replacing replaces d (some r) = pick (replaces d r) (some r) none
replacing replaces d none = none

-- 02, CR 2: what comes in ends a record of another kind: absent, where something comes
abbrev pub ending : {A B : Type 0} → B → Option A → Option B
ending absent (some r) = some absent
ending absent none = none

-- every one of the masks ms is the mask p
unfoldable pub all_same : {M : Type 0} → (M → M → Bool) → M → List M → Bool
all_same same p [] = true
all_same same p (m ∷ ms) = pick (same p m) (all_same same p ms) false

-- how records of one kind are kept: the record of a slot that has none, and whether a record came by place
pub record Kind (A : Type 0) : Type 0 where
  pub absent : A
  pub placed : A → Bool

-- 01, What the ledger keeps: a record that came by place under mask p is gone if any of the masks ms accepted after it differs from p
abbrev pub standing : {M A : Type 0} → Kind A → (M → M → Bool) → M → List M → A → A
standing k same p ms r = pick (k.placed r) (pick (all_same same p ms) r k.absent) r

-- what stands of a record, where there is one, or d
abbrev pub standing_or : {M A : Type 0} → Kind A → (M → M → Bool) → Option A → M → List M → A → A
standing_or k same (some r) p ms d = standing k same p ms r
standing_or k same none p ms d = d

-- the masks accepted since, oldest first, with one more at their old end
abbrev pub since : {M : Type 0} → Option M → List M → List M
since (some m) ms = m ∷ ms
since none ms = ms

-- a record that came by place is dropped, any other stays
abbrev pub unplaced : {A : Type 0} → Kind A → A → A
unplaced k r = pick (k.placed r) k.absent r

-- what is kept of the records when a frame may bring a mask after the mask old: all of them if it is the same, else those not by place
unfoldable pub kept : {M A : Type 0} → Kind A → (M → M → Bool) → Option M → M → List A → List A
kept k same (some m) old xs = pick (same old m) xs (map (unplaced k) xs)
kept k same none old xs = xs
