-- A walk over the places of a mask that goes on from the slot of the last one finds what counting from the start does.
use mathlib.Core.Path.{◌≡◌, refl, sym, ap, ◌∙◌, subst}
use mathlib.Core.Logic.{◌≢◌, dite}
use mathlib.Core.Bool.{Bool, true, false, not, ◌&&◌, true≢false}
use mathlib.Core.List.{List, [], ◌∷◌}
use Prim.Native.Nat.{ℕ, suc, ◌+◌, ◌-◌, ◌≤◌}
use native.Mathlib.Decide.{ℕ_discrete}
use native.Mathlib.Omega.{arith}
use lib.Dec.{eqb}
use lib.ListN.{length, drop}
use lib.Seq.{drop-drop}
use borrow.Author.Tests.{eq-eqb, ne_eqb}
use Rattle.bits.specs.Pick.{pick}
use Rattle.slots.specs.Slots.{nth_from}
use Rattle.slots.proofs.SlotLaws.{nth_end}

-- a place that is not the first set bit's
pub more : (bs : List Bool) (b n : ℕ) → n ≢ 1 → nth_from (true ∷ bs) b n ≡ nth_from bs (b + 1) (n - 1)
unfolding nth_from
more bs b n q = rw (ne_eqb n 1 q)

pub one : (bs : List Bool) (b : ℕ) → nth_from (true ∷ bs) b 1 ≡ b
unfolding nth_from
one bs b = refl

pub clear : (bs : List Bool) (b n : ℕ) → nth_from (false ∷ bs) b n ≡ nth_from bs (b + 1) n
unfolding nth_from
clear bs b n = refl

pub none_in : (b n : ℕ) → nth_from [] b n ≡ 0
unfolding nth_from
none_in b n = refl

-- a slot lies among those that the bits stand for
pub nth_from_lem : (bs : List Bool) (b n : ℕ) → nth_from bs b n ≢ 0 → b ≤ nth_from bs b n
nth_from_lem [] b n h = absurd (h (none_in b n))
nth_from_lem (false ∷ bs) b n h =
    rw (clear bs b n) (let l = nth_from_lem bs (b + 1) n (λ e. h (clear bs b n ∙ e)) in omega (arith, l))
nth_from_lem (true ∷ bs) b n h =
    dite (ℕ_discrete n 1)
    (λ e. rw (e, one bs b) (omega arith))
    (λ q. rw (more bs b n q) (let l = nth_from_lem bs (b + 1) (n - 1) (λ e. h (more bs b n q ∙ e)) in omega (arith, l)))

-- after a place with no slot come none with one
pub no_more : (bs : List Bool) (b n m : ℕ) → 1 ≤ b → 1 ≤ n → nth_from bs b n ≡ 0 → nth_from bs b (n + m) ≡ 0
no_more [] b n m hb hn e = none_in b (n + m)
no_more (false ∷ bs) b n m hb hn e = clear bs b (n + m) ∙ no_more bs (b + 1) n m (omega arith) hn (sym (clear bs b n) ∙ e)
no_more (true ∷ bs) b n m hb hn e =
    dite (ℕ_discrete n 1)
    (λ q. absurd (let z : b ≡ 0 = sym (one bs b) ∙ ap (nth_from (true ∷ bs) b) (sym q) ∙ e in let y : ⊥ = omega arith in y))
    (λ q.
    let f : n + m - 1 ≡ n - 1 + m = omega arith in
    more bs b (n + m) (λ z. q (omega arith)) ∙ ap (nth_from bs (b + 1)) f ∙ no_more bs (b + 1) (n - 1) m (omega arith) (omega arith) (sym (more bs b n q) ∙ e))

-- after a place with the slot x the others are counted from x on
on : (bs : List Bool) (b n m x : ℕ) → 1 ≤ n → 1 ≤ m → nth_from bs b n ≡ x → x ≢ 0 → nth_from (drop (x + 1 - b) bs) (x + 1) m ≡ nth_from bs b (n + m)
on [] b n m x hn hm e h = absurd (h (sym e ∙ none_in b n))
on (false ∷ bs) b n m x hn hm e h =
    let d = sym (clear bs b n) ∙ e in
    let l : b + 1 ≤ x = subst (λ (y : ℕ). b + 1 ≤ y) d (nth_from_lem bs (b + 1) n (λ z. h (sym d ∙ z))) in
    let f : x + 1 - b ≡ suc (x + 1 - (b + 1)) = omega arith in
    rw f (on bs (b + 1) n m x hn hm d h ∙ sym (clear bs b (n + m)))
on (true ∷ bs) b n m x hn hm e h =
    let g : n + m ≢ 1 = λ z. omega arith in
    dite (ℕ_discrete n 1)
    (λ q.
    let d : b ≡ x = sym (one bs b) ∙ ap (nth_from (true ∷ bs) b) (sym q) ∙ e in
    let f : x + 1 - b ≡ 1 = omega arith in
    let k : n + m - 1 ≡ m = omega arith in
    rw (f, ← d) (ap (nth_from bs (b + 1)) (sym k) ∙ sym (more bs b (n + m) g)))
    (λ q.
    let d = sym (more bs b n q) ∙ e in
    let l : b + 1 ≤ x = subst (λ (y : ℕ). b + 1 ≤ y) d (nth_from_lem bs (b + 1) (n - 1) (λ z. h (sym d ∙ z))) in
    let f : x + 1 - b ≡ suc (x + 1 - (b + 1)) = omega arith in
    let k : n - 1 + m ≡ n + m - 1 = omega arith in
    rw f (on bs (b + 1) (n - 1) m x (omega arith) hm d h ∙ ap (nth_from bs (b + 1)) k ∙ sym (more bs b (n + m) g)))

-- where the walk goes on
abbrev pub resumed_at : ℕ → ℕ → ℕ → ℕ
resumed_at from n slot = pick (eqb n 0) from (pick (eqb slot 0) 255 slot)

-- the places after place n, from there on
pub walk_on : (bits : List Bool) (from n m x : ℕ) → length bits ≤ 255 → 1 ≤ m → x ≡ nth_from (drop from bits) (from + 1) n
    → nth_from (drop (resumed_at from n x) bits) (resumed_at from n x + 1) m ≡ nth_from (drop from bits) (from + 1) (n + m)
walk_on bits from n m x l hm e =
    dite (ℕ_discrete n 0)
    (λ z. let f : n + m ≡ m = omega arith in rw (eq-eqb n 0 z, f) refl)
    (λ z.
    dite (ℕ_discrete x 0)
    (λ y. rw (ne_eqb n 0 z, eq-eqb x 0 y) (nth_end bits 255 (255 + 1) m l ∙ sym (no_more (drop from bits) (from + 1) n m (omega arith) (omega arith) (sym e ∙ y))))
    (λ y.
    let b : from + 1 ≤ x = subst (λ (k : ℕ). from + 1 ≤ k) (sym e) (nth_from_lem (drop from bits) (from + 1) n (λ q. y (e ∙ q))) in
    let f : from + (x + 1 - (from + 1)) ≡ x = omega arith in
    rw (ne_eqb n 0 z, ne_eqb x 0 y)
    (ap (λ (bs : List Bool). nth_from bs (x + 1) m) (ap (λ (k : ℕ). drop k bits) (sym f) ∙ sym (drop-drop (x + 1 - (from + 1)) from bits))
    ∙ on (drop from bits) (from + 1) n m x (omega arith) hm (sym e) y)))

-- that is the slot found, but for filler
pub resumed_there : (from n x : ℕ) → (n ≡ 0 → from ≡ x) → eqb x 0 && not (eqb n 0) ≡ false → resumed_at from n x ≡ x
resumed_there from n x same e =
    dite (ℕ_discrete n 0)
    (λ z. rw (eq-eqb n 0 z) (same z))
    (λ z.
    dite (ℕ_discrete x 0)
    (λ y. absurd (true≢false (rw (eq-eqb x 0 y, ne_eqb n 0 z) at e)))
    (λ y. rw (ne_eqb n 0 z, ne_eqb x 0 y)))
