-- 02, CR 10: what is accepted is accepted with its rows in another order too.
use Prim.Native.Nat.{ℕ}
use mathlib.Core.Path.{◌≡◌, refl, sym, ap, ◌∙◌}
use mathlib.Core.Logic.{⊎_elim}
use mathlib.Core.Bool.{false}
use mathlib.Core.List.Memᴰ
use mathlib.Core.List.{List, ◌∷◌, Memᴰ, Permᴰ}
use native.Mathlib.Omega.{arith}
use lib.ListN.{length}
use Rattle.row.specs.declared.Row.{Row}
use Rattle.sheet_form.specs.Reading.{header_said}
use Rattle.sheet_writing.specs.Writing.{most_sheet_rows}
use Rattle.sheet_right.specs.Checked.{NoneTwice, OtherOrder}
use Rattle.sheet_right.proofs.AllRead.{AnyOrder}
use Rattle.sheet_right.proofs.NoOther.{any_allowed}
use Rattle.sheet_right.proofs.Accepted.{once_first, once_rest, first_once, accepted_exactly}
use Rattle.sheet_right.proofs.OwnAccepted.{sheet_accepted}

-- ---- rows in another order
-- are as many
perm_long : {rs qs : List Row} → Permᴰ rs qs → length rs ≡ length qs
perm_long Permᴰ.nil = refl
perm_long (Permᴰ.cons e p) = omega (arith, perm_long p)
perm_long (Permᴰ.swap e f) = refl
perm_long (Permᴰ.trans p q) = perm_long p ∙ perm_long q

-- are the same
perm_mem : {rs qs : List Row} → Permᴰ rs qs → (r : Row) → Memᴰ r qs → Memᴰ r rs
perm_mem Permᴰ.nil r m = m
perm_mem (Permᴰ.cons e p) r m = ⊎_elim (λ q. Memᴰ.head (q ∙ sym e)) (λ l. Memᴰ.tail (perm_mem p r l)) (Memᴰ.cases_cons m)
perm_mem (Permᴰ.swap e f) r m =
    ⊎_elim
    (λ q. Memᴰ.tail (Memᴰ.head (q ∙ sym f)))
    (λ l. ⊎_elim (λ q. Memᴰ.head (q ∙ sym e)) (λ k. Memᴰ.tail (Memᴰ.tail k)) (Memᴰ.cases_cons l))
    (Memᴰ.cases_cons m)
perm_mem (Permᴰ.trans p q) r m = perm_mem p r (perm_mem q r m)

-- and stand once where they stood once
perm_once : {rs qs : List Row} → Permᴰ rs qs → NoneTwice rs → NoneTwice qs
perm_once Permᴰ.nil o = o
perm_once (Permᴰ.cons {a = a} {b = b} {l₁ = l} {l₂ = m} e p) o =
    first_once b m (λ q k z. once_first a l o q (perm_mem p q k) (ap (λ (r : Row). r.slot.0) e ∙ z)) (perm_once p (once_rest a l o))
perm_once (Permᴰ.swap {a = a} {b = b} {a' = c} {b' = d} {l = l} e f) o =
    let slot : Row → ℕ = λ (r : Row). r.slot.0 in
    let u = once_rest a (b ∷ l) o in
    first_once c (d ∷ l)
    (λ q k z.
    ⊎_elim
    (λ g. once_first a (b ∷ l) o b (Memᴰ.head refl) (ap slot (e ∙ sym g) ∙ sym z ∙ ap slot (sym f)))
    (λ k. once_first b l u q k (ap slot f ∙ z))
    (Memᴰ.cases_cons k))
    (first_once d l (λ q k z. once_first a (b ∷ l) o q (Memᴰ.tail k) (ap slot e ∙ z)) (once_rest b l u))
perm_once (Permᴰ.trans p q) o = perm_once q (perm_once p o)

-- ACCEPTED IN ANY ORDER
pub other_order : OtherOrder
other_order s is t n rs B e p =
    let a = (accepted_exactly s is t n).0 e in
    let b = any_allowed t B most_sheet_rows false a.read in
    let l = perm_long p in
    let A : AnyOrder most_sheet_rows (header_said t) rs =
    record { prn = b.prn; ssr = b.ssr; iodp = b.iodp; count = b.count ∙ l; few = omega (arith, b.few); rows = λ r m. b.rows r (perm_mem p r m) } in
    sheet_accepted s is a.issues a.mask (header_said t) (record { prn = a.prn; ssr = a.ssr; iodp = a.iodp }) rs A n
    (λ r m. a.ours r (perm_mem p r m)) (perm_once p a.once) (omega (arith, a.left))
