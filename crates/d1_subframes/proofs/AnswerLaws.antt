-- The answers of reading and writing, case by case; bytes stored over a whole room.
use mathlib.Core.Path.{◌≡◌, refl, ap, ◌∙◌}
use mathlib.Core.Bool.{Bool, true, false, not, ◌||◌}
use mathlib.Core.Logic.{◌≢◌}
use Prim.Native.Nat.{ℕ, ◌<◌, ◌≤◌}
use mathlib.Core.List.{List}
use native.Mathlib.Nat.{zero-add}
use native.Mathlib.Omega.{arith}
use lib.Dec.{eqb, ltb}
use lib.ListN.{length}
use lib.Seq.{ext_get_or}
use borrow.Author.Tests.{eqb-true, not-false, eq-eqb, ne_eqb, lt-ltb, le-ltb}
use Rattle.bits.specs.Bits.{field_at}
use Rattle.bits.specs.Bytes.{store_at}
use Rattle.bits.proofs.TestLaws.{none_holds}
use Rattle.bits.proofs.ByteLaws.{length_store, store_in}
use Rattle.d1_subframes.specs.Subframe.{data_of, preamble_of, frame_of, second_of, subframe_refusal, read_unfit, write_unfit, read_refusal, subframe_write_refusal}

-- bytes stored over a whole room are the room
pub whole : (room r : List ℕ) → length room ≡ length r → store_at room 0 r ≡ r
whole room r e =
    ext_get_or 0 (store_at room 0 r) r (length_store room 0 r ∙ e)
    (λ j h. rw (zero-add j) at (store_in room 0 r j (omega arith) (omega (arith, length_store room 0 r))))

-- 02, CR 4: 32 to 34, lowest first, where 31 does not apply
pub refuses_32 : (d : List ℕ) → preamble_of d ≢ 0b11100010010 → subframe_refusal false d ≡ 32
unfolding subframe_refusal
refuses_32 d p = rw (ne_eqb _ _ p)

pub refuses_33 : (d : List ℕ) → preamble_of d ≡ 0b11100010010 → ltb (frame_of d) 1 || ltb 5 (frame_of d) ≡ true → subframe_refusal false d ≡ 33
unfolding subframe_refusal
refuses_33 d p f = rw (eq-eqb _ _ p, f)

pub refuses_34 : (d : List ℕ) → preamble_of d ≡ 0b11100010010 → ltb (frame_of d) 1 || ltb 5 (frame_of d) ≡ false → 604799 < second_of d
    → subframe_refusal false d ≡ 34
unfolding subframe_refusal
refuses_34 d p f l = rw (eq-eqb _ _ p, f, lt-ltb _ _ l)

pub refuses_none : (d : List ℕ) → preamble_of d ≡ 0b11100010010 → ltb (frame_of d) 1 || ltb 5 (frame_of d) ≡ false → second_of d ≤ 604799
    → subframe_refusal false d ≡ 0
unfolding subframe_refusal
refuses_none d p f l = rw (eq-eqb _ _ p, f, le-ltb _ _ l)

-- 02, CR 4: 31 before all else
pub unfit_31 : (d : List ℕ) → subframe_refusal true d ≡ 31
unfolding subframe_refusal
unfit_31 d = refl

pub read_unfit_lem : (room s : List ℕ) → read_unfit room s ≡ true → read_refusal room s ≡ 31
unfolding read_refusal
read_unfit_lem room s e = ap (λ (t : Bool). subframe_refusal t (data_of s)) e ∙ unfit_31 (data_of s)

pub write_unfit_lem : (room d : List ℕ) → write_unfit room d ≡ true → subframe_write_refusal room d ≡ 31
unfolding subframe_write_refusal
write_unfit_lem room d e = ap (λ (t : Bool). subframe_refusal t d) e ∙ unfit_31 d

-- else by the information bits
pub read_judged : (room s : List ℕ) → read_unfit room s ≡ false → read_refusal room s ≡ subframe_refusal false (data_of s)
unfolding read_refusal
read_judged room s e = ap (λ (t : Bool). subframe_refusal t (data_of s)) e

pub write_judged : (room d : List ℕ) → write_unfit room d ≡ false → subframe_write_refusal room d ≡ subframe_refusal false d
unfolding subframe_write_refusal
write_judged room d e = ap (λ (t : Bool). subframe_refusal t d) e

same : (a b : ℕ) → not (eqb a b) ≡ false → a ≡ b
same a b e = eqb-true a b (not-false (eqb a b) e)

-- what fits has both lengths, and four closing bits of zero
pub read_fits : (room s : List ℕ) → read_unfit room s ≡ false → (length s ≡ 38) × (length room ≡ 28) × (field_at s 300 4 ≡ 0)
read_fits room s e =
    let p = none_holds (not (eqb (length s) 38) || not (eqb (length room) 28)) (not (eqb (field_at s 300 4) 0)) e in
    let q = none_holds (not (eqb (length s) 38)) (not (eqb (length room) 28)) p.0 in
    (same (length s) 38 q.0, same (length room) 28 q.1, same (field_at s 300 4) 0 p.1)

pub write_fits : (room d : List ℕ) → write_unfit room d ≡ false → (length d ≡ 28) × (length room ≡ 38)
write_fits room d e =
    let q = none_holds (not (eqb (length d) 28)) (not (eqb (length room) 38)) e in
    (same (length d) 28 q.0, same (length room) 38 q.1)
