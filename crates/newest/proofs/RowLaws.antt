-- When a record comes into force for a slot, by the tests that lead there, and what the bytes are then.
use mathlib.Core.Path.{◌≡◌, sym, ◌∙◌}
use mathlib.Core.Logic.{◌≢◌, dite}
use Prim.Native.Nat.{ℕ, ◌+◌, ◌-◌, ◌≤◌, ◌<◌}
use mathlib.Core.Bool.{Bool, true, false, not, ◌&&◌}
use mathlib.Core.List.{List}
use lib.Dec.{eqb}
use lib.ListN.{get_or, length, take, drop, length-drop}
use lib.Seq.{get_or-take, get_or-drop, length-take-le}
use native.Mathlib.Decide.{ℕ_discrete}
use native.Mathlib.Omega.{arith}
use borrow.Author.Tests.{eq-eqb, ne_eqb, lt-ltb, le-ltb}
use Rattle.bits.specs.Bytes.{row_at, store_at}
use Rattle.bits.proofs.TableLaws.{table_ext, table_same}
use Rattle.bits.proofs.TestLaws.{both_hold}
use Rattle.lent.specs.Held.{offset, held_at, comes_in, replace_held}
use Rattle.lent.proofs.HeldLaws.{put_slot, replace_none}
use Rattle.newest.specs.Rows.{replaces_row, comes_to}
use Rattle.newest.specs.declared.Rows.{Rows}
use Rattle.newest.specs.declared.Stamp.{Stamp}

-- a row of bytes that are all there is a part of them
row_part : (s : List ℕ) (at n : ℕ) → at + n ≤ length s → take n (drop at s) ≡ row_at s at n
unfolding row_at
row_part s at n l =
    sym (table_ext (λ (i : ℕ). get_or s (at + i) 0) (λ (i : ℕ). get_or (take n (drop at s)) i 0) n (λ i h. sym (get_or-take n (drop at s) i 0 h ∙ get_or-drop at s i 0))
    ∙ table_same (take n (drop at s)) n 0 (length-take-le n (drop at s) (omega (arith, length-drop at s))))

module _ (s : List ℕ) (f : Rows) (slot : ℕ) (new : Stamp) where
  pub comes_none : slot ≡ 0 → false ≡ comes_to s f slot new
  unfolding comes_to
  comes_none e = rw (eq-eqb slot 0 e)

  module _ (n : slot ≢ 0) (at : ℕ) (e : at ≡ offset f.size f.first slot) where
    pub comes_short : length s < at + f.size → false ≡ comes_to s f slot new
    unfolding comes_to
    comes_short l = rw (ne_eqb slot 0 n, ← e, lt-ltb (length s) (at + f.size) l)

    -- the part that is lent is the slot's row
    pub comes_row : at + f.size ≤ length s → replaces_row (take (at + f.size - at) (drop at s)) f new ≡ comes_to s f slot new
    unfolding comes_to
    comes_row fits =
        let k : at + f.size - at ≡ f.size = omega arith in
        rw (k, row_part s at f.size fits, ne_eqb slot 0 n, ← e, le-ltb (length s) (at + f.size) fits)

-- a record of any type comes into force where a row of it is replaced
pub comes_replaces : {A : Type 0} (replaces : A → A → Bool) (of : List ℕ → A) (s : List ℕ) (f : Rows) (slot : ℕ) (new : Stamp) (h : A) → ((r : List ℕ) → replaces_row r f new ≡ replaces (of r) h) → comes_to s f slot new ≡ not (eqb slot 0) && comes_in replaces of f.size s f.first slot h
unfolding comes_to held_at
comes_replaces replaces of s f slot new h row = rw (row (row_at s (offset f.size f.first slot) f.size))

-- the bytes then: it is stored where it comes into force, and then only
module _ {A : Type 0} (replaces : A → A → Bool) (absent : A) (of : List ℕ → A) (bytes : A → List ℕ) (w : ℕ) (long : (h : A) → length (bytes h) ≡ w) (s : List ℕ) (st i : ℕ) (h : A) where
  named : not (eqb i 0) ≡ true → i ≢ 0
  named e z = let t : false ≡ true = rw (eq-eqb i 0 z) at e in cc

  pub came_yes : not (eqb i 0) && comes_in replaces of w s st i h ≡ true → i < 256 → store_at s (offset w st i) (bytes h) ≡ replace_held replaces of bytes w s st i h
  unfolding replace_held
  came_yes e q =
      let p = both_hold (not (eqb i 0)) (comes_in replaces of w s st i h) e in
      let n = named p.0 in
      rw p.1 (sym (put_slot of bytes w long s st i h (omega arith) q))

  pub came_no : not (eqb i 0) && comes_in replaces of w s st i h ≡ false → s ≡ replace_held replaces of bytes w s st i h
  unfolding replace_held
  came_no e =
      dite (ℕ_discrete i 0)
      (λ z. rw z (sym (replace_none replaces absent of bytes w long s st h)))
      (λ n. let t : comes_in replaces of w s st i h ≡ false = rw (ne_eqb i 0 n) at e in rw t)
