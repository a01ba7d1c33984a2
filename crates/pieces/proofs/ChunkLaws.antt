-- A log of whole frames is cut into chunks of 125 bytes, and so is every log in which no frame begins inside a chunk that is none.
use mathlib.Core.Path.{◌≡◌, refl, sym, ap, ap₂, ◌∙◌}
use mathlib.Core.Logic.{inl, inr, ⊎_elim, dite}
use mathlib.Core.Bool.{Bool, true, false}
use mathlib.Core.List.{List, ◌∷◌}
use Prim.Native.Nat.{ℕ, zero, suc, ◌+◌, ◌*◌, ◌/◌, ◌≤◌, ◌<◌, min}
use native.Mathlib.Decide.{dec_le}
use native.Mathlib.Omega.{arith}
use lib.ListN.{length, take, drop, length-drop, drop_of_length-le}
use lib.Seq.{drop-drop, take_all}
use Rattle.bits.specs.Table.{table}
use Rattle.bits.proofs.TableLaws.{table_ext}
use Rattle.pieces.specs.Pieces.{stands_at, piece_length}
use Rattle.pieces.specs.Cut.{cut, chunk_at, chunks, InStep}
use Rattle.pieces.proofs.PieceLaws.{none_stands, stands_within, at_start, searched, from_none}
use Rattle.pieces.proofs.CutLaws.{cut_step, cut_end}
use Rattle.pieces.proofs.WholeLaws.{stands_drop}

-- a table from its front
table_front : {A : Type 0} (f : ℕ → A) (n : ℕ) → table f (suc n) ≡ f 0 ∷ table (λ (i : ℕ). f (i + 1)) n
unfolding table
table_front f zero = refl
table_front f (suc n) = let e : n + 1 ≡ suc n = omega arith in rw (table_front f n, e)

-- the first piece is the first chunk
first_chunk : (s : List ℕ) → InStep s → piece_length s ≡ min 125 (length s)
first_chunk s k = go (stands_at s 0) refl
  where
    inside : (q : ℕ) → 1 ≤ q → q < 125 → stands_at s 0 ≡ false → stands_at s q ≡ false
    inside q l u e = dite (dec_le 125 (length s)) (λ h. ⊎_elim (λ t. cc) (λ t. t q (omega arith) (omega arith)) (k 0 h)) (λ h. none_stands s q (omega arith))

    go : (b : Bool) → stands_at s 0 ≡ b → piece_length s ≡ min 125 (length s)
    go true e = at_start s e ∙ omega (arith, stands_within s 0 e)
    go false e = searched s e ∙ from_none s (λ q l u. inside q l u e)

-- what is left is in step too
in_step_drop : (s : List ℕ) → InStep s → InStep (drop 125 s)
in_step_drop s k i h =
    let e : 125 * (i + 1) ≡ 125 + 125 * i = omega arith in
    ⊎_elim
    (λ t. inl (stands_drop s 125 (125 * i) ∙ ap (stands_at s) (sym e) ∙ t))
    (λ t. inr (λ q l u. stands_drop s 125 q ∙ t (125 + q) (omega arith) (omega arith)))
    (k (i + 1) (omega (arith, length-drop 125 s)))

-- as many bytes as there are, or 125
take_least : (s : List ℕ) → take (min 125 (length s)) s ≡ take 125 s
take_least s =
    dite (dec_le 125 (length s))
    (λ h. let e : min 125 (length s) ≡ 125 = omega arith in rw e)
    (λ h. let e : min 125 (length s) ≡ length s = omega arith in rw e (take_all (length s) s (omega arith) ∙ sym (take_all 125 s (omega arith))))

drop_least : (s : List ℕ) → drop (min 125 (length s)) s ≡ drop 125 s
drop_least s =
    dite (dec_le 125 (length s))
    (λ h. let e : min 125 (length s) ≡ 125 = omega arith in rw e)
    (λ h. let e : min 125 (length s) ≡ length s = omega arith in rw e (drop_of_length-le s {i = length s} (omega arith) ∙ sym (drop_of_length-le s {i = 125} (omega arith))))

-- chunk i of what is left is the next one
chunk_next : (s : List ℕ) (i : ℕ) → chunk_at (drop 125 s) i ≡ chunk_at s (i + 1)
chunk_next s i = let e : 125 * (i + 1) ≡ 125 + 125 * i = omega arith in rw (drop-drop (125 * i) 125 s, e)

chunks_to : (n : ℕ) (s : List ℕ) → (length s + 124) / 125 ≡ n → InStep s → cut s ≡ table (chunk_at s) n
unfolding table
chunks_to zero s e k = cut_end s (omega arith)
chunks_to (suc n) s e k =
    cut_step s (omega arith)
    ∙ ap (λ (i : ℕ). take i s ∷ cut (drop i s)) (first_chunk s k)
    ∙ ap₂ (λ (x : List ℕ) (t : List ℕ). x ∷ cut t) (take_least s) (drop_least s)
    ∙ ap (λ (ps : List (List ℕ)). take 125 s ∷ ps) (chunks_to n (drop 125 s) (omega (arith, length-drop 125 s)) (in_step_drop s k) ∙ table_ext _ _ n (λ i h. chunk_next s i))
    ∙ sym (table_front (chunk_at s) n)

pub as_chunks : (s : List ℕ) → InStep s → cut s ≡ chunks s
unfolding chunks
as_chunks s k = chunks_to ((length s + 124) / 125) s refl k
