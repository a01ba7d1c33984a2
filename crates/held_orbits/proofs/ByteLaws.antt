-- The bytes of an orbit, of equal parts.
use mathlib.Core.Path.{◌≡◌}
use mathlib.Core.List.{List, [], ◌∷◌}
use Prim.Native.Nat.{ℕ}
use lib.ListN.{get_or}

-- what the digits of two and of four bytes make
abbrev two : List ℕ → List ℕ → List ℕ
two x rest = get_or x 0 0 ∷ get_or x 1 0 ∷ rest

abbrev four : List ℕ → List ℕ → List ℕ
four x rest = get_or x 0 0 ∷ get_or x 1 0 ∷ get_or x 2 0 ∷ get_or x 3 0 ∷ rest

-- the bytes of equal parts
abbrev pub parts : ℕ → List ℕ → ℕ → List ℕ → ℕ → List ℕ → List ℕ → List ℕ → ℕ → List ℕ → List ℕ
parts h e s i o r a c k q = h ∷ four e (s ∷ two i (o ∷ two r (two a (two c (k ∷ four q (0 ∷ 0 ∷ 0 ∷ 0 ∷ []))))))

pub bytes_made : (s o : ℕ) {h h' k k' : ℕ} {e e' i i' r r' a a' c c' q q' : List ℕ} → h ≡ h' → e ≡ e' → i ≡ i' → r ≡ r' → a ≡ a' → c ≡ c' → k ≡ k' → q ≡ q' → parts h e s i o r a c k q ≡ parts h' e' s i' o r' a' c' k' q'
bytes_made s o h e i r a c k q = rw (h, e, i, r, a, c, k, q)
