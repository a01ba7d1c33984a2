use borrow.Author.Rules.{rules}
use native.Mathlib.Omega.{arith}
use Prim.Native.Nat.{ℕ, ◌+◌}
use lib.ListN.{length}
use Rattle.std.proofs.lemmas.Slice.Zip.{either_empty_from_Zip}
use mathlib.Core.Path.{◌≡◌, ap, refl, sym, ◌∙◌}
use mathlib.Core.List.{List, [], ◌∷◌}
use mathlib.Core.Logic.{◌⊎◌, ⊎_elim}
use Rattle.bits.specs.Bits.{put_at, puts_at}
use Rattle.put_bits.proofs.puts.Goals as goal

-- one field more
one : (s : List ℕ) (a w v : ℕ) {ws vs us xs : List ℕ} → ws ≡ w ∷ us → vs ≡ v ∷ xs → puts_at s a ws vs ≡ puts_at (put_at s a w v) (a + w) us xs
unfolding puts_at
one s a w v p q = rw (p, q)

-- none left
none : (s : List ℕ) (a : ℕ) (ws vs : List ℕ) → (ws ≡ []) ⊎ (vs ≡ []) → puts_at s a ws vs ≡ s
unfolding puts_at
none s a ws vs o = ⊎_elim (λ p. rw p) (λ p. rw p (nought ws)) o
  where
    nought : (us : List ℕ) → puts_at s a us [] ≡ s
    nought [] = refl
    nought (w ∷ us) = refl

pub loop-w-init : goal.loop-w-init
loop-w-init c =
    (search rules, rw (c.into_iter-w-iterator.ensures.into_iter_gives, c.zip-w-items.ensures.first, c.iter.ensures.rest, c.zip-w-items.ensures.second.0))

pub loop-w-preserved : goal.loop-w-preserved
loop-w-preserved c =
    let h = c.in-Some.ensures.steps in
    let e = c.loop-w.invariant.1 in
    (omega (arith, ap length h.0), rw c.put.ensures (sym (one c.loop-w.room c.loop-w.a _ _ h.0 h.1) ∙ e))

pub returns : goal.returns
returns c = sym (none c.loop-w.room c.loop-w.a _ _ (either_empty_from_Zip _ c.next.new.self _ c.in-None.is c.next.ensures.steps)) ∙ c.loop-w.invariant.1
