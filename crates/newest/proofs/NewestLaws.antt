-- By what a record replaces the one held: nothing is held, another IOD SSR, another IOD Corr, or the epoch.
use mathlib.Core.Path.{◌≡◌}
use mathlib.Core.Logic.{◌≢◌}
use Prim.Native.Nat.{ℕ}
use mathlib.Core.Bool.{true}
use lib.Dec.{eqb}
use borrow.Author.Tests.{eq-eqb, ne_eqb}
use Rattle.newest.specs.Newest.{is_newer, replaces}
use Rattle.newest.specs.declared.Stamp.{Stamp}

module _ (flag : ℕ) (held new : Stamp) where
  pub by_none : flag ≢ 1 → true ≡ replaces (eqb flag 1) held new
  unfolding replaces
  by_none n = rw (ne_eqb flag 1 n)

  module _ (has : flag ≡ 1) where
    pub by_ssr : held.ssr ≢ new.ssr → true ≡ replaces (eqb flag 1) held new
    unfolding replaces
    by_ssr n = rw (eq-eqb flag 1 has, ne_eqb held.ssr new.ssr n)

    module _ (ssr : held.ssr ≡ new.ssr) where
      pub by_corr : held.corr ≢ new.corr → true ≡ replaces (eqb flag 1) held new
      unfolding replaces
      by_corr n = rw (eq-eqb flag 1 has, eq-eqb held.ssr new.ssr ssr, ne_eqb held.corr new.corr n)

      pub by_epoch : held.corr ≡ new.corr → is_newer held.epoch new.epoch ≡ replaces (eqb flag 1) held new
      unfolding replaces
      by_epoch e = rw (eq-eqb flag 1 has, eq-eqb held.ssr new.ssr ssr, eq-eqb held.corr new.corr e)
