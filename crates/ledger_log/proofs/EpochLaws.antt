-- A frame's epoch, straight from its bits.
use mathlib.Core.Path.{◌≡◌}
use mathlib.Core.Logic.{◌≢◌, dite}
use mathlib.Core.Bool.{Bool, true, false}
use mathlib.Core.List.{List}
use mathlib.Core.Option.{Option, none, some}
use Prim.Native.Nat.{ℕ, ◌+◌, ◌*◌, ◌^◌, ◌<◌, min}
use native.Mathlib.Decide.{ℕ_discrete, dec_lt}
use native.Mathlib.Omega.{arith}
use borrow.Author.Tests.{ne_eqb, lt-ltb, le-ltb}
use lib.Dec.{eqb, ltb}
use Rattle.bits.specs.Pick.{pick}
use Rattle.bits.specs.Bits.{field_at}
use Rattle.bits.proofs.ByteWise.{field_split}
use Rattle.layout.specs.Layout.{layout_of}
use Rattle.layout.specs.declared.Layout.{Layout}
use Rattle.contents.specs.Parts.{mask_in, clocks_in, orbits_in, biases_in, codes_in, no_clocks, no_orbits, contents_at}
use Rattle.frame.specs.Frame.{contents_of}
use Rattle.ledger_log.specs.Epochs.{epoch_of, epoch_bit, one_more}

-- one more, as far as 64 bits count
pub as_far : (n : ℕ) → n < 18446744073709551616 → min (n + 1) 18446744073709551615 ≡ one_more n
as_far n h =
    dite (dec_lt n 18446744073709551615)
    (λ l. rw (lt-ltb n 18446744073709551615 l) (omega arith))
    (λ l. rw (le-ltb n 18446744073709551615 (omega arith)) (omega arith))

-- the epoch at a bit, none at bit 0
abbrev pub epoch_at : List ℕ → ℕ → Option ℕ
epoch_at f at = pick (eqb at 0) none (some (field_at f at 17))

module _ (f : List ℕ) where
  -- NumC and NumO side by side are zero only if both are
  counts : field_at f 34 8 ≡ field_at f 34 5 * 2 ^ 3 + field_at f 39 3
  counts = field_split f 34 5 3

  kind_1 : field_at f 28 6 ≡ 1 → epoch_of (contents_of f) ≡ epoch_at f (epoch_bit f)
  unfolding epoch_of epoch_bit contents_at mask_in layout_of
  kind_1 e = rw e

  kind_2 : field_at f 28 6 ≡ 2 → epoch_of (contents_of f) ≡ epoch_at f (epoch_bit f)
  unfolding epoch_of epoch_bit contents_at clocks_in orbits_in layout_of no_clocks
  kind_2 e = rw e

  kind_3 : field_at f 28 6 ≡ 3 → epoch_of (contents_of f) ≡ epoch_at f (epoch_bit f)
  unfolding epoch_of epoch_bit contents_at biases_in
  kind_3 e = rw e

  kind_5 : field_at f 28 6 ≡ 5 → epoch_of (contents_of f) ≡ epoch_at f (epoch_bit f)
  unfolding epoch_of epoch_bit contents_at codes_in
  kind_5 e = rw e

  kind_4 : field_at f 28 6 ≡ 4 → epoch_of (contents_of f) ≡ epoch_at f (epoch_bit f)
  unfolding epoch_of epoch_bit contents_at clocks_in layout_of
  kind_4 e = rw e

  -- types 6 and 7: a clock part, else an orbit part, else none
  counted : (iodp start : ℕ) (slotted : Bool) →
      let l : Layout = record { mask = false; head = 14; clocks = field_at f 34 5; orbits = field_at f 39 3; iodp = iodp; start = start; slotted = slotted } in
      pick (ltb 0 (clocks_in f 28 l).count) (some (clocks_in f 28 l).epoch) (pick (ltb 0 (orbits_in f 28 l).count) (some (orbits_in f 28 l).epoch) none)
      ≡ epoch_at f (pick (ltb 0 (field_at f 34 8)) 42 0)
  unfolding clocks_in orbits_in no_clocks no_orbits
  counted iodp start slotted =
      dite (ℕ_discrete (field_at f 34 5) 0)
      (λ c. dite (ℕ_discrete (field_at f 39 3) 0)
      (λ o. rw (c, o, le-ltb 0 (field_at f 34 8) (omega (arith, counts))))
      (λ o. rw (c, ne_eqb (field_at f 39 3) 0 o, lt-ltb 0 (field_at f 39 3) (omega arith), lt-ltb 0 (field_at f 34 8) (omega (arith, counts)))))
      (λ c. rw (ne_eqb (field_at f 34 5) 0 c, lt-ltb 0 (field_at f 34 5) (omega arith), lt-ltb 0 (field_at f 34 8) (omega (arith, counts))))

  kind_6 : field_at f 28 6 ≡ 6 → epoch_of (contents_of f) ≡ epoch_at f (epoch_bit f)
  unfolding epoch_of epoch_bit contents_at layout_of
  kind_6 e = rw e (counted 4 9 false)

  kind_7 : field_at f 28 6 ≡ 7 → epoch_of (contents_of f) ≡ epoch_at f (epoch_bit f)
  unfolding epoch_of epoch_bit contents_at layout_of
  kind_7 e = rw e (counted 0 0 true)

  kind_other : field_at f 28 6 ≢ 1 → field_at f 28 6 ≢ 2 → field_at f 28 6 ≢ 3 → field_at f 28 6 ≢ 4 → field_at f 28 6 ≢ 5 → field_at f 28 6 ≢ 6 → field_at f 28 6 ≢ 7 → epoch_of (contents_of f) ≡ epoch_at f (epoch_bit f)
  unfolding epoch_of epoch_bit contents_at clocks_in orbits_in layout_of no_clocks no_orbits
  kind_other a b c d e g h =
      rw (
        ne_eqb (field_at f 28 6) 1 a,
        ne_eqb (field_at f 28 6) 2 b,
        ne_eqb (field_at f 28 6) 3 c,
        ne_eqb (field_at f 28 6) 4 d,
        ne_eqb (field_at f 28 6) 5 e,
        ne_eqb (field_at f 28 6) 6 g,
        ne_eqb (field_at f 28 6) 7 h,
      )

  pub epoch_there : epoch_of (contents_of f) ≡ epoch_at f (epoch_bit f)
  epoch_there =
      dite (ℕ_discrete (field_at f 28 6) 1) kind_1
      (λ a. dite (ℕ_discrete (field_at f 28 6) 2) kind_2
      (λ b. dite (ℕ_discrete (field_at f 28 6) 3) kind_3
      (λ c. dite (ℕ_discrete (field_at f 28 6) 4) kind_4
      (λ d. dite (ℕ_discrete (field_at f 28 6) 5) kind_5
      (λ e. dite (ℕ_discrete (field_at f 28 6) 6) kind_6
      (λ g. dite (ℕ_discrete (field_at f 28 6) 7) kind_7 (λ h. kind_other a b c d e g h)))))))
