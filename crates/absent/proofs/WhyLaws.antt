-- No reason is given exactly where a slot of the mask in force qualifies.
use Prim.Native.Nat.{ℕ}
use mathlib.Core.Path.{◌≡◌, refl, sym, ap, ◌∙◌}
use mathlib.Core.Bool.{Bool, true, false, not, ◌&&◌, true≢false}
use lib.Dec.{eqb}
use borrow.Author.Tests.{eq-eqb, ne_eqb}
use Rattle.bits.specs.Pick.{pick}
use Rattle.mask_bits.specs.Bits.{bit_at_slot}
use Rattle.held_mask.specs.Mask.{HeldMask}
use Rattle.held_clocks.specs.declared.HeldClock.{HeldClock}
use Rattle.held_orbits.specs.declared.HeldOrbit.{HeldOrbit}
use Rattle.row.specs.Row.{is_known, usable, agrees, is_assigned, qualifies}
use Rattle.absent.specs.declared.Why.{Why}
use Rattle.absent.specs.declared.Why.TheVariants.{Listed, Orbit, Clock, Ssr, Corr, Ura, Unusable, Issue}
use Rattle.absent.specs.Why.{why_of, Reasoned}

-- whether no reason is given
abbrev is_listed : Why → Bool
is_listed Listed = true
is_listed Orbit = false
is_listed Clock = false
is_listed Ssr = false
is_listed Corr = false
is_listed Ura = false
is_listed Unusable = false
is_listed Issue = false

-- no reason of a test and a rest: the test holds, and the rest gives none
passed : (b : Bool) (w r : Why) → is_listed w ≡ false → pick (not b) w r ≡ Listed → (b ≡ true) × (r ≡ Listed)
passed true w r n e = (refl, e)
passed false w r n e = absurd (true≢false (sym (ap is_listed e) ∙ n))

-- both of two tests
both : (a b : Bool) → a && b ≡ true → (a ≡ true) × (b ≡ true)
both true b e = (refl, e)
both false b e = absurd (true≢false (sym e))

module _ (m : HeldMask) (o : HeldOrbit) (k : HeldClock) (issue slot : ℕ) where
  listed : is_assigned slot ≡ true → m.has ≡ true → bit_at_slot m.bits slot ≡ true → why_of m.ssr o k issue ≡ Listed → qualifies m o k issue slot ≡ true
  unfolding why_of qualifies agrees
  listed a h b e =
      let p1 = passed o.has Orbit _ refl e in
      let p2 = passed k.has Clock _ refl p1.1 in
      let p3 = passed (eqb o.ssr m.ssr && eqb k.ssr m.ssr) Ssr _ refl p2.1 in
      let p4 = passed (eqb o.corr k.corr) Corr _ refl p3.1 in
      let p5 = passed (is_known o.ura) Ura _ refl p4.1 in
      let p6 = passed (usable o k) Unusable _ refl p5.1 in
      let p7 = passed (eqb o.iodn issue) Issue Listed refl p6.1 in
      let s = both (eqb o.ssr m.ssr) (eqb k.ssr m.ssr) p3.0 in
      rw (p6.0, a, h, b, p1.0, p2.0, s.0, s.1, p4.0, p7.0)

  known : usable o k ≡ true → is_known o.ura ≡ true
  unfolding usable
  known e = (both _ _ (both _ _ (both _ _ (both _ _ e).0).0).0).0

  qualified : qualifies m o k issue slot ≡ true → why_of m.ssr o k issue ≡ Listed
  unfolding why_of qualifies agrees
  qualified e =
      let q = both (is_assigned slot && m.has && bit_at_slot m.bits slot && agrees m.ssr o k issue) (usable o k) e in
      let a = (both (is_assigned slot && m.has && bit_at_slot m.bits slot) (agrees m.ssr o k issue) q.0).1 in
      let a6 = both (o.has && k.has && eqb o.ssr m.ssr && eqb k.ssr m.ssr && eqb o.corr k.corr) (eqb o.iodn issue) a in
      let a5 = both (o.has && k.has && eqb o.ssr m.ssr && eqb k.ssr m.ssr) (eqb o.corr k.corr) a6.0 in
      let a4 = both (o.has && k.has && eqb o.ssr m.ssr) (eqb k.ssr m.ssr) a5.0 in
      let a3 = both (o.has && k.has) (eqb o.ssr m.ssr) a4.0 in
      let a2 = both o.has k.has a3.0 in
      rw (q.1, known q.1, a2.0, a2.1, a3.1, a4.1, a5.1, a6.1)

  pub reasoned : Reasoned m o k issue slot
  reasoned = record { listed = listed; qualified = qualified }

-- ---- the cases, each by the tests before it
module _ (ssr : ℕ) (o : HeldOrbit) (k : HeldClock) (issue : ℕ) where
  pub no_orbit_lem : o.has ≡ false → Orbit ≡ why_of ssr o k issue
  unfolding why_of
  no_orbit_lem e = rw e

  module _ (has : o.has ≡ true) where
    pub no_clock : k.has ≡ false → Clock ≡ why_of ssr o k issue
    unfolding why_of
    no_clock e = rw (has, e)

    module _ (clock : k.has ≡ true) where
      pub other_ssr : eqb o.ssr ssr && eqb k.ssr ssr ≡ false → Ssr ≡ why_of ssr o k issue
      unfolding why_of
      other_ssr e = rw (has, clock, e)

      module _ (same : eqb o.ssr ssr && eqb k.ssr ssr ≡ true) where
        pub other_corr : (o.corr ≡ k.corr → ⊥) → Corr ≡ why_of ssr o k issue
        unfolding why_of
        other_corr n = rw (has, clock, same, ne_eqb o.corr k.corr n)

        module _ (corr : o.corr ≡ k.corr) where
          pub no_ura : is_known o.ura ≡ false → Ura ≡ why_of ssr o k issue
          unfolding why_of
          no_ura e = rw (has, clock, same, eq-eqb o.corr k.corr corr, e)

          module _ (ura : is_known o.ura ≡ true) where
            pub not_usable : usable o k ≡ false → Unusable ≡ why_of ssr o k issue
            unfolding why_of
            not_usable e = rw (e, ura, has, clock, same, eq-eqb o.corr k.corr corr)

            module _ (fit : usable o k ≡ true) where
              pub other_issue : (o.iodn ≡ issue → ⊥) → Issue ≡ why_of ssr o k issue
              unfolding why_of
              other_issue n = rw (fit, ura, has, clock, same, eq-eqb o.corr k.corr corr, ne_eqb o.iodn issue n)

              pub no_reason : o.iodn ≡ issue → Listed ≡ why_of ssr o k issue
              unfolding why_of
              no_reason e = rw (fit, ura, has, clock, same, eq-eqb o.corr k.corr corr, eq-eqb o.iodn issue e)
