-- Why a satellite of the mask in force has no row in the list.
use Rattle.std.specs.Prelude.{ℕ, ◌≡◌, true, not, ◌&&◌, List, eqb}
use Rattle.bits.specs.Pick.{pick}
use Rattle.mask_bits.specs.Bits.{bit_at_slot}
use Rattle.held_mask.specs.Mask.{HeldMask, mask_at}
use Rattle.held_clocks.specs.Clocks.{held_clock_at}
use Rattle.held_clocks.specs.declared.HeldClock.{HeldClock}
use Rattle.held_orbits.specs.declared.HeldOrbit.{HeldOrbit}
use Rattle.row.specs.Row.{is_known, usable, is_assigned, qualifies, coded_at}
use Rattle.absent.specs.declared.Why.{Why}
use Rattle.absent.specs.declared.Why.TheVariants.{Listed, Orbit, Clock, Ssr, Corr, Ura, Unusable, Issue}

-- 01, What the ledger keeps: the first that applies: no orbit in force, no clock in force, an IOD SSR other than the mask's,
-- IOD Corr that differ, URA code 0, a raw value unusable, the broadcast issue is not IODN
unfoldable pub why_of : ℕ → HeldOrbit → HeldClock → ℕ → Why
why_of ssr o k issue =
    pick (not o.has) Orbit
    (pick (not k.has) Clock
    (pick (not (eqb o.ssr ssr && eqb k.ssr ssr)) Ssr
    (pick (not (eqb o.corr k.corr)) Corr
    (pick (not (is_known o.ura)) Ura
    (pick (not (usable o k)) Unusable
    (pick (not (eqb o.iodn issue)) Issue
    Listed))))))

-- why, by what a ledger's bytes hold; 02, CR 2: the orbit with the replaced code
abbrev pub why_held : List ℕ → ℕ → ℕ → Why
why_held s issue slot = why_of (mask_at s).ssr (coded_at s slot) (held_clock_at s slot) issue

-- for a slot of a satellite that the mask in force has: no reason is given exactly if it qualifies
pub record Reasoned (m : HeldMask) (o : HeldOrbit) (k : HeldClock) (issue slot : ℕ) : Type 0 where
  pub listed : is_assigned slot ≡ true → m.has ≡ true → bit_at_slot m.bits slot ≡ true → why_of m.ssr o k issue ≡ Listed → qualifies m o k issue slot ≡ true
  pub qualified : qualifies m o k issue slot ≡ true → why_of m.ssr o k issue ≡ Listed
