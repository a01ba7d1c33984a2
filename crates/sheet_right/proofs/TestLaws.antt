-- Several tests at once, each of which holds where all do.
use Prim.Native.Nat.{ℕ}
use mathlib.Core.Path.{◌≡◌, refl}
use mathlib.Core.Bool.{Bool, true, false, ◌&&◌}
use mathlib.Core.Option.{Option, none, some}
use native.Mathlib.Omega.{arith}
use Rattle.bits.specs.Pick.{pick}
use Rattle.bits.proofs.TestLaws.{both_hold}

pub three_hold : (a b c : Bool) → a && b && c ≡ true → (a ≡ true) × (b ≡ true) × (c ≡ true)
three_hold a b c e = (let p = both_hold (a && b) c e in let q = both_hold a b p.0 in (q.0, q.1, p.1))

pub four_hold : (a b c d : Bool) → a && b && c && d ≡ true → (a ≡ true) × (b ≡ true) × (c ≡ true) × (d ≡ true)
four_hold a b c d e = (let p = both_hold (a && b && c) d e in let q = three_hold a b c p.0 in (q.0, q.1, q.2, p.1))

pub five_hold : (a b c d f : Bool) → a && b && c && d && f ≡ true → (a ≡ true) × (b ≡ true) × (c ≡ true) × (d ≡ true) × (f ≡ true)
five_hold a b c d f e = (let p = both_hold (a && b && c && d) f e in let q = four_hold a b c d p.0 in (q.0, q.1, q.2, q.3, p.1))

pub six_hold : (a b c d f g : Bool) → a && b && c && d && f && g ≡ true → (a ≡ true) × (b ≡ true) × (c ≡ true) × (d ≡ true) × (f ≡ true) × (g ≡ true)
six_hold a b c d f g e = (let p = both_hold (a && b && c && d && f) g e in let q = five_hold a b c d f p.0 in (q.0, q.1, q.2, q.3, q.4, p.1))

-- nothing is wrong where a test holds and nothing is wrong after it
pub none_wrong : (b : Bool) (o : Option ℕ) (n : ℕ) → pick b o (some n) ≡ none → (b ≡ true) × (o ≡ none)
none_wrong true o n e = (refl, e)
none_wrong false o n e = absurd (let z : ◌≡◌ {A = ℕ} 0 1 = cc in omega arith)
