-- Two tests at once.
use mathlib.Core.Path.{◌≡◌, refl, sym}
use mathlib.Core.Bool.{Bool, true, false, true≢false, ◌&&◌, ◌||◌}

-- both hold
pub both_hold : (a b : Bool) → a && b ≡ true → (a ≡ true) × (b ≡ true)
both_hold true b e = (refl, e)
both_hold false b e = absurd (true≢false (sym e))

-- neither holds
pub none_holds : (a b : Bool) → a || b ≡ false → (a ≡ false) × (b ≡ false)
none_holds true b e = absurd (true≢false e)
none_holds false b e = (refl, e)
