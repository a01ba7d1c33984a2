-- The bytes of a number fit.
use Prim.Native.Nat.{ℕ, ◌/◌, ◌%◌}
use borrow.Author.Rules.{rules}
use mir.Syntax.{w8, w16, w32}
use mir.Val.{Fits}

pub high : {x : ℕ} → Fits w16 x → Fits w8 (x / 256)
high h = search rules

pub low : (x : ℕ) → Fits w8 (x % 256)
low x = search rules

pub top : {x : ℕ} → Fits w32 x → Fits w8 (x / 65536 / 256)
top h = search rules

pub mid : (x : ℕ) → Fits w8 (x % 65536 / 256)
mid x = search rules
