-- The frames of a log, one more at a time.
use mathlib.Core.Path.{◌≡◌, refl, sym, ap, ◌∙◌}
use mathlib.Core.Logic.{dite}
use Prim.Native.Nat.{ℕ, ◌+◌, ◌-◌, ◌*◌, ◌<◌, ◌≤◌}
use mathlib.Core.List.{List}
use lib.Dec.{ltb}
use lib.ListN.{length, take, drop, length-drop, drop_of_length-le}
use lib.Seq.{take_all}
use native.Mathlib.Numerals.{add-one}
use native.Mathlib.Decide.{dec_lt}
use native.Mathlib.Omega.{arith}
use borrow.Author.Tests.{lt-ltb, le-ltb}
use Rattle.bits.specs.Pick.{pick}
use Rattle.in_force.specs.Bytes.{take_bytes, run_bytes, frame_at, frames_to}

module _ (s log : List ℕ) where
  pub run_start : run_bytes s (frames_to log 0) ≡ s
  unfolding run_bytes frames_to
  run_start = refl

  pub run_step : (i : ℕ) → run_bytes s (frames_to log (i + 1)) ≡ take_bytes (run_bytes s (frames_to log i)) (frame_at log i)
  unfolding run_bytes frames_to
  run_step i = rw (add-one i)

-- a piece of a log from where frame i begins, or the log ends: 125 bytes, or what is left at its end
module _ (log : List ℕ) (i a : ℕ) (start : a ≡ pick (ltb (125 * i) (length log)) (125 * i) (length log)) where
  pub start_in : a ≤ length log
  start_in =
      dite (dec_lt (125 * i) (length log))
      (λ h. let e : a ≡ 125 * i = rw (lt-ltb _ _ h) at start in omega arith)
      (λ h.
      let l : length log ≤ 125 * i = omega arith in
      let e : a ≡ length log = rw (le-ltb _ _ l) at start in
      omega arith)

  from_start : drop a log ≡ drop (125 * i) log
  from_start =
      dite (dec_lt (125 * i) (length log))
      (λ h. let e : a ≡ 125 * i = rw (lt-ltb _ _ h) at start in ap (λ (k : ℕ). drop k log) e)
      (λ h.
      let l : length log ≤ 125 * i = omega arith in
      let e : a ≡ length log = rw (le-ltb _ _ l) at start in
      let m : length log ≤ a = omega arith in
      drop_of_length-le log m ∙ sym (drop_of_length-le log l))

  pub piece_whole : take (a + 125 - a) (drop a log) ≡ frame_at log i
  piece_whole = let e : a + 125 - a ≡ 125 = omega arith in rw e (ap (take 125) from_start)

  pub piece_last : length log - a < 125 → take (length log - a) (drop a log) ≡ frame_at log i
  piece_last h =
      let d = drop a log in
      take_all (length log - a) d (omega (arith, length-drop a log)) ∙ sym (take_all 125 d (omega (arith, length-drop a log))) ∙ ap (take 125) from_start
