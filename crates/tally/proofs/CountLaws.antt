-- Counting by its cases; and what the counters say after it.
use mathlib.Core.Path.{◌≡◌, ap, ◌∙◌}
use mathlib.Core.Logic.{◌≢◌, dite}
use Prim.Native.Nat.{ℕ, ◌+◌, ◌*◌, ◌/◌, ◌%◌, ◌≤◌, ◌<◌, min}
use mathlib.Core.Bool.{true, false}
use mathlib.Core.List.{List}
use lib.ListN.{length, get_or}
use lib.Seq.{get_or-set_same}
use native.Mathlib.Decide.{dec_lt}
use native.Mathlib.Omega.{arith}
use mir.Syntax.{w32}
use Rattle.std.specs.Int.{to_be_bytes}
use borrow.Author.Tests.{eq-eqb, ne_eqb, le-leb, lt-leb, lt-ltb, le-ltb}
use Rattle.bits.specs.Bytes.{store_at}
use Rattle.bits.specs.Table.{table}
use Rattle.bits.proofs.TableLaws.{length_table, get_or_table}
use Rattle.lent.specs.Digits.{four_at}
use Rattle.tally.specs.Tally.{tally_size, is_counted, one_more, bytes_of, raised_of, tally_of, counted}
use Rattle.tally.specs.declared.Tally.{Tally}

-- ---- which numbers are counted
pub none_counted : (n : ℕ) → n < 1 → is_counted n ≡ false
none_counted n h = rw (lt-leb 1 n h)

module _ (n : ℕ) (low : 1 ≤ n) where
  pub far_counted : 39 < n → is_counted n ≡ false
  far_counted h = rw (le-leb 1 n low, lt-leb n 39 h)

  pub is_counted_lem : n ≤ 39 → is_counted n ≡ true
  is_counted_lem h = rw (le-leb 1 n low, le-leb n 39 h)

-- ---- the counters
-- one more, as far as 32 bits count
pub stopping : (x : ℕ) → x < 4294967296 → min (x + 1) 4294967295 ≡ one_more x
stopping x h =
    dite (dec_lt x 4294967295)
    (λ l. rw (lt-ltb x 4294967295 l) (omega arith))
    (λ l. rw (le-ltb x 4294967295 (omega arith)) (omega arith))

module _ (t : Tally) (n : ℕ) where
  pub raised_not : is_counted n ≡ false → t ≡ raised_of t n
  unfolding raised_of
  raised_not z = rw z

  -- the counter that was raised, of a tally's bytes
  pub raised_counter : (y : List ℕ) → is_counted n ≡ true → n < 40 → t ≡ raised_of (tally_of y) n → get_or t.counts n 0 ≡ one_more (four_at y (4 * n))
  unfolding raised_of tally_of
  raised_counter y z h e =
      let f : ℕ → ℕ = λ (i : ℕ). four_at y (4 * i) in
      ap (λ (x : Tally). get_or x.counts n 0) e
      ∙ rw z (get_or-set_same (table f 40) n (one_more (get_or (table f 40) n 0)) 0 (omega (arith, length_table f 40)) ∙ ap one_more (get_or_table f 40 n 0 h))

-- ---- the bytes
pub four_bytes : (n : ℕ) → n < 4294967296 → to_be_bytes w32 n ≡ bytes_of n
four_bytes n h =
    let a : n / 16777216 % 256 ≡ n / 65536 / 256 = omega arith in
    let b : n / 256 % 256 ≡ n % 65536 / 256 = omega arith in
    let c : n % 256 ≡ n % 65536 % 256 = omega arith in
    rw (a, b, c)

module _ (y : List ℕ) (n : ℕ) where
  pub count_no_tally : length y ≢ tally_size → y ≡ counted y n
  unfolding counted
  count_no_tally z = rw (ne_eqb _ _ z)

  module _ (long : length y ≡ tally_size) where
    pub count_no_number : is_counted n ≡ false → y ≡ counted y n
    unfolding counted
    count_no_number z = rw (eq-eqb _ _ long, z)

    pub count_one : (x : ℕ) → is_counted n ≡ true → x ≡ one_more (four_at y (4 * n)) → store_at y (4 * n) (bytes_of x) ≡ counted y n
    unfolding counted
    count_one x z e = rw (eq-eqb _ _ long, z) (ap (λ (v : ℕ). store_at y (4 * n) (bytes_of v)) e)
