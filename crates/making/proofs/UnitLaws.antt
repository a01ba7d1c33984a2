-- A frame's bytes by its units are the bytes that putting its fields in order leaves.
use Prim.Native.Nat.{ℕ, zero, suc, ◌+◌, ◌-◌, ◌*◌, ◌/◌, ◌%◌, ◌^◌, ◌<◌, ◌≤◌}
use mathlib.Core.Path.{◌≡◌, refl, sym, ap, ap₂, ◌∙◌}
use mathlib.Core.Logic.{dite}
use mathlib.Core.List.{List, [], ◌∷◌, ◌++◌}
use native.Mathlib.Nat.{not-suc-le-zero, add-zero}
use native.Mathlib.Decide.{dec_lt, ℕ_discrete}
use native.Mathlib.Omega.{arith}
use lib.Dec.{lit<}
use lib.ListN.{get_or, length, replicate, length-replicate, get_or-append}
use lib.Seq.{ext_get_or, get_or-append-add}
use borrow.Author.Tests.{ne_eqb, lt-ltb, le-ltb}
use Rattle.bits.specs.Bits.{field_at, fields_at, puts_at, total, Within}
use Rattle.bits.specs.Bytes.{Bytes}
use Rattle.bits.specs.Table.{table}
use Rattle.bits.proofs.ByteWise.{field_split}
use Rattle.bits.proofs.RowLaws.{length_puts, fields_puts}
use Rattle.bits.proofs.TableLaws.{length_table, get_or_table}
use Rattle.bits.proofs.WindowLaws.{field_part, field_high, field_low, byte_field}
use Rattle.bits.proofs.BytesStay.{puts_bytes, zero_bytes}
use Rattle.making.specs.Make.{frame_widths, framed}
use Rattle.making.specs.Units.{unit_of, unit_byte, frame_byte}

-- ---- rows of n fields of six bits
total_six : (n : ℕ) → total (replicate n 6) ≡ 6 * n
total_six zero = refl
total_six (suc n) = omega (arith, total_six n)

within_six : (n : ℕ) (vs : List ℕ) → length vs ≡ n → ((i : ℕ) → i < n → get_or vs i 0 < 64) → Within (replicate n 6) vs
within_six zero [] e h = tt
within_six zero (v ∷ vs) e h = absurd (let z : ⊥ = omega arith in z)
within_six (suc n) [] e h = absurd (let z : ⊥ = omega arith in z)
within_six (suc n) (v ∷ vs) e h = (h 0 (omega arith), within_six n vs (omega arith) (λ i l. h (suc i) (omega arith)))

field_six : (s : List ℕ) (at n i : ℕ) → i < n → get_or (fields_at s at (replicate n 6)) i 0 ≡ field_at s (at + 6 * i) 6
field_six s at zero i h = absurd (not-suc-le-zero h)
field_six s at (suc n) zero h = ap (λ (x : ℕ). field_at s x 6) (sym (add-zero at))
field_six s at (suc n) (suc i) h =
    let e : at + 6 + 6 * i ≡ at + 6 * suc i = omega arith in
    field_six s (at + 6) n i (omega arith) ∙ ap (λ (x : ℕ). field_at s x 6) e

-- ---- the fields of a frame of n units after the sync
module _ (n : ℕ) (b : ℕ) (u : List ℕ) (e : length u ≡ n) (small : (i : ℕ) → i < n → get_or u i 0 < 64) (room : 16 + 6 * n ≤ 8 * b) where
  abbrev frame : List ℕ
  frame = puts_at (replicate b 0) 0 (16 ∷ replicate n 6) (0xEB90 ∷ u)

  back : fields_at frame 0 (16 ∷ replicate n 6) ≡ 0xEB90 ∷ u
  back =
      fields_puts (replicate b 0) 0 (16 ∷ replicate n 6) (0xEB90 ∷ u) (omega (arith, total_six n, length-replicate {A = ℕ} b 0))
      (lit< tt, within_six n u e small)

  pub sync_back : field_at frame 0 16 ≡ 0xEB90
  sync_back = ap (λ (x : List ℕ). get_or x 0 0) back

  pub unit_back : (i : ℕ) → i < n → field_at frame (16 + 6 * i) 6 ≡ get_or u i 0
  unit_back i h = sym (field_six frame 16 n i h) ∙ ap (λ (x : List ℕ). get_or x (suc i) 0) back

  frame_bytes : Bytes frame
  frame_bytes = puts_bytes (replicate b 0) 0 (16 ∷ replicate n 6) (0xEB90 ∷ u) (zero_bytes b)

  -- the eight bits from bit 16 + 8 j on
  unit_byte_lem : (j : ℕ) → 4 * j / 3 + 1 < n → field_at frame (16 + 8 * j) 8 ≡ unit_byte u j
  unfolding unit_byte
  unit_byte_lem j h =
      let k = 4 * j / 3 in
      let r = 2 * (4 * j % 3) in
      let at = 16 + 6 * k in
      let twelve : field_at frame at 12 ≡ get_or u k 0 * 64 + get_or u (k + 1) 0 =
      field_split frame at 6 6
      ∙ ap₂ (λ (x y : ℕ). x * 64 + y) (unit_back k (omega arith))
      (let q : at + 6 ≡ 16 + 6 * (k + 1) = omega arith in ap (λ (x : ℕ). field_at frame x 6) q ∙ unit_back (k + 1) h) in
      let w : 12 ≡ r + 8 + (4 - r) = omega arith in
      let p : at + r ≡ 16 + 8 * j = omega arith in
      ap (λ (x : ℕ). field_at frame x 8) (sym p)
      ∙ sym (field_part frame at r 8 (4 - r))
      ∙ ap (λ (x : ℕ). field_at frame at x / 2 ^ (4 - r) % 256) (sym w)
      ∙ ap (λ (x : ℕ). x / 2 ^ (4 - r) % 256) twelve

  first_byte : field_at frame 0 8 ≡ 0xEB
  first_byte = sym (field_high frame 0 8 8) ∙ ap (λ (x : ℕ). x / 2 ^ 8) sync_back

  second_byte : field_at frame 8 8 ≡ 0x90
  second_byte = sym (field_low frame 0 8 8) ∙ ap (λ (x : ℕ). x % 2 ^ 8) sync_back

  byte_at : (j : ℕ) → 4 * (j - 2) / 3 + 1 < n → get_or frame j 0 ≡ frame_byte u j
  unfolding frame_byte
  byte_at j h =
      sym (byte_field frame j (frame_bytes j))
      ∙ dite (ℕ_discrete j 0)
      (λ z. rw z first_byte)
      (λ z.
      dite (ℕ_discrete j 1)
      (λ o. rw o second_byte)
      (λ o.
      let q : 8 * j ≡ 16 + 8 * (j - 2) = omega arith in
      rw (ne_eqb j 0 z, ne_eqb j 1 o) (ap (λ (x : ℕ). field_at frame x 8) q ∙ unit_byte_lem (j - 2) h)))

-- ---- the frame of 125 bytes
module _ (prn flags : ℕ) (m v : List ℕ) (p : prn < 64) (f : flags < 64) (em : length m ≡ 81) (ev : length v ≡ 81)
    (sm : (i : ℕ) → i < 81 → get_or m i 0 < 64) (sv : (i : ℕ) → i < 81 → get_or v i 0 < 64) where
  abbrev units : List ℕ
  units = prn ∷ flags ∷ (m ++ v)

  units_long : length units ≡ 164
  units_long = omega (arith, lib.ListN.length-append m v)

  -- symbol k of message and parity
  pub word_small : (k : ℕ) → k < 162 → get_or (m ++ v) k 0 < 64
  word_small k h =
      dite (dec_lt k 81)
      (λ l. rw (get_or-append m v 0 k (omega arith)) (sm k l))
      (λ l.
      let q : k ≡ length m + (k - 81) = omega arith in
      rw (ap (λ (i : ℕ). get_or (m ++ v) i 0) q ∙ get_or-append-add m v (k - 81) 0) (sv (k - 81) (omega arith)))

  units_small : (i : ℕ) → i < 164 → get_or units i 0 < 64
  units_small zero h = p
  units_small (suc zero) h = f
  units_small (suc (suc k)) h = word_small k (omega arith)

  framed_is : framed prn flags (m ++ v) ≡ puts_at (replicate 125 0) 0 (16 ∷ replicate 164 6) (0xEB90 ∷ units)
  unfolding framed frame_widths
  framed_is = refl

  -- what reading the frame's fields gives
  pub framed_sync : field_at (framed prn flags (m ++ v)) 0 16 ≡ 0xEB90
  framed_sync = rw framed_is (sync_back 164 125 units units_long units_small (omega arith))

  pub framed_unit : (i : ℕ) → i < 164 → field_at (framed prn flags (m ++ v)) (16 + 6 * i) 6 ≡ get_or units i 0
  framed_unit i h = rw framed_is (unit_back 164 125 units units_long units_small (omega arith) i h)

  unit_same : (k : ℕ) → k < 164 → unit_of prn flags m v k ≡ get_or units k 0
  unfolding unit_of
  unit_same zero h = refl
  unit_same (suc zero) h = refl
  unit_same (suc (suc k)) h =
      let z : suc (suc k) - 2 ≡ k = omega arith in
      rw (ne_eqb (suc (suc k)) 0 (λ e. omega arith), ne_eqb (suc (suc k)) 1 (λ e. omega arith))
      (dite (dec_lt k 81)
      (λ l. rw (lt-ltb (suc (suc k)) 83 (omega arith), z) (sym (get_or-append m v 0 k (omega arith))))
      (λ l.
      let q : length m + (suc (suc k) - 83) ≡ k = omega arith in
      rw (le-ltb (suc (suc k)) 83 (omega arith)) (sym (get_or-append-add m v (suc (suc k) - 83) 0) ∙ ap (λ (i : ℕ). get_or (m ++ v) i 0) q)))

  pub framed_bytes : (u out : List ℕ) → u ≡ table (unit_of prn flags m v) 164 → out ≡ table (frame_byte u) 125 → out ≡ framed prn flags (m ++ v)
  framed_bytes u out e g =
      let same : u ≡ units =
      e ∙ ext_get_or 0 (table (unit_of prn flags m v) 164) units (length_table (unit_of prn flags m v) 164 ∙ sym units_long)
      (λ k h.
      let l : k < 164 = omega (arith, length_table (unit_of prn flags m v) 164) in
      get_or_table (unit_of prn flags m v) 164 k 0 l ∙ unit_same k l) in
      let z = replicate {A = ℕ} 125 0 in
      let frame = puts_at z 0 (16 ∷ replicate 164 6) (0xEB90 ∷ units) in
      let long : length frame ≡ 125 = length_puts z 0 (16 ∷ replicate 164 6) (0xEB90 ∷ units) ∙ length-replicate {A = ℕ} 125 0 in
      g ∙ ap (λ (x : List ℕ). table (frame_byte x) 125) same
      ∙ ext_get_or 0 (table (frame_byte units) 125) frame (length_table (frame_byte units) 125 ∙ sym long)
      (λ j h.
      let l : j < 125 = omega (arith, length_table (frame_byte units) 125) in
      get_or_table (frame_byte units) 125 j 0 l
      ∙ sym (byte_at 164 125 units units_long units_small (omega arith) j (omega arith)))
      ∙ sym framed_is
