-- The maker's refusals, case by case, and what the room then holds.
use Prim.Native.Nat.{ℕ, ◌*◌, ◌<◌, ◌≤◌}
use mathlib.Core.Path.{◌≡◌, refl, sym, ap, ◌∙◌, subst}
use mathlib.Core.Logic.{◌≢◌, dite}
use mathlib.Core.Bool.{Bool, true, false, not, ◌&&◌, ◌||◌}
use mathlib.Core.List.{List, ◌++◌}
use native.Mathlib.Decide.{dec_lt}
use native.Mathlib.Omega.{arith}
use lib.Dec.{eqb, ltb, leb}
use lib.ListN.{length, get_or, drop}
use borrow.Author.Tests.{eq-eqb, ne_eqb, eqb-true, not-false, ltb-false, lt-ltb, le-ltb, lt-leb}
use Rattle.bits.specs.Bits.{field_at}
use Rattle.bits.specs.Pick.{pick}
use Rattle.bits.specs.Table.{table}
use Rattle.bits.proofs.FieldLaws.{field_lt}
use Rattle.bits.proofs.TableLaws.{length_table, get_or_table, fill_done}
use Rattle.bits.proofs.TestLaws.{none_holds}
use Rattle.one_parity.specs.OneParity.{IsParity}
use Rattle.frame.specs.Frame.{is_prn}
use Rattle.frame.proofs.FrameLaws.{skipped}
use Rattle.making.specs.Make.{message_symbol, message_symbols, framed, Made, wrong_length, make_refusal, Leaves}
use Rattle.making.specs.Units.{unit_of, frame_byte}
use Rattle.making.proofs.UnitLaws.{framed_bytes}

-- ---- the symbols of a message
pub symbols_long : (message : List ℕ) → length (message_symbols message) ≡ 81
unfolding message_symbols
symbols_long message = length_table (message_symbol message) 81

pub symbols_at : (message : List ℕ) (k : ℕ) → k < 81 → get_or (message_symbols message) k 0 ≡ message_symbol message k
unfolding message_symbols
symbols_at message k h = get_or_table (message_symbol message) 81 k 0 h

pub symbols_small : (message : List ℕ) (k : ℕ) → k < 81 → get_or (message_symbols message) k 0 < 64
unfolding message_symbol
symbols_small message k h = rw (symbols_at message k h) (field_lt message (6 * k) 6)

pub symbols_done : (message out d : List ℕ) (k : ℕ) → k ≡ 81 → length d ≡ 81 → out ≡ table (message_symbol message) k ++ drop k d → out ≡ message_symbols message
unfolding message_symbols
symbols_done message out d k = fill_done (message_symbol message) k 81 d out

-- ---- the frame that is put
pub made_frame : (message m v u end : List ℕ) (prn flags : ℕ) → prn < 64 → flags < 64 → m ≡ message_symbols message → IsParity m v
    → u ≡ table (unit_of prn flags m v) 164 → end ≡ table (frame_byte u) 125 → Made message prn flags end
made_frame message m v u end prn flags p f e i eu ee =
    record {
      parity = v;
      is = subst (λ (x : List ℕ). IsParity x v) e i;
      bytes =
          framed_bytes prn flags m v p f (ap (length {A = ℕ}) e ∙ symbols_long message) i.long (λ k h. rw e (symbols_small message k h)) i.six u end eu ee
          ∙ ap (λ (x : List ℕ). framed prn flags (x ++ v)) e;
    }

-- ---- refusals
module _ (message : List ℕ) (prn flags : ℕ) (room : List ℕ) where
  abbrev refusal : ℕ
  refusal = make_refusal message prn flags room

  pub refused_1 : wrong_length (length message) (length room) ≡ true → refusal ≡ 1
  unfolding make_refusal
  refused_1 l = rw l

  module _ (l : wrong_length (length message) (length room) ≡ false) where
    pub refused_2 : field_at message 486 2 ≢ 0 → refusal ≡ 2
    unfolding make_refusal
    refused_2 z = rw (l, ne_eqb (field_at message 486 2) 0 z)

    module _ (z : field_at message 486 2 ≡ 0) where
      pub refused_4 : is_prn prn ≡ false → refusal ≡ 4
      unfolding make_refusal
      refused_4 p = rw (l, eq-eqb (field_at message 486 2) 0 z, p)

      module _ (p : is_prn prn ≡ true) where
        pub refused_16 : 63 < flags → refusal ≡ 16
        unfolding make_refusal
        refused_16 f = rw (l, eq-eqb (field_at message 486 2) 0 z, p, lt-ltb 63 flags f)

        pub refused_none : flags ≤ 63 → refusal ≡ 0
        unfolding make_refusal
        refused_none f = rw (l, eq-eqb (field_at message 486 2) 0 z, p, le-ltb 63 flags f)

  pub leaves_kept : (n : ℕ) → refusal ≡ n → 0 < n → Leaves message prn flags room room
  leaves_kept n e h = record { made = λ z. absurd (let y : ⊥ = omega arith in y); kept = λ z. refl }

  pub leaves_made : (end : List ℕ) → refusal ≡ 0 → Made message prn flags end → Leaves message prn flags room end
  leaves_made end e m = record { made = λ z. m; kept = λ n. absurd (n e) }

-- a PRN among the ten is of six bits
pub prn_small : (prn : ℕ) → is_prn prn ≡ true → prn < 64
prn_small prn e =
    dite (dec_lt prn 64) (λ h. h)
    (λ n.
    let z : ◌≡◌ {A = Bool} false true = sym (rw (lt-leb prn 5 (omega arith), lt-leb prn 63 (omega arith)) (none (leb 1 prn) (leb 59 prn))) ∙ e in
    absurd (let y : ◌≡◌ {A = ℕ} 0 1 = cc in omega arith))
  where
    none : (a b : Bool) → ((a && false) || (b && false)) ≡ false
    none true true = refl
    none true false = refl
    none false true = refl
    none false false = refl

-- ---- what is not refused
pub record Taken (message : List ℕ) (prn flags : ℕ) (room : List ℕ) : Type 0 where
  pub long : length message ≡ 61
  pub wide : length room ≡ 125
  pub zero : field_at message 486 2 ≡ 0
  pub ten : is_prn prn ≡ true
  pub six : flags < 64

pub taken : (message : List ℕ) (prn flags : ℕ) (room : List ℕ) → make_refusal message prn flags room ≡ 0 → Taken message prn flags room
unfolding make_refusal
taken message prn flags room e =
    let n16 = pick {A = ℕ} (ltb 63 flags) 16 0 in
    let n4 = pick {A = ℕ} (not (is_prn prn)) 4 n16 in
    let n2 = pick {A = ℕ} (not (eqb (field_at message 486 2) 0)) 2 n4 in
    let r1 = skipped 1 (wrong_length (length message) (length room)) n2 (omega arith) e in
    let r2 = skipped 2 (not (eqb (field_at message 486 2) 0)) n4 (omega arith) r1.1 in
    let r4 = skipped 4 (not (is_prn prn)) n16 (omega arith) r2.1 in
    let r16 = skipped 16 (ltb 63 flags) 0 (omega arith) r4.1 in
    let l = none_holds (not (eqb (length message) 61)) (not (eqb (length room) 125)) r1.0 in
    record {
      long = eqb-true (length message) 61 (not-false _ l.0);
      wide = eqb-true (length room) 125 (not-false _ l.1);
      zero = eqb-true (field_at message 486 2) 0 (not-false _ r2.0);
      ten = not-false _ r4.0;
      six = omega (arith, ltb-false 63 flags r16.0);
    }

pub lengths_right : (m r : ℕ) → m ≡ 61 → r ≡ 125 → wrong_length m r ≡ false
lengths_right m r e f = rw (eq-eqb m 61 e, eq-eqb r 125 f)

pub room_right : (m r : ℕ) → wrong_length m r ≡ false → r ≡ 125
room_right m r e = eqb-true r 125 (not-false _ (none_holds (not (eqb m 61)) (not (eqb r 125)) e).1)
