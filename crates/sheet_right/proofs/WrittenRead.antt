-- 02, CR 7: what is written from a ledger is read as the list in force.
use Prim.Native.Nat.{ℕ, ◌≤◌, ◌<◌}
use mathlib.Core.Path.{◌≡◌, refl, sym, ap, ◌∙◌}
use mathlib.Core.Bool.{Bool, true, false, not}
use mathlib.Core.Logic.{dite}
use mathlib.Core.List.{List}
use native.Mathlib.Decide.{ℕ_discrete}
use native.Mathlib.Omega.{arith}
use lib.Dec.{eqb, ltb, lit<}
use lib.ListN.{length, take, drop, take-append-drop}
use lib.Seq.{length-take-le}
use borrow.Author.Tests.{eq-eqb, ne_eqb, ltb-false, not-false}
use Rattle.bits.specs.Pick.{pick}
use Rattle.bits.specs.Bytes.{store_at}
use Rattle.bits.proofs.ByteLaws.{row_store, length_store}
use Rattle.frame.specs.Frame.{is_prn}
use Rattle.held_mask.specs.Mask.{HeldMask, mask_at}
use Rattle.in_force.specs.Bytes.{Holds}
use Rattle.broadcast.specs.Issues.{issues_refusal}
use Rattle.list.specs.Rows.{list_in}
use Rattle.list_right.specs.InForce.{list_in_force}
use Rattle.list_right.proofs.ListRight.{list_held, list_is_right}
use Rattle.row.specs.declared.Row.{Row}
use Rattle.sheet_form.specs.Layout.{sheet_of, sheet_length}
use Rattle.list.proofs.FitsLaws as most
use Rattle.sheet_writing.specs.Writing.{most_sheet_rows, sheet_refusal, sheet_room, sheet_for, header_for}
use Rattle.sheet_right.specs.Allowed.{Allowed}
use Rattle.sheet_right.specs.Sheets.{header_in_force, WrittenRead}
use Rattle.sheet_right.proofs.WindowLaws.{window_of}
use Rattle.sheet_right.proofs.AllRead.{sheet_long, all_read}
use Rattle.sheet_right.proofs.ForceLimits.{mask_force}
use Rattle.sheet_right.proofs.RowLimits.{list_fits}

-- what was stored into a room is what the room begins with
stored : (room t : List ℕ) → length t ≤ length room → take (length t) (store_at room 0 t) ≡ t
stored room t l =
    let u = store_at room 0 t in
    let g : length t ≤ length u = omega (arith, length_store room 0 t) in
    sym (window_of u 0 (length t) (take (length t) u) (drop (length t) u) (length-take-le (length t) u g) (sym (take-append-drop (length t) u)))
    ∙ row_store room 0 t (omega arith)

-- no refusal of a table: its first condition does not hold, nor is there one after it
first_free : (b : Bool) (n rest : ℕ) → 0 < n → pick b n rest ≡ 0 → (b ≡ false) × (rest ≡ 0)
first_free true n rest l e = absurd (omega arith)
first_free false n rest l e = (refl, e)

-- nor a refusal that is its own number
own_free : (n rest : ℕ) → pick (not (eqb n 0)) n rest ≡ 0 → (n ≡ 0) × (rest ≡ 0)
own_free n rest e =
    dite (ℕ_discrete n 0)
    (λ z. (z, rw (eq-eqb n 0 z) at e))
    (λ z. absurd (z (rw (ne_eqb n 0 z) at e)))

-- ---- nothing is refused
-- 02, CR 7: what then holds of the issues, the mask, the list and the room
pub record Free (s is room : List ℕ) : Type 0 where
  pub issues : issues_refusal is ≡ 0
  pub mask : (mask_at s).has ≡ true
  pub few : length (list_in s is) ≤ most_sheet_rows
  pub fits : sheet_length (length (list_in s is)) ≤ length room

module _ (s is room : List ℕ) (e : sheet_refusal s is room ≡ 0) where
  pub free : Free s is room
  unfolding sheet_refusal
  free =
      let a = own_free (issues_refusal is) _ e in
      let b = first_free (not (mask_at s).has) 20 _ (lit< tt) a.1 in
      let d = first_free (ltb (length room) (sheet_length (length (list_in s is)))) 22 0 (lit< tt) b.1 in
      record {
        issues = a.0;
        mask = not-false (mask_at s).has b.0;
        few = most.list_fits s is;
        fits = ltb-false (length room) (sheet_length (length (list_in s is))) d.0;
      }

  -- the room begins with the sheet
  pub written : take (sheet_length (length (list_in s is))) (sheet_room s is room) ≡ sheet_for s is
  unfolding sheet_room sheet_for
  written =
      let l : length (sheet_for s is) ≡ sheet_length (length (list_in s is)) = sheet_long (header_for s is) (list_in s is) in
      rw (eq-eqb (sheet_refusal s is room) 0 e, ← l) (stored room (sheet_for s is) (omega (arith, free.fits)))

-- ---- of a ledger that holds what is in force
module _ (s : List ℕ) (prn : ℕ) (h : List (List ℕ)) (is : List ℕ) (H : Holds s prn h) where
  pub sheet_held : sheet_for s is ≡ sheet_of (header_in_force prn h is) (list_in_force prn h is)
  unfolding sheet_for header_for
  sheet_held = rw (H.own, ap (λ (m : HeldMask). m.ssr) H.mask, ap (λ (m : HeldMask). m.iodp) H.mask, list_held s prn h is H)

  pub list_allowed : is_prn prn ≡ true → length (list_in_force prn h is) ≤ most_sheet_rows → Allowed most_sheet_rows (header_in_force prn h is) (list_in_force prn h is)
  list_allowed p l = record {
    prn = p;
    ssr = (mask_force prn h).ssr;
    iodp = (mask_force prn h).iodp;
    count = refl;
    few = l;
    rows = list_fits prn h is;
    rising = (list_is_right prn h is).rising;
  }

-- WHAT IS WRITTEN IS READ
pub written_read : WrittenRead
written_read s prn h is room p H e =
    let a = list_held s prn h is H in
    let l : length (list_in_force prn h is) ≤ most_sheet_rows = rw a at (free s is room e).few in
    let w : take (sheet_length (length (list_in_force prn h is))) (sheet_room s is room) ≡ sheet_of (header_in_force prn h is) (list_in_force prn h is) =
    ap (λ (rs : List Row). take (sheet_length (length rs)) (sheet_room s is room)) (sym a) ∙ written s is room e ∙ sheet_held s prn h is H in
    rw w (all_read most_sheet_rows (header_in_force prn h is) (list_in_force prn h is) (lit< tt) (list_allowed s prn h is H p l))
