-- 01, Refusal numbers: a refusal leaves every byte of a table as it was.
use mathlib.Core.Path.{◌≡◌, refl, ap, ◌∙◌}
use mathlib.Core.Logic.{◌≢◌}
use Prim.Native.Nat.{ℕ}
use mathlib.Core.Bool.{Bool, true, false, ◌&&◌}
use mathlib.Core.List.{List, [], ◌∷◌}
use borrow.Author.Tests.{ne_eqb}
use Rattle.bits.specs.Pick.{pick}
use Rattle.verdict.specs.Verdict.{number_in, refused_by}
use Rattle.frame.specs.Frame.{prn_of, shell_refusal}
use Rattle.held_mask.specs.Mask.{mask_at}
use Rattle.in_force.specs.Bytes.{take_refusal, take_says, take_bytes}
use Rattle.in_force.proofs.RefusalLaws.{refused_same, under_number}
use Rattle.table_form.specs.Table.{part, put_part, is_table, room_of, has_room}
use Rattle.table_form.proofs.PartLaws.{put_own}
use Rattle.table.specs.Calls.{opening_refusal, opened, closing_refusal, closed, taking_says, taking_bytes}

pub open_kept : (t : List ℕ) (prn : ℕ) → opening_refusal t prn ≢ 0 → opened t prn ≡ t
unfolding opened
open_kept t prn n = rw (ne_eqb _ _ n)

pub close_kept : (t : List ℕ) (prn : ℕ) → closing_refusal t prn ≢ 0 → closed t prn ≡ t
unfolding closed
close_kept t prn n = rw (ne_eqb _ _ n)

-- a ledger's refusal leaves its room, and so the table
room_kept : (t f : List ℕ) (i : ℕ) → number_in (take_says (part t i) f) ≢ 0 → put_part t i (take_bytes (part t i) f) ≡ t
room_kept t f i n =
    let s = part t i in
    ap (put_part t i) (refused_same s f (λ z. n (under_number (mask_at s) f (take_refusal s f) ∙ z))) ∙ put_own t i

pub take_kept : (t f : List ℕ) → number_in (taking_says t f) ≢ 0 → taking_bytes t f ≡ t
unfolding taking_says taking_bytes
take_kept t f n = go (is_table t) (has_room t (prn_of f)) n
  where
    go : (a b : Bool) → number_in (pick a (pick b (take_says (part t (room_of t (prn_of f))) f) (refused_by (shell_refusal true f))) (39 ∷ [])) ≢ 0 →
        pick (a && b) (put_part t (room_of t (prn_of f)) (take_bytes (part t (room_of t (prn_of f))) f)) t ≡ t
    go true true m = room_kept t f (room_of t (prn_of f)) m
    go true false m = refl
    go false b m = refl
