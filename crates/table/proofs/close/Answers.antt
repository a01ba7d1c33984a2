use native.Mathlib.Omega.{arith}
use Prim.Native.Nat.{ℕ}
use mathlib.Core.Path.{sym, ap, ◌∙◌}
use lib.ListN.{length, replicate}
use Rattle.table_form.specs.Table.{part, put_part}
use Rattle.table_form.proofs.RoomLaws.{table_long}
use Rattle.table.proofs.CallLaws.{close_39, close_30, close_0}
use Rattle.table.proofs.close.Goals as goal

pub returns-then-not-is_table : goal.returns-then-not-is_table
returns-then-not-is_table c =
    let p = close_39 c.args.t.now c.args.prn (sym c.is_table.ensures ∙ c.if-not-is_table.true) in
    record { verdict = p.0; bytes = p.1 }

pub returns-then-i-ge-ROOMS : goal.returns-then-i-ge-ROOMS
returns-then-i-ge-ROOMS c =
    let p = close_30 c.args.t.now c.args.prn (sym c.is_table.ensures ∙ c.if-not-is_table.false) (omega (arith, c.room_of-i.ensures, c.if-i-ge-ROOMS.true)) in
    record { verdict = p.0; bytes = p.1 }

pub clear_room-requires : goal.clear_room-requires
clear_room-requires c =
    (table_long _ (sym c.is_table.ensures ∙ c.if-not-is_table.false), omega (arith, c.if-i-ge-ROOMS.false))

pub returns : goal.returns
returns c =
    let a = c.args in
    let i = c.room_of-i.ensures in
    let p = close_0 c.args.t.now c.args.prn (sym c.is_table.ensures ∙ c.if-not-is_table.false) (omega (arith, i, c.if-i-ge-ROOMS.false)) _ (c.clear_room.ensures ∙ ap (λ (k : ℕ). put_part a.t.now k (replicate (length (part a.t.now k)) 0)) i) in
    record { verdict = p.0; bytes = p.1 }
