use native.Mathlib.Omega.{arith}
use Prim.Native.Nat.{ℕ}
use mathlib.Core.Path.{sym, ap, ◌∙◌}
use Rattle.in_force.specs.Bytes.{take_says, take_bytes}
use Rattle.table_form.specs.Table.{part, put_part, room_of}
use Rattle.table_form.proofs.RoomLaws.{table_long}
use Rattle.table.proofs.CallLaws.{take_39, take_stray, take_own}
use Rattle.table.proofs.take.Goals as goal

pub returns-then-not-is_table : goal.returns-then-not-is_table
returns-then-not-is_table c =
    let p = take_39 c.args.t.now c.args.frame.now (sym c.is_table.ensures ∙ c.if-not-is_table.true) in
    record { verdict = p.0; bytes = p.1 }

pub returns-then-i-ge-ROOMS : goal.returns-then-i-ge-ROOMS
returns-then-i-ge-ROOMS c =
    let a = c.args in
    let i = c.room_of-i.ensures ∙ ap (room_of a.t.now) c.prn_of.ensures in
    let p = take_stray c.args.t.now c.args.frame.now (sym c.is_table.ensures ∙ c.if-not-is_table.false) _ (omega (arith, i, c.if-i-ge-ROOMS.true)) c.shell_for.ensures in
    record { verdict = p.0; bytes = p.1 }

pub take_room-requires : goal.take_room-requires
take_room-requires c =
    (table_long _ (sym c.is_table.ensures ∙ c.if-not-is_table.false), omega (arith, c.if-i-ge-ROOMS.false))

pub returns : goal.returns
returns c =
    let a = c.args in
    let i = c.room_of-i.ensures ∙ ap (room_of a.t.now) c.prn_of.ensures in
    let e = c.take_room.ensures in
    let p = take_own c.args.t.now c.args.frame.now (sym c.is_table.ensures ∙ c.if-not-is_table.false) _ _ (omega (arith, i, c.if-i-ge-ROOMS.false)) (e.verdict ∙ ap (λ (k : ℕ). take_says (part a.t.now k) a.frame.now) i) (e.bytes ∙ ap (λ (k : ℕ). put_part a.t.now k (take_bytes (part a.t.now k) a.frame.now)) i) in
    record { verdict = p.0; bytes = p.1 }
