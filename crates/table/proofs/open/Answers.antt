use native.Mathlib.Omega.{arith}
use Prim.Native.Nat.{ℕ}
use mathlib.Core.Path.{sym, ap, ◌∙◌}
use Rattle.in_force.specs.Bytes.{fresh}
use Rattle.table_form.specs.Table.{part, put_part}
use Rattle.table_form.proofs.RoomLaws.{table_long}
use Rattle.table.proofs.CallLaws.{open_39, open_4, open_28, open_29, open_0}
use Rattle.table.proofs.open.Goals as goal

pub returns-then-not-is_table : goal.returns-then-not-is_table
returns-then-not-is_table c =
    let p = open_39 c.args.t.now c.args.prn (sym c.is_table.ensures ∙ c.if-not-is_table.true) in
    record { verdict = p.0; bytes = p.1 }

pub returns-then-not-is_prn : goal.returns-then-not-is_prn
returns-then-not-is_prn c =
    let p = open_4 c.args.t.now c.args.prn (sym c.is_table.ensures ∙ c.if-not-is_table.false) (sym c.is_prn.ensures ∙ c.if-not-is_prn.true) in
    record { verdict = p.0; bytes = p.1 }

pub returns-then-room_of-lt-ROOMS : goal.returns-then-room_of-lt-ROOMS
returns-then-room_of-lt-ROOMS c =
    let p = open_28 c.args.t.now c.args.prn (sym c.is_table.ensures ∙ c.if-not-is_table.false) (sym c.is_prn.ensures ∙ c.if-not-is_prn.false) (omega (arith, c.room_of.ensures, c.if-room_of-lt-ROOMS.true)) in
    record { verdict = p.0; bytes = p.1 }

pub returns-then-free-ge-ROOMS : goal.returns-then-free-ge-ROOMS
returns-then-free-ge-ROOMS c =
    let p = open_29 c.args.t.now c.args.prn (sym c.is_table.ensures ∙ c.if-not-is_table.false) (sym c.is_prn.ensures ∙ c.if-not-is_prn.false) (omega (arith, c.room_of.ensures, c.if-room_of-lt-ROOMS.false)) (omega (arith, c.free_room-free.ensures, c.if-free-ge-ROOMS.true)) in
    record { verdict = p.0; bytes = p.1 }

pub open_room-requires : goal.open_room-requires
open_room-requires c =
    (table_long _ (sym c.is_table.ensures ∙ c.if-not-is_table.false), omega (arith, c.if-free-ge-ROOMS.false))

pub returns : goal.returns
returns c =
    let a = c.args in
    let i = c.free_room-free.ensures in
    let p = open_0 c.args.t.now c.args.prn (sym c.is_table.ensures ∙ c.if-not-is_table.false) (sym c.is_prn.ensures ∙ c.if-not-is_prn.false) (omega (arith, c.room_of.ensures, c.if-room_of-lt-ROOMS.false)) (omega (arith, i, c.if-free-ge-ROOMS.false)) _ (c.open_room.ensures ∙ ap (λ (k : ℕ). put_part a.t.now k (fresh (part a.t.now k) a.prn)) i) in
    record { verdict = p.0; bytes = p.1 }
