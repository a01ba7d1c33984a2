use native.Mathlib.Omega.{arith}
use Prim.Native.Nat.{min}
use lib.ListN.{length}
use mathlib.Core.Path.{◌≡◌, sym, ◌∙◌, refl}
use Rattle.pieces.proofs.PieceLaws.{from_hit, from_miss, from_end, at_start, searched}
use Rattle.pieces.proofs.piece_length.Goals as goal

pub returns-then-stands : goal.returns-then-stands
returns-then-stands c = sym (at_start _ (sym c.stands.ensures ∙ c.if-stands.true))

pub loop-p-init : goal.loop-p-init
loop-p-init c = refl

pub returns-then-stands-2 : goal.returns-then-stands-2
returns-then-stands-2 c =
    let l = c.loop-p in
    let s = c.args.s.now in
    let none = sym c.stands.ensures ∙ c.if-stands.false in
    sym (from_hit s l.p 126 (omega arith) (sym c.stands-in-loop-p.ensures ∙ c.if-stands-2.true)) ∙ l.invariant ∙ sym (searched s none)

pub loop-p-preserved : goal.loop-p-preserved
loop-p-preserved c =
    let l = c.loop-p in
    let s = c.args.s.now in
    sym (from_miss s l.p 126 (omega arith) (sym c.stands-in-loop-p.ensures ∙ c.if-stands-2.false)) ∙ l.invariant

pub returns : goal.returns
returns c =
    let l = c.loop-p in
    let s = c.args.s.now in
    let none = sym c.stands.ensures ∙ c.if-stands.false in
    let m : c.min.result ≡ min 125 (length s) = omega arith in
    m ∙ sym (from_end s l.p 126 (omega arith)) ∙ l.invariant ∙ sym (searched s none)
