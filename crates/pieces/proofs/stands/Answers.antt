use borrow.Author.Rules.{rules}
use borrow.Author.Tests.{tests}
use mathlib.Core.Bool.{false}
use lib.Dec.{leb}
use native.Mathlib.Omega.{arith}
use Prim.Native.Nat.{ℕ, ◌+◌, ◌-◌}
use mathlib.Core.Path.{◌≡◌, sym, ap, ◌∙◌}
use lib.ListN.{length, take, drop}
use Rattle.pieces.specs.Pieces.{is_frame, stands_at}
use Rattle.pieces.proofs.PieceLaws.{none_stands}
use Rattle.pieces.proofs.stands.Goals as goal

pub returns-then-p-s : goal.returns-then-p-s
unfolding stands_at
returns-then-p-s c =
    let a = c.args in
    let e : a.p + 125 - a.p ≡ 125 = omega arith in
    c.is_frame.ensures ∙ ap (λ (n : ℕ). is_frame (take n (drop a.p a.s.now))) e

pub returns-else-p-s : goal.returns-else-p-s
returns-else-p-s c =
    let e : leb (c.args.p + 125) (length c.args.s.now) ≡ false = search (rules, tests) in
    e ∙ sym (none_stands _ _ c.if-p-s.false)
