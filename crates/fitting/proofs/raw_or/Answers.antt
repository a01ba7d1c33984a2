use borrow.Author.Rules.{rules}
use mathlib.Core.Path.{◌≡◌, ap, ◌∙◌}
use mathlib.Core.Bool.{true, false}
use mir.Syntax.{w16}
use mir.Val.{to_z, of_z}
use lib.IntN.{pos}
use lib.Signed.{mag, lt_z}
use borrow.Author.Tests.{lt-ltb, le-ltb}
use Rattle.records.proofs.SignedLaws.{neg_raw, pos_raw}
use Rattle.fitting.proofs.raw_or.Goals as goal

pub returns-then-m-h : goal.returns-then-m-h
returns-then-m-h c =
    let a = c.args in
    let r : to_z w16 (of_z w16 a.z) ≡ a.z = search rules in
    let e : c.size-m.result ≡ mag a.z = c.size-m.ensures ∙ ap mag r in
    rw (le-ltb (mag a.z) a.half (rw e at c.if-m-h.true))

pub returns-then-z-lt0 : goal.returns-then-z-lt0
returns-then-z-lt0 c =
    let a = c.args in
    let r : to_z w16 (of_z w16 a.z) ≡ a.z = search rules in
    let e : c.size-m.result ≡ mag a.z = c.size-m.ensures ∙ ap mag r in
    let neg : lt_z a.z (pos 0) ≡ true = rw r at c.if-z-lt0.true in
    rw (lt-ltb (mag a.z) a.half (rw e at c.if-m-h.false), neg_raw a.half a.z neg, e)

pub returns-else-z-lt0 : goal.returns-else-z-lt0
returns-else-z-lt0 c =
    let a = c.args in
    let r : to_z w16 (of_z w16 a.z) ≡ a.z = search rules in
    let e : c.size-m.result ≡ mag a.z = c.size-m.ensures ∙ ap mag r in
    let pos : lt_z a.z (pos 0) ≡ false = rw r at c.if-z-lt0.false in
    rw (lt-ltb (mag a.z) a.half (rw e at c.if-m-h.false), pos_raw a.half a.z pos, e)
