use Rattle.std.proofs.Common.{◌≡◌, ◌+◌, ◌-◌, sym, refl, ap, ◌∙◌, rules}
use Rattle.parity.specs.Parity.{first_from, failing_from, failed_groups}
use Rattle.parity.specs.Unpacked.{fails_by_logs}
use Rattle.parity.proofs.UnpackedLaws.{fails_by}
use Rattle.parity.proofs.ParityLaws.{down_fails, down_passes}
use Rattle.parity.proofs.failed_groups.Goals as goal

pub loop-g-init : goal.loop-g-init
unfolding first_from failing_from
loop-g-init c = (search rules, refl, refl)

pub loop-g-preserved-then-fails : goal.loop-g-preserved-then-fails
loop-g-preserved-then-fails c =
    let l = c.loop-g in
    let f = sym (c.fails.ensures ∙ ap (λ ls. fails_by_logs ls (l.g - 1)) c.symbol_logs-ls.ensures ∙ fails_by _ (l.g - 1) (search rules)) in
    let e : l.g - 1 + 1 ≡ l.g = search rules in
    let d = down_fails _ l.g 81 (search rules) (search rules) (f ∙ c.if-fails.true) in
    (search rules, e ∙ d.0, ap (λ n. n + 1) l.invariant.2 ∙ d.1)

pub loop-g-preserved : goal.loop-g-preserved
loop-g-preserved c =
    let l = c.loop-g in
    let f = sym (c.fails.ensures ∙ ap (λ ls. fails_by_logs ls (l.g - 1)) c.symbol_logs-ls.ensures ∙ fails_by _ (l.g - 1) (search rules)) in
    let d = down_passes _ l.g 81 (search rules) (search rules) (f ∙ c.if-fails.false) in
    (search rules, l.invariant.1 ∙ d.0, l.invariant.2 ∙ d.1)

pub returns : goal.returns
unfolding failed_groups
returns c =
    let l = c.loop-g in
    let z : l.g ≡ 0 = search rules in
    rw (l.invariant.1, l.invariant.2, z) refl
