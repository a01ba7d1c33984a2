use borrow.Author.Rules.{rules}
use lib.ListN.{get_or}
use native.Mathlib.Omega.{arith}
use Prim.Native.Nat.{◌*◌, ◌<◌, ◌≤◌}
use mathlib.Core.Path.{ap, ◌∙◌}
use Rattle.bits.specs.Bytes.{store_at}
use Rattle.tally.specs.Tally.{raised_of}
use Rattle.tally.specs.declared.Tally.{Tally}
use Rattle.tally.proofs.CountLaws.{none_counted, far_counted, is_counted_lem, raised_counter, count_no_tally, count_no_number, count_one, four_bytes}
use Rattle.tally.proofs.count.Goals as goal

pub returns-then-tally-ne-TALLY_SIZE : goal.returns-then-tally-ne-TALLY_SIZE
returns-then-tally-ne-TALLY_SIZE c = count_no_tally _ _ c.if-tally-ne-TALLY_SIZE.true

pub returns-then-n-lt1 : goal.returns-then-n-lt1
returns-then-n-lt1 c =
    count_no_number _ _ c.if-tally-ne-TALLY_SIZE.false (none_counted c.args.n (omega (arith, c.if-n-lt1.true)))

pub returns-then-n-gt39 : goal.returns-then-n-gt39
returns-then-n-gt39 c =
    count_no_number _ _ c.if-tally-ne-TALLY_SIZE.false (far_counted c.args.n (omega (arith, c.if-n-lt1.false)) c.if-n-gt39.true)

pub returns : goal.returns
returns c =
    let a = c.args in
    let low : 1 ≤ a.n = omega (arith, c.if-n-lt1.false) in
    let high : a.n ≤ 39 = omega (arith, c.if-n-gt39.false) in
    let yes = is_counted_lem a.n low high in
    let raised = c.raise.ensures ∙ ap (λ (t : Tally). raised_of t a.n) c.tally_of-counters.ensures in
    let small : get_or c.raise.new.t.counts a.n 0 < 4294967296 = search rules in
    c.store.ensures
    ∙ ap (store_at a.tally.now (4 * a.n)) (c.to_be_bytes-b.ensures ∙ four_bytes (get_or c.raise.new.t.counts a.n 0) small)
    ∙ count_one a.tally.now a.n c.if-tally-ne-TALLY_SIZE.false _ yes (raised_counter _ a.n a.tally.now yes (omega arith) raised)
