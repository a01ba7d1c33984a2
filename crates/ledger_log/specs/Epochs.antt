-- The epochs of a log's accepted frames: the first, the last, the longest gap, and how many frames came after the last.
use Rattle.std.specs.Prelude.{ℕ, ◌+◌, ◌-◌, ◌%◌, ◌^◌, true, false, ◌&&◌, ◌||◌, List, eqb, ltb}
use Rattle.std.proofs.Math.Option.{Option, none, some}
use Rattle.bits.specs.Pick.{pick}
use Rattle.bits.specs.Bits.{field_at}
use Rattle.contents.specs.declared.parts.Contents.{Contents}
use Rattle.ledger_log.specs.declared.epochs.Epochs.{Epochs}

-- 01, Message fields, and 02, CR 2: the epoch of a message: that of types 1, 3 and 5; of two parts the clock part's; none in type 63, and in 6 and 7 with no part
unfoldable pub epoch_of : Contents → Option ℕ
epoch_of c =
    pick (eqb c.kind 1) (some c.mask.epoch)
    (pick (eqb c.kind 3) (some c.bias.epoch)
    (pick (eqb c.kind 5) (some c.code.epoch)
    (pick (ltb 0 c.clock.count) (some c.clock.epoch)
    (pick (ltb 0 c.orbit.count) (some c.orbit.epoch)
    none))))

-- before the first frame: no epoch, and no frame since
abbrev pub no_epochs : Epochs
no_epochs = record { has = false; first = 0; last = 0; gap = 0; since = 0 }

-- from one epoch to the next: the difference modulo a day of 86400 seconds
abbrev pub lapse : ℕ → ℕ → ℕ
lapse this next = (next % 86400 + 86400 - this % 86400) % 86400

-- the longer of a gap and a lapse; a lapse of half a day or more goes backwards and does not count
abbrev pub longer : ℕ → ℕ → ℕ
longer gap d = pick (ltb gap d && ltb d 43200) d gap

-- one more frame, as far as 64 bits count
abbrev pub one_more : ℕ → ℕ
one_more n = pick (ltb n (2 ^ 64 - 1)) (n + 1) n

-- after a frame that is refused, or carries no epoch: it came after the last epoch; before any epoch all frames are counted
unfoldable pub since_then : Epochs → Epochs
since_then e = record { has = e.has; first = e.first; last = e.last; gap = e.gap; since = one_more e.since }

-- after an accepted frame of epoch x
unfoldable pub with_epoch : Epochs → ℕ → Epochs
with_epoch e x =
    record {
      has = true;
      first = pick e.has e.first x;
      last = x;
      gap = pick e.has (longer e.gap (lapse e.last x)) 0;
      since = 0;
    }

-- after a frame handed in, by the epoch that it brings
unfoldable pub epochs_after : Epochs → Option ℕ → Epochs
epochs_after e none = since_then e
epochs_after e (some x) = with_epoch e x

-- 01, Message fields: the bit at which a frame's epoch begins, 0 where it carries none: after the type, in 6 and 7 after NumC and NumO
unfoldable pub epoch_bit : List ℕ → ℕ
epoch_bit f =
    let kind = field_at f 28 6 in
    pick (eqb kind 1 || eqb kind 2 || eqb kind 3 || eqb kind 4 || eqb kind 5) 34 (pick ((eqb kind 6 || eqb kind 7) && ltb 0 (field_at f 34 8)) 42 0)
