-- 02, CR 3: which record of a slot counts, by issue and epoch.
use Rattle.std.specs.Prelude.{ℕ, ◌+◌, ◌-◌, ◌%◌, Bool, not, ◌&&◌, ◌||◌, List, eqb, ltb, get_or}
use Rattle.lent.specs.Digits.{four_at}
use Rattle.newest.specs.declared.Stamp.{Stamp}

-- 02, CR 3: (new epoch − held epoch) modulo 86400 is below 43200, so equal epochs replace
unfoldable pub is_newer : ℕ → ℕ → Bool
is_newer held new = ltb ((new % 86400 + 86400 - held % 86400) % 86400) 43200

-- 02, CR 3: equal IOD SSR and IOD Corr
abbrev pub same_issue : Stamp → Stamp → Bool
same_issue held new = eqb held.ssr new.ssr && eqb held.corr new.corr

-- 02, CR 3: a record of the issue that is held replaces it only by its epoch; with a different issue, or none held, the latest to arrive counts
unfoldable pub replaces : Bool → Stamp → Stamp → Bool
replaces has held new = not (has && same_issue held new) || is_newer held.epoch new.epoch

-- what lent bytes say at the offsets of an epoch, an IOD SSR and an IOD Corr
abbrev pub stamp_at : List ℕ → ℕ → ℕ → ℕ → Stamp
stamp_at s epoch ssr corr = record { ssr = get_or s ssr 0; corr = get_or s corr 0; epoch = four_at s epoch }
