-- docs/FORM.md: how long a ledger is.
use Rattle.std.specs.Prelude.{ℕ}

-- the bytes of a ledger
abbrev pub size : ℕ
size = 9726
