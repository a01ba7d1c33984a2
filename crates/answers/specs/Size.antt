-- include/quieuvodan.h: how long the forms at the C boundary are; a ledger's length is held_mask's `size`.
use Rattle.std.specs.Prelude.{ℕ}

-- the bytes of contents
abbrev pub contents_size : ℕ
contents_size = 516

-- the bytes of a row
abbrev pub row_size : ℕ
row_size = 27

-- the bytes of what a sheet's header says
abbrev pub sheet_header_size : ℕ
sheet_header_size = 5
