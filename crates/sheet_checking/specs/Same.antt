-- 02, CR 10: when two rows say the same numbers.
use Rattle.std.specs.Prelude.{Bool, false, ◌&&◌, eqb, ℤ, pos, negsuc}
use Rattle.ura.specs.Ura.{kind_of, quarters_in}
use Rattle.ura.specs.declared.Ura.{Ura}
use Rattle.row.specs.declared.Row.{Row}

-- two numbers with their signs are equal
abbrev pub same_number_of : ℤ → ℤ → Bool
same_number_of (pos x) (pos y) = eqb x y
same_number_of (pos x) (negsuc n) = false
same_number_of (negsuc m) (pos y) = false
same_number_of (negsuc m) (negsuc n) = eqb m n

-- two accuracy indices are equal: their kind and their quarters; so quarters that no code gives are equal to those of no sheet
abbrev pub same_ura : Ura → Ura → Bool
same_ura u v = eqb (kind_of u) (kind_of v) && eqb (quarters_in u) (quarters_in v)

-- 02, CR 10: two rows of one slot are equal: IODN, IOD Corr, radial, along, cross, clock, URA; the slot names the satellite
unfoldable pub same_numbers : Row → Row → Bool
same_numbers a b =
    eqb a.iodn b.iodn
    && eqb a.corr b.corr
    && same_number_of a.radial b.radial
    && same_number_of a.along b.along
    && same_number_of a.cross b.cross
    && same_number_of a.clock b.clock
    && same_ura a.ura b.ura
