-- There are frames whose shells are good, with the contents of 01's whole list: the premise of the examples is met.
use mathlib.Core.Path.{refl}
use mathlib.Core.List.{◌∷◌}
use Rattle.bits.specs.Table.{table}
use Rattle.bits.specs.Bits.{bit_at, bits_from, field_at}
use Rattle.bits.specs.Poly.{times_x}
use Rattle.field64.specs.Field.{twice_of, add_if, product_run, product}
use Rattle.check24.specs.Check.{feed_of, check_bits, check_of}
use Rattle.parity_tables.specs.Tables.{positions, factors}
use Rattle.parity.specs.Parity.{symbol_of, row_sum, zero_from, parity_ok}
use Rattle.layout.specs.Layout.{layout_of}
use Rattle.contents.specs.Parts.{no_mask, no_clocks, no_orbits, mask_bytes_at, clocks_at, orbits_at, mask_in, clocks_in, orbits_in, biases_in, codes_in, contents_at}
use Rattle.frame.specs.Frame.{shell_refusal}
use Rattle.held_mask.specs.OldForm.{number_of, packed}
use Rattle.list_right.specs.Examples.{four, other, sent}
use Rattle.list_right.specs.Good.{Good}
use Rattle.list_right.specs.Frames.{frame_one, frame_two, frame_four, frame_other, frames}

pub frames_good : Good 60 frames (four ∷ other ∷ sent)
unfolding frame_one frame_two frame_four frame_other shell_refusal field_at bit_at bits_from parity_ok zero_from row_sum symbol_of positions factors product product_run add_if twice_of times_x check_of check_bits feed_of contents_at mask_in clocks_in orbits_in biases_in codes_in mask_bytes_at packed number_of clocks_at orbits_at layout_of no_mask no_clocks no_orbits table
frames_good = (refl, refl, (refl, refl, (refl, refl, (refl, refl, (refl, refl, tt)))))
