-- Each number is its digits; radial, along and cross are what they were before the calls.
use borrow.Author.Rules.{rules}
use Prim.Native.Nat.{ℕ, ◌/◌, ◌%◌, ◌<◌}
use mathlib.Core.List.{List, [], ◌∷◌}
use mathlib.Core.Path.{◌≡◌, ◌∙◌, ap}
use mir.Syntax.{w16}
use mir.Val.{to_z, of_z}
use Rattle.lent.specs.Digits.{zig_of}
use Rattle.newest.proofs.DigitLaws.{two_bytes, four_bytes}
use Rattle.held_orbits.proofs.ByteLaws.{bytes_made}
use Rattle.held_orbits.proofs.orbit_bytes.Goals as goal

pub returns : goal.returns
returns c =
    let h = c.args.h in
    let epoch : h.epoch < 4294967296 = search rules in
    let iodn : h.iodn < 65536 = search rules in
    let radial : to_z w16 (of_z w16 h.radial) ≡ h.radial = search rules in
    let along : to_z w16 (of_z w16 h.along) ≡ h.along = search rules in
    let cross : to_z w16 (of_z w16 h.cross) ≡ h.cross = search rules in
    let digits : ℕ → List ℕ = λ (x : ℕ). x / 256 ∷ x % 256 ∷ [] in
    let quads : ℕ → List ℕ = λ (x : ℕ). x / 65536 / 256 ∷ x / 65536 % 256 ∷ x % 65536 / 256 ∷ x % 65536 % 256 ∷ [] in
    bytes_made h.ssr h.corr
    c.flag-has.ensures
    (c.to_be_bytes.ensures ∙ four_bytes h.epoch epoch)
    (c.to_be_bytes-2.ensures ∙ two_bytes h.iodn iodn)
    (c.to_be_bytes-3.ensures ∙ two_bytes c.zig.result c.zig.type_inv ∙ ap digits (c.zig.ensures ∙ ap zig_of radial))
    (c.to_be_bytes-4.ensures ∙ two_bytes c.zig-2.result c.zig-2.type_inv ∙ ap digits (c.zig-2.ensures ∙ ap zig_of along))
    (c.to_be_bytes-5.ensures ∙ two_bytes c.zig-3.result c.zig-3.type_inv ∙ ap digits (c.zig-3.ensures ∙ ap zig_of cross))
    c.ura_kind-kind.ensures
    (c.to_be_bytes-6.ensures ∙ four_bytes c.ura_quarters.result c.ura_quarters.type_inv ∙ ap quads c.ura_quarters.ensures)
