-- The broadcast issue of a BeiDou satellite put into the broadcast list (02, CR 6).
use Rattle.std.specs.Prelude.{ℕ, ◌-◌, not, ◌||◌, List, [], ◌∷◌, eqb, ltb, length, set}
use Rattle.bits.specs.Pick.{pick}
use Rattle.bits.specs.Some.{any_of, first}
use Rattle.broadcast.specs.Issues.{is_ill}

-- 02, CR 6: 1 for the list's length, 11 for a PRN not 1 to 63, 17 for an IODC above 1023 or any ill-formed entry; 0 if none applies
unfoldable pub join_refusal : List ℕ → ℕ → ℕ → ℕ
join_refusal is prn iodc =
    first
    ((1, not (eqb (length is) 255))
    ∷ (11, ltb prn 1 || ltb 63 prn)
    ∷ (17, ltb 1023 iodc || any_of is_ill is)
    ∷ [])

-- 02, CR 6: the list with the IODC at the slot of the PRN (01, Slots and places: slots 1 to 63 are BeiDou 1 to 63), the other entries left; as it
-- was on a refusal
abbrev pub joined : List ℕ → ℕ → ℕ → List ℕ
joined is prn iodc = pick (eqb (join_refusal is prn iodc) 0) (set is (prn - 1) iodc) is
