-- 02, CR 14: what opening, closing and a frame answer, and what the table then is. A refusal leaves every byte as it was.
use Rattle.std.specs.Prelude.{ℕ, true, not, ◌&&◌, List, [], ◌∷◌, eqb, ltb, length, replicate}
use Rattle.bits.specs.Pick.{pick}
use Rattle.bits.specs.Some.{first}
use Rattle.verdict.specs.Verdict.{refused_by}
use Rattle.frame.specs.Frame.{prn_of, is_prn, shell_refusal}
use Rattle.in_force.specs.Bytes.{fresh, take_says, take_bytes}
use Rattle.table_form.specs.Table.{part, put_part, is_table, room_of, has_room, free_room}

-- 02, CR 14: 39 before all else, 4 for a foreign PRN, 28 if that PRN is open, 29 exactly if four are open
unfoldable pub opening_refusal : List ℕ → ℕ → ℕ
opening_refusal t prn = first ((39, not (is_table t)) ∷ (4, not (is_prn prn)) ∷ (28, has_room t prn) ∷ (29, not (ltb (free_room t) 4)) ∷ [])

-- 02, CR 14: the first free room becomes a fresh ledger for the PRN, all its bytes
unfoldable pub opened : List ℕ → ℕ → List ℕ
opened t prn = pick (eqb (opening_refusal t prn) 0) (put_part t (free_room t) (fresh (part t (free_room t)) prn)) t

-- 02, CR 14: closing one not open is 30
unfoldable pub closing_refusal : List ℕ → ℕ → ℕ
closing_refusal t prn = first ((39, not (is_table t)) ∷ (30, not (has_room t prn)) ∷ [])

-- 02, CR 14: closing frees the room: all its bytes are 0
unfoldable pub closed : List ℕ → ℕ → List ℕ
closed t prn = pick (eqb (closing_refusal t prn) 0) (put_part t (room_of t prn) (replicate (length (part t (room_of t prn))) 0)) t

-- 02, CR 14: a frame goes to the ledger of its PRN; where no such ledger is open, 1, 3, then 4
unfoldable pub taking_says : List ℕ → List ℕ → List ℕ
taking_says t f =
    pick (is_table t)
    (pick (has_room t (prn_of f)) (take_says (part t (room_of t (prn_of f))) f) (refused_by (shell_refusal true f)))
    (39 ∷ [])

-- the ledger of the frame's PRN takes it, or refuses it; the other rooms are as they were
unfoldable pub taking_bytes : List ℕ → List ℕ → List ℕ
taking_bytes t f =
    pick (is_table t && has_room t (prn_of f)) (put_part t (room_of t (prn_of f)) (take_bytes (part t (room_of t (prn_of f))) f)) t
