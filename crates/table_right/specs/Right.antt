-- 02, CR 14: what is shown of a table after any calls.
use Rattle.std.specs.Prelude.{ℕ, ◌≤◌, ◌<◌, ◌≡◌, true, false, not, List, [], ◌∷◌, ◌++◌, eqb, length}
use Rattle.bits.specs.Pick.{pick}
use Rattle.bits.specs.Some.{first}
use Rattle.verdict.specs.Verdict.{refused_by}
use Rattle.frame.specs.Frame.{prn_of, is_prn, shell_refusal}
use Rattle.held_mask.specs.Size.{size}
use Rattle.in_force.specs.Back.{says_after}
use Rattle.in_force.specs.Bytes.{fresh, run_bytes, Holds}
use Rattle.broadcast.specs.Issues.{issues_refusal}
use Rattle.list.specs.Rows.{list_in}
use Rattle.list_right.specs.InForce.{list_in_force}
use Rattle.table_form.specs.Table.{is_table, prn_in, room_of, ledger_for}
use Rattle.table.specs.Calls.{opening_refusal, closing_refusal, taking_says}
use Rattle.table_list.specs.Questions.{asking_refusal}
use Rattle.table_right.specs.Calls.{Call, Open, table_after, is_open, open_count, frames_for, own_frames, keeps_open, is_for}

-- 02, CR 14: a PRN that is open has exactly one room; its ledger is, byte for byte, one ledger that got its frames alone, in any bytes s of a ledger's
-- length; it holds what is in force after them, and its list is the list in force (demand 3)
pub record OneLedger (t : List ℕ) (prn : ℕ) (frames : List (List ℕ)) : Type 0 where
  pub room : room_of t prn < 4
  pub named : prn_in t (room_of t prn) ≡ prn
  pub once : (j : ℕ) → j < 4 → prn_in t j ≡ prn → j ≡ room_of t prn
  pub bytes : (s : List ℕ) → length s ≡ size → ledger_for t prn ≡ run_bytes (fresh s prn) frames
  pub holds : Holds (ledger_for t prn) prn frames
  pub list : (is : List ℕ) → list_in (ledger_for t prn) is ≡ list_in_force prn frames is

-- 02, CR 14: after any calls the bytes are a table, at most four are open, each as one ledger alone, and every call is answered by looking back
pub record RightAfter (h : List Call) : Type 0 where
  pub stays : is_table (table_after h) ≡ true
  pub few : open_count h ≤ 4
  pub each : (prn : ℕ) → is_open h prn ≡ true → OneLedger (table_after h) prn (frames_for h prn)
  pub opening : (prn : ℕ) → opening_refusal (table_after h) prn ≡ first ((4, not (is_prn prn)) ∷ (28, is_open h prn) ∷ (29, eqb (open_count h) 4) ∷ [])
  pub closing : (prn : ℕ) → closing_refusal (table_after h) prn ≡ pick (is_open h prn) 0 30
  pub asking : (prn : ℕ) (is : List ℕ) →
      asking_refusal (table_after h) prn is ≡ first ((issues_refusal is, not (eqb (issues_refusal is) 0)) ∷ (30, not (is_open h prn)) ∷ [])
  pub taking : (f : List ℕ) →
      taking_says (table_after h) f ≡ pick (is_open h (prn_of f)) (says_after (prn_of f) (frames_for h (prn_of f)) f) (refused_by (shell_refusal true f))

-- 02, CR 14: between an opening and its closing a PRN's answers depend on its own frames alone, whatever other calls stand among them and before them
abbrev pub Alone : Type 0
Alone =
    (prn : ℕ) (later before : List Call) →
    is_open before prn ≡ false →
    is_open (Open prn ∷ before) prn ≡ true →
    keeps_open prn later ≡ true →
    OneLedger (table_after (later ++ (Open prn ∷ before))) prn (own_frames prn later)
    × ((f : List ℕ) → prn_of f ≡ prn → taking_says (table_after (later ++ (Open prn ∷ before))) f ≡ says_after prn (own_frames prn later) f)

-- 02, CR 14: a call for another PRN leaves an open one open, and every byte of its room as it was
abbrev pub Untouched : Type 0
Untouched =
    (prn : ℕ) (c : Call) (h : List Call) →
    is_open h prn ≡ true →
    is_for prn c ≡ false →
    (is_open (c ∷ h) prn ≡ true) × (ledger_for (table_after (c ∷ h)) prn ≡ ledger_for (table_after h) prn)
