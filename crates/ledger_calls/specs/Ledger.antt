-- The C boundary: what the calls over a ledger answer, and what each lent room then holds. 39 before all else; a refusal leaves the room as it was.
use Rattle.std.specs.Prelude.{ℕ, ◌+◌, ◌/◌, ◌&&◌, List, eqb, length}
use Rattle.bits.specs.Pick.{pick}
use Rattle.bits.specs.Table.{table}
use Rattle.verdict.specs.Verdict.{number_in, refused_by}
use Rattle.held_mask.specs.Size.{size}
use Rattle.ledger.specs.Open.{open_refusal, open_bytes}
use Rattle.in_force.specs.Bytes.{fresh, take_says, take_bytes, frame_at, frames_to, frames_of, run_bytes}
use Rattle.answers.specs.Sized.{sized, is_ledger}

-- qvd_open: 39, 4
unfoldable pub open_answer : List ℕ → ℕ → ℕ
open_answer s prn = sized (is_ledger s) (number_in (refused_by (open_refusal prn)))

-- a fresh ledger for the PRN
unfoldable pub open_room : List ℕ → ℕ → List ℕ
open_room s prn = pick (is_ledger s) (open_bytes s prn) s

-- qvd_take, qvd_take_detail: 39, then what the ledger says: its number, or all of it
abbrev pub take_answer : (List ℕ → ℕ) → List ℕ → List ℕ → ℕ
take_answer say s f = sized (is_ledger s) (say (take_says s f))

-- the ledger with the frame taken
unfoldable pub take_room : List ℕ → List ℕ → List ℕ
take_room s f = pick (is_ledger s) (take_bytes s f) s

-- what is said of frame i of a log, from 0, after those before it
abbrev pub verdict_at : (List ℕ → ℕ) → List ℕ → List ℕ → ℕ → ℕ
verdict_at say s log i = say (take_says (run_bytes s (frames_to log i)) (frame_at log i))

-- what is said of a log's frames, in order
unfoldable pub verdicts_of : (List ℕ → ℕ) → List ℕ → List ℕ → List ℕ
verdicts_of say s log = table (verdict_at say s log) ((length log + 124) / 125)

-- 39 where n bytes are no ledger, or a log of m bytes has another number of frames than k; 4
unfoldable pub replay_refusal : ℕ → ℕ → ℕ → ℕ → ℕ
replay_refusal n prn m k = sized (eqb n size && eqb k ((m + 124) / 125)) (open_refusal prn)

-- qvd_replay, qvd_replay_detail: 39, 4
abbrev pub replay_answer : List ℕ → ℕ → List ℕ → List ℕ → ℕ
replay_answer s prn log v = replay_refusal (length s) prn (length log) (length v)

-- a fresh ledger that has taken the log's frames in order
unfoldable pub replay_ledger : List ℕ → ℕ → List ℕ → List ℕ → List ℕ
replay_ledger s prn log v = pick (eqb (replay_answer s prn log v) 0) (run_bytes (fresh s prn) (frames_of log)) s

-- what is said of each frame: its number, or all of it
unfoldable pub replay_verdicts : (List ℕ → ℕ) → List ℕ → ℕ → List ℕ → List ℕ → List ℕ
replay_verdicts say s prn log v = pick (eqb (replay_answer s prn log v) 0) (verdicts_of say (fresh s prn) log) v
