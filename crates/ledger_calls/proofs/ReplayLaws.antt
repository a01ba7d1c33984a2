-- Laws of a replay at the boundary, whatever is said of each frame: its refusals, its loop, and what it leaves.
use mathlib.Core.Path.{◌≡◌, refl, sym, ap, ◌∙◌}
use mathlib.Core.Logic.{◌≢◌}
use Prim.Native.Nat.{ℕ, ◌+◌, ◌/◌, ◌≤◌, ◌<◌}
use mathlib.Core.Bool.{Bool, true, false, ◌&&◌}
use mathlib.Core.List.{List, ◌++◌}
use lib.Dec.{eqb}
use lib.ListN.{length, set, drop, length-set}
use native.Mathlib.Omega.{arith}
use borrow.Author.Tests.{eqb-true, eq-eqb, ne_eqb}
use Rattle.bits.specs.Table.{table}
use Rattle.bits.proofs.TableLaws.{fill_start, fill_step, fill_done}
use Rattle.frame.specs.Frame.{is_prn}
use Rattle.held_mask.specs.Size.{size}
use Rattle.in_force.specs.Bytes.{fresh, take_says, take_bytes, frame_at, frames_to, frames_of, run_bytes, Holds}
use Rattle.in_force.proofs.LogLaws.{run_start, run_step}
use Rattle.in_force.proofs.ReplayLaws.{replayed_all}
use Rattle.ledger.specs.Open.{open_refusal}
use Rattle.answers.specs.Sized.{sized}
use Rattle.ledger_calls.specs.Ledger.{verdict_at, verdicts_of, replay_refusal, replay_answer, replay_ledger, replay_verdicts}

-- ---- the refusals
sized_fits : (a b : Bool) (n : ℕ) → sized (a && b) n ≡ 0 → b ≡ true
sized_fits true true n e = refl
sized_fits true false n e = absurd (omega arith)
sized_fits false true n e = refl
sized_fits false false n e = absurd (omega arith)

module _ (n prn m k : ℕ) where
  pub refusal_ledger : n ≢ size → 39 ≡ replay_refusal n prn m k
  unfolding replay_refusal
  refusal_ledger h = rw (ne_eqb _ _ h)

  pub refusal_room : n ≡ size → k ≢ (m + 124) / 125 → 39 ≡ replay_refusal n prn m k
  unfolding replay_refusal
  refusal_room l h = rw (eq-eqb _ _ l, ne_eqb _ _ h)

  pub refusal_prn : n ≡ size → k ≡ (m + 124) / 125 → is_prn prn ≡ false → 4 ≡ replay_refusal n prn m k
  unfolding replay_refusal
  refusal_prn l h e = rw (eq-eqb _ _ l, eq-eqb _ _ h, e)

  pub refusal_none : n ≡ size → k ≡ (m + 124) / 125 → is_prn prn ≡ true → 0 ≡ replay_refusal n prn m k
  unfolding replay_refusal
  refusal_none l h e = rw (eq-eqb _ _ l, eq-eqb _ _ h, e)

  -- what is not refused has room for each answer
  pub refusal_fits : replay_refusal n prn m k ≡ 0 → k ≡ (m + 124) / 125
  unfolding replay_refusal
  refusal_fits e = eqb-true _ _ (sized_fits (eqb n size) (eqb k ((m + 124) / 125)) (open_refusal prn) e)

-- ---- the loop: the first i frames are taken, and what is said of each is kept
pub record Taking (say : List ℕ → ℕ) (s log v t u : List ℕ) (i : ℕ) : Type 0 where
  pub within : i ≤ length u
  pub long : length t ≡ length s
  pub many : length u ≡ length v
  pub room : length v ≡ (length log + 124) / 125
  pub ledger : t ≡ run_bytes s (frames_to log i)
  pub said : u ≡ table (verdict_at say s log) i ++ drop i v

module _ (say : List ℕ → ℕ) (s log v : List ℕ) where
  pub taking_start : length v ≡ (length log + 124) / 125 → Taking say s log v s v 0
  taking_start l = record { within = omega arith; long = refl; many = refl; room = l; ledger = sym (run_start s log); said = fill_start _ _ }

  pub taking_turn : (t u t' : List ℕ) (i n : ℕ) → Taking say s log v t u i → i < length u → length t' ≡ length t → t' ≡ take_bytes t (frame_at log i) → n ≡ say (take_says t (frame_at log i)) →
      Taking say s log v t' (set u i n) (i + 1)
  taking_turn t u t' i n h l k b a =
      record {
        within = simp length-set (omega arith);
        long = k ∙ h.long;
        many = simp length-set h.many;
        room = h.room;
        ledger = b ∙ ap (λ (x : List ℕ). take_bytes x (frame_at log i)) h.ledger ∙ sym (run_step s log i);
        said = fill_step (verdict_at say s log) i v u n 0 (omega arith) h.said (a ∙ ap (λ (x : List ℕ). say (take_says x (frame_at log i))) h.ledger);
      }

  pub taking_end : (t u : List ℕ) (i : ℕ) → Taking say s log v t u i → length u ≤ i → (t ≡ run_bytes s (frames_of log)) × (u ≡ verdicts_of say s log)
  unfolding verdicts_of
  taking_end t u i h l =
      let all : i ≡ (length log + 124) / 125 = omega arith in
      (rw all at h.ledger, fill_done (verdict_at say s log) i ((length log + 124) / 125) v u all h.room h.said)

-- ---- three parts: the answer, the ledger, what is said of the frames
module _ (say : List ℕ → ℕ) (s : List ℕ) (prn : ℕ) (log v : List ℕ) where
  abbrev pub Same : ℕ → List ℕ → List ℕ → Type 0
  Same n t u = (n ≡ replay_answer s prn log v) × ((t ≡ replay_ledger s prn log v) × (u ≡ replay_verdicts say s prn log v))

  pub replay_no : (n : ℕ) → n ≡ replay_answer s prn log v → n ≢ 0 → Same n s v
  unfolding replay_ledger replay_verdicts
  replay_no n e z = (e, (rw (← e, ne_eqb _ _ z), rw (← e, ne_eqb _ _ z)))

  pub replay_yes : (t u : List ℕ) → replay_answer s prn log v ≡ 0 → t ≡ run_bytes (fresh s prn) (frames_of log) → u ≡ verdicts_of say (fresh s prn) log → Same 0 t u
  unfolding replay_ledger replay_verdicts
  replay_yes t u e b d = (sym e, (rw (eq-eqb _ _ e) b, rw (eq-eqb _ _ e) d))

-- the ledger of a replay that is taken holds exactly what is in force, by looking back
pub replay_holds : (s : List ℕ) (prn : ℕ) (log v : List ℕ) → length s ≡ size → length v ≡ (length log + 124) / 125 → is_prn prn ≡ true → Holds (replay_ledger s prn log v) prn (frames_of log)
unfolding replay_refusal replay_ledger
replay_holds s prn log v l m e = rw (eq-eqb _ _ l, eq-eqb _ _ m, e) ((replayed_all s prn log e l (run_bytes (fresh s prn) (frames_of log)) refl).holds e)
