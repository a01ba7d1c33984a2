-- What replaying a log leaves: demand 3, for the frames of a log.
use mathlib.Core.Path.{◌≡◌, refl, sym, subst, ◌∙◌}
use Prim.Native.Nat.{ℕ}
use mathlib.Core.Bool.{true, false, true≢false}
use mathlib.Core.List.{List}
use lib.ListN.{length}
use Rattle.held_mask.specs.Size.{size}
use Rattle.frame.specs.Frame.{is_prn}
use Rattle.in_force.specs.Bytes.{fresh, run_bytes, Holds, frames_of, Replayed}
use Rattle.in_force.proofs.BackLaws.{holds_run}

module _ (s : List ℕ) (prn : ℕ) (log : List ℕ) where
  pub replayed_not : is_prn prn ≡ false → Replayed s prn log s
  replayed_not n = record { refused = λ e. refl; bytes = λ e. absurd (true≢false (sym e ∙ n)); holds = λ e. absurd (true≢false (sym e ∙ n)) }

  pub replayed_all : is_prn prn ≡ true → length s ≡ size → (t : List ℕ) → t ≡ run_bytes (fresh s prn) (frames_of log) → Replayed s prn log t
  replayed_all y long t ran = record {
    refused = λ e. absurd (true≢false (sym y ∙ e));
    bytes = λ e. ran;
    holds = λ e. subst (λ (u : List ℕ). Holds u prn (frames_of log)) (sym ran) (holds_run s prn (frames_of log) long);
  }
