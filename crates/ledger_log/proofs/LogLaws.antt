-- A log taken piece by piece leaves what its frames leave, taken one by one.
use mathlib.Core.Path.{◌≡◌, refl, sym, ap, subst, ◌∙◌}
use mathlib.Core.List.{List, [], ◌∷◌, ◌++◌, reverse, reverse-cons, reverse-append}
use Prim.Native.Nat.{ℕ, zero, suc, ◌≤◌}
use lib.ListN.{length, drop}
use Rattle.bits.specs.Table.{table}
use Rattle.pieces.specs.Cut.{cut, chunk_at, chunks, InStep}
use Rattle.pieces.specs.Pieces.{piece_length}
use Rattle.pieces.proofs.CutLaws.{cut_step}
use Rattle.pieces.proofs.ChunkLaws.{as_chunks}
use Rattle.in_force.specs.Bytes.{fresh, take_bytes, run_bytes, frames_to, frames_of, Holds}
use Rattle.in_force.proofs.BackLaws.{holds_run}
use Rattle.ledger_log.specs.Next.{piece_of, taken_all, TakenPieces}

-- one frame more at the old end was taken first
run_first : (t : List ℕ) (h : List (List ℕ)) (f : List ℕ) → run_bytes t (h ++ (f ∷ [])) ≡ run_bytes (take_bytes t f) h
unfolding run_bytes
run_first t [] f = refl
run_first t (g ∷ h) f = ap (λ (u : List ℕ). take_bytes u g) (run_first t h f)

pub taken_run : (t : List ℕ) (ps : List (List ℕ)) → taken_all t ps ≡ run_bytes t (reverse ps)
unfolding taken_all run_bytes
taken_run t [] = refl
taken_run t (p ∷ ps) = taken_run (take_bytes t p) ps ∙ sym (run_first t (reverse ps) p) ∙ ap (run_bytes t) (sym (reverse-cons p ps))

-- the chunks of a log are its frames, newest first
chunks_frames : (s : List ℕ) (n : ℕ) → reverse (table (chunk_at s) n) ≡ frames_to s n
unfolding table frames_to
chunks_frames s zero = refl
chunks_frames s (suc n) =
    reverse-append (table (chunk_at s) n) (chunk_at s n ∷ []) ∙ ap (λ (h : List (List ℕ)). chunk_at s n ∷ h) (chunks_frames s n)

pub frames_counted : (s : List ℕ) → InStep s → reverse (cut s) ≡ frames_of s
unfolding chunks
frames_counted s k = ap reverse (as_chunks s k) ∙ chunks_frames s _

taken_next : (t s : List ℕ) → 1 ≤ length s → taken_all t (cut s) ≡ taken_all (take_bytes t (piece_of s)) (cut (drop (piece_length s) s))
unfolding taken_all
taken_next t s h = ap (taken_all t) (cut_step s h)

pub taken_pieces : (t s : List ℕ) → TakenPieces t s
taken_pieces t s = record {
  next = taken_next t s;
  run = taken_run t (cut s);
  holds = λ prn long. subst (λ (u : List ℕ). Holds u prn (reverse (cut s))) (sym (taken_run (fresh t prn) (cut s))) (holds_run t prn (reverse (cut s)) long);
  same = frames_counted s;
}
