-- Laws of the calls over messages and frames: the lengths in the order of the tests, and each answer by its case.
use mathlib.Core.Path.{◌≡◌, refl, ◌∙◌}
use mathlib.Core.Logic.{◌≢◌}
use Prim.Native.Nat.{ℕ}
use mathlib.Core.Bool.{Bool, true, false}
use mathlib.Core.List.{List, []}
use lib.Dec.{eqb}
use lib.ListN.{length}
use borrow.Author.Tests.{eq-eqb, ne_eqb}
use Rattle.bits.specs.Bytes.{store_at}
use Rattle.flat_forms.specs.Write.{contents_bytes}
use Rattle.verdict.specs.Verdict.{number_in, refused_by}
use Rattle.message.specs.Read.{Answer, read_message}
use Rattle.frame.specs.Frame.{refusal_with, read_with, read_frame}
use Rattle.frame.proofs.VerdictLaws.{frame_quiet}
use Rattle.writing.specs.Write.{write_refusal, written}
use Rattle.from_flat.specs.Read.{flat_contents_of}
use Rattle.flat_forms.proofs.FlatLaws.{contents_whole}
use Rattle.answers.specs.Size.{contents_size}
use Rattle.answers.specs.Sized.{sized}
use Rattle.message_calls.specs.Message.{is_contents, reading_answer, reading_room, read_answer, read_room, frame_answer, frame_room, write_answer, write_room}

-- a reading, whatever is said of it
module _ (say : List ℕ → ℕ) (r : Answer) (room : List ℕ) where
  pub reading_size : length room ≢ contents_size → (39 ≡ reading_answer say r room) × (room ≡ reading_room r room)
  unfolding reading_room
  reading_size n = (rw (ne_eqb _ _ n), rw (ne_eqb _ _ n))

  pub reading_right : (n : ℕ) (t : List ℕ) → length room ≡ contents_size → n ≡ say r.said → t ≡ reading_room r room → (n ≡ reading_answer say r room) × (t ≡ reading_room r room)
  reading_right n t l a b = (rw (eq-eqb _ _ l) a, b)

-- its contents put, or not
module _ (r : Answer) (room : List ℕ) (long : length room ≡ contents_size) where
  pub put_no : number_in r.said ≢ 0 → room ≡ reading_room r room
  unfolding reading_room
  put_no n = rw (eq-eqb _ _ long, ne_eqb _ _ n)

  pub put_yes : (t : List ℕ) → number_in r.said ≡ 0 → t ≡ store_at room 0 (contents_bytes r.contents) → t ≡ reading_room r room
  unfolding reading_room
  put_yes t e b = rw (eq-eqb _ _ long, eq-eqb _ _ e) (b ∙ contents_whole room r.contents long)

-- 01, Refusal numbers: lent room stays as it was where the answer is not 0, and holds what is read where it is
module _ (say : List ℕ → ℕ) (r : Answer) (room : List ℕ) (same : eqb (say r.said) 0 ≡ eqb (number_in r.said) 0) where
  zero_same : (b : Bool) → eqb (sized b (say r.said)) 0 ≡ eqb (sized b (number_in r.said)) 0
  zero_same true = same
  zero_same false = refl

  pub reading_kept : reading_answer say r room ≢ 0 → reading_room r room ≡ room
  unfolding reading_room
  reading_kept n = rw (← zero_same (is_contents room), ne_eqb _ _ n)

  pub reading_given : reading_answer say r room ≡ 0 → reading_room r room ≡ contents_bytes r.contents
  unfolding reading_room
  reading_given e = rw (← zero_same (is_contents room), eq-eqb _ _ e)

module _ (m room : List ℕ) where
  pub read_kept : read_answer m room ≢ 0 → read_room m room ≡ room
  read_kept = reading_kept number_in (read_message m) room refl

  pub read_given : read_answer m room ≡ 0 → read_room m room ≡ contents_bytes (read_message m).contents
  read_given = reading_given number_in (read_message m) room refl

module _ (say : List ℕ → ℕ) (same : (said : List ℕ) → (number_in said ≡ 0 → said ≡ []) → eqb (say said) 0 ≡ eqb (number_in said) 0) (f room : List ℕ) where
  frame_same : eqb (say (read_frame f).said) 0 ≡ eqb (number_in (read_frame f).said) 0
  unfolding read_with
  frame_same = same (read_frame f).said (frame_quiet f (refusal_with false f))

  pub frame_kept : frame_answer say f room ≢ 0 → frame_room f room ≡ room
  frame_kept = reading_kept say (read_frame f) room frame_same

  pub frame_given : frame_answer say f room ≡ 0 → frame_room f room ≡ contents_bytes (read_frame f).contents
  frame_given = reading_given say (read_frame f) room frame_same

module _ (k room : List ℕ) where
  pub write_size : length k ≢ contents_size → (39 ≡ write_answer k room) × (room ≡ write_room k room)
  unfolding write_answer write_room
  write_size n = (rw (ne_eqb _ _ n), rw (ne_eqb _ _ n))

  pub write_right : (n : ℕ) (t : List ℕ) → length k ≡ contents_size → n ≡ number_in (refused_by (write_refusal room (flat_contents_of k))) → t ≡ written room (flat_contents_of k) →
      (n ≡ write_answer k room) × (t ≡ write_room k room)
  unfolding write_answer write_room
  write_right n t l a b = (rw (eq-eqb _ _ l) a, rw (eq-eqb _ _ l) b)
