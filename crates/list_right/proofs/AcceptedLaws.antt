-- What is in force after frames whose shells are good, by their contents alone, where nothing is refused of those.
use Prim.Native.Nat.{ℕ}
use mathlib.Core.Path.{◌≡◌, refl, sym, ap, ◌∙◌}
use mathlib.Core.Bool.{not}
use mathlib.Core.Logic.{◌≢◌, dite}
use mathlib.Core.Option.{none}
use native.Mathlib.Decide.{ℕ_discrete}
use borrow.Author.Tests.{eq-eqb, ne_eqb}
use mathlib.Core.List.{List, [], ◌∷◌}
use lib.Dec.{eqb}
use Rattle.bits.specs.Pick.{pick}
use Rattle.contents.specs.declared.parts.Contents.{Contents}
use Rattle.layout.specs.Layout.{layout_of, end_of}
use Rattle.contents.specs.Parts.{contents_at}
use Rattle.contents.proofs.PartLaws.{end_layout, layout_back}
use Rattle.judge.specs.Judge.{refusal_of, refusal_at}
use Rattle.frame.specs.Frame.{contents_of, foreign_to, shell_refusal, refusal_with}
use Rattle.lookback.specs.Store.{naming, or_given, or_else, replacing, ending, standing_or, since}
use Rattle.held_clocks.specs.Clocks.{no_clock, clocks_kept, clock_replaces}
use Rattle.held_orbits.specs.Orbits.{no_orbit, orbit_replaces}
use Rattle.held_codes.specs.Codes.{no_code, codes_kept}
use Rattle.held_codes.specs.declared.HeldCode.{HeldCode}
use Rattle.held_clocks.specs.declared.HeldClock.{HeldClock}
use Rattle.held_orbits.specs.declared.HeldOrbit.{HeldOrbit}
use Rattle.held_mask.specs.Mask.{HeldMask, no_held_mask, same_mask}
use Rattle.lookback.specs.Walk.{rows}
use Rattle.lookback.proofs.WalkLaws.{rows_same}
use Rattle.broadcast.specs.Issues.{issue_of}
use Rattle.row.specs.Row.{coded, row_of}
use Rattle.row.specs.declared.Row.{Row}
use Rattle.list_right.specs.InForce.{row_in_force, list_in_force}
use Rattle.list_right.specs.Good.{Good, Taken}
use Rattle.places.specs.Keeps.{mask_of, orbits_of, clocks_of, codes_of, mask_refusal, refusal_under}
use Rattle.in_force.specs.Back.{mask_in_force, refusal_after, mask_by, orbit_by, clock_by, code_by, code_made, orbit_in_force, clock_back, code_back}

-- ---- where the parts of a message that is no type 3 end is what its contents say
pub refusal_by_layout : (s : List ℕ) (at : ℕ) → (contents_at s at).kind ≢ 3 →
    refusal_at s at ≡ refusal_of (end_of (layout_of (contents_at s at).kind (contents_at s at).clock.count (contents_at s at).orbit.count)) (contents_at s at)
unfolding refusal_at
refusal_by_layout s at n = rw (end_layout s at n, layout_back s at)

-- the same looking back, over the contents of accepted frames
unfoldable pub mask_over : List Contents → HeldMask
mask_over [] = no_held_mask
mask_over (c ∷ cs) = or_given (mask_of c) (mask_over cs)

unfoldable pub orbit_over : List Contents → ℕ → HeldOrbit
orbit_over [] s = no_orbit
orbit_over (c ∷ cs) s = or_given (replacing orbit_replaces (orbit_over cs s) (naming s (orbits_of c.kind c.orbit))) (orbit_over cs s)

unfoldable pub clock_over : List HeldMask → List Contents → ℕ → HeldClock
clock_over ms [] s = no_clock
clock_over ms (c ∷ cs) s =
    standing_or clocks_kept same_mask (replacing clock_replaces (clock_over [] cs s) (naming s (clocks_of (mask_over cs) c.kind c.clock))) (mask_over cs) ms
    (clock_over (since (mask_of c) ms) cs s)

unfoldable pub code_over : List HeldMask → List Contents → ℕ → HeldCode
code_over ms [] s = no_code
code_over ms (c ∷ cs) s =
    standing_or codes_kept same_mask
    (or_else (ending no_code (replacing orbit_replaces (orbit_over cs s) (naming s (orbits_of c.kind c.orbit))))
    (pick (orbit_over cs s).has (naming s (codes_of (mask_over cs) c.kind c.code)) none))
    (mask_over cs) ms
    (code_over (since (mask_of c) ms) cs s)

-- contents of which nothing is refused alone; of a type 3 that depends on more than its contents, so it is none of these
pub record Readable (c : Contents) : Type 0 where
  pub kind : c.kind ≢ 3
  pub sound : refusal_of (end_of (layout_of c.kind c.clock.count c.orbit.count)) c ≡ 0

-- contents of which nothing is refused, alone or under the mask that those before them leave
abbrev pub Sound : List Contents → Type 0
Sound [] = Unit {0}
Sound (c ∷ cs) = Readable c × (mask_refusal (mask_over cs) c ≡ 0) × Sound cs

-- a good shell around contents of which nothing is refused can be read
read_good : (prn : ℕ) (f : List ℕ) (c : Contents) → shell_refusal (foreign_to prn f) f ≡ 0 → contents_of f ≡ c → Readable c → refusal_with (foreign_to prn f) f ≡ 0
unfolding refusal_with
read_good prn f c a e r =
    let sound : refusal_at f 28 ≡ 0 = refusal_by_layout f 28 (λ k. r.kind (ap (λ (x : Contents). x.kind) (sym e) ∙ k)) ∙ rw (← e) at r.sound in
    rw (a, sound)

-- a frame that can be read is refused for its mask alone
refusal_read : (prn : ℕ) (m : HeldMask) (f : List ℕ) (c : Contents) → refusal_with (foreign_to prn f) f ≡ 0 → contents_of f ≡ c → refusal_under prn m f ≡ mask_refusal m c
unfolding refusal_under
refusal_read prn m f c a e = rw (a, e) (go (mask_refusal m c))
  where
    go : (n : ℕ) → pick (not (eqb n 0)) n 0 ≡ n
    go n = dite (ℕ_discrete n 0) (λ z. rw (eq-eqb n 0 z) (sym z)) (λ z. rw (ne_eqb n 0 z))

module _ (prn : ℕ) where
  -- the mask by looking back, by the contents
  pub mask_over_lem : (h : List (List ℕ)) (cs : List Contents) → Good prn h cs → Sound cs → mask_in_force prn h ≡ mask_over cs
  unfolding mask_in_force mask_by mask_over
  mask_over_lem [] [] G S = refl
  mask_over_lem [] (c ∷ cs) G S = elim G [ ]
  mask_over_lem (f ∷ h) [] G S = elim G [ ]
  mask_over_lem (f ∷ h) (c ∷ cs) G S = rw (mask_over_lem h cs G.2 S.2, read_good prn f c G.0 G.1 S.0, G.1)

  -- after such frames, a good shell is refused for its mask alone
  pub refusal_good : (f : List ℕ) (h : List (List ℕ)) (c : Contents) (cs : List Contents) → Good prn (f ∷ h) (c ∷ cs) → Readable c → Sound cs → refusal_after prn h f ≡ mask_refusal (mask_over cs) c
  refusal_good f h c cs G r S =
      rw (mask_over_lem h cs G.2 S) (refusal_read prn (mask_over cs) f c (read_good prn f c G.0 G.1 r) G.1)

  accepted_over : (f : List ℕ) (h : List (List ℕ)) (c : Contents) (cs : List Contents) → Good prn (f ∷ h) (c ∷ cs) → Sound (c ∷ cs) → refusal_after prn h f ≡ 0
  accepted_over f h c cs G S = refusal_good f h c cs G S.0 S.2 ∙ S.1

  -- all of them are accepted
  pub taken_over : (h : List (List ℕ)) (cs : List Contents) → Good prn h cs → Sound cs → Taken prn h
  taken_over [] [] G S = tt
  taken_over [] (c ∷ cs) G S = elim G [ ]
  taken_over (f ∷ h) [] G S = elim G [ ]
  taken_over (f ∷ h) (c ∷ cs) G S = (accepted_over f h c cs G S, taken_over h cs G.2 S.2)

  orbit_over_lem : (h : List (List ℕ)) (cs : List Contents) (s : ℕ) → Good prn h cs → Sound cs → orbit_in_force prn h s ≡ orbit_over cs s
  unfolding orbit_in_force orbit_over orbit_by
  orbit_over_lem [] [] s G S = refl
  orbit_over_lem [] (c ∷ cs) s G S = elim G [ ]
  orbit_over_lem (f ∷ h) [] s G S = elim G [ ]
  orbit_over_lem (f ∷ h) (c ∷ cs) s G S = rw (accepted_over f h c cs G S, G.1, orbit_over_lem h cs s G.2 S.2)

  code_over_lem : (ms : List HeldMask) (h : List (List ℕ)) (cs : List Contents) (s : ℕ) → Good prn h cs → Sound cs → code_back prn ms h s ≡ code_over ms cs s
  unfolding code_back code_over code_made code_by orbit_by mask_by
  code_over_lem ms [] [] s G S = refl
  code_over_lem ms [] (c ∷ cs) s G S = elim G [ ]
  code_over_lem ms (f ∷ h) [] s G S = elim G [ ]
  code_over_lem ms (f ∷ h) (c ∷ cs) s G S =
      rw (
        accepted_over f h c cs G S,
        read_good prn f c G.0 G.1 S.0,
        G.1,
        mask_over_lem h cs G.2 S.2,
        orbit_over_lem h cs s G.2 S.2,
        code_over_lem (since (mask_of c) ms) h cs s G.2 S.2,
      )

  clock_over_lem : (ms : List HeldMask) (h : List (List ℕ)) (cs : List Contents) (s : ℕ) → Good prn h cs → Sound cs → clock_back prn ms h s ≡ clock_over ms cs s
  unfolding clock_back clock_over clock_by mask_by
  clock_over_lem ms [] [] s G S = refl
  clock_over_lem ms [] (c ∷ cs) s G S = elim G [ ]
  clock_over_lem ms (f ∷ h) [] s G S = elim G [ ]
  clock_over_lem ms (f ∷ h) (c ∷ cs) s G S =
      rw (
        accepted_over f h c cs G S,
        read_good prn f c G.0 G.1 S.0,
        G.1,
        mask_over_lem h cs G.2 S.2,
        clock_over_lem [] h cs s G.2 S.2,
        clock_over_lem (since (mask_of c) ms) h cs s G.2 S.2,
      )

  -- the list by looking back, by the contents
  unfoldable pub list_from : List Contents → List ℕ → List Row
  list_from cs is = rows (λ (s : ℕ). row_of (mask_over cs) (coded (orbit_over cs s) (code_over [] cs s)) (clock_over [] cs s) (issue_of is s) s)

  pub list_over : (h : List (List ℕ)) (cs : List Contents) (is : List ℕ) → Good prn h cs → Sound cs → list_in_force prn h is ≡ list_from cs is
  unfolding list_in_force row_in_force list_from
  list_over h cs is G S =
      rows_same (row_in_force prn h is) (λ (s : ℕ). row_of (mask_over cs) (coded (orbit_over cs s) (code_over [] cs s)) (clock_over [] cs s) (issue_of is s) s)
      (λ s p q. rw (mask_over_lem h cs G S, orbit_over_lem h cs s G S, code_over_lem [] h cs s G S, clock_over_lem [] h cs s G S))
