-- 02, CR 2: what a type 5 makes of the list of 01's example.
use Rattle.std.specs.Prelude.{ℕ, ◌≡◌, List, [], ◌∷◌, replicate}
use Rattle.ura.specs.declared.Ura.{Ura}
use Rattle.ura.specs.declared.Ura.TheVariants.{Quarters}
use Rattle.biases.specs.Biases.{no_biases}
use Rattle.contents.specs.Parts.{no_mask, no_clocks, no_orbits}
use Rattle.contents.specs.declared.parts.Contents.{Contents}
use Rattle.in_force.specs.Back.{refusal_after}
use Rattle.row.specs.declared.Row.{Row}
use Rattle.list_right.specs.InForce.{list_in_force}
use Rattle.list_right.specs.Good.{Good, Taken}
use Rattle.list_right.specs.Examples.{one, two, four, other, sent, issues, row19}

-- type 5: epoch 3618, SSR 1, IODP 5; code 1 for every place but the second, slot 19's
abbrev pub five : ℕ → ℕ → Contents
five sub code =
    record {
      kind = 5;
      mask = no_mask;
      clock = no_clocks;
      orbit = no_orbits;
      bias = no_biases;
      code = record { epoch = 3618; ssr = 1; iodp = 5; sub = sub; codes = 1 ∷ code ∷ replicate 68 1 };
    }

-- the row of the example with another URA
abbrev pub row19_with : Ura → Row
row19_with u =
    record {
      slot = row19.slot;
      system = row19.system;
      number = row19.number;
      iodn = row19.iodn;
      corr = row19.corr;
      radial = row19.radial;
      along = row19.along;
      cross = row19.cross;
      clock = row19.clock;
      ura = u;
    }

-- 02, CR 2, of any frames whose shells are good, with these contents, newest first
pub record Replaced : Type 0 where
  -- a code of a type 5 replaces that of the orbit in force: code 1 is one quarter
  pub code : (h : List (List ℕ)) → Good 60 h (five 0 1 ∷ sent) → Taken 60 h × (list_in_force 60 h issues ≡ row19_with (Quarters 1) ∷ [])
  -- code 0 makes the slot unknown
  pub unknown : (h : List (List ℕ)) → Good 60 h (five 0 0 ∷ sent) → Taken 60 h × (list_in_force 60 h issues ≡ [])
  -- the latest to arrive counts
  pub latest : (h : List (List ℕ)) → Good 60 h (five 0 1 ∷ five 0 0 ∷ sent) → Taken 60 h × (list_in_force 60 h issues ≡ row19_with (Quarters 1) ∷ [])
  -- another orbit record comes into force: the orbit's own code is back
  pub orbit : (h : List (List ℕ)) → Good 60 h (two ∷ five 0 0 ∷ sent) → Taken 60 h × (list_in_force 60 h issues ≡ row19 ∷ [])
  -- so it is after a mask that differs, though the old one and its clocks come again
  pub mask : (h : List (List ℕ)) → Good 60 h (four ∷ one ∷ other ∷ five 0 0 ∷ sent) → Taken 60 h × (list_in_force 60 h issues ≡ row19 ∷ [])
  -- a code that comes before any orbit counts for none
  pub early : (h : List (List ℕ)) → Good 60 h (four ∷ two ∷ five 0 0 ∷ one ∷ []) → Taken 60 h × (list_in_force 60 h issues ≡ row19 ∷ [])
  -- under the other mask the same type 5 is refused 14
  pub foreign : (f : List ℕ) (h : List (List ℕ)) → Good 60 (f ∷ h) (five 0 1 ∷ other ∷ sent) → refusal_after 60 h f ≡ 14
  -- the mask has four places, so sub-type 1 is refused 15
  pub far : (f : List ℕ) (h : List (List ℕ)) → Good 60 (f ∷ h) (five 1 1 ∷ sent) → refusal_after 60 h f ≡ 15
