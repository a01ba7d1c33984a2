-- 01, Examples to hold against it: all that are marked [T], as one statement over the definitions.
use Rattle.std.specs.Prelude.{ℕ, ◌-◌, ◌≡◌, Bool, true, false, List, [], ◌∷◌, ◌++◌, pos, negsuc, replicate, set}
use Rattle.field64.specs.Field.{product}
use Rattle.check24.specs.Check.{check_of}
use Rattle.ura.specs.Ura.{ura_of}
use Rattle.records.specs.Orbit.{blank_orbit}
use Rattle.records.specs.Clock.{blank_clock}
use Rattle.ura.specs.declared.Ura.TheVariants.{Quarters}
use Rattle.slots.specs.declared.System.TheVariants.{BeiDou}
use Rattle.layout.specs.Layout.{layout_of, end_of}
use Rattle.contents.specs.Parts.{no_mask, no_clocks, no_orbits, contents_at}
use Rattle.biases.specs.Biases.{no_biases}
use Rattle.ura_codes.specs.Codes.{no_codes}
use Rattle.contents.specs.declared.parts.Contents.{Contents}
use Rattle.judge.specs.Judge.{refusal_at}
use Rattle.held_mask.specs.OldForm.{packed}
use Rattle.in_force.specs.Back.{refusal_after}
use Rattle.row.specs.declared.Row.{Row}
use Rattle.list_right.specs.InForce.{list_in_force}
use Rattle.list_right.specs.Good.{Good, Taken}
use Rattle.list_right.specs.Frames.{frames}

-- a mask of the slots given
abbrev pub mask_bits : List ℕ → List Bool
mask_bits [] = replicate 255 false
mask_bits (s ∷ ss) = set (mask_bits ss) (s - 1) true

-- type 1: epoch 3600, SSR 1
abbrev pub mask : ℕ → List ℕ → Contents
mask iodp ss = record { kind = 1; mask = record { epoch = 3600; ssr = 1; iodp = iodp; bytes = packed (mask_bits ss) }; clock = no_clocks; orbit = no_orbits; bias = no_biases; code = no_codes }

-- type 1: IODP 5, slots 3, 19, 64, 101
abbrev pub one : Contents
one = mask 5 (3 ∷ 19 ∷ 64 ∷ 101 ∷ [])

-- type 2: epoch 3606, SSR 1
abbrev pub two : Contents
two =
    record {
      kind = 2;
      mask = no_mask;
      clock = no_clocks;
      orbit = record {
        epoch = 3606;
        ssr = 1;
        count = 6;
        orbits =
            record { slot = 19; iodn = 37; corr = 2; radial = pos 100; along = negsuc 49; cross = pos 20; ura = ura_of 19 }
            ∷ record { slot = 64; iodn = 88; corr = 4; radial = negsuc 0; along = pos 0; cross = pos 4095; ura = ura_of 63 }
            ∷ replicate 4 blank_orbit;
      };
      bias = no_biases;
      code = no_codes;
    }

-- type 4: epoch 3612, SSR 1, IODP 5, sub-type 0
abbrev pub four : Contents
four =
    record {
      kind = 4;
      mask = no_mask;
      clock = record {
        epoch = 3612;
        ssr = 1;
        iodp = 5;
        start = 0;
        count = 23;
        clocks =
            record { slot = 0; corr = 1; c0 = pos 7 }
            ∷ record { slot = 0; corr = 2; c0 = negsuc 149 }
            ∷ record { slot = 0; corr = 4; c0 = negsuc 16383 }
            ∷ replicate 20 blank_clock;
      };
      orbit = no_orbits;
      bias = no_biases;
      code = no_codes;
    }

-- type 1: IODP 6, slots 3, 5, 19, 64, 101
abbrev pub other : Contents
other = mask 6 (3 ∷ 5 ∷ 19 ∷ 64 ∷ 101 ∷ [])

-- the contents of the frames of the whole list, newest first
abbrev pub sent : List Contents
sent = four ∷ two ∷ one ∷ []

-- slot 19 is 37, slot 64 is 88, others none
abbrev pub issues : List ℕ
issues = set (set (replicate 255 65535) 18 37) 63 88

-- slot 19, BeiDou 19, IODN 37, Corr 2, radial 1600, along −3200, cross 1280, clock −2400, URA 59 quarters
abbrev pub row19 : Row
row19 =
    record {
      slot = record { 0 = 19 };
      system = BeiDou;
      number = 19;
      iodn = 37;
      corr = 2;
      radial = pos 1600;
      along = negsuc 3199;
      cross = pos 1280;
      clock = negsuc 2399;
      ura = Quarters 59;
    }

-- THE EXAMPLES: what all those marked [T] say
pub record Hold : Type 0 where
  -- 2 × 32 = 3; 2 × 63 = 61; 32 × 32 = 48
  pub field : (product 2 32 ≡ 3) × (product 2 63 ≡ 61) × (product 32 32 ≡ 48)
  -- the check of 462 zero bits is 0; with only the last one set it is 0x864CFB
  pub check : (check_of (replicate 58 0) 0 462 ≡ 0) × (check_of (replicate 57 0 ++ 4 ∷ []) 0 462 ≡ 0x864CFB)
  -- type 6: 22 and 0 ends at 446; 2 and 5 at 454; 3 and 5 at 472. Type 7: 2 and 5 at 459
  pub ends : (end_of (layout_of 6 22 0) ≡ 446) × (end_of (layout_of 6 2 5) ≡ 454) × (end_of (layout_of 6 3 5) ≡ 472) × (end_of (layout_of 7 2 5) ≡ 459)
  -- 3 and 5 is refused 9, wherever the message begins
  pub long : (s : List ℕ) (at : ℕ) → (contents_at s at).kind ≡ 6 → (contents_at s at).clock.count ≡ 3 → (contents_at s at).orbit.count ≡ 5 → refusal_at s at ≡ 9
  -- URA code 19 is 59 quarters; code 62 is 21,866
  pub ura : (ura_of 19 ≡ Quarters 59) × (ura_of 62 ≡ Quarters 21866)
  -- 01, the whole list: there are frames whose shells are good, with these contents
  pub there : Good 60 frames (four ∷ other ∷ sent)
  -- any such frames are accepted
  pub taken : (h : List (List ℕ)) → Good 60 h sent → Taken 60 h
  -- and the list is one row
  pub whole : (h : List (List ℕ)) → Good 60 h sent → list_in_force 60 h issues ≡ row19 ∷ []
  -- the other mask is accepted too, and after it the list is empty
  pub gone : (h : List (List ℕ)) → Good 60 h (other ∷ sent) → Taken 60 h × (list_in_force 60 h issues ≡ [])
  -- and the same type 4 is refused 14
  pub again : (f : List ℕ) (h : List (List ℕ)) → Good 60 (f ∷ h) (four ∷ other ∷ sent) → refusal_after 60 h f ≡ 14
