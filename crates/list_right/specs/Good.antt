-- 01, Examples to hold against it: frames by their shells and contents, and that all of them are accepted.
use Rattle.std.specs.Prelude.{ℕ, ◌≡◌, List, [], ◌∷◌}
use Rattle.contents.specs.declared.parts.Contents.{Contents}
use Rattle.frame.specs.Frame.{contents_of, foreign_to, shell_refusal}
use Rattle.in_force.specs.Back.{refusal_after}

-- frames with these contents, newest first, whose shells are good: length, sync, the ledger's PRN, flag, parity and check (01, 1 and 3 to 7). Nothing is said of 8 to 15
abbrev pub Good : ℕ → List (List ℕ) → List Contents → Type 0
Good prn [] [] = Unit {0}
Good prn [] (c ∷ cs) = ⊥
Good prn (f ∷ h) [] = ⊥
Good prn (f ∷ h) (c ∷ cs) = (shell_refusal (foreign_to prn f) f ≡ 0) × (contents_of f ≡ c) × Good prn h cs

-- 01, What the ledger keeps: each of the frames is accepted when it comes, after those before it
abbrev pub Taken : ℕ → List (List ℕ) → Type 0
Taken prn [] = Unit {0}
Taken prn (f ∷ h) = (refusal_after prn h f ≡ 0) × Taken prn h
