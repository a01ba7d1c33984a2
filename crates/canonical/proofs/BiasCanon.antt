-- The canonical form of biases is its own.
use mathlib.Core.Path.{◌≡◌, refl, ◌∙◌}
use mathlib.Core.Logic.{dite}
use mathlib.Core.Bool.{Bool, true, false}
use mathlib.Core.List.{List}
use Prim.Native.Nat.{ℕ, ◌≤◌}
use lib.Dec.{eqb, ltb}
use lib.ListN.{get_or, get_or-eq_default}
use native.Mathlib.Decide.{dec_lt, ℕ_discrete}
use native.Mathlib.Omega.{arith}
use borrow.Author.Tests.{eq-eqb, ne_eqb, le-ltb}
use Rattle.bits.specs.Pick.{pick}
use Rattle.bits.specs.Table.{table}
use Rattle.bits.proofs.TableLaws.{length_table, get_or_table}
use Rattle.biases.specs.Biases.{blank_sat, no_bias}
use Rattle.biases.specs.declared.BiasSat.{BiasSat}
use Rattle.biases.specs.declared.Bias.{Bias}
use Rattle.biases.specs.declared.BiasPart.{BiasPart}
use Rattle.canonical_biases.specs.Canon.{canon_sat, canon_sats, bias_count, canon_bias, canon_row, canon_biases}
use Rattle.biases_back.proofs.ListLaws.{all_table}
use Rattle.biases_back.proofs.ReadLaws.{canon_sats_lem, canon_row_lem}

-- a satellite of slot 0 is blank
sat_blank : (a : Bool) (r : BiasSat) → (pick a (pick (eqb r.slot 0) blank_sat r) blank_sat).slot ≡ 0 → pick a (pick (eqb r.slot 0) blank_sat r) blank_sat ≡ blank_sat
sat_blank false r e = refl
sat_blank true r e =
    dite (ℕ_discrete r.slot 0) (λ z. rw (eq-eqb r.slot 0 z)) (λ n. absurd (n (rw (ne_eqb r.slot 0 n) at e)))

-- entries from n on that are d, and d past the end
past : {A : Type 0} (d : A) (f : ℕ → A) (m n i : ℕ) → n ≤ i → ((j : ℕ) → n ≤ j → f j ≡ d) → get_or (table f m) i d ≡ d
past d f m n i h e =
    dite (dec_lt i m)
    (λ l. get_or_table f m i d l ∙ e i h)
    (λ l. get_or-eq_default (table f m) d {n = i} (omega (arith, length_table f m)))

sats_twice : (n : ℕ) (rs : List BiasSat) → canon_sats n (canon_sats n rs) ≡ canon_sats n rs
unfolding canon_sats
sats_twice n rs =
    canon_sats_lem n (table (canon_sat n rs) 31) (length_table (canon_sat n rs) 31)
    (all_table (λ (r : BiasSat). r.slot ≡ 0 → r ≡ blank_sat) blank_sat (λ e. refl) (canon_sat n rs) 31 (λ i. sat_blank (ltb i n) (get_or rs i blank_sat)))
    (λ i h. past blank_sat (canon_sat n rs) 31 n i h (λ j l. rw (le-ltb j n l)))

row_twice : (n : ℕ) (bs : List Bias) → canon_row n (canon_row n bs) ≡ canon_row n bs
unfolding canon_row
row_twice n bs =
    canon_row_lem n (table (canon_bias n bs) 25) (length_table (canon_bias n bs) 25) (λ i h. past no_bias (canon_bias n bs) 25 n i h (λ j l. rw (le-ltb j n l)))

pub part_twice : (p : BiasPart) → canon_biases (canon_biases p) ≡ canon_biases p
unfolding canon_biases
part_twice p =
    let rs = canon_sats p.count p.sats in
    rw (sats_twice p.count p.sats, row_twice (bias_count rs 31) p.biases)
