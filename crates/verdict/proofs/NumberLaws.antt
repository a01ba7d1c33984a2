-- Laws of what verdicts say, and of their numbers.
use mathlib.Core.Path.{◌≡◌, refl, sym, ap, ◌∙◌}
use mathlib.Core.Logic.{dite, ◌≢◌}
use mathlib.Core.Bool.{not}
use mathlib.Core.List.{List, [], ◌∷◌}
use Prim.Native.Nat.{ℕ}
use native.Mathlib.Decide.{ℕ_discrete}
use native.Mathlib.Omega.{arith}
use lib.Dec.{eqb}
use lib.ListN.{length, get_or}
use borrow.Author.Tests.{eq-eqb, ne_eqb}
use Rattle.std.specs.Prelude.{Result, Ok, Err}
use Rattle.std.specs.Result.{IsErr, IsErrAnd}
use Rattle.bits.specs.Pick.{pick}
use Rattle.verdict.specs.Verdict.{says, refused_says, number_in, refused_by}
use Rattle.verdict.specs.declared.Refused.{Refused}
use Rattle.verdict.specs.declared.Refusal.{Refusal}
use Rattle.verdict.specs.declared.Refusal.TheVariants.{Number, Parity, Places}

-- verdicts that say the same are the same: a promise of what is said admits a single answer
pub says_once : (v w : Result (Unit {0}) Refusal) → says v ≡ says w → v ≡ w
says_once (Ok _) (Ok _) e = refl
says_once (Ok _) (Err (Number n)) e = absurd (let l = ap length e in omega arith)
says_once (Ok _) (Err (Parity a b)) e = absurd (let l = ap length e in omega arith)
says_once (Ok _) (Err (Places a)) e = absurd (let l = ap length e in omega arith)
says_once (Err (Number n)) (Ok _) e = absurd (let l = ap length e in omega arith)
says_once (Err (Number n)) (Err (Number m)) e = ap (λ (k : ℕ). Err (Number k)) (ap number_in e)
says_once (Err (Number n)) (Err (Parity a b)) e = absurd (let l = ap length e in omega arith)
says_once (Err (Number n)) (Err (Places a)) e = absurd (let l = ap length e in omega arith)
says_once (Err (Parity a b)) (Ok _) e = absurd (let l = ap length e in omega arith)
says_once (Err (Parity a b)) (Err (Number n)) e = absurd (let l = ap length e in omega arith)
says_once (Err (Parity a b)) (Err (Parity c d)) e =
    let first : a ≡ c = ap (λ (x : List ℕ). get_or x 1 0) e in
    let failing : b ≡ d = ap (λ (x : List ℕ). get_or x 2 0) e in
    rw (first, failing)
says_once (Err (Parity a b)) (Err (Places c)) e = absurd (let l = ap length e in omega arith)
says_once (Err (Places a)) (Ok _) e = absurd (let l = ap length e in omega arith)
says_once (Err (Places a)) (Err (Number n)) e = absurd (let l = ap length e in omega arith)
says_once (Err (Places a)) (Err (Parity b c)) e = absurd (let l = ap length e in omega arith)
says_once (Err (Places a)) (Err (Places b)) e = ap (λ (k : ℕ). Err (Places k)) (ap (λ (x : List ℕ). get_or x 1 0) e)

-- a refusal says something
pub some_said : (r : Refusal) → [] ≡ says (Err r) → ⊥
some_said (Number n) e = let l = ap length e in omega arith
some_said (Parity a b) e = let l = ap length e in omega arith
some_said (Places a) e = let l = ap length e in omega arith

-- and so are answers that refuse with a number alone
pub refused_once : (v w : Result (Unit {0}) Refused) → refused_says v ≡ refused_says w → v ≡ w
refused_once (Ok _) (Ok _) e = refl
refused_once (Ok _) (Err r) e = absurd (let l = ap length e in omega arith)
refused_once (Err r) (Ok _) e = absurd (let l = ap length e in omega arith)
refused_once (Err r) (Err q) e = ap (λ (k : ℕ). Err (record { 0 = k })) (ap number_in e)

-- the number in what a number says is that number: 01's numbers are told apart
pub number_back : (n : ℕ) → number_in (refused_by n) ≡ n
number_back n = dite (ℕ_discrete n 0) (λ e. rw (eq-eqb n 0 e) (sym e)) (λ ne. rw (ne_eqb n 0 ne))

-- what says nothing has no number
pub none_said : (n : ℕ) → [] ≡ refused_by n → n ≡ 0
none_said n e = sym (number_back n) ∙ ap number_in (sym e)

-- and what says a number has that one
pub one_said : (k n : ℕ) → k ∷ [] ≡ refused_by n → (k ≡ n) × (n ≢ 0)
one_said k n e =
    (ap number_in e ∙ number_back n, λ z. let l = ap length (e ∙ ap refused_by z) in omega arith)

-- what `?` hands on of an error that becomes e is e
pub handed_on : {A E : Type 0} (r : Result A E) (e : E) → IsErr r × IsErrAnd r (λ x. x ≡ e) → r ≡ Err e
handed_on (Err x) e h = ap Err h.1
handed_on (Ok a) e h = absurd h.1

-- a number that counts where it is not 0 is itself
pub number_last : (n : ℕ) → pick (not (eqb n 0)) n 0 ≡ n
number_last n = dite (ℕ_discrete n 0) (λ e. rw (eq-eqb n 0 e) (sym e)) (λ ne. rw (ne_eqb n 0 ne))
