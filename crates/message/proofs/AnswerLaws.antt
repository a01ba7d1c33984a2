-- What a reading says admits a single reading, and what it says of a number that contents are refused with.
use mathlib.Core.Path.{◌≡◌, ap, sym, ◌∙◌}
use mathlib.Core.List.{[]}
use Prim.Native.Nat.{ℕ}
use borrow.Author.Tests.{ne_eqb}
use Rattle.std.specs.Prelude.{Result, Ok, Err}
use Rattle.contents.specs.declared.parts.Contents.{Contents}
use Rattle.verdict.specs.declared.Refusal.{Refusal}
use Rattle.verdict.specs.Verdict.{says, refused_by}
use Rattle.verdict.proofs.NumberLaws.{says_once, some_said, none_said}
use Rattle.message.specs.Read.{Answer, reading_says, answer}

-- readings that say the same are the same
pub reading_once : (r q : Result Contents Refusal) → reading_says r ≡ reading_says q → r ≡ q
reading_once (Ok c) (Ok d) e = ap (λ (a : Answer). Ok a.contents) e
reading_once (Ok c) (Err q) e = absurd (some_said q (ap (λ (a : Answer). a.said) e))
reading_once (Err r) (Ok d) e = absurd (some_said r (sym (ap (λ (a : Answer). a.said) e)))
reading_once (Err r) (Err q) e = let v = says_once (Err r) (Err q) (ap (λ (a : Answer). a.said) e) in cc

-- nothing is said of a number: the contents are read
pub answer_good : (n : ℕ) (c : Contents) → [] ≡ refused_by n → reading_says (Ok c) ≡ answer n c
unfolding answer
answer_good n c e = rw (none_said n e)

-- something is: they are refused
pub answer_bad : (n : ℕ) (c : Contents) (r : Refusal) → says (Err r) ≡ refused_by n → reading_says (Err r) ≡ answer n c
unfolding answer
answer_bad n c r e =
    let some = λ (z : n ≡ 0). some_said r (sym (e ∙ ap refused_by z)) in
    rw (ne_eqb n 0 some, e, ne_eqb n 0 some)
