-- 02, CR 10: a sheet is accepted exactly when each of its rows is a row of our list, none twice, and all before the rows is right.
use Prim.Native.Nat.{ℕ, zero, suc, ◌+◌, ◌<◌}
use mathlib.Core.Path.{◌≡◌, refl, sym, ap, ◌∙◌}
use mathlib.Core.Logic.{◌≢◌, dite, ⊎_elim}
use mathlib.Core.Bool.{Bool, true, false, not, ◌||◌}
use mathlib.Core.List.Memᴰ
use mathlib.Core.List.{List, [], ◌∷◌, Memᴰ}
use mathlib.Core.Option.{Option, none, some}
use native.Mathlib.Nat.{not-suc-le-zero}
use native.Mathlib.Decide.{ℕ_discrete}
use native.Mathlib.Omega.{arith}
use lib.Dec.{eqb}
use lib.ListN.{get_or, length}
use borrow.Author.Tests.{eqb-true, eqb-false, eq-eqb, ne_eqb, not-false}
use Rattle.bits.specs.Pick.{pick}
use Rattle.bits.proofs.TestLaws.{none_holds}
use Rattle.lookback.proofs.WalkLaws.{get_or_in}
use Rattle.held_mask.specs.Mask.{mask_at}
use Rattle.in_force.specs.Bytes.{prn_at}
use Rattle.broadcast.specs.Issues.{issues_refusal}
use Rattle.row.specs.declared.Row.{Row}
use Rattle.list.specs.Rows.{row_in, list_in}
use Rattle.sheet_form.specs.Reading.{wrong_at, header_said, rows_said_from, rows_said}
use Rattle.sheet_form.specs.declared.Header.{Header}
use Rattle.sheet_writing.specs.Writing.{most_sheet_rows}
use Rattle.sheet_checking.specs.Checking.{names, row_refusal_after, offence_from, offence, left_out, rows_say, is_other, sheet_say, checked_answer}
use Rattle.sheet_checking.proofs.CheckLaws.{not_refused, names_cons, names_none}
use Rattle.sheet_checking.proofs.CountLaws.{passed, offence_none, accepted_count}
use Rattle.sheet_right.specs.Checked.{NoneTwice, Accepts, AcceptedExactly}
use Rattle.sheet_right.proofs.OurRow.{OfSlot, own_numbers, our_slot, passed_our}

-- ---- places in a list
-- an element stands somewhere
pub record Stands (rs : List Row) (r d : Row) : Type 0 where
  pub place : ℕ
  pub inside : place < length rs
  pub there : get_or rs place d ≡ r

-- by its membership
pub stands : (rs : List Row) (r d : Row) → Memᴰ r rs → Stands rs r d
stands [] r d m = absurd (Memᴰ.not-nil m)
stands (x ∷ rs) r d m =
    ⊎_elim
    (λ e. record { place = 0; inside = omega arith; there = sym e })
    (λ n. (let p = stands rs r d n in record { place = suc p.place; inside = omega (arith, p.inside); there = p.there }))
    (Memᴰ.cases_cons m)

-- none twice: the first has the slot of no other
pub once_first : (r : Row) (rs : List Row) → NoneTwice (r ∷ rs) → (q : Row) → Memᴰ q rs → r.slot.0 ≢ q.slot.0
once_first r rs o q m e =
    let p = stands rs q r m in
    let z : 0 ≡ suc p.place = o 0 (suc p.place) r (omega arith) (omega (arith, p.inside)) (e ∙ sym (ap (λ (x : Row). x.slot.0) p.there)) in
    omega arith

-- none of the others stands twice
pub once_rest : (r : Row) (rs : List Row) → NoneTwice (r ∷ rs) → NoneTwice rs
once_rest r rs o i j d p q e = (let z = o (suc i) (suc j) d (omega arith) (omega arith) e in omega arith)

-- and the other way
pub first_once : (r : Row) (rs : List Row) → ((q : Row) → Memᴰ q rs → r.slot.0 ≢ q.slot.0) → NoneTwice rs → NoneTwice (r ∷ rs)
first_once r rs f o zero zero d p q e = refl
first_once r rs f o zero (suc j) d p q e = absurd (f (get_or rs j d) (get_or_in rs j d (omega arith)) e)
first_once r rs f o (suc i) zero d p q e = absurd (f (get_or rs i d) (get_or_in rs i d (omega arith)) (sym e))
first_once r rs f o (suc i) (suc j) d p q e = ap suc (o i j d (omega arith) (omega arith) e)

-- ---- the rows
-- each row has the satellite of its slot
pub said_of : (t : List ℕ) (n at : ℕ) (r : Row) → Memᴰ r (rows_said_from t n at) → OfSlot r
unfolding rows_said_from
said_of t zero at r m = absurd (Memᴰ.not-nil m)
said_of t (suc n) at r m = ⊎_elim (λ e. rw e (record { system = refl; number = refl })) (λ l. said_of t n (at + 24) r l) (Memᴰ.cases_cons m)

module _ (s is : List ℕ) where
  -- where no row offends, each is a row of our list, its slot is none of an earlier row, and none stands twice
  record Ours (earlier rs : List Row) : Type 0 where
    ours : (r : Row) → Memᴰ r rs → Memᴰ r (list_in s is)
    fresh : (r : Row) → Memᴰ r rs → names earlier r.slot.0 ≡ false
    once : NoneTwice rs

  -- a slot that is none of a row and the earlier ones
  later_fresh : (r q : Row) (earlier : List Row) → names (r ∷ earlier) q.slot.0 ≡ false → (r.slot.0 ≢ q.slot.0) × (names earlier q.slot.0 ≡ false)
  later_fresh r q earlier e =
      let p = none_holds (eqb r.slot.0 q.slot.0) (names earlier q.slot.0) (sym (names_cons r earlier q.slot.0) ∙ e) in
      (eqb-false r.slot.0 q.slot.0 p.0, p.1)

  -- no offence, so each is
  none_ours : (earlier rs : List Row) (k : ℕ) → ((r : Row) → Memᴰ r rs → OfSlot r) → offence_from s is earlier k rs ≡ none → Ours earlier rs
  none_ours earlier [] k S e = record { ours = λ r m. absurd (Memᴰ.not-nil m); fresh = λ r m. absurd (Memᴰ.not-nil m); once = λ i j d p q z. absurd (not-suc-le-zero p) }
  none_ours earlier (x ∷ rs) k S e =
      let p = offence_none s is earlier k x rs e in
      let a = passed s is earlier x p.0 in
      let rest = none_ours (x ∷ earlier) rs (k + 1) (λ r m. S r (Memᴰ.tail m)) p.1 in
      record {
        ours = λ r m. ⊎_elim (λ q. rw q (passed_our s is earlier x (S x (Memᴰ.head refl)) a)) (λ l. rest.ours r l) (Memᴰ.cases_cons m);
        fresh = λ r m. ⊎_elim (λ q. rw q a.fresh) (λ l. (later_fresh x r earlier (rest.fresh r l)).1) (Memᴰ.cases_cons m);
        once = first_once x rs (λ q l. (later_fresh x q earlier (rest.fresh q l)).0) rest.once;
      }

  -- and the other way
  ours_none : (earlier rs : List Row) (k : ℕ) → Ours earlier rs → offence_from s is earlier k rs ≡ none
  unfolding offence_from
  ours_none earlier [] k o = refl
  ours_none earlier (x ∷ rs) k o =
      let a : row_refusal_after s is earlier x ≡ 0 =
      sym (not_refused x (row_in s is x.slot.0) (names earlier x.slot.0) x (our_slot s is x (o.ours x (Memᴰ.head refl))) (own_numbers x) (o.fresh x (Memᴰ.head refl))) in
      rw (eq-eqb (row_refusal_after s is earlier x) 0 a)
      (ours_none (x ∷ earlier) rs (k + 1)
      (record {
        ours = λ r m. o.ours r (Memᴰ.tail m);
        fresh = λ r m. rw (names_cons x earlier r.slot.0, ne_eqb x.slot.0 r.slot.0 (once_first x rs o.once r m)) (o.fresh r (Memᴰ.tail m));
        once = once_rest x rs o.once;
      }))

  -- what is said of an offending row is no 0
  offence_no : (earlier rs : List Row) (k : ℕ) (o : ℕ × ℕ) → offence_from s is earlier k rs ≡ some o → o.0 ≢ 0
  unfolding offence_from
  offence_no earlier [] k o e = absurd (let z : ◌≡◌ {A = ℕ} 0 1 = cc in omega arith)
  offence_no earlier (x ∷ rs) k o e =
      dite (ℕ_discrete (row_refusal_after s is earlier x) 0)
      (λ z. offence_no (x ∷ earlier) rs (k + 1) o (rw (eq-eqb (row_refusal_after s is earlier x) 0 z) at e))
      (λ z. let q : some (row_refusal_after s is earlier x, k) ≡ some o = rw (ne_eqb (row_refusal_after s is earlier x) 0 z) at e in
      let y : row_refusal_after s is earlier x ≡ o.0 = ap (λ (p : ℕ × ℕ). p.0) (some_same q) in rw y at z)
    where
      some_same : {a b : ℕ × ℕ} → ◌≡◌ {A = Option (ℕ × ℕ)} (some a) (some b) → a ≡ b
      some_same e = cc

-- ---- the answer
-- one number is not two
pub one_two : (b : Bool) (xs : List ℕ) (x y n : ℕ) → pick b xs (x ∷ []) ≡ y ∷ n ∷ [] → (b ≡ true) × (xs ≡ y ∷ n ∷ [])
one_two true xs x y n e = (refl, e)
one_two false xs x y n e = absurd (omega (arith, ap length e))

-- nor the other way round
two_one : (b : Bool) (xs : List ℕ) (x y n : ℕ) → pick b (x ∷ []) xs ≡ y ∷ n ∷ [] → (b ≡ false) × (xs ≡ y ∷ n ∷ [])
two_one false xs x y n e = (refl, e)
two_one true xs x y n e = absurd (omega (arith, ap length e))

-- the first of two numbers, and the second
same_first : {a b c d : ℕ} → a ∷ b ∷ [] ≡ c ∷ d ∷ [] → (a ≡ c) × (b ≡ d)
same_first e = (cc, cc)

-- the header agrees
pub record Agrees (s : List ℕ) (h : Header) : Type 0 where
  pub prn : h.prn ≡ prn_at s
  pub ssr : h.ssr ≡ (mask_at s).ssr
  pub iodp : h.iodp ≡ (mask_at s).iodp

-- by the test
agrees : (s : List ℕ) (h : Header) → is_other s h ≡ false → Agrees s h
agrees s h e =
    let p = none_holds (not (eqb h.prn (prn_at s)) || not (eqb h.ssr (mask_at s).ssr)) (not (eqb h.iodp (mask_at s).iodp)) e in
    let q = none_holds (not (eqb h.prn (prn_at s))) (not (eqb h.ssr (mask_at s).ssr)) p.0 in
    record {
      prn = eqb-true h.prn (prn_at s) (not-false _ q.0);
      ssr = eqb-true h.ssr (mask_at s).ssr (not-false _ q.1);
      iodp = eqb-true h.iodp (mask_at s).iodp (not-false _ p.1);
    }

-- and the other way
agrees_not : (s : List ℕ) (h : Header) → Agrees s h → is_other s h ≡ false
agrees_not s h a =
    rw (eq-eqb h.prn (prn_at s) a.prn, eq-eqb h.ssr (mask_at s).ssr a.ssr, eq-eqb h.iodp (mask_at s).iodp a.iodp)

module _ (s is t : List ℕ) (n : ℕ) where
  -- 23 is not 0
  sheet_read : (w : Option ℕ) → sheet_say s is t w ≡ 0 ∷ n ∷ [] → (w ≡ none) × (sheet_say s is t none ≡ 0 ∷ n ∷ [])
  sheet_read none e = (refl, e)
  sheet_read (some at) e = absurd (let z = same_first e in let y : 23 ≡ 0 = z.0 in omega arith)

  -- nor is an offending row's refusal
  rows_free : (o : Option (ℕ × ℕ)) → offence s is (rows_said t) ≡ o → rows_say s is (rows_said t) o ≡ 0 ∷ n ∷ [] → (offence s is (rows_said t) ≡ none) × (left_out s is (rows_said t) ≡ n)
  rows_free none e a = (e, (same_first a).1)
  rows_free (some o) e a = absurd (offence_no s is [] (rows_said t) 1 o e (same_first a).0)

  -- accepted, so all that holds
  accepted_so : checked_answer s is t ≡ 0 ∷ n ∷ [] → Accepts s is t n
  unfolding checked_answer
  accepted_so e =
      let a = one_two (eqb (issues_refusal is) 0) (pick (mask_at s).has (sheet_say s is t (wrong_at most_sheet_rows false t)) (20 ∷ [])) (issues_refusal is) 0 n e in
      let b = one_two (mask_at s).has (sheet_say s is t (wrong_at most_sheet_rows false t)) 20 0 n a.1 in
      let c = sheet_read (wrong_at most_sheet_rows false t) b.1 in
      let d = two_one (is_other s (header_said t)) (rows_say s is (rows_said t) (offence s is (rows_said t))) 27 0 n c.1 in
      let f = rows_free (offence s is (rows_said t)) refl d.1 in
      let g = agrees s (header_said t) d.0 in
      let o = none_ours s is [] (rows_said t) 1 (said_of t _ 8) f.0 in
      record {
        issues = eqb-true (issues_refusal is) 0 a.0;
        mask = b.0;
        read = c.0;
        prn = g.prn;
        ssr = g.ssr;
        iodp = g.iodp;
        ours = o.ours;
        once = o.once;
        left = omega (arith, accepted_count s is (rows_said t) f.0, f.1);
      }

  module _ (A : Accepts s is t n) where
    -- all that holds, so no row offends
    none_offends : offence s is (rows_said t) ≡ none
    none_offends = ours_none s is [] (rows_said t) 1 (record { ours = A.ours; fresh = λ r m. sym (names_none r.slot.0); once = A.once })

    -- the count is that of the rows left out
    pub left_is : left_out s is (rows_said t) ≡ n
    left_is = omega (arith, accepted_count s is (rows_said t) none_offends, A.left)

    -- and it is accepted
    so_accepted : checked_answer s is t ≡ 0 ∷ n ∷ []
    unfolding checked_answer
    so_accepted =
        rw (
          eq-eqb (issues_refusal is) 0 A.issues,
          A.mask,
          A.read,
          agrees_not s (header_said t) (record { prn = A.prn; ssr = A.ssr; iodp = A.iodp }),
          none_offends,
          left_is,
        )

-- ACCEPTED EXACTLY SO
pub accepted_exactly : AcceptedExactly
accepted_exactly s is t n = (accepted_so s is t n, so_accepted s is t n)
