-- 02, CR 9: what holds between making and checking.
use Prim.Native.Nat.{ℕ, suc, ◌+◌, ◌-◌, ◌*◌, ◌<◌}
use mathlib.Core.Path.{◌≡◌, sym, ap, ◌∙◌, subst}
use mathlib.Core.Logic.{dite}
use mathlib.Core.Bool.{true}
use mathlib.Core.List.{List, ◌∷◌, ◌++◌}
use native.Mathlib.Decide.{dec_lt, ℕ_discrete}
use native.Mathlib.Omega.{arith}
use lib.ListN.{get_or, length, replicate, length-replicate, get_or-append}
use lib.Seq.{ext_get_or, get_or-append-add}
use Rattle.bits.specs.Bits.{field_at}
use Rattle.bits.specs.Table.{table}
use Rattle.bits.proofs.RowLaws.{length_puts}
use Rattle.bits.proofs.TableLaws.{length_table, get_or_table, table_ext}
use Rattle.parity.specs.Parity.{symbol_of, parity_ok}
use Rattle.one_parity.specs.OneParity.{IsParity, symbols_from}
use Rattle.one_parity.proofs.EachHasOne.{each_has_one}
use Rattle.one_parity.proofs.FrameLaws.{passes_by}
use Rattle.making.specs.Make.{message_symbol, message_symbols, frame_widths, framed, Made, make_refusal}
use Rattle.making.specs.Theorems.{NoneRefused, MadeOnce, LeavesOnce, MadeAccepted, AcceptedMade}
use Rattle.making.proofs.UnitLaws.{framed_sync, framed_unit}
use Rattle.making.proofs.MakeLaws.{symbols_long, symbols_at, symbols_small, refused_none, prn_small, taken, Taken, lengths_right}
use Rattle.making.proofs.CheckLaws.{keeps_at, keeps_all, accepted, accepts}

-- no message is refused for want of parity symbols
pub none_refused : NoneRefused
none_refused message room prn flags l r z p f = refused_none message prn flags room (lengths_right _ _ l r) z p f

-- the parity of a message's symbols is the only one
parity_once : (message v w : List ℕ) → IsParity (message_symbols message) v → IsParity (message_symbols message) w → v ≡ w
parity_once message v w p q =
    let O = each_has_one (message_symbols message) (symbols_long message) in
    O.only v p ∙ sym (O.only w q)

pub made_once : MadeOnce
made_once message f g prn flags a b =
    a.bytes ∙ ap (λ (v : List ℕ). framed prn flags (message_symbols message ++ v)) (parity_once message _ _ a.is b.is) ∙ sym b.bytes

pub leaves_once : LeavesOnce
leaves_once message room a b prn flags p q =
    dite (ℕ_discrete (make_refusal message prn flags room) 0)
    (λ e. made_once message a b prn flags (p.made e) (q.made e))
    (λ n. p.kept n ∙ sym (q.kept n))

-- the first half of a frame whose symbols are the message's
halves : (message f : List ℕ) → ((j : ℕ) → j < 81 → symbol_of f j ≡ message_symbol message j) → symbols_from f 0 81 ≡ message_symbols message
unfolding message_symbols
halves message f same = table_ext _ (message_symbol message) 81 (λ i h. let e : 0 + i ≡ i = omega arith in ap (symbol_of f) e ∙ same i h)

-- ---- a made frame, read
module _ (message room frame : List ℕ) (prn flags : ℕ) (r : make_refusal message prn flags room ≡ 0) (made : Made message prn flags frame) where
  abbrev m : List ℕ
  m = message_symbols message

  abbrev v : List ℕ
  v = made.parity

  abbrev t : Taken message prn flags room
  t = taken message prn flags room r

  pub made_long : length frame ≡ 125
  unfolding framed
  made_long = ap (length {A = ℕ}) made.bytes ∙ length_puts (replicate 125 0) 0 frame_widths _ ∙ length-replicate {A = ℕ} 125 0

  pub made_sync : field_at frame 0 16 ≡ 0xEB90
  made_sync =
      ap (λ (s : List ℕ). field_at s 0 16) made.bytes
      ∙ framed_sync prn flags m v (prn_small prn t.ten) t.six (symbols_long message) made.is.long (symbols_small message) made.is.six

  pub made_unit : (i : ℕ) → i < 164 → field_at frame (16 + 6 * i) 6 ≡ get_or (prn ∷ flags ∷ (m ++ v)) i 0
  made_unit i h =
      ap (λ (s : List ℕ). field_at s (16 + 6 * i) 6) made.bytes
      ∙ framed_unit prn flags m v (prn_small prn t.ten) t.six (symbols_long message) made.is.long (symbols_small message) made.is.six i h

  made_word : (k : ℕ) → k < 162 → symbol_of frame k ≡ get_or (m ++ v) k 0
  unfolding symbol_of
  made_word k h =
      let e : 28 + 6 * k ≡ 16 + 6 * suc (suc k) = omega arith in
      ap (λ (x : ℕ). field_at frame x 6) e ∙ made_unit (suc (suc k)) (omega arith)

  pub made_symbol : (k : ℕ) → k < 81 → symbol_of frame k ≡ message_symbol message k
  made_symbol k h =
      made_word k (omega arith) ∙ get_or-append m v 0 k (omega (arith, symbols_long message)) ∙ symbols_at message k h

  pub made_parity : (j : ℕ) → j < 81 → symbol_of frame (81 + j) ≡ get_or v j 0
  made_parity j h =
      made_word (81 + j) (omega arith) ∙ ap (λ (x : ℕ). get_or (m ++ v) (x + j) 0) (sym (symbols_long message)) ∙ get_or-append-add m v j 0

  first_half : symbols_from frame 0 81 ≡ m
  first_half = halves message frame made_symbol

  second_half : symbols_from frame 81 81 ≡ v
  second_half =
      let f : ℕ → ℕ = λ i. symbol_of frame (81 + i) in
      ext_get_or 0 (table f 81) v (length_table f 81 ∙ sym made.is.long)
      (λ j h.
      let l : j < 81 = omega (arith, length_table f 81) in
      get_or_table f 81 j 0 l ∙ made_parity j l)

  pub made_groups : parity_ok frame ≡ true
  made_groups =
      (passes_by frame).back
      (subst (λ (x : List ℕ). IsParity x (symbols_from frame 81 81)) (sym first_half) (subst (IsParity m) (sym second_half) made.is))

-- the checker accepts what the maker makes
pub made_accepted : MadeAccepted
made_accepted message room frame prn flags r made =
    let t = taken message prn flags room r in
    accepts message frame (record {
      long = t.long;
      wide = made_long message room frame prn flags r made;
      last = t.zero;
      sync = made_sync message room frame prn flags r made;
      groups = made_groups message room frame prn flags r made;
      kept = keeps_all message frame 81 (λ k h. sym (made_symbol message room frame prn flags r made k h));
    })

-- a frame that the checker accepts has the maker's coded part
pub accepted_made : AcceptedMade
accepted_made message room f g prn flags c r made k h =
    let a = accepted message f c in
    let same : (j : ℕ) → j < 81 → symbol_of f j ≡ message_symbol message j = λ j l. sym (keeps_at message f 81 a.kept j l) in
    dite (dec_lt k 81)
    (λ l. same k l ∙ sym (made_symbol message room g prn flags r made k l))
    (λ n.
    let first : symbols_from f 0 81 ≡ message_symbols message = halves message f same in
    let p : IsParity (message_symbols message) (symbols_from f 81 81) =
    subst (λ (x : List ℕ). IsParity x (symbols_from f 81 81)) first ((passes_by f).to a.groups) in
    let e : k ≡ 81 + (k - 81) = omega arith in
    ap (symbol_of f) e
    ∙ sym (get_or_table (λ (i : ℕ). symbol_of f (81 + i)) 81 (k - 81) 0 (omega arith))
    ∙ ap (λ (x : List ℕ). get_or x (k - 81) 0) (parity_once message _ _ p made.is)
    ∙ sym (made_parity message room g prn flags r made (k - 81) (omega arith))
    ∙ ap (symbol_of g) (sym e))
