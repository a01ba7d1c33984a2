-- 01, Examples to hold against it: refusal 9, and the lowest number that applies, by computation.
use mathlib.Core.Path.{◌≡◌, refl}
use mathlib.Core.Bool.{true, false}
use Rattle.layout.specs.Layout.{layout_of, end_of}
use Rattle.judge.specs.Judge.{refusal_by, refusal_of}
use Rattle.contents.specs.declared.parts.Contents.{Contents}

-- type 6: 3 and 5 are refused 9, whatever else the contents say
pub refused_6_3_5 : (c : Contents) → c.kind ≡ 6 → refusal_of (end_of (layout_of 6 3 5)) c ≡ 9
unfolding refusal_of layout_of
refused_6_3_5 c e = rw e

-- a type 7 with one slot above 255 and another there twice is refused 11
pub refused_11_before_12 : refusal_by 7 462 false true true ≡ 11
refused_11_before_12 = refl
