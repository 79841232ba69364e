-- The string decoder: what its loop keeps, one law for each way on and out, and the rest of a store that is lent to it.
use Prim.Native.Nat.{ℕ, ◌+◌, ◌-◌, ◌≤◌, ◌<◌}
use mathlib.Core.List.{List, [], ◌∷◌, ◌++◌, append_assoc, append-nil}
use mathlib.Core.Path.{◌≡◌, refl, sym, ap, ◌∙◌}
use native.Mathlib.Omega.{arith}
use native.Mathlib.Nat.{add_assoc, zero-add}
use native.Mathlib.Numerals.{add-one}
use lib.Dec.{eqb}
use lib.ListN.{length, get_or, take, drop, set, length-set, length-drop, take-append-drop, drop_of_length-le}
use lib.Seq.{drop-cons, take-suc-set, drop-set-lt, drop-drop, length-take-le}
use Rattle.std.specs.Prelude.{Result, Ok, Err}
use Rattle.meaning.specs.declared.Refused.TheVariants.{BadEscape, UnendedString}
use Rattle.meaning.specs.declared.Act.{Act}
use Rattle.meaning.specs.declared.Act.TheVariants.{End, Hold, Put, Fault}
use Rattle.meaning.specs.declared.StringByte.{StringByte}
use Rattle.meaning.specs.declared.StringByte.TheVariants.{Plain, AfterBackslash}
use Rattle.meaning.specs.Strings.{held, act_of, Ending, closed, escape, unended, ends_here, says_first, by_act, decode}
use Rattle.laws.specs.Cases.{on}
use Rattle.laws.specs.Parts.{rest_of, back_of}
use Rattle.scalar.specs.declared.string.Decoded.{Decoded}
use Rattle.scalar.specs.declared.string.BadString.{BadString}
use Rattle.scalar.specs.Stores.{stored}
use Rattle.scalar.specs.Decodes.{answer, Within, Decodes, Room, Puts}

-- only a byte after a backslash is at fault
fault_after : (st : StringByte) (b : ℕ) → Fault ≡ act_of st b → held st ≡ 1
unfolding act_of
fault_after Plain b e =
    on (eqb b 34)
    (λ p. let z : Fault ≡ End = rw p at e in cc)
    (λ p. on (eqb b 92) (λ q. let z : Fault ≡ Hold = rw (p, q) at e in cc) (λ q. let z : Fault ≡ Put b = rw (p, q) at e in cc))
fault_after AfterBackslash b e = refl

-- of src, i bytes are read, a backslash before the next one not counted yet; n bytes stand in out, which was out₀
pub record Reading (src out₀ out : List ℕ) (i n : ℕ) (st : StringByte) : Type 0 where
  pub at : ℕ
  pub high : i ≤ length src
  pub here : i ≡ at + held st
  pub low : n ≤ at
  pub room : length src ≤ length out₀
  pub long : length out ≡ length out₀
  pub rest : drop n out ≡ drop n out₀
  pub left : decode Plain src ≡ says_first (take n out) at (decode st (drop i src))

pub start : (src out : List ℕ) → length src ≤ length out → Reading src out out 0 0 Plain
start src out h = record {
  at = 0;
  high = omega arith;
  here = refl;
  low = omega arith;
  room = h;
  long = refl;
  rest = refl;
  left = simp zero-add;
}

-- the loop is left
module _ (src out₀ out : List ℕ) (i n : ℕ) (st : StringByte) (a : Reading src out₀ out i n st) where
  pub room_left : i < length src → n < length out
  room_left h = omega (arith, a.here, a.low, a.room, a.long)

  leave : (w : Ending) (k : ℕ) → decode st (drop i src) ≡ ends_here w k → Within (length src) (answer w (a.at + k) n)
      → Decodes src out₀ out (answer w (a.at + k) n)
  leave w k e f =
      let m : n ≤ length out = omega (arith, a.here, a.low, a.high, a.room, a.long) in
      let g : decode Plain src ≡ record { how = w; bytes = take n out; span = a.at + k } =
      a.left ∙ ap (says_first (take n out) a.at) e ∙ rw append-nil in
      let t : length (take n out) ≡ n = length-take-le n out m in
      record {
        says = rw (g, t);
        left = rw (g, t, ← a.rest) (sym (take-append-drop n out));
        within = f;
      }

  pub unended_out : length src ≤ i → Decodes src out₀ out (Err (record { refused = UnendedString; at = 0; written = n }))
  unended_out h = leave unended 0 (rw (drop_of_length-le src h)) (record { most = omega (arith, a.here, a.low, a.high); inside = λ e. cc })

  module _ (h : i < length src) (r : Act) (e : r ≡ act_of st (get_or src i 0)) where
    turn : decode st (drop i src) ≡ by_act st r (λ t. decode t (drop (i + 1) src))
    turn = rw (drop-cons src i 0 h, ← e, add-one)

    pub closed_out : r ≡ End → Decodes src out₀ out (Ok (record { used = i + 1; written = n }))
    closed_out f =
        let k : a.at + (held st + 1) ≡ i + 1 = omega (arith, a.here) in
        rw k at (leave closed (held st + 1) (turn ∙ rw f) (record { fits = omega (arith, a.here); less = omega (arith, a.here, a.low) }))

    pub after_one : r ≡ Fault → 1 ≤ i
    after_one f = omega (arith, fault_after st (get_or src i 0) (sym f ∙ e), a.here)

    pub escape_out : r ≡ Fault → Decodes src out₀ out (Err (record { refused = BadEscape; at = i - 1; written = n }))
    escape_out f =
        let k : a.at + 0 ≡ i - 1 = omega (arith, fault_after st (get_or src i 0) (sym f ∙ e), a.here) in
        rw k at (leave escape 0 (turn ∙ rw f) (record { most = omega (arith, a.here, a.low, a.high); inside = λ _. (omega (arith, a.here), omega (arith, a.low)) }))

    pub hold_on : r ≡ Hold → Reading src out₀ out (i + 1) n AfterBackslash
    hold_on f =
        let k : a.at + held st ≡ i = omega (arith, a.here) in
        let g : decode st (drop i src) ≡ says_first [] (held st) (decode AfterBackslash (drop (i + 1) src)) = turn ∙ rw f in
        record {
          at = i;
          high = omega arith;
          here = refl;
          low = omega (arith, a.here, a.low);
          room = a.room;
          long = a.long;
          rest = a.rest;
          left = a.left ∙ ap (says_first (take n out) a.at) g ∙ rw (← k) (simp add_assoc);
        }

    pub put_on : (c : ℕ) → r ≡ Put c → Reading src out₀ (set out n c) (i + 1) (n + 1) Plain
    put_on c f =
        let k : a.at + (held st + 1) ≡ i + 1 = omega (arith, a.here) in
        let m : n < length out = room_left h in
        let g : decode st (drop i src) ≡ says_first (c ∷ []) (held st + 1) (decode Plain (drop (i + 1) src)) = turn ∙ rw f in
        let t : take (n + 1) (set out n c) ≡ take n out ++ (c ∷ []) = rw add-one (take-suc-set out n c m) in
        record {
          at = i + 1;
          high = omega arith;
          here = omega arith;
          low = omega (arith, a.here, a.low);
          room = a.room;
          long = length-set out n c ∙ a.long;
          rest = drop-set-lt (n + 1) out n c (omega arith) ∙ sym (drop-drop 1 n out) ∙ ap (drop 1) a.rest ∙ drop-drop 1 n out₀;
          left = a.left ∙ ap (says_first (take n out) a.at) g ∙ rw (t, ← k) (simp (append_assoc, add_assoc));
        }

-- `decode` was lent the rest of the store from a on
pub room_lent : (src store : List ℕ) (a : ℕ) → Room src store a → length src ≤ length (take (length store - a) (drop a store))
room_lent src store a h = rw (rest_of store a) (omega (arith, length-drop a store))

pub lent : (src store ys : List ℕ) (a : ℕ) (r : Result Decoded BadString) → Decodes src (take (length store - a) (drop a store)) ys r
    → Puts src store a (take a store ++ (ys ++ drop (length store - a) (drop a store))) r
unfolding stored
lent src store ys a r h =
    let k : Decodes src (drop a store) ys r = rw (rest_of store a) at h in
    record {
      says = k.says;
      left = back_of store ys a ∙ ap (λ (l : List ℕ). take a store ++ l) (k.left ∙ rw drop-drop);
      within = k.within;
    }
